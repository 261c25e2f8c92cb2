use Rattle.std.proofs.Common.{◌≡◌, List, map, take}
use Rattle.end.specs.Records.{Record}
use Rattle.end_c.specs.Asked.{asked_in_full}
use Rattle.end_c.specs.Calls.{AskedCalls}
use Rattle.end_c.specs.Sums.{buffer_after, sum_of}
use Rattle.end_c.proofs.time.play.Given as goal

abbrev pub invariant-loop-number : goal.invariant-loop-number
invariant-loop-number g l =
    (run : List Record)
    × AskedCalls (map asked_in_full (take l.number-index l.calls)) l.initial.end run l.end
    × (l.buffer ≡ buffer_after run)
    × (l.sum ≡ sum_of run)
