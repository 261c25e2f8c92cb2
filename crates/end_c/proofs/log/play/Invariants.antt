use Rattle.std.proofs.Common.{◌≡◌, ◌≤◌, List, length, map, take, drop}
use Rattle.end.specs.Records.{Record}
use Rattle.end_c.specs.Logs.{log_of}
use Rattle.end_c.specs.Asked.{asked_of}
use Rattle.end_c.specs.Calls.{AskedCalls}
use Rattle.end_c.proofs.log.play.Given as goal

abbrev pub invariant-loop-number : goal.invariant-loop-number
invariant-loop-number g l =
    (l.count ≤ length l.log)
    × ((run : List Record) × AskedCalls (map asked_of (take l.number-index l.calls)) l.initial.end run l.end × (take l.count l.log ≡ log_of (length l.initial.log) run))
    × (drop l.count l.log ≡ drop l.count l.initial.log)
