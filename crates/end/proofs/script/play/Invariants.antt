use Rattle.std.proofs.Common.{◌≡◌, ◌≤◌, length, take, drop}
use Rattle.end.specs.Played.{PlayedOn}
use Rattle.end.proofs.script.play.Given as goal

abbrev pub invariant-loop-call : goal.invariant-loop-call
invariant-loop-call g l =
    (l.call-index ≤ length l.calls)
    × (l.count ≤ length l.log)
    × PlayedOn l.initial.end (take l.call-index l.calls) (length l.initial.log) (take l.count l.log) l.end
    × (drop l.count l.log ≡ drop l.count l.initial.log)
