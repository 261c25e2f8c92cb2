use Rattle.std.proofs.Common.{◌≤◌}
use Rattle.serial.proofs.Reading.{Broken}
use Rattle.serial.proofs.port.read.Given as goal

abbrev pub invariant-loop-read : goal.invariant-loop-read
invariant-loop-read g l =
    Broken g.O.Outside.operated l.initial.outside l.outside × ((g.O.Outside.known l.outside).left ≤ (g.O.Outside.known l.initial.outside).left)

abbrev pub decreases-loop-read : goal.decreases-loop-read
decreases-loop-read g l = (g.O.Outside.known l.outside).left
