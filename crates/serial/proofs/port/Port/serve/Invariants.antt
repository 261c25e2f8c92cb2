use Rattle.serial.proofs.Serving.{Goes}
use Rattle.serial.proofs.port.Port.serve.Given as goal

abbrev pub invariant-loop-count : goal.invariant-loop-count
invariant-loop-count g l =
    Goes g.O.Outside.operated l.start l.initial.self l.fn.outside (record { port = l.self; time = l.time; outside = l.outside })

abbrev pub decreases-loop-count : goal.decreases-loop-count
decreases-loop-count g l = (g.O.Outside.known l.outside).left
