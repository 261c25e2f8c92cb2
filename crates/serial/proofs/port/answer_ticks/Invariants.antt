use Rattle.std.proofs.Common.{replicate}
use Rattle.end.specs.declared.call.Call.TheVariants.{Tick}
use Rattle.serial.specs.Turns.{Answered}
use Rattle.serial.proofs.port.answer_ticks.Given as goal

abbrev pub invariant-loop : goal.invariant-loop
invariant-loop g l =
    Answered g.O.Outside.operated (replicate l.counter Tick) l.initial.end l.initial.outside l.end l.outside
