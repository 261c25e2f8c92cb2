use Rattle.std.proofs.Common.{map, take}
use Rattle.end.specs.declared.call.Call.TheVariants.{Byte}
use Rattle.serial.specs.Turns.{Answered}
use Rattle.serial.proofs.port.answer_bytes.Given as goal

abbrev pub invariant-loop-byte : goal.invariant-loop-byte
invariant-loop-byte g l =
    Answered g.O.Outside.operated (map Byte (take l.byte-index l.bytes)) l.initial.end l.initial.outside l.end l.outside
