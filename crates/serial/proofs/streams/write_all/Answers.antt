use Rattle.std.proofs.Common.{arith}
use Rattle.std.proofs.lemmas.List.{take_rest, length-drop}
use Rattle.serial.proofs.Moving.{more_written}
use Rattle.serial.proofs.streams.write_all.Goals as goal

pub loop-preserved : goal.loop-preserved
loop-preserved g c =
    let within = rw take_rest at c.in_ok-count.ensures.within in
    let here = c.loop.invariant.0 in (
      omega (arith, length-drop c.loop.count c.args.bytes.now),
      more_written _ _ _ c.loop.count c.in_ok-count.field-0 c.args.bytes.now c.loop.invariant.1 (rw take_rest at c.in_ok-count.ensures.some),
    )
