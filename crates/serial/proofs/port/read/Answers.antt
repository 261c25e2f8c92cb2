use Rattle.std.proofs.Common.{◌≡◌, length, arith, rules}
use Rattle.serial.proofs.Reading.{none, not_broken, broken, no_more_by}
use Rattle.serial.proofs.port.read.Goals as goal

pub loop-read-init : goal.loop-read-init
loop-read-init g c = (none, omega arith)

pub returns-then-not-is_interrupted-clause-unbroken : goal.returns-then-not-is_interrupted-clause-unbroken
returns-then-not-is_interrupted-clause-unbroken g c =
    let asks : length c.loop-read.buffer ≡ 256 = search rules in
    not_broken c.read-read.result c.read-read.new.buffer c.is_interrupted.result c.loop-read.invariant.0 c.is_interrupted.ensures.signal c.if-not-is_interrupted.true
    (rw asks at c.read-read.ensures.operated)

pub loop-read-preserved : goal.loop-read-preserved
loop-read-preserved g c =
    let asks : length c.loop-read.buffer ≡ 256 = search rules in (
      broken c.read-read.result c.read-read.new.buffer c.is_interrupted.result c.loop-read.invariant.0 c.is_interrupted.ensures.none c.is_interrupted.ensures.signal
          c.if-not-is_interrupted.false (rw asks at c.read-read.ensures.operated),
      let l = no_more_by g.O.Outside.known g.met.O.Outside.means c.read-read.ensures.operated in omega arith,
    )
