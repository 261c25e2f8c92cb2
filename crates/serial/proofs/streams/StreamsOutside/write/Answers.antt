use Rattle.std.proofs.Common.{refl}
use Rattle.serial.proofs.Moving.{flushed}
use Rattle.serial.proofs.streams.StreamsOutside.write.Goals as goal

pub returns : goal.returns
returns g c = record {
  alone = refl;
  known = flushed _ _ _ _ c.args.self.now.reads c.args.bytes.now c.flush.result c.in_ok-write_all.ensures.all c.flush.ensures.bytes;
}
