use Rattle.std.proofs.Common.{ap, ◌∙◌}
use Rattle.end.specs.declared.call.Call.TheVariants.{Tick}
use Rattle.end_c.specs.Asked.{with_room}
use Rattle.end_c.proofs.Counting.{told_is, over_front}
use Rattle.end_c.proofs.time.tick.Goals as goal

pub returns : goal.returns
returns g c = record {
  made = _;
  call = record {
    call = ap (with_room Tick) c.told-buffer;
    step = c.tick.ensures.ticked.step;
    ranged = record { each = g.met.H.Look.ranged c.tick.new.self.head };
    head = c.tick.ensures.ticked.head;
  };
  count = c.bytes_sent.ensures ∙ told_is c.tick.result;
  buffer = over_front _ c.args.buffer.now c.tick.new.out c.tick.ensures.within c.tick.ensures.untouched;
}
