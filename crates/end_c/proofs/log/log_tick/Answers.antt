use Rattle.std.proofs.Common.{ap}
use Rattle.std.proofs.lemmas.List.{length-take-le}
use Rattle.end.specs.declared.call.Call.TheVariants.{Tick}
use Rattle.end_c.specs.Asked.{with_room}
use Rattle.end_c.proofs.Logging.{put_as}
use Rattle.end_c.proofs.log.log_tick.Goals as goal

pub returns-clause-logged : goal.returns-clause-logged
returns-clause-logged g c = record {
  made = _;
  call = record {
    call = ap (with_room Tick) (length-take-le c.args.room _ c.requires.few);
    step = c.tick-answer.ensures.ticked.step;
    ranged = record { each = g.met.H.Look.ranged c.tick-answer.new.self.head };
    head = c.tick-answer.ensures.ticked.head;
  };
  log = put_as _ _ _ c.put.ensures.logged c.answer_bytes.ensures c.bytes_sent.ensures;
}
