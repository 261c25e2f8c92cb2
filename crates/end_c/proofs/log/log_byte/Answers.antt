use Rattle.std.proofs.Common.{ap}
use Rattle.std.proofs.lemmas.List.{length-take-le}
use Rattle.end.specs.declared.call.Call.TheVariants.{Byte}
use Rattle.end_c.specs.Asked.{with_room}
use Rattle.end_c.proofs.Logging.{put_as}
use Rattle.end_c.proofs.log.log_byte.Goals as goal

pub returns-clause-logged : goal.returns-clause-logged
returns-clause-logged g c = record {
  made = _;
  call = record {
    call = ap (with_room (Byte c.args.byte)) (length-take-le c.args.room _ c.requires.few);
    step = c.byte-answer.ensures.step;
    ranged = record { each = g.met.H.Look.ranged c.byte-answer.new.self.head };
    head = c.byte-answer.ensures.head;
  };
  log = put_as _ _ _ c.put.ensures.logged c.answer_bytes.ensures c.bytes_sent.ensures;
}
