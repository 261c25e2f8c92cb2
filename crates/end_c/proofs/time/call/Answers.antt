use Rattle.std.proofs.Common.{◌%◌, ap, sym, subst, refl, ◌∙◌}
use Rattle.end.specs.declared.call.Call.{Call}
use Rattle.end.specs.declared.call.Call.TheVariants.{Byte}
use Rattle.end_c.specs.Asked.{with_room}
use Rattle.end_c.specs.Calls.{CallCounted}
use Rattle.end_c.proofs.Counting.{told_is, over_front, asks_for_byte, asks_which_are_open}
use Rattle.end_c.proofs.time.call.Goals as goal

pub returns-then-asked-lt256 : goal.returns-then-asked-lt256
returns-then-asked-lt256 g c =
    subst (λ (k : Call). CallCounted k c.args.end.now c.args.buffer.now c.byte.new.out c.bytes_sent.result c.byte.new.self) (sym (asks_for_byte c.args.number c.if-asked-lt256.true))
    (record {
      made = _;
      call = record {
        call = ap (with_room (Byte (c.args.number % 512))) c.told-buffer;
        step = c.byte.ensures.step;
        ranged = record { each = g.met.H.Look.ranged c.byte.new.self.head };
        head = c.byte.ensures.head;
      };
      count = c.bytes_sent.ensures ∙ told_is c.byte.result;
      buffer = over_front _ c.args.buffer.now c.byte.new.out c.byte.ensures.within c.byte.ensures.untouched;
    })

pub returns-else-asked-eq256 : goal.returns-else-asked-eq256
returns-else-asked-eq256 g c =
    subst (λ (k : Call). CallCounted k c.args.end.now c.args.buffer.now c.args.buffer.now c.from.result c.args.end.now) (sym (asks_which_are_open c.args.number c.if-asked-lt256.false c.if-asked-eq256.false))
    (record {
      made = _;
      call = record {
        call = refl;
        step = c.open.ensures.step;
        ranged = record { each = g.met.H.Look.ranged c.args.end.now.head };
        head = refl;
      };
      count = c.from.ensures;
      buffer = refl;
    })
