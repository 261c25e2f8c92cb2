use Rattle.std.proofs.Common.{◌∙◌, ap}
use Rattle.head.specs.Meaning.{Slots}
use Rattle.head.specs.Values.{value_of}
use Rattle.head.specs.Works.{slots_of}
use Rattle.heads.specs.Rigs.{set_when_done}
use Rattle.heads.proofs.Given.{advanced_is}
use Rattle.heads.proofs.rig.Rig.advance.Goals as goal

pub returns : goal.returns
returns c =
    let r = c.args.self.now in
    let e = c.args.endings in
    let b = slots_of r.works in
    let m = c.move_positions.new.self in
    let moved = c.move_positions.ensures in
    record {
      values = λ s. c.close-2.ensures s ∙ ap (λ (k : Slots). set_when_done k.two e.two s (value_of c.close.new.settings s)) moved.slots
          ∙ ap (set_when_done b.two e.two s) (c.close.ensures s ∙ ap (λ (k : Slots). set_when_done k.one e.one s (value_of m.settings s)) moved.slots ∙ ap (set_when_done b.one e.one s) (moved.values s))
          ∙ advanced_is r.motion b e (value_of r.settings) s r.works.apart;
      motion = moved.motion;
      slots = moved.slots;
    }
