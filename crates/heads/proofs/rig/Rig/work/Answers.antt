use Rattle.std.proofs.Common.{ap, refl, ◌∙◌}
use Rattle.head.specs.declared.outcome.Endings.{Endings}
use Rattle.head.specs.Meaning.{Slots, Meaning, rest}
use Rattle.head.specs.Values.{value_of}
use Rattle.heads.specs.Rigs.{rig_meaning}
use Rattle.heads.proofs.Lawful.{moved_one, moved_two, foretold_is}
use Rattle.heads.proofs.rig.Rig.work.Goals as goal

pub returns-clause-ran : goal.returns-clause-ran
returns-clause-ran c p =
    let r = c.args.self.now in
    let e : Endings = record { one = c.ending-one.result; two = c.ending-two.result } in
    let m = rig_meaning p r in
    let moved = c.advance.ensures in
    let m' : Meaning = record { setting = value_of c.advance.new.self.settings; pantilt = p; slots = m.slots } in
    record {
      pantilt = refl;
      one = ap (λ (b : Slots). b.one) c.count_down.ensures ∙ ap (λ (b : Slots). rest b.one) moved.slots;
      two = ap (λ (b : Slots). b.two) c.count_down.ensures ∙ ap (λ (b : Slots). rest b.two) moved.slots;
      told_one = c.ending-one.ensures ∙ foretold_is r.motion m.slots.one m.setting m'.setting (moved_one r.motion m m' e r.works.apart moved.values);
      told_two = c.ending-two.ensures ∙ foretold_is r.motion m.slots.two m.setting m'.setting (moved_two r.motion m m' e r.works.apart moved.values);
      setting = moved.values;
    }
