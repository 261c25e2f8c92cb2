use Rattle.std.proofs.Common.{◌≡◌, true, ℤ, sym, ◌∙◌, subst, w32, SFits, to_z, of_z, rules}
use Rattle.std.proofs.lemmas.Int.{to_z-of_z}
use Rattle.head.specs.Settings.{in_range}
use Rattle.head.specs.Values.{value_of}
use Rattle.heads.specs.Exact.{value_after}
use Rattle.head.specs.Works.{slots_of}
use Rattle.heads.proofs.Given.{ordered_next}
use Rattle.heads.proofs.Moves.{next_in_range}
use Rattle.heads.proofs.rig.Rig.follow.Goals as goal

pub invariant_of-put : goal.invariant_of-put
invariant_of-put c =
    let rig = c.args.self.now in
    let f = value_of rig.settings in
    let x = c.position-setting.result in
    let to = c.in-Some.value in
    let k = ordered_next rig.motion (slots_of rig.works) c.args.endings f x to (sym c.ordered.ensures ∙ c.in-Some.is) in
    let n : SFits w32 to = search rules in
    let v : to_z w32 (of_z w32 to) ≡ value_after rig.motion (slots_of rig.works) c.args.endings f x = to_z-of_z w32 to n ∙ sym k in
    record { fits = subst (λ (w : ℤ). in_range x w ≡ true) (sym v) (next_in_range rig.motion rig.works.one rig.works.two c.args.endings f x (rig.settings.ranged x)) }
