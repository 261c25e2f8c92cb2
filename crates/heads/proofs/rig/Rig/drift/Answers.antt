use Rattle.std.proofs.Common.{ap, refl, pos, arith, ◌≡◌, true, ℤ, sym, ◌∙◌, subst, w32, SFits, to_z, of_z, rules}
use Rattle.std.proofs.lemmas.Int.{ints, to_z-of_z}
use Rattle.head.specs.declared.setting.Setting.{Setting}
use Rattle.head.specs.Settings.{in_range, position, drive}
use Rattle.head.specs.Values.{value_of}
use Rattle.heads.specs.Motion.{driven}
use Rattle.heads.proofs.Idle.{stands}
use Rattle.heads.proofs.Moves.{driven_in_range}
use Rattle.heads.proofs.rig.Rig.drift.Goals as goal

pub invariant_of-put : goal.invariant_of-put
invariant_of-put c =
    let rig = c.args.self.now in
    let a = c.args.axis in
    let f = value_of rig.settings in
    let d = driven rig.motion a (f (position a)) (f (drive a)) in
    let n : SFits w32 c.driven-value.result = search rules in
    let v : to_z w32 (of_z w32 c.driven-value.result) ≡ d = to_z-of_z w32 c.driven-value.result n ∙ c.driven-value.ensures in
    let h = driven_in_range rig.motion a (f (position a)) (f (drive a)) (rig.settings.ranged (position a)) in
    record {
      fits = subst (λ (z : Setting). in_range z (to_z w32 (of_z w32 c.driven-value.result)) ≡ true) (sym c.position-setting.ensures)
          (subst (λ (w : ℤ). in_range (position a) w ≡ true) (sym v) h);
    }

pub returns-else-get-ne0 : goal.returns-else-get-ne0
returns-else-get-ne0 c =
    let rig = c.args.self.now in
    let z : c.get.result ≡ pos 0 = omega (arith, ints) in
    record {
      values = λ s. stands rig.motion c.args.axis (value_of rig.settings) s (rig.settings.ranged (position c.args.axis)) (ap (value_of rig.settings) (sym c.drive.ensures) ∙ sym c.get.ensures ∙ z);
      motion = refl;
      slots = refl;
    }
