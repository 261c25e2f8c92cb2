use Rattle.std.proofs.Common.{◌≡◌, ℤ, pos, ◌+ℤ◌, ◌*ℤ◌, ◌∙◌, arith, w32, SFits, to_z, of_z, inl, inr}
use Rattle.std.proofs.lemmas.Int.{ints}
use Rattle.head.specs.declared.setting.Axis.{Axis}
use Rattle.head.specs.declared.setting.Axis.TheVariants.{Zoom, Focus, Pan, Tilt}
use Rattle.head.specs.declared.settings.Settings.{Settings}
use Rattle.head.specs.Settings.{about, position, drive}
use Rattle.head.specs.Values.{value_of}
use Rattle.head.proofs.Bounds.{Small, settings_small}
use Rattle.heads.specs.Motion.{unit, held_to_range}
use Rattle.heads.proofs.Drives.{Gentle, gentle}
use Rattle.heads.proofs.motion.Motion.driven.Goals as goal

abbrev back : ℤ → ℤ
back z = to_z w32 (of_z w32 z)

-- the code's product and sum fit, and are those of numbers without bounds
abbrev Pushed : Settings → Axis → Type 0
Pushed x a =
    let u = pos (unit a) in
    let v = value_of x (position a) in
    let d = value_of x (drive a) in
    SFits w32 (back u *ℤ back d) × SFits w32 (back v +ℤ back (back u *ℤ back d)) × (back (back v +ℤ back (back u *ℤ back d)) ≡ v +ℤ u *ℤ d)

pushed_by : (x : Settings) (a : Axis) → Small (value_of x (position a)) → Gentle (value_of x (drive a)) → Pushed x a
pushed_by x Zoom s g = (omega (arith, ints), omega (arith, ints), omega (arith, ints))
pushed_by x Focus s g = (omega (arith, ints), omega (arith, ints), omega (arith, ints))
pushed_by x Pan s g = (omega (arith, ints), omega (arith, ints), omega (arith, ints))
pushed_by x Tilt s g = (omega (arith, ints), omega (arith, ints), omega (arith, ints))

pushed : (x : Settings) (a : Axis) → Pushed x a
pushed x a = pushed_by x a (settings_small x (position a)) (gentle a (value_of x (drive a)) (x.ranged (drive a)))

pub overflow_mul-from : goal.overflow_mul-from
overflow_mul-from c =
    simp (c.from.ensures, c.unit.ensures.is, c.get-drive.ensures, c.drive.ensures) (pushed c.args.settings.now c.args.axis).0

pub overflow_add-from : goal.overflow_add-from
overflow_add-from c =
    simp (c.from.ensures, c.unit.ensures.is, c.get-from.ensures, c.position.ensures, c.get-drive.ensures, c.drive.ensures) (pushed c.args.settings.now c.args.axis).1

pub returns-in-AtOnce : goal.returns-in-AtOnce
returns-in-AtOnce c =
    let x = c.args.settings.now in
    let a = c.args.axis in
    let t : back c.held.result ≡ c.held.result = omega (arith, ints) in
    let h : c.held.result ≡ held_to_range (about (position a)).range (value_of x (position a) +ℤ pos (unit a) *ℤ value_of x (drive a)) =
    c.held.ensures
    ∙ simp (c.range.ensures, c.position-in-AtOnce.ensures, c.from.ensures, c.unit.ensures.is, c.get-from.ensures, c.position.ensures, c.get-drive.ensures, c.drive.ensures, (pushed x a).2) in
    elim c.in-AtOnce.is [
      | inl i ↦ t ∙ h ∙ simp i
      | inr i ↦ t ∙ h ∙ simp i
    ]
