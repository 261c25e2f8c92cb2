-- Each form can tell every value of the settings that are told in it.
use Rattle.std.proofs.Common.{◌≡◌, zero, suc, Bool, true, ◌&&◌, ◌⊎◌, inl, inr, ⊎_elim, [], ◌∷◌, ℤ, pos, Some, None, Option, refl, subst, arith}
use Rattle.std.specs.List.{Contains}
use lib.Signed.{le_z}
use Rattle.std.proofs.lemmas.Int.{ints}
use Rattle.std.proofs.lemmas.Bool.{and_parts}
use Rattle.std.proofs.lemmas.Bool.Decides.{nat_tests}
use Rattle.head.specs.declared.setting.Range.{Range}
use Rattle.head.specs.declared.setting.Range.TheVariants.{Switch, WhiteBalance, Exposure, Span}
use Rattle.head.specs.declared.setting.Setting.{Setting}
use Rattle.head.specs.declared.setting.Setting.TheVariants.{Pan, Tilt}
use Rattle.head.specs.Settings.{about, within, in_range}
use Rattle.head.proofs.Tables.{each}
use Rattle.rows.specs.declared.inquiry.Form.{Form}
use Rattle.rows.specs.declared.inquiry.Form.TheVariants.{Digit, Level, Number, PanTilt}
use Rattle.rows.specs.Forms.{form_of, settings_told, least, greatest, CanTell, FormsFit}

-- a range within what a form can tell; a list of values passes
abbrev narrow : Form → Range → Bool
narrow form Switch = le_z (least form) (pos 0) && le_z (pos 15) (greatest form)
narrow form WhiteBalance = le_z (least form) (pos 0) && le_z (pos 15) (greatest form)
narrow form Exposure = le_z (least form) (pos 0) && le_z (pos 15) (greatest form)
narrow form (Span low high) = le_z (least form) low && le_z high (greatest form)

can_tell : (form : Form) (r : Range) (v : ℤ) → narrow form r ≡ true → within r v ≡ true → CanTell form v
can_tell form Switch v s h =
    let (p, q) = and_parts (le_z (least form) (pos 0)) (le_z (pos 15) (greatest form)) s in
    record { low = grind (arith, nat_tests, ints); high = grind (arith, nat_tests, ints) }
can_tell form WhiteBalance v s h =
    let (p, q) = and_parts (le_z (least form) (pos 0)) (le_z (pos 15) (greatest form)) s in
    record { low = grind (arith, nat_tests, ints); high = grind (arith, nat_tests, ints) }
can_tell form Exposure v s h =
    let (p, q) = and_parts (le_z (least form) (pos 0)) (le_z (pos 15) (greatest form)) s in
    record { low = grind (arith, nat_tests, ints); high = grind (arith, nat_tests, ints) }
can_tell form (Span low high) v s h =
    let (p, q) = and_parts (le_z (least form) low) (le_z high (greatest form)) s in
    let (l, r) = and_parts (le_z low v) (le_z v high) h in
    record { low = omega (arith, ints); high = omega (arith, ints) }

-- the table of settings: whoever is told in a form by itself has a range within what the form can tell
abbrev fits : Option Form → Setting → Bool
fits None s = true
fits (Some form) s = narrow form (about s).range

pub in_form : (s : Setting) (form : Form) (v : ℤ) → form_of s ≡ Some form → in_range s v ≡ true → CanTell form v
unfolding in_range
in_form s form v e h =
    can_tell form (about s).range v (subst (λ (x : Option Form). fits x s ≡ true) e (each (λ z. fits (form_of z) z) refl s)) h

pub tilt_in_form : (v : ℤ) → in_range Tilt v ≡ true → CanTell PanTilt v
unfolding in_range
tilt_in_form v h = can_tell PanTilt (about Tilt).range v refl h

is_one : (s t : Setting) → Contains (s ∷ []) t → s ≡ t
is_one s t (zero, l, e) = e
is_one s t (suc k, l, e) = absurd (omega arith)

is_either : (s z t : Setting) → Contains (s ∷ z ∷ []) t → (s ≡ t) ⊎ (z ≡ t)
is_either s z t (zero, l, e) = inl e
is_either s z t (suc zero, l, e) = inr e
is_either s z t (suc (suc k), l, e) = absurd (omega arith)

module _ (v : ℤ) where
  abbrev Passes : Form → Setting → Type 0
  Passes form t = in_range t v ≡ true → CanTell form v

  fit : (s : Setting) (form : Form) (t : Setting) → form_of s ≡ Some form → Contains (settings_told form s) t → Passes form t
  fit s Digit t e c = subst (Passes Digit) (is_one s t c) (in_form s Digit v e)
  fit s Level t e c = subst (Passes Level) (is_one s t c) (in_form s Level v e)
  fit s Number t e c = subst (Passes Number) (is_one s t c) (in_form s Number v e)
  fit s PanTilt t e c =
      ⊎_elim (λ p. subst (Passes PanTilt) p (in_form Pan PanTilt v refl)) (λ p. subst (Passes PanTilt) p (tilt_in_form v)) (is_either Pan Tilt t c)

pub forms_fit : FormsFit
forms_fit s form t v e c h = fit v s form t e c h
