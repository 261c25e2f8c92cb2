-- The code of a command stands for what the command is about.
use Rattle.std.proofs.Common.{◌≡◌, ℕ, Bool, true, false, cond, eqb, List, [], ◌∷◌, length, get_or, slice_index, Some, None, Option, sym, refl, ap, ◌∙◌, subst, ⊎_elim}
use Rattle.std.specs.List.{list_all}
use Rattle.std.specs.Option.{option_and_then}
use Rattle.std.proofs.lemmas.Bool.{and_parts, cases_Bool}
use Rattle.std.proofs.lemmas.Option.{slice_get_within, get_or_from_slice_get}
use Rattle.head.specs.declared.order.Paces.{Paces}
use Rattle.head.specs.declared.setting.Setting.{Setting}
use Rattle.head.specs.declared.setting.Setting.TheVariants as setting
use Rattle.head.specs.Settings.{position, same}
use Rattle.head.proofs.Options.{no_some, some_out}
use Rattle.head.proofs.Tables.{all_below, each_below, same_is}
use Rattle.rows.specs.declared.command.Command.{Command}
use Rattle.rows.specs.declared.operands.Operands.{Operands}
use Rattle.rows.specs.declared.operands.Operands.TheVariants.{Digit, LensDrive, Position, PositionAtSpeed, Level, Number, PanTiltDrive, PanTiltPosition, Home}
use Rattle.rows.specs.declared.operands.Sense.TheVariants.{Up, Down}
use Rattle.rows.specs.declared.table.TableRow.{TableRow}
use Rattle.rows.specs.Codes.{pairs, coded, setting_of}
use Rattle.rows.specs.Commands.{commands}
use Rattle.rows.specs.OneRow.{row_at}
use Rattle.rows.specs.Orders.{subject}
use Rattle.rows.specs.Rows.{row_has, row_reads}
use Rattle.rows.specs.Search.{row_meaning}
use Rattle.rows.specs.Digits.{from_digits}
use Rattle.rows.specs.Reading.{ranged, turning, steered, pan_tilt_driven, pan_tilt_placed, four, operands_mean, operand_count, reads}
use Rattle.rows.proofs.Somes.{when_some, bound, Each, each_some, each_when, each_bound, of_each}

-- what a form's commands are about, where the code stands for a setting
abbrev about_of : Operands → Setting → Setting
about_of (Position a lens) s = position a
about_of (PositionAtSpeed a) s = position a
about_of PanTiltDrive s = setting.PanDrive
about_of PanTiltPosition s = setting.Pan
about_of Home s = setting.Pan
about_of _ s = s

-- every command that is made is about s
About : Setting → Option Command → Type 0
About s x = Each (λ c. subject c ≡ s) x

module _ (s : Setting) where
  ranged_about : (c : Command) → subject c ≡ s → About s (ranged c)
  unfolding ranged About
  ranged_about c h = each_when _ _ (Some c) (each_some _ c h)

  when_about : (b : Bool) (x : Option Command) → About s x → About s (cond b x None)
  unfolding About
  when_about = each_when _

  bound_about : {A : Type 0} (x : Option A) (f : A → Option Command) → ((a : A) → About s (f a)) → About s (option_and_then f x)
  unfolding About
  bound_about = each_bound _

driven_about : (p : Paces) (d e : ℕ) → About setting.PanDrive (pan_tilt_driven p d e)
driven_about p d e =
    bound_about setting.PanDrive (steered Up d p.pan) _
    (λ x. bound_about setting.PanDrive (steered Down e p.tilt) _ (λ y. ranged_about setting.PanDrive _ refl))

placed_about : (p : Paces) (xs ys : List ℕ) → About setting.Pan (pan_tilt_placed p xs ys)
placed_about p xs ys =
    bound_about setting.Pan (from_digits xs) _ (λ x. bound_about setting.Pan (from_digits ys) _ (λ y. ranged_about setting.Pan _ refl))

meaning_about : (f : Operands) (s : Setting) (os : List ℕ) → About (about_of f s) (operands_mean f s os)
meaning_about Digit s os = bound_about s _ _ (λ n. ranged_about s _ refl)
meaning_about (LensDrive e) s os = bound_about s _ _ (λ d. ranged_about s _ refl)
meaning_about (Position a lens) s os = bound_about (position a) _ _ (λ n. ranged_about (position a) _ refl)
meaning_about (PositionAtSpeed a) s os = when_about (position a) _ _ (bound_about (position a) _ _ (λ n. ranged_about (position a) _ refl))
meaning_about Level s os = bound_about s _ _ (λ n. ranged_about s _ refl)
meaning_about Number s os = bound_about s _ _ (λ n. ranged_about s _ refl)
meaning_about PanTiltDrive s os =
    bound_about setting.PanDrive (turning (slice_index os 0) (slice_index os 1)) _ (λ p. driven_about p (slice_index os 2) (slice_index os 3))
meaning_about PanTiltPosition s os =
    bound_about setting.Pan (turning (slice_index os 0) (slice_index os 1)) _ (λ p. placed_about p (four 2 os) (four 6 os))
meaning_about Home s os = ranged_about setting.Pan _ refl

-- In the table every code of a row stands for what the row's commands are about.

abbrev own_code : TableRow Operands → ℕ × Setting → Bool
own_code r p = same (about_of r.form p.1) p.1

abbrev own_codes : TableRow Operands → Bool
own_codes r = list_all (own_code r) (pairs r.codes)

all_own : (d : TableRow Operands) → all_below (λ i. own_codes (get_or commands i d)) (length commands) ≡ true
all_own d = refl

row_own : (i : ℕ) (r : TableRow Operands) → row_at i ≡ Some r → own_codes r ≡ true
row_own i r e =
    subst (λ (x : TableRow Operands). own_codes x ≡ true) (get_or_from_slice_get commands i r r e)
    (each_below (λ i. own_codes (get_or commands i r)) (length commands) (all_own r) i (slice_get_within commands i r e))

coded_passes : (t : ℕ × Setting → Bool) (ps : List (ℕ × Setting)) (c : ℕ) (s : Setting) → list_all t ps ≡ true → coded ps c ≡ Some s → (n : ℕ) × (t (n, s) ≡ true)
coded_passes t [] c s h e = no_some e
coded_passes t (p ∷ ps) c s h e =
    let (first, rest) = and_parts (t p) (list_all t ps) h in
    ⊎_elim
    (λ (b : eqb c p.0 ≡ true). let is : Some p.1 ≡ Some s = simp b at e in (p.0, subst (λ (x : Setting). t (p.0, x) ≡ true) (some_out is) first))
    (λ (b : eqb c p.0 ≡ false). coded_passes t ps c s rest (simp b at e)) (cases_Bool (eqb c p.0))

-- what a row's form makes of operands is about the setting that the code stands for
meaning_is_about : (f : Operands) (s : Setting) (os : List ℕ) (m : Command) → operands_mean f s os ≡ Some m → subject m ≡ about_of f s
unfolding About
meaning_is_about f s os m e = of_each (λ c. subject c ≡ about_of f s) _ m (meaning_about f s os) e

pub code_is_subject : (i : ℕ) (r : TableRow Operands) (k c : ℕ) (os : List ℕ) (m : Command) → row_at i ≡ Some r → row_meaning row_has (row_reads reads) k c os r ≡ Some m
    → setting_of r.codes c ≡ Some (subject m)
code_is_subject i r k c os m p e =
    let (h, x) = when_some (row_has r k c) (row_reads reads r c os) e in
    let (s, t, u) = bound (setting_of r.codes c) (λ s. reads r.form s os) x in
    let (n, own) = coded_passes (own_code r) (pairs r.codes) c s (row_own i r p) t in
    let about : subject m ≡ about_of r.form s = meaning_is_about r.form s os m (when_some (eqb (length os) (operand_count r.form)) (operands_mean r.form s os) u).1 in
    t ∙ ap Some (sym (about ∙ same_is (about_of r.form s) s own))
