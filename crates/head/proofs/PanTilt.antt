-- Whether an order names pan, tilt or a drive of theirs: by its targets, and by what it names.
use Rattle.std.proofs.Common.{◌≡◌, Bool, true, false, ◌||◌, List, [], ◌∷◌, refl, ⊎_elim}
use Rattle.std.specs.List.{list_any}
use Rattle.std.proofs.lemmas.Bool.{cases_Bool}
use Rattle.head.specs.declared.setting.Setting.{Setting}
use Rattle.head.specs.declared.setting.Setting.TheVariants.{Pan, Tilt, PanDrive, TiltDrive}
use Rattle.head.specs.declared.target.Target.{Target}
use Rattle.head.specs.Settings.{same, is_pan_tilt}
use Rattle.head.specs.Orders.{names, any_pan_tilt}

first_or_rest : (t : Target) (ts : List Target) (s : Setting) → names (t ∷ ts) s ≡ (same t.setting s || names ts s)
first_or_rest t ts s =
    ⊎_elim
    (λ (b : same t.setting s ≡ true). simp b refl)
    (λ (b : same t.setting s ≡ false). simp b refl)
    (cases_Bool (same t.setting s))

-- four tests of the first and four of the rest, in pairs
in_pairs : (a b c d a' b' c' d' : Bool) → ((a || b || c || d) || (a' || b' || c' || d')) ≡ ((a || a') || (b || b') || (c || c') || (d || d'))
in_pairs true b c d a' b' c' d' = refl
in_pairs false true c d true b' c' d' = refl
in_pairs false true c d false b' c' d' = refl
in_pairs false false true d true b' c' d' = refl
in_pairs false false true d false true c' d' = refl
in_pairs false false true d false false c' d' = refl
in_pairs false false false true true b' c' d' = refl
in_pairs false false false true false true c' d' = refl
in_pairs false false false true false false true d' = refl
in_pairs false false false true false false false d' = refl
in_pairs false false false false a' b' c' d' = refl

pub any_named : (ts : List Target) → list_any (λ t. is_pan_tilt t.setting) ts ≡ any_pan_tilt ts
any_named [] = refl
any_named (t ∷ ts) =
    rw (first_or_rest t ts Pan, first_or_rest t ts Tilt, first_or_rest t ts PanDrive, first_or_rest t ts TiltDrive, any_named ts)
    (in_pairs (same t.setting Pan) (same t.setting Tilt) (same t.setting PanDrive) (same t.setting TiltDrive)
    (names ts Pan) (names ts Tilt) (names ts PanDrive) (names ts TiltDrive))
