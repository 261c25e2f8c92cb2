-- What the targets of an order say of the values that settings are to get.
use Rattle.std.proofs.Common.{◌≡◌, true, false, List, [], ◌∷◌, ℤ, is_some, Some, None, Option, refl, subst, ⊎_elim}
use Rattle.std.proofs.lemmas.Bool.{and_parts, or_parts, cases_Bool}
use Rattle.head.specs.declared.setting.Setting.{Setting}
use Rattle.head.specs.declared.target.Target.{Target}
use Rattle.head.specs.Settings.{same, in_range}
use Rattle.head.specs.Orders.{wants, names, all_in_range, shares}
use Rattle.head.proofs.Tables.{same_is}

-- what an order wants is in range, where its targets are
pub wants_in_range : (ts : List Target) (s : Setting) (t : ℤ) → all_in_range ts ≡ true → wants ts s ≡ Some t → in_range s t ≡ true
wants_in_range [] s t h e = cc
wants_in_range (u ∷ us) s t h e =
    let p = and_parts (in_range u.setting u.value) (all_in_range us) h in
    ⊎_elim
    (λ (b : same u.setting s ≡ true).
    let j : u.value ≡ t = (let k : Some u.value ≡ Some t = simp b at e in cc) in
    subst (λ (z : Setting). in_range z t ≡ true) (same_is u.setting s b) (subst (λ (x : ℤ). in_range u.setting x ≡ true) j p.0))
    (λ (b : same u.setting s ≡ false). wants_in_range us s t p.1 (simp b at e))
    (cases_Bool (same u.setting s))

not_some : (o : Option ℤ) → is_some o ≡ false → o ≡ None
not_some None h = refl
not_some (Some t) h = cc

-- of two orders that share no setting, each names none of the other's
pub apart : (ts us : List Target) → shares ts us ≡ false → (s : Setting) (t : ℤ) → wants ts s ≡ Some t → wants us s ≡ None
apart [] us h s t e = cc
apart (u ∷ ts) us h s t e =
    let p = or_parts (names us u.setting) (shares ts us) h in
    ⊎_elim
    (λ (b : same u.setting s ≡ true). subst (λ (z : Setting). wants us z ≡ None) (same_is u.setting s b) (not_some (wants us u.setting) p.0))
    (λ (b : same u.setting s ≡ false). apart ts us p.1 s t (simp b at e))
    (cases_Bool (same u.setting s))
