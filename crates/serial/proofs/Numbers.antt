-- What `parse` reads is the number that a word of digits alone writes.
use Rattle.std.proofs.Common.{◌≡◌, ℕ, ◌<◌, ◌^◌, Bool, true, false, ◌&&◌, List, [], ◌∷◌, length, Some, Ok, Err, Result, sym, ap, ◌∙◌, refl, get_or, eqb, nat_lt, subst}
use Rattle.std.proofs.lemmas.Bool.{and_parts, and_from, ltb-true, lt-ltb, cond-true, cond-false, false_from_ne_true}
use Rattle.std.specs.Result.{OkIff, result_ok}
use Rattle.std.specs.Str.{bytes_eq}
use Rattle.std.specs.Str.Parse.{AllDigits, IsNumeral, ParsesUnsigned, digits_value, without_leading_plus}
use Rattle.std.specs.Cmp.Lexicographic.{same_text}
use Rattle.serial.specs.Words.{all_digits, decimal}

-- texts that differ are told apart
pub different : (xs ys : List ℕ) → (xs ≡ ys → ⊥) → bytes_eq xs ys ≡ false
different xs ys d = false_from_ne_true (bytes_eq xs ys) (λ e. d (same_text xs ys (sym e)))

tested : (ds : List ℕ) → AllDigits 10 ds → all_digits ds ≡ true
tested [] d = refl
tested (c ∷ cs) d = and_from _ _ (lt-ltb _ _ d.0) (tested cs d.1)

digits : (ds : List ℕ) → all_digits ds ≡ true → AllDigits 10 ds
digits [] e = tt
digits (c ∷ cs) e = let p = and_parts _ _ e in (ltb-true _ _ p.0, digits cs p.1)

-- digits alone, and few enough
abbrev written : List ℕ → Bool
written w = nat_lt 0 (length w) && all_digits w && nat_lt (digits_value 10 w) (2 ^ 32)

-- a numeral and its number, or none
abbrev Reads : {E : Type 0} → Result ℕ E → List ℕ → Type 0
Reads r ds = OkIff r (IsNumeral 10 ds × (digits_value 10 ds < 2 ^ 32)) (digits_value 10 ds)

all_of : (w : List ℕ) → IsNumeral 10 w × (digits_value 10 w < 2 ^ 32) → written w ≡ true
all_of w p = and_from _ _ (and_from _ _ (lt-ltb _ _ p.0.0) (tested w p.0.1)) (lt-ltb _ _ p.1)

parts_of : (w : List ℕ) → written w ≡ true → IsNumeral 10 w × (digits_value 10 w < 2 ^ 32)
parts_of w e =
    let p = and_parts _ _ e in
    let q = and_parts _ _ p.0 in
    ((ltb-true _ _ q.0, digits w q.1), ltb-true _ _ p.1)

read : {E : Type 0} (w : List ℕ) (r : Result ℕ E) → Reads r w → result_ok r ≡ decimal w
read w (Ok n) p = ap Some p.1 ∙ sym (cond-true (written w) _ _ (all_of w p.0))
read w (Err e) p = sym (cond-false (written w) _ _ (false_from_ne_true (written w) (λ t. p (parts_of w t))))

no_plus : (w : List ℕ) → eqb (get_or w 0 0) 43 ≡ false → without_leading_plus w ≡ w
no_plus w e = rw e refl

-- a word with no plus in front
pub parsed : {E : Type 0} (w : List ℕ) (r : Result ℕ E) → eqb (get_or w 0 0) 43 ≡ false → ParsesUnsigned 32 10 w r → result_ok r ≡ decimal w
parsed w r plain p = read w r (subst (λ (ds : List ℕ). Reads r ds) (no_plus w plain) p)
