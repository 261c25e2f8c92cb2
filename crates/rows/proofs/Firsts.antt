-- The first element that f gives something for, as a loop over the elements finds it.
use Rattle.std.proofs.Common.{◌≡◌, ℕ, zero, suc, ◌<◌, List, [], ◌∷◌, length, get_or, Some, None, Option, sym, refl, arith}
use Rattle.rows.specs.Search.{first_of}

module _ {X M : Type 0} (f : X → Option M) where
  pub found : (xs : List X) (i : ℕ) (m : M) → i < length xs → ((d : X) → f (get_or xs i d) ≡ Some m) → ((k : ℕ) (d : X) → k < i → f (get_or xs k d) ≡ None) → Some (i, m) ≡ first_of f xs
  found [] i m l t n = absurd (omega arith)
  found (x ∷ xs) zero m l t n = simp (t x)
  found (x ∷ xs) (suc i) m l t n = simp (n 0 x (omega arith), sym (found xs i m (omega arith) t (λ k d h. n (suc k) d (omega arith))))

  pub missed : (xs : List X) → ((k : ℕ) (d : X) → k < length xs → f (get_or xs k d) ≡ None) → None ≡ first_of f xs
  missed [] n = refl
  missed (x ∷ xs) n = simp (n 0 x (omega arith), sym (missed xs (λ k d h. n (suc k) d (omega arith))))
