-- Bytes put into a log.
use Rattle.std.proofs.Common.{◌≡◌, ℕ, ◌+◌, ◌<◌, ◌≤◌, take, drop, List, ◌++◌, length, sym, ap, ◌∙◌, append_assoc, arith}
use Rattle.std.proofs.lemmas.Bool.{cond-true, cond-false, le-leb, lt-leb}
use Rattle.std.proofs.lemmas.List.{length-append, length-take-le, drop-drop}
use Rattle.std.proofs.Math.Seq.{take-append_seam, drop-append_seam}
use Rattle.wire.specs.Line.{over_at}
use Rattle.end_c.specs.Logs.{appended}

-- Bytes put at a place.

module _ (n : ℕ) (bs xs : List ℕ) (room : n + length bs ≤ length xs) where
  ahead : length (take n xs ++ bs) ≡ n + length bs
  ahead = length-append (take n xs) bs ∙ ap (λ (m : ℕ). m + length bs) (length-take-le n xs (omega arith))

  parts : over_at n bs xs ≡ (take n xs ++ bs) ++ drop (n + length bs) xs
  parts = sym (append_assoc (take n xs) bs (drop (n + length bs) xs))

  pub front : take (n + length bs) (over_at n bs xs) ≡ take n xs ++ bs
  front =
      ap (λ (l : List ℕ). take (n + length bs) l) parts
      ∙ ap (λ (m : ℕ). take m ((take n xs ++ bs) ++ drop (n + length bs) xs)) (sym ahead)
      ∙ take-append_seam (take n xs ++ bs) (drop (n + length bs) xs)

  pub past : drop (n + length bs) (over_at n bs xs) ≡ drop (n + length bs) xs
  past =
      ap (λ (l : List ℕ). drop (n + length bs) l) parts
      ∙ ap (λ (m : ℕ). drop m ((take n xs ++ bs) ++ drop (n + length bs) xs)) (sym ahead)
      ∙ drop-append_seam (take n xs ++ bs) (drop (n + length bs) xs)

-- What is put behind a log.

-- it fits
pub fits : (n : ℕ) (old more : List ℕ) → length old + length more ≤ n → appended n old more ≡ old ++ more
fits n old more within = cond-true _ (old ++ more) old (le-leb (length old + length more) n within)

-- it does not
pub left_out : (n : ℕ) (old more : List ℕ) → n < length old + length more → appended n old more ≡ old
left_out n old more over = cond-false _ (old ++ more) old (lt-leb (length old + length more) n over)

-- what was put, said another way
pub put_as : (n : ℕ) (old s : List ℕ) {bytes a a' : List ℕ} {m m' : ℕ} → bytes ≡ appended n old (a ++ take m s) → a ≡ a' → m ≡ m' → bytes ≡ appended n old (a' ++ take m' s)
put_as n old s {a' = a'} {m = m} e f g =
    e ∙ ap (λ (l : List ℕ). appended n old (l ++ take m s)) f ∙ ap (λ (k : ℕ). appended n old (a' ++ take k s)) g

-- what is the same past n bytes is so past more
pub same_past : (n m : ℕ) (xs ys : List ℕ) → drop n xs ≡ drop n ys → drop (n + m) xs ≡ drop (n + m) ys
same_past n m xs ys e = sym (drop-drop m n xs) ∙ ap (λ (l : List ℕ). drop m l) e ∙ drop-drop m n ys

-- more put behind a log that was another's
pub put_behind : {n n' : ℕ} {bytes old old' : List ℕ} (more : List ℕ) → bytes ≡ appended n' old more → n' ≡ n → old ≡ old' → bytes ≡ appended n old' more
put_behind {n = n} {old = old} more e k f = e ∙ ap (λ (m : ℕ). appended m old more) k ∙ ap (λ (l : List ℕ). appended n l more) f
