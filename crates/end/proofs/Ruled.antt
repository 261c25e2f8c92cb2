-- The book takes a whole packet for a clearing, and for one that sets the address, exactly where the rules of the ring do.
use Rattle.std.proofs.Common.{◌≡◌, ℕ, suc, ◌+◌, ◌-◌, ◌/◌, ◌%◌, ◌≤◌, Bool, true, false, cond, not, ◌&&◌, ◌||◌, eqb, ltb, leb, List, [], ◌∷◌, ◌++◌, length, get_or, sym, refl, ap, ◌∙◌, subst, inl, inr, append_assoc, arith}
use Rattle.std.proofs.Math.Dec.{eqb-suc-suc}
use Rattle.std.proofs.lemmas.List.{get_or_at, take_at, length_push}
use Rattle.std.proofs.lemmas.Bool.{eqb-true, eqb-false, eq-eqb, ne_eqb, lt-ltb, leb-true, and_parts, and_left, and_right, or_parts, or_cases, not-true, not-false}
use Rattle.end.specs.Book.{equal_bytes, sets_address, address_after, clearing}
use Rattle.end.proofs.Heard.{Whole, whole}
use Rattle.rules.specs.declared.ring.Rule.{Rule}
use Rattle.rules.specs.declared.ring.Rule.TheVariants.{TakenOff, AddressSet, ClearedForAll, SentOn, Cleared, Cancelled, Requested}
use Rattle.rules.specs.Ring.{stand_at, are, sender, rule_of}
use Rattle.wire.specs.Packets.{body_of}

-- The two ways to say that bytes are the same.

and_swap : (x y z : Bool) → (x && (y && z)) ≡ (y && (x && z))
and_swap true y z = refl
and_swap false true z = refl
and_swap false false z = refl

stand_same : (i : ℕ) (front bs ds : List ℕ) → length front ≡ i → (eqb (length bs) (length ds) && stand_at i (front ++ bs) ds) ≡ equal_bytes bs ds
stand_same i front [] [] e = refl
stand_same i front [] (d ∷ ds) e = and_left (eqb 0 (suc (length ds))) _ (ne_eqb 0 (suc (length ds)) (λ q. omega arith))
stand_same i front (b ∷ bs) [] e = and_left (eqb (suc (length bs)) 0) _ (ne_eqb (suc (length bs)) 0 (λ q. omega arith))
stand_same i front (b ∷ bs) (d ∷ ds) e =
    let l = eqb-suc-suc (length bs) (length ds) in
    let g : get_or (front ++ b ∷ bs) i 0 ≡ b = get_or_at front b bs 0 i e in
    let f : (front ++ b ∷ []) ++ bs ≡ front ++ b ∷ bs = append_assoc front (b ∷ []) bs in
    let n : length (front ++ b ∷ []) ≡ suc i = length_push front b ∙ omega arith in
    let r = stand_same (suc i) (front ++ b ∷ []) bs ds n in
    rw (l, g) (
    and_swap (eqb (length bs) (length ds)) (eqb b d) (stand_at (suc i) (front ++ b ∷ bs) ds)
    ∙ ap (λ (t : Bool). eqb b d && t) (subst (λ (z : List ℕ). (eqb (length bs) (length ds) && stand_at (suc i) z ds) ≡ equal_bytes bs ds) f r)
    )

are_same : (bs ds : List ℕ) → are bs ds ≡ equal_bytes bs ds
are_same bs ds = stand_same 0 [] bs ds refl

-- one more at both ends
same_push : (bs ds : List ℕ) (x : ℕ) → equal_bytes (bs ++ x ∷ []) (ds ++ x ∷ []) ≡ equal_bytes bs ds
same_push [] [] x = rw (eq-eqb x x refl) refl
same_push [] (d ∷ []) x = and_right (eqb x d) false refl
same_push [] (d ∷ e ∷ ds) x = and_right (eqb x d) false refl
same_push (b ∷ []) [] x = and_right (eqb b x) false refl
same_push (b ∷ c ∷ bs) [] x = and_right (eqb b x) false refl
same_push (b ∷ bs) (d ∷ ds) x = ap (λ (t : Bool). eqb b d && t) (same_push bs ds x)

body_is : (h : ℕ) (t : List ℕ) → body_of (h ∷ (t ++ 0xff ∷ [])) ≡ t
body_is h t = take_at t (0xff ∷ []) (length (h ∷ (t ++ 0xff ∷ [])) - 2) (let l = length_push t 0xff in omega arith)

-- this end did not send it
abbrev pub Foreign : ℕ → List ℕ → Type 0
Foreign a p = (not (eqb a 0) && eqb (sender p) a) ≡ false

-- the rule that a packet meets, with what the book makes of it: the address then, and whether it is a clearing
pub data Ruled (a : ℕ) (p : List ℕ) : Rule → ℕ → Bool → Type 0 where
  taken_off : Ruled a p TakenOff a false
  address : {w : ℕ} → 1 ≤ w → w ≤ 7 → Ruled a p (AddressSet w) w true
  cleared_for_all : Foreign a p → Ruled a p ClearedForAll a true
  sent_on : Foreign a p → Ruled a p SentOn a false
  cleared : eqb a 0 ≡ false → Ruled a p Cleared a true
  cancelled : {y : ℕ} → eqb a 0 ≡ false → Ruled a p (Cancelled y) a false
  requested : eqb a 0 ≡ false → Ruled a p Requested a false

module _ (a h : ℕ) (t : List ℕ) (low : a ≤ 7) where
  abbrev p : List ℕ
  p = h ∷ (t ++ 0xff ∷ [])

  abbrev w : ℕ
  w = get_or p 2 0

  -- 01 00 01 for this end
  abbrev clears_this : Bool
  clears_this = ltb 0 a && equal_bytes p ((0x80 + a) ∷ 0x01 ∷ 0x00 ∷ 0x01 ∷ 0xff ∷ [])

  for_this : (t₅ t₆ : Bool) (y : ℕ) → eqb a 0 ≡ false → Ruled a p (cond t₅ Cleared (cond t₆ (Cancelled y) Requested)) a t₅
  for_this true t₆ y has = cleared has
  for_this false true y has = cancelled has
  for_this false false y has = requested has

  -- by the tests of the rules, and what each says of the tests behind it
  first_rule : (t₁ t₂ t₃ t₄ t₅ t₆ b : Bool) (y : ℕ) → (not (eqb a 0) && eqb (sender p) a) ≡ t₁ →
      (t₁ ≡ true → (t₂ ≡ false) × (t₃ ≡ false) × (b ≡ false)) →
      (t₂ ≡ true → (1 ≤ w) × (w ≤ 7)) →
      (t₄ ≡ true → b ≡ false) →
      (t₄ ≡ false → (eqb a 0 ≡ false) × (b ≡ t₅)) →
      Ruled a p (cond t₁ TakenOff (cond t₂ (AddressSet w) (cond t₃ ClearedForAll (cond t₄ SentOn (cond t₅ Cleared (cond t₆ (Cancelled y) Requested))))))
      (cond t₂ w a) (t₂ || t₃ || b)
  first_rule true t₂ t₃ t₄ t₅ t₆ b y f own wide on mine = let n = own refl in rw (n.0, n.1, n.2) taken_off
  first_rule false true t₃ t₄ t₅ t₆ b y f own wide on mine = let n = wide refl in address n.0 n.1
  first_rule false false true t₄ t₅ t₆ b y f own wide on mine = cleared_for_all f
  first_rule false false false true t₅ t₆ b y f own wide on mine = rw (on refl) (sent_on f)
  first_rule false false false false t₅ t₆ b y f own wide on mine = let n = mine refl in rw n.1 (for_this t₅ t₆ y n.0)

  no_sender : (0x80 + a) / 16 % 8 ≡ 0
  no_sender = let e : (0x80 + a) / 16 ≡ 8 = omega arith in rw e refl

  -- a packet of this end begins neither as a broadcast nor as one for it
  own_begins : (not (eqb a 0) && eqb (sender p) a) ≡ true → (eqb h 0x88 ≡ false) × (eqb h (0x80 + a) ≡ false)
  own_begins e =
      let q = and_parts (not (eqb a 0)) (eqb (sender p) a) e in
      let z = eqb-false a 0 (not-true (eqb a 0) q.0) in
      let s = eqb-true (sender p) a q.1 in
      (ne_eqb h 0x88 (λ x. z (omega arith)), ne_eqb h (0x80 + a) (λ x. z (sym s ∙ ap (λ (n : ℕ). n / 16 % 8) x ∙ no_sender)))

  own_none : (not (eqb a 0) && eqb (sender p) a) ≡ true →
      (sets_address p ≡ false) × (equal_bytes p (0x88 ∷ 0x01 ∷ 0x00 ∷ 0x01 ∷ 0xff ∷ []) ≡ false) × (clears_this ≡ false)
  own_none e =
      let n = own_begins e in
      (rw n.0 refl, rw n.0 refl, and_right (ltb 0 a) _ (rw n.1 refl))

  wide_enough : sets_address p ≡ true → (1 ≤ w) × (w ≤ 7)
  wide_enough e =
      let q = and_parts _ (leb w 7) e in
      let r = and_parts _ (leb 1 w) q.0 in
      (leb-true 1 w r.1, leb-true w 7 q.1)

  for_another : (eqb a 0 || not (eqb h (0x80 + a))) ≡ true → clears_this ≡ false
  for_another e = elim (or_cases (eqb a 0) (not (eqb h (0x80 + a))) e) [
    | inl z ↦ let q = eqb-true a 0 z in and_left (ltb 0 a) _ (rw q refl)
    | inr n ↦ let q = not-true (eqb h (0x80 + a)) n in and_right (ltb 0 a) _ (rw q refl)
  ]

  for_me : (eqb a 0 || not (eqb h (0x80 + a))) ≡ false → (eqb a 0 ≡ false) × (clears_this ≡ are (body_of p) (0x01 ∷ 0x00 ∷ 0x01 ∷ []))
  for_me e =
      let q = or_parts (eqb a 0) (not (eqb h (0x80 + a))) e in
      let z = eqb-false a 0 q.0 in
      let m = not-false (eqb h (0x80 + a)) q.1 in
      let n : ltb 0 a ≡ true = lt-ltb 0 a (omega (arith, z)) in
      let s = same_push t (0x01 ∷ 0x00 ∷ 0x01 ∷ []) 0xff in
      let r = ap (λ (b : List ℕ). are b (0x01 ∷ 0x00 ∷ 0x01 ∷ [])) (body_is h t) ∙ are_same t (0x01 ∷ 0x00 ∷ 0x01 ∷ []) in
      (q.0, rw (n, m) (s ∙ sym r))

  pub ruled_here : Ruled a p (rule_of a p) (address_after a p) (clearing a p)
  ruled_here =
      let four : List ℕ = 0x88 ∷ 0x30 ∷ w ∷ 0xff ∷ [] in
      let five : List ℕ = 0x88 ∷ 0x01 ∷ 0x00 ∷ 0x01 ∷ 0xff ∷ [] in
      rw (are_same p four, are_same p five) (first_rule
      (not (eqb a 0) && eqb (sender p) a) (sets_address p) (equal_bytes p five) (eqb a 0 || not (eqb h (0x80 + a)))
      (are (body_of p) (0x01 ∷ 0x00 ∷ 0x01 ∷ [])) _ clears_this _
      refl own_none wide_enough for_another for_me)

pub ruled : (a : ℕ) {p : List ℕ} → a ≤ 7 → Whole p → Ruled a p (rule_of a p) (address_after a p) (clearing a p)
ruled a low (whole h t plain _) = ruled_here a h t low
