-- The rule that a packet meets is the first that fits.
use Rattle.std.proofs.Common.{◌≡◌, ◌≢◌, ℕ, suc, ◌+◌, ◌-◌, ◌≤◌, Bool, true, false, cond, not, ◌&&◌, eqb, leb, List, [], ◌∷◌, ◌++◌, length, get_or, sym, refl, ap, ◌∙◌, subst, inl, inr, append_assoc, arith}
use Rattle.std.proofs.lemmas.List.{get_or_at, length_push}
use Rattle.std.proofs.lemmas.Bool.{eqb-true, eqb-false, eq-eqb, ne_eqb, leb-true, le-leb, and_parts, or_parts, or_cases, not-true, not-false}
use Rattle.rules.specs.declared.ring.Rule.{Rule}
use Rattle.rules.specs.declared.ring.Rule.TheVariants.{TakenOff, AddressSet, ClearedForAll, SentOn, Cleared, Cancelled, Requested}
use Rattle.rules.specs.Ring.{header, sender, stand_at, are, from_here, offers_address, clears_all, not_for_here, rule_of, RuleFits, from_this_end, sets_an_address, clears_every_end, without_address, with_other_header, with_this_header, Tells, Meets, rule_number, EachPacketMeetsOneRule}
use Rattle.wire.specs.Packets.{body_of}

-- The two ways to say that bytes are the same.

stands : (i : ℕ) (front bs cs : List ℕ) → length front ≡ i → length bs ≡ length cs → stand_at i (front ++ bs) cs ≡ true → bs ≡ cs
stands i front [] [] e l h = refl
stands i front [] (c ∷ cs) e l h = absurd (omega arith)
stands i front (b ∷ bs) [] e l h = absurd (omega arith)
stands i front (b ∷ bs) (c ∷ cs) e l h =
    let g : get_or (front ++ b ∷ bs) i 0 ≡ b = get_or_at front b bs 0 i e in
    let f : (front ++ b ∷ []) ++ bs ≡ front ++ b ∷ bs = append_assoc front (b ∷ []) bs in
    let n : length (front ++ b ∷ []) ≡ suc i = length_push front b ∙ omega arith in
    let q = and_parts (eqb (get_or (front ++ b ∷ bs) i 0) c) (stand_at (suc i) (front ++ b ∷ bs) cs) h in
    let x : b ≡ c = sym g ∙ eqb-true (get_or (front ++ b ∷ bs) i 0) c q.0 in
    let r : bs ≡ cs = stands (suc i) (front ++ b ∷ []) bs cs n (omega arith) (subst (λ (z : List ℕ). stand_at (suc i) z cs ≡ true) (sym f) q.1) in
    cc

pub are_true : (bs cs : List ℕ) → are bs cs ≡ true → bs ≡ cs
are_true bs cs h =
    let q = and_parts (eqb (length bs) (length cs)) (stand_at 0 bs cs) h in
    stands 0 [] bs cs refl (eqb-true (length bs) (length cs) q.0) q.1

stands_itself : (i : ℕ) (front cs : List ℕ) → length front ≡ i → stand_at i (front ++ cs) cs ≡ true
stands_itself i front [] e = refl
stands_itself i front (c ∷ cs) e =
    let g : get_or (front ++ c ∷ cs) i 0 ≡ c = get_or_at front c cs 0 i e in
    let f : (front ++ c ∷ []) ++ cs ≡ front ++ c ∷ cs = append_assoc front (c ∷ []) cs in
    let n : length (front ++ c ∷ []) ≡ suc i = length_push front c ∙ omega arith in
    let r : stand_at (suc i) (front ++ c ∷ cs) cs ≡ true = subst (λ (z : List ℕ). stand_at (suc i) z cs ≡ true) f (stands_itself (suc i) (front ++ c ∷ []) cs n) in
    rw (g, eq-eqb c c refl, r) refl

pub are_itself : (cs : List ℕ) → are cs cs ≡ true
are_itself cs = rw (eq-eqb (length cs) (length cs) refl, stands_itself 0 [] cs refl) refl

pub are_false : (bs cs : List ℕ) → are bs cs ≡ false → bs ≢ cs
are_false bs cs h e =
    let t : are bs cs ≡ true = subst (λ (z : List ℕ). are z cs ≡ true) (sym e) (are_itself cs) in
    cc

-- What each test says, and what follows where it fails.

offers : (p : List ℕ) → offers_address p ≡ true → (p ≡ 0x88 ∷ 0x30 ∷ get_or p 2 0 ∷ 0xff ∷ []) × (1 ≤ get_or p 2 0) × (get_or p 2 0 ≤ 7)
offers p h =
    let w = get_or p 2 0 in
    let q = and_parts (are p (0x88 ∷ 0x30 ∷ w ∷ 0xff ∷ []) && leb 1 w) (leb w 7) h in
    let r = and_parts (are p (0x88 ∷ 0x30 ∷ w ∷ 0xff ∷ [])) (leb 1 w) q.0 in
    (are_true p (0x88 ∷ 0x30 ∷ w ∷ 0xff ∷ []) r.0, leb-true 1 w r.1, leb-true w 7 q.1)

offered : (w : ℕ) → 1 ≤ w → w ≤ 7 → offers_address (0x88 ∷ 0x30 ∷ w ∷ 0xff ∷ []) ≡ true
offered w l m = rw (eq-eqb w w refl, le-leb 1 w l, le-leb w 7 m) refl

module _ (a : ℕ) (p : List ℕ) where
  here : 1 ≤ a → sender p ≡ a → from_here a p ≡ true
  here l e =
      let z : eqb a 0 ≡ false = ne_eqb a 0 (λ x. omega arith) in
      rw (z, e, eq-eqb a a refl) refl

  is_here : from_here a p ≡ true → (1 ≤ a) × (sender p ≡ a)
  is_here h =
      let q = and_parts (not (eqb a 0)) (eqb (sender p) a) h in
      let z = eqb-false a 0 (not-true (eqb a 0) q.0) in
      (omega (arith, z), eqb-true (sender p) a q.1)

  for_here : not_for_here a p ≡ false → (1 ≤ a) × (header p ≡ 0x80 + a)
  for_here h =
      let q = or_parts (eqb a 0) (not (eqb (header p) (0x80 + a))) h in
      let z = eqb-false a 0 q.0 in
      (omega (arith, z), eqb-true (header p) (0x80 + a) (not-false (eqb (header p) (0x80 + a)) q.1))

  for_others : not_for_here a p ≡ true → RuleFits a p 4
  for_others h = elim (or_cases (eqb a 0) (not (eqb (header p) (0x80 + a))) h) [
    | inl z ↦ without_address (eqb-true a 0 z)
    | inr n ↦ with_other_header (eqb-false (header p) (0x80 + a) (not-true (eqb (header p) (0x80 + a)) n))
  ]

  some_rule : {n : ℕ} → RuleFits a p n → 1 ≤ n
  some_rule (from_this_end l e) = omega arith
  some_rule (sets_an_address w l m e) = omega arith
  some_rule (clears_every_end e) = omega arith
  some_rule (without_address e) = omega arith
  some_rule (with_other_header e) = omega arith
  some_rule (with_this_header l e) = omega arith

  not_first : {n : ℕ} → from_here a p ≡ false → RuleFits a p n → 2 ≤ n
  not_first f (from_this_end l e) = let t = here l e in cc
  not_first f (sets_an_address w l m e) = omega arith
  not_first f (clears_every_end e) = omega arith
  not_first f (without_address e) = omega arith
  not_first f (with_other_header e) = omega arith
  not_first f (with_this_header l e) = omega arith

  not_second : {n : ℕ} → from_here a p ≡ false → offers_address p ≡ false → RuleFits a p n → 3 ≤ n
  not_second f o (from_this_end l e) = let t = here l e in cc
  not_second f o (sets_an_address w l m e) = let t = offered w l m in let u = rw e at o in cc
  not_second f o (clears_every_end e) = omega arith
  not_second f o (without_address e) = omega arith
  not_second f o (with_other_header e) = omega arith
  not_second f o (with_this_header l e) = omega arith

  not_third : {n : ℕ} → from_here a p ≡ false → offers_address p ≡ false → clears_all p ≡ false → RuleFits a p n → 4 ≤ n
  not_third f o c (from_this_end l e) = let t = here l e in cc
  not_third f o c (sets_an_address w l m e) = let t = offered w l m in let u = rw e at o in cc
  not_third f o c (clears_every_end e) = absurd (are_false p (0x88 ∷ 0x01 ∷ 0x00 ∷ 0x01 ∷ 0xff ∷ []) c e)
  not_third f o c (without_address e) = omega arith
  not_third f o c (with_other_header e) = omega arith
  not_third f o c (with_this_header l e) = omega arith

  not_fourth : {n : ℕ} → from_here a p ≡ false → offers_address p ≡ false → clears_all p ≡ false → not_for_here a p ≡ false → RuleFits a p n → 5 ≤ n
  not_fourth f o c h (from_this_end l e) = let t = here l e in cc
  not_fourth f o c h (sets_an_address w l m e) = let t = offered w l m in let u = rw e at o in cc
  not_fourth f o c h (clears_every_end e) = absurd (are_false p (0x88 ∷ 0x01 ∷ 0x00 ∷ 0x01 ∷ 0xff ∷ []) c e)
  not_fourth f o c h (without_address e) = let q = for_here h in absurd (omega arith)
  not_fourth f o c h (with_other_header e) = let q = for_here h in absurd (e q.1)
  not_fourth f o c h (with_this_header l e) = omega arith

  abbrev w : ℕ
  w = get_or p 2 0

  abbrev y : ℕ
  y = get_or (body_of p) 0 0

  abbrev clear : List ℕ
  clear = 0x01 ∷ 0x00 ∷ 0x01 ∷ []

  abbrev cancels : Bool
  cancels = are (body_of p) (y ∷ []) && leb 0x20 y && leb y 0x2f

  cancelled : cancels ≡ true → (y - 0x20 ≤ 15) × (body_of p ≡ (0x20 + (y - 0x20)) ∷ [])
  cancelled h =
      let q = and_parts (are (body_of p) (y ∷ []) && leb 0x20 y) (leb y 0x2f) h in
      let r = and_parts (are (body_of p) (y ∷ [])) (leb 0x20 y) q.0 in
      let l = leb-true 0x20 y r.1 in
      let m = leb-true y 0x2f q.1 in
      let e : 0x20 + (y - 0x20) ≡ y = omega arith in
      (omega arith, rw e (are_true (body_of p) (y ∷ []) r.0))

  not_cancelled : cancels ≡ false → (n : ℕ) → n ≤ 15 → body_of p ≢ (0x20 + n) ∷ []
  not_cancelled h n l e =
      let t : (are ((0x20 + n) ∷ []) ((0x20 + n) ∷ []) && leb 0x20 (0x20 + n) && leb (0x20 + n) 0x2f) ≡ true =
      rw (are_itself ((0x20 + n) ∷ []), le-leb 0x20 (0x20 + n) (omega arith), le-leb (0x20 + n) 0x2f (omega arith)) refl in
      let u = rw e at h in
      absurd cc

  by_tests : (t₁ t₂ t₃ t₄ t₅ t₆ : Bool) → from_here a p ≡ t₁ → offers_address p ≡ t₂ → clears_all p ≡ t₃ → not_for_here a p ≡ t₄ →
      are (body_of p) clear ≡ t₅ → cancels ≡ t₆ →
      Meets a p (cond t₁ TakenOff (cond t₂ (AddressSet w) (cond t₃ ClearedForAll (cond t₄ SentOn (cond t₅ Cleared (cond t₆ (Cancelled (y - 0x20)) Requested))))))
  by_tests true t₂ t₃ t₄ t₅ t₆ e₁ e₂ e₃ e₄ e₅ e₆ =
      let q = is_here e₁ in
      record { fits = from_this_end q.0 q.1; first = λ n f. some_rule f; tells = tt }
  by_tests false true t₃ t₄ t₅ t₆ e₁ e₂ e₃ e₄ e₅ e₆ =
      let q = offers p e₂ in
      record { fits = sets_an_address w q.1 q.2 q.0; first = λ n f. not_first e₁ f; tells = q.0 }
  by_tests false false true t₄ t₅ t₆ e₁ e₂ e₃ e₄ e₅ e₆ =
      record { fits = clears_every_end (are_true p (0x88 ∷ 0x01 ∷ 0x00 ∷ 0x01 ∷ 0xff ∷ []) e₃); first = λ n f. not_second e₁ e₂ f; tells = tt }
  by_tests false false false true t₅ t₆ e₁ e₂ e₃ e₄ e₅ e₆ =
      record { fits = for_others e₄; first = λ n f. not_third e₁ e₂ e₃ f; tells = tt }
  by_tests false false false false true t₆ e₁ e₂ e₃ e₄ e₅ e₆ =
      let q = for_here e₄ in
      record { fits = with_this_header q.0 q.1; first = λ n f. not_fourth e₁ e₂ e₃ e₄ f; tells = are_true (body_of p) clear e₅ }
  by_tests false false false false false true e₁ e₂ e₃ e₄ e₅ e₆ =
      let q = for_here e₄ in
      record { fits = with_this_header q.0 q.1; first = λ n f. not_fourth e₁ e₂ e₃ e₄ f; tells = cancelled e₆ }
  by_tests false false false false false false e₁ e₂ e₃ e₄ e₅ e₆ =
      let q = for_here e₄ in
      record {
        fits = with_this_header q.0 q.1;
        first = λ n f. not_fourth e₁ e₂ e₃ e₄ f;
        tells = (are_false (body_of p) clear e₅, not_cancelled e₆);
      }

pub met : (a : ℕ) (p : List ℕ) → Meets a p (rule_of a p)
met a p =
    by_tests a p (from_here a p) (offers_address p) (clears_all p) (not_for_here a p) (are (body_of p) (0x01 ∷ 0x00 ∷ 0x01 ∷ []))
    (are (body_of p) (get_or (body_of p) 0 0 ∷ []) && leb 0x20 (get_or (body_of p) 0 0) && leb (get_or (body_of p) 0 0) 0x2f)
    refl refl refl refl refl refl

pub met_by : (a : ℕ) (p : List ℕ) (r : Rule) → r ≡ rule_of a p → Meets a p r
met_by a p r e = rw e (met a p)

-- what two rules of one number tell of a packet is the same
by_number : (p : List ℕ) (r q : Rule) → rule_number r ≡ rule_number q → Tells p r → Tells p q → r ≡ q
by_number p TakenOff TakenOff e t u = refl
by_number p (AddressSet v₁) (AddressSet v₂) e t u = ap AddressSet (ap (λ (z : List ℕ). get_or z 2 0) (sym t ∙ u))
by_number p ClearedForAll ClearedForAll e t u = refl
by_number p SentOn SentOn e t u = refl
by_number p Cleared Cleared e t u = refl
by_number p Cleared (Cancelled z) e t u = let k : 0x01 ∷ 0x00 ∷ 0x01 ∷ [] ≡ (0x20 + z) ∷ [] = sym t ∙ u.1 in cc
by_number p Cleared Requested e t u = absurd (u.0 t)
by_number p (Cancelled y) Cleared e t u = let k : (0x20 + y) ∷ [] ≡ 0x01 ∷ 0x00 ∷ 0x01 ∷ [] = sym t.1 ∙ u in cc
by_number p (Cancelled y) (Cancelled z) e t u =
    let k : 0x20 + y ≡ 0x20 + z = ap (λ (x : List ℕ). get_or x 0 0) (sym t.1 ∙ u.1) in
    let n : y ≡ z = omega arith in
    ap Cancelled n
by_number p (Cancelled y) Requested e t u = absurd (u.1 y t.0 t.1)
by_number p Requested Cleared e t u = absurd (t.0 u)
by_number p Requested (Cancelled z) e t u = absurd (t.1 z u.0 u.1)
by_number p Requested Requested e t u = refl
by_number p r q e t u = absurd (omega arith)

pub each_packet_meets_one_rule : EachPacketMeetsOneRule
each_packet_meets_one_rule a p r = (
  (λ m.
      let f = met a p in
      let l = m.first (rule_number (rule_of a p)) f.fits in
      let k = f.first (rule_number r) m.fits in
      let n : rule_number r ≡ rule_number (rule_of a p) = omega arith in
      by_number p r (rule_of a p) n m.tells f.tells),
  met_by a p r,
)
