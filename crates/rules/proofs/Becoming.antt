-- What becomes of a packet by its sender and receiver.
use Rattle.std.proofs.Common.{◌≡◌, ◌≢◌, ℕ, ◌+◌, ◌/◌, ◌%◌, ◌≤◌, true, false, List, [], ◌∷◌, get_or, refl, ap, arith}
use Rattle.std.proofs.lemmas.Bool.{eqb-true, eqb-false}
use Rattle.std.proofs.lemmas.Grind.{common_steps}
use Rattle.rules.specs.declared.ring.Rule.{Rule}
use Rattle.rules.specs.declared.ring.Rule.TheVariants.{TakenOff, AddressSet, ClearedForAll, SentOn, Cleared, Cancelled, Requested}
use Rattle.rules.specs.Ring.{rule_number, header, sender, is_broadcast, receiver, rule_of, RuleFits, from_this_end, sets_an_address, clears_every_end, without_address, with_other_header, with_this_header, WhatBecomesOfPackets}
use Rattle.wire.specs.Packets.{is_packet}
use Rattle.rules.proofs.Ruled.{met}

-- a rule by its number
first_rule : (r : Rule) → rule_number r ≤ 1 → r ≡ TakenOff
first_rule TakenOff l = refl
first_rule (AddressSet w) l = absurd (omega arith)
first_rule ClearedForAll l = absurd (omega arith)
first_rule SentOn l = absurd (omega arith)
first_rule Cleared l = absurd (omega arith)
first_rule (Cancelled y) l = absurd (omega arith)
first_rule Requested l = absurd (omega arith)

fourth_rule : (r : Rule) → rule_number r ≡ 4 → r ≡ SentOn
fourth_rule TakenOff e = absurd (omega arith)
fourth_rule (AddressSet w) e = absurd (omega arith)
fourth_rule ClearedForAll e = absurd (omega arith)
fourth_rule SentOn e = refl
fourth_rule Cleared e = absurd (omega arith)
fourth_rule (Cancelled y) e = absurd (omega arith)
fourth_rule Requested e = absurd (omega arith)

module _ (a : ℕ) (p : List ℕ) where
  -- the rule that fits, where others do not
  but_fourth : {n : ℕ} → RuleFits a p n → (RuleFits a p 1 → ⊥) → (RuleFits a p 2 → ⊥) → (RuleFits a p 3 → ⊥) → (RuleFits a p 5 → ⊥) → n ≡ 4
  but_fourth (from_this_end l e) f₁ f₂ f₃ f₅ = absurd (f₁ (from_this_end l e))
  but_fourth (sets_an_address w l m e) f₁ f₂ f₃ f₅ = absurd (f₂ (sets_an_address w l m e))
  but_fourth (clears_every_end e) f₁ f₂ f₃ f₅ = absurd (f₃ (clears_every_end e))
  but_fourth (without_address e) f₁ f₂ f₃ f₅ = refl
  but_fourth (with_other_header e) f₁ f₂ f₃ f₅ = refl
  but_fourth (with_this_header l e) f₁ f₂ f₃ f₅ = absurd (f₅ (with_this_header l e))

  sent_on : (RuleFits a p 1 → ⊥) → (RuleFits a p 2 → ⊥) → (RuleFits a p 3 → ⊥) → (RuleFits a p 5 → ⊥) → rule_of a p ≡ SentOn
  sent_on f₁ f₂ f₃ f₅ = let m = met a p in fourth_rule (rule_of a p) (but_fourth m.fits f₁ f₂ f₃ f₅)

  pub but_fifth : {n : ℕ} → RuleFits a p n → (RuleFits a p 1 → ⊥) → (RuleFits a p 2 → ⊥) → (RuleFits a p 3 → ⊥) → (RuleFits a p 4 → ⊥) → n ≡ 5
  but_fifth (from_this_end l e) f₁ f₂ f₃ f₄ = absurd (f₁ (from_this_end l e))
  but_fifth (sets_an_address w l m e) f₁ f₂ f₃ f₄ = absurd (f₂ (sets_an_address w l m e))
  but_fifth (clears_every_end e) f₁ f₂ f₃ f₄ = absurd (f₃ (clears_every_end e))
  but_fifth (without_address e) f₁ f₂ f₃ f₄ = absurd (f₄ (without_address e))
  but_fifth (with_other_header e) f₁ f₂ f₃ f₄ = absurd (f₄ (with_other_header e))
  but_fifth (with_this_header l e) f₁ f₂ f₃ f₄ = refl

  -- what each rule says of the header
  pub own : RuleFits a p 1 → (1 ≤ a) × (sender p ≡ a)
  own (from_this_end l e) = (l, e)

  pub second : RuleFits a p 2 → header p ≡ 0x88
  second (sets_an_address w l m e) = ap (λ (q : List ℕ). get_or q 0 0) e

  pub third : RuleFits a p 3 → header p ≡ 0x88
  third (clears_every_end e) = ap (λ (q : List ℕ). get_or q 0 0) e

  fifth : RuleFits a p 5 → (1 ≤ a) × (header p ≡ 0x80 + a)
  fifth (with_this_header l e) = (l, e)

  pub fourth : RuleFits a p 4 → 1 ≤ a → header p ≢ 0x80 + a
  fourth (without_address e) l = absurd (omega arith)
  fourth (with_other_header e) l = e

  -- who speaks, and to whom, with the two headers that count
  pub for_all : header p ≡ 0x88 → (sender p ≡ 0) × (is_broadcast p ≡ true)
  for_all e = (rw e refl, rw e refl)

  mark : is_broadcast p ≡ false → header p / 8 % 2 ≡ 0
  mark f = let n = eqb-false (header p / 8 % 2) 1 f in omega (arith, n)

  marked : is_broadcast p ≡ true → header p / 8 % 2 ≡ 1
  marked t = eqb-true (header p / 8 % 2) 1 t

  pub for_one : a ≤ 7 → header p ≡ 0x80 + a → (sender p ≡ 0) × (header p / 8 % 2 ≡ 0) × (receiver p ≡ a)
  for_one l e = (omega arith, omega arith, omega arith)

  header_is : 0x80 ≤ header p → header p ≤ 0xff → sender p ≡ 0 → header p / 8 % 2 ≡ 0 → receiver p ≡ a → header p ≡ 0x80 + a
  header_is l m s b r = omega arith

begins : (p : List ℕ) → is_packet p ≡ true → (0x80 ≤ header p) × (header p ≤ 0xff)
begins [] h = absurd cc
begins (h ∷ bs) e =
    let low : 0x80 ≤ h = grind (arith, common_steps) in
    let high : h ≤ 0xff = grind (arith, common_steps) in
    (low, high)

pub what_becomes_of_packets : WhatBecomesOfPackets
what_becomes_of_packets a p l whole = record {
  from_this_end = λ m e. let f = met a p in first_rule (rule_of a p) (f.first 1 (from_this_end m e));
  from_another = λ s z. sent_on a p
      (λ f. let q = own a p f in s q.1)
      (λ f. let q = for_all a p (second a p f) in z q.0)
      (λ f. let q = for_all a p (third a p f) in z q.0)
      (λ f. let q = fifth a p f in let r = for_one a p l q.1 in z r.0);
  for_another = λ s b r. sent_on a p
      (λ f. let q = own a p f in s q.1)
      (λ f. let q = for_all a p (second a p f) in absurd cc)
      (λ f. let q = for_all a p (third a p f) in absurd cc)
      (λ f. let q = fifth a p f in let t = for_one a p l q.1 in r t.2);
  with_no_address = λ z n. sent_on a p
      (λ f. let q = own a p f in absurd (omega arith))
      n.0
      n.1
      (λ f. let q = fifth a p f in absurd (omega arith));
  other_broadcast = λ s b n. sent_on a p
      (λ f. let q = own a p f in s q.1)
      n.0
      n.1
      (λ f. let q = fifth a p f in let t = for_one a p l q.1 in let k = marked a p b in absurd (omega arith));
  for_this_end = λ m s b r.
      let f = met a p in
      let g = begins p whole in
      let k = header_is a p g.0 g.1 s (mark a p b) r in
      but_fifth a p f.fits
      (λ f. let q = own a p f in absurd (omega arith))
      (λ f. let q = for_all a p (second a p f) in absurd cc)
      (λ f. let q = for_all a p (third a p f) in absurd cc)
      (λ f. fourth a p f m k);
}
