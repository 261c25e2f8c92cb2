-- One setting over a tick.
use Rattle.std.proofs.Common.{◌≡◌, ℕ, ◌+◌, ◌<◌, Bool, true, false, cond, ◌&&◌, ℤ, is_some, Some, None, Option, sym, refl, ◌∙◌, subst, ⊎_elim, arith}
use Rattle.std.proofs.lemmas.Bool.{cases_Bool, eqb-false}
use Rattle.std.specs.Option.{option_or, unwrap_or}
use Rattle.head.specs.declared.outcome.Ending.{Ending}
use Rattle.head.specs.declared.outcome.Ending.TheVariants.{Done, Jammed}
use Rattle.head.specs.declared.outcome.Endings.{Endings}
use Rattle.head.specs.declared.setting.Axis.{Axis}
use Rattle.head.specs.declared.setting.Setting.{Setting}
use Rattle.head.specs.Settings.{about, number, same, in_range, position, drive}
use Rattle.head.specs.Meaning.{Meaning, Between, Pulled, Driven, wanted}
use Rattle.head.proofs.Apart.{other_none}
use Rattle.head.proofs.Bounds.{between_in_range}
use Rattle.head.proofs.Options.{no_some, some_out}
use Rattle.head.proofs.Tables.{position_is, same_is}
use Rattle.wild.specs.Wilds.{Leads, Alone, Goes}
use Rattle.wild.proofs.Ways.{driven_part}

between_ranged : (s : Setting) (a : Axis) (v t y : ℤ) → (about s).axis ≡ Some a → in_range s v ≡ true → in_range s t ≡ true → Between v y t → in_range s y ≡ true
between_ranged s a v t y i h g b =
    let p = position_is s a i in
    subst (λ (z : Setting). in_range z y ≡ true) p
    (between_in_range a v y t (subst (λ (z : Setting). in_range z v ≡ true) (sym p) h) (subst (λ (z : Setting). in_range z t ≡ true) (sym p) g) b)

-- a position that goes part of the way to where its drive may take it
pub alone_driven : (f : Setting → ℤ) (s : Setting) (a : Axis) (end w : ℤ) → (about s).axis ≡ Some a → in_range s (f s) ≡ true
    → Driven (f (drive a)) (f (position a)) end → in_range (position a) end ≡ true → Between (f s) w end → Alone f s w
alone_driven f s a end w i h far g b =
    let p = position_is s a i in
    let far' = subst (λ (z : Setting). Driven (f (drive a)) (f z) end) p far in
    record {
      ranged = between_ranged s a (f s) end w i h (subst (λ (z : Setting). in_range z end ≡ true) p g) b;
      driven = λ k j. subst (λ (z : Axis). Driven (f (drive z)) (f s) w) (some_out (sym i ∙ j)) (driven_part (f (drive a)) (f s) w end far' b);
      stands = λ j. no_some (sym j ∙ i);
    }

-- what goes as an order has it stays in range
pulled_ranged : (s : Setting) (x : Option Axis) (e : Option Ending) (v t y : ℤ) → (about s).axis ≡ x → in_range s v ≡ true → in_range s t ≡ true → Pulled x e v t y → in_range s y ≡ true
pulled_ranged s (Some a) None v t y i h g p = between_ranged s a v t y i h g p
pulled_ranged s (Some a) (Some Done) v t y i h g p = rw p g
pulled_ranged s (Some a) (Some Jammed) v t y i h g p = between_ranged s a v t y i h g p
pulled_ranged s None None v t y i h g p = rw p h
pulled_ranged s None (Some Done) v t y i h g p = rw p g
pulled_ranged s None (Some Jammed) v t y i h g p = rw p h

-- where an order that wants w leads to r, and d is where the setting goes else
led_ranged : (s : Setting) (w : Option ℤ) (e : Option Ending) (v d : ℤ) (r : Option ℤ) → ((t : ℤ) → w ≡ Some t → in_range s t ≡ true) → in_range s v ≡ true → in_range s d ≡ true
    → Leads w (about s).axis e v r → in_range s (unwrap_or r d) ≡ true
led_ranged s None e v d r g h k l = simp l k
led_ranged s (Some t) e v d None g h k l = absurd l
led_ranged s (Some t) e v d (Some y) g h k l = pulled_ranged s (about s).axis e v t y refl h (g t refl) l

led_named : (w : Option ℤ) (x : Option Axis) (e : Option Ending) (v t d : ℤ) (r : Option ℤ) → w ≡ Some t → Leads w x e v r → Pulled x e v t (unwrap_or r d)
led_named None x e v t d r i l = no_some i
led_named (Some u) x e v t d None i l = absurd l
led_named (Some u) x e v t d (Some y) i l = subst (λ (z : ℤ). Pulled x e v z y) (some_out i) l

led_not : (w : Option ℤ) (x : Option Axis) (e : Option Ending) (v d : ℤ) (r : Option ℤ) → w ≡ None → Leads w x e v r → unwrap_or r d ≡ d
led_not None x e v d r i l = simp l
led_not (Some u) x e v d r i l = cc

or_default : (r q : Option ℤ) (d : ℤ) → unwrap_or (option_or r q) d ≡ unwrap_or r (unwrap_or q d)
or_default None q d = refl
or_default (Some y) q d = refl

-- led by the one order or the other, or else alone
pub goes : (m : Meaning) (e : Endings) (s : Setting) (r q : Option ℤ) (d : ℤ) → in_range s (m.setting s) ≡ true
    → (is_some (wanted m.slots.one s) && is_some (wanted m.slots.two s)) ≡ false
    → ((t : ℤ) → wanted m.slots.one s ≡ Some t → in_range s t ≡ true) → ((t : ℤ) → wanted m.slots.two s ≡ Some t → in_range s t ≡ true)
    → Leads (wanted m.slots.one s) (about s).axis e.one (m.setting s) r → Leads (wanted m.slots.two s) (about s).axis e.two (m.setting s) q
    → Alone m.setting s d → Goes m e s (unwrap_or (option_or r q) d)
goes m e s r q d h apart g₁ g₂ l₁ l₂ alone =
    let x = (about s).axis in
    let v = m.setting s in
    let w₁ = wanted m.slots.one s in
    let w₂ = wanted m.slots.two s in
    let z = unwrap_or q d in
    subst (λ (y : ℤ). Goes m e s y) (sym (or_default r q d)) (record {
      ranged = led_ranged s w₁ e.one v z r g₁ h (led_ranged s w₂ e.two v d q g₂ h alone.ranged l₂) l₁;
      by_one = λ t k. led_named w₁ x e.one v t z r k l₁;
      by_two = λ t k. subst (λ (y : ℤ). Pulled x e.two v t y) (sym (led_not w₁ x e.one v z r (other_none w₁ w₂ t apart k) l₁)) (led_named w₂ x e.two v t d q k l₂);
      driven = λ a u i. subst (λ (y : ℤ). Driven (m.setting (drive a)) v y) (sym (led_not w₁ x e.one v z r u.by_one l₁ ∙ led_not w₂ x e.two v d q u.by_two l₂)) (alone.driven a i);
      stands = λ u i. led_not w₁ x e.one v z r u.by_one l₁ ∙ led_not w₂ x e.two v d q u.by_two l₂ ∙ alone.stands i;
    })

-- one setting more that a loop over the table has given a value as it may
pub passed_more : (P : Setting → ℤ → Type 0) (k : ℕ) (x : Setting) (taken : Bool) (w : ℤ) (old new : Setting → ℤ) → number x ≡ k → taken ≡ true → P x w
    → ((s : Setting) → new s ≡ cond (taken && same s x) w (old s)) → ((s : Setting) → number s < k → P s (old s))
    → (s : Setting) → number s < k + 1 → P s (new s)
passed_more P k x taken w old new e t here is past s h =
    ⊎_elim
    (λ (b : same s x ≡ true).
    let v : new s ≡ w = is s ∙ simp (t, b) in
    subst (λ (y : ℤ). P s y) (sym v) (subst (λ (z : Setting). P z w) (sym (same_is s x b)) here))
    (λ (b : same s x ≡ false).
    let v : new s ≡ old s = is s ∙ simp (t, b) in
    let n = eqb-false (number s) (number x) b in
    subst (λ (y : ℤ). P s y) (sym v) (past s (grind (arith, n))))
    (cases_Bool (same s x))
