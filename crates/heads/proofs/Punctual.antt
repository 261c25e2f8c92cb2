-- A dome that is not stalled keeps its orders in time.
use Rattle.std.proofs.Common.{◌≡◌, ℕ, ◌+◌, ◌-◌, ◌*◌, ◌/◌, ◌%◌, ◌<◌, ◌≤◌, min, Bool, true, false, eqb, ltb, ℤ, ◌-ℤ◌, nat_abs, Ok, Err, Result, OnOk, Some, None, Option, sym, refl, ap, ◌∙◌, ⊎_elim, le-add_right, mul-le-mul_right, mod-lt, add-mul, one-mul, arith}
use lib.Signed.{le_z}
use Rattle.std.proofs.lemmas.Nat.{div-add-mod'}
use Rattle.std.proofs.lemmas.Int.{ints, clamps}
use Rattle.std.proofs.lemmas.Bool.{and_from, leb-true, le-leb, ltb-false, cases_eq, cond_both}
use Rattle.head.specs.declared.order.Order.{Order}
use Rattle.head.specs.declared.outcome.Endings.{Endings}
use Rattle.head.specs.declared.outcome.Refusal.{Refusal}
use Rattle.head.specs.declared.setting.Axis.{Axis}
use Rattle.head.specs.declared.setting.Axis.TheVariants.{Zoom, Focus, Pan, Tilt}
use Rattle.head.specs.declared.setting.Setting.{Setting}
use Rattle.head.specs.Settings.{position}
use Rattle.head.specs.Orders.{parts, wants}
use Rattle.head.specs.Meaning.{Slot, idle, busy, put, Meaning, Timed, rest, reason_given, Apart, Started, Dropped}
use Rattle.heads.specs.Motion.{step, toward}
use Rattle.heads.specs.Exact.{rounded_up, ticks_on, longest, is_at, there, arrived, ending_told, TickedExactly}
use Rattle.heads.specs.declared.rig.Rig.{Rig}
use Rattle.heads.specs.Rigs.{rig_meaning}
use Rattle.heads.specs.declared.motion.Motion.TheVariants.{Stepwise}
use Rattle.heads.proofs.Axes.{each_of, all_of}
use Rattle.head.proofs.Held.{slot_timed, some_number}
use Rattle.heads.proofs.Lawful.{Moved, moved_one, moved_two}
use Rattle.heads.proofs.Spans.{moves}
use Rattle.heads.specs.Punctual.{in_time, punctual, OnTime, is_jammed}

-- One step.

one_less : (n d : ℕ) → 1 ≤ n → n * d ≡ (n - 1) * d + d
one_less n d h =
    let e : n ≡ (n - 1) + 1 = omega arith in
    ap (λ (k : ℕ). k * d) e ∙ add-mul (n - 1) 1 d ∙ ap (λ (k : ℕ). (n - 1) * d + k) (one-mul d)

-- the target is nearer by a step
nearer : (n d : ℕ) (v t : ℤ) → 1 ≤ n → nat_abs (v -ℤ t) ≤ n * d → nat_abs (toward d v t -ℤ t) ≤ (n - 1) * d
nearer n d v t h g = let e = one_less n d h in omega (arith, ints, clamps)

-- and reached by the last
reached : (d : ℕ) (v t : ℤ) → nat_abs (v -ℤ t) ≤ d → toward d v t ≡ t
reached d v t h = omega (arith, ints, clamps)

stays_in_time : (o : Order) (n : ℕ) (f f' : Setting → ℤ) (a : Axis) → 1 ≤ n → Moved Stepwise (busy o n) f f' → in_time o n f a ≡ true → in_time o (n - 1) f' a ≡ true
stays_in_time o n f f' a h g e = by (wants (parts o.targets) (position a)) refl
  where
    by : (w : Option ℤ) → wants (parts o.targets) (position a) ≡ w → in_time o (n - 1) f' a ≡ true
    by None i = simp i
    by (Some t) i =
        let d = step o.paces a in
        let k = leb-true (nat_abs (f (position a) -ℤ t)) (n * d) (simp i at e) in
        simp (i, g a t i) (le-leb (nat_abs (toward d (f (position a)) t -ℤ t)) ((n - 1) * d) (nearer n d (f (position a)) t h k))

is_at_self : (t : ℤ) → is_at t (Some t) ≡ true
is_at_self t = and_from (le_z t t) (le_z t t) (sym (omega (arith, ints))) (sym (omega (arith, ints)))

gets_there : (o : Order) (n : ℕ) (f f' : Setting → ℤ) (a : Axis) → n ≡ 1 → Moved Stepwise (busy o n) f f' → in_time o n f a ≡ true → there o f' a ≡ true
gets_there o n f f' a u g e = by (wants (parts o.targets) (position a)) refl
  where
    by : (w : Option ℤ) → wants (parts o.targets) (position a) ≡ w → there o f' a ≡ true
    by None i = simp i
    by (Some t) i =
        let d = step o.paces a in
        let k = leb-true (nat_abs (f (position a) -ℤ t)) (n * d) (simp i at e) in
        let r = reached d (f (position a)) t (omega (arith, k, ap (λ (x : ℕ). x * d) u, one-mul d)) in
        simp (i, g a t i ∙ r) (is_at_self t)

-- a tick leaves an order in time, and the last tick finds it arrived
pub tick_punctual : (b : Slot) (f f' : Setting → ℤ) → Timed b → Moved Stepwise b f f' → punctual b f ≡ true → (punctual (rest b) f' ≡ true) × (is_jammed (ending_told b f') ≡ false)
tick_punctual idle f f' t g h = (refl, refl)
tick_punctual (busy o n) f f' t g h = by (ltb 1 n) refl
  where
    by : (late : Bool) → ltb 1 n ≡ late → (punctual (rest (busy o n)) f' ≡ true) × (is_jammed (ending_told (busy o n) f') ≡ false)
    by true e = simp e (all_of (in_time o (n - 1) f') (λ a. stays_in_time o n f f' a t.0 g (each_of (in_time o n f) h a)), refl)
    by false e =
        let u : n ≡ 1 = omega (arith, t.0, ltb-false 1 n e) in
        let k : arrived o f' ≡ true = all_of (there o f') (λ a. gets_there o n f f' a u g (each_of (in_time o n f) h a)) in
        simp (e, k) (refl, refl)

-- The ticks that a dome chooses.

covers : (d n : ℕ) → 0 < n → d ≤ rounded_up d n * n
covers d n h =
    let e = div-add-mod' d n in
    let r : d % n < n = mod-lt d h in
    let s = add-mul (d / n) (min 1 (d % n)) n in
    ⊎_elim
    (λ (z : d % n ≡ 0). omega (arith, mul-le-mul_right n (le-add_right (d / n) (min 1 (d % n)))))
    (λ (z : d % n ≡ 0 → ⊥). let o : min 1 (d % n) ≡ 1 = omega arith in omega (arith, ap (λ (x : ℕ). x * n) o, one-mul n))
    (cases_eq (d % n) 0)

at_most_longest : (f : Setting → ℤ) (o : Order) (a : Axis) → ticks_on f o a ≤ longest f o
at_most_longest f o Zoom = omega arith
at_most_longest f o Focus = omega arith
at_most_longest f o Pan = omega arith
at_most_longest f o Tilt = omega arith

pub start_punctual : (f : Setting → ℤ) (o : Order) → punctual (busy o (longest f o)) f ≡ true
start_punctual f o = all_of (in_time o (longest f o) f) each
  where
    each : (a : Axis) → in_time o (longest f o) f a ≡ true
    each a = by (wants (parts o.targets) (position a)) refl
      where
        by : (w : Option ℤ) → wants (parts o.targets) (position a) ≡ w → in_time o (longest f o) f a ≡ true
        by None i = simp i
        by (Some t) i =
            let d = step o.paces a in
            let far = nat_abs (f (position a) -ℤ t) in
            let m : rounded_up far d ≤ longest f o = simp i at (at_most_longest f o a) in
            simp i (le-leb far (longest f o * d) (omega (arith, covers far d (moves o.paces a), mul-le-mul_right d m)))

-- what does not move stays in time
pub same_punctual : (b : Slot) (f f' : Setting → ℤ) → ((s : Setting) → f' s ≡ f s) → punctual b f ≡ true → punctual b f' ≡ true
same_punctual idle f f' h e = refl
same_punctual (busy o n) f f' h e = simp (h (position Zoom), h (position Focus), h (position Pan), h (position Tilt)) e

-- Both slots, over each call.

put_on_time : (m m' : Meaning) (y : ℕ) (b : Slot) → ((s : Setting) → m'.setting s ≡ m.setting s) → m'.slots ≡ put m.slots y b → punctual b m.setting ≡ true → OnTime m → OnTime m'
put_on_time m m' y b same e p h = record {
  one = same_punctual m'.slots.one m.setting m'.setting same (rw e (cond_both (eqb y 1) b m.slots.one (λ x. punctual x m.setting ≡ true) (λ _. p) (λ _. h.one)));
  two = same_punctual m'.slots.two m.setting m'.setting same (rw e (cond_both (eqb y 2) b m.slots.two (λ x. punctual x m.setting ≡ true) (λ _. p) (λ _. h.two)));
}

pub drop_keeps : (m m' : Meaning) (y : ℕ) → Dropped m y m' → OnTime m → OnTime m'
drop_keeps m m' y d h = put_on_time m m' y idle d.kept.setting d.now_idle refl h

pub start_keeps : (m m' : Meaning) (y : ℕ) (o : Order) (r : Result (Unit {0}) Refusal) → Started m y o (reason_given r) m'
    → OnOk r (m'.slots ≡ put m.slots y (busy o (longest m.setting o))) → OnTime m → OnTime m'
start_keeps m m' y o (Ok u) s t h = put_on_time m m' y (busy o (longest m.setting o)) s.kept.setting t (start_punctual m.setting o) h
start_keeps m m' y o (Err e) s t h =
    let i = s.refused (some_number e) in
    record {
      one = same_punctual m'.slots.one m.setting m'.setting s.kept.setting (rw i h.one);
      two = same_punctual m'.slots.two m.setting m'.setting s.kept.setting (rw i h.two);
    }

tick_keeps : (m m' : Meaning) (e : Endings) → Timed m.slots.one → Timed m.slots.two → Apart m.slots.one m.slots.two → TickedExactly Stepwise m e m' → OnTime m
    → OnTime m' × ((is_jammed e.one ≡ false) × (is_jammed e.two ≡ false))
tick_keeps m m' e t₁ t₂ apart ran h =
    let one = tick_punctual m.slots.one m.setting m'.setting t₁ (moved_one Stepwise m m' e apart ran.setting) h.one in
    let two = tick_punctual m.slots.two m.setting m'.setting t₂ (moved_two Stepwise m m' e apart ran.setting) h.two in
    (record { one = rw ran.one one.0; two = rw ran.two two.0 }, (rw ran.told_one one.1, rw ran.told_two two.1))

pub rig_keeps : (p : Bool) (r r' : Rig) (e : Endings) → TickedExactly Stepwise (rig_meaning p r) e (rig_meaning p r') → OnTime (rig_meaning p r)
    → OnTime (rig_meaning p r') × ((is_jammed e.one ≡ false) × (is_jammed e.two ≡ false))
rig_keeps p r r' e ran h = tick_keeps (rig_meaning p r) (rig_meaning p r') e (slot_timed r.works.one) (slot_timed r.works.two) r.works.apart ran h
