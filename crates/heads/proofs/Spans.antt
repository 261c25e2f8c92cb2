-- How far a position can be from its target, and how many ticks that takes.
use Rattle.std.proofs.Common.{◌≡◌, ℕ, ◌+◌, ◌*◌, ◌/◌, ◌%◌, ◌<◌, ◌≤◌, min, max, true, ◌&&◌, ℤ, pos, negsuc, ◌-ℤ◌, nat_abs, Some, None, Option, refl, ap, ⊎_elim, add-mul, mul-le-mul_left, arith}
use lib.Signed.{le_z}
use Rattle.std.proofs.lemmas.Nat.{div_below, div-add-mod'}
use Rattle.std.proofs.lemmas.Int.{ints}
use Rattle.std.proofs.lemmas.Bool.{and_parts, cases_eq}
use Rattle.head.specs.declared.order.Paces.{Paces}
use Rattle.head.specs.declared.setting.Axis.{Axis}
use Rattle.head.specs.declared.setting.Axis.TheVariants.{Zoom, Focus, Pan, Tilt}
use Rattle.head.specs.declared.order.Order.{Order}
use Rattle.head.specs.declared.settings.Settings.{Settings}
use Rattle.head.specs.Settings.{in_range, position}
use Rattle.head.specs.Orders.{parts, wants, all_in_range}
use Rattle.head.specs.Values.{value_of}
use Rattle.head.proofs.Wants.{wants_in_range}
use Rattle.heads.specs.declared.motion.Motion.{Motion}
use Rattle.heads.specs.declared.motion.Motion.TheVariants.{AtOnce, Stepwise, Stalled}
use Rattle.heads.specs.Exact.{rounded_up, ticks_on, ticks_of}
use Rattle.heads.specs.Motion.{unit, pace, step}

some_unit : (a : Axis) → 1 ≤ unit a
some_unit Zoom = omega arith
some_unit Focus = omega arith
some_unit Pan = omega arith
some_unit Tilt = omega arith

-- pace 0 counts as 1, so a step is at least a unit
pub at_least : (p : Paces) (a : Axis) → unit a ≤ step p a
at_least p a = let h : 1 ≤ max (pace p a) 1 = omega arith in omega (arith, mul-le-mul_left (unit a) h)

-- and never nothing
pub moves : (p : Paces) (a : Axis) → 0 < step p a
moves p a = omega (arith, at_least p a, some_unit a)

within_span : (low high v t : ℤ) (n : ℕ) → (le_z low v && le_z v high) ≡ true → (le_z low t && le_z t high) ≡ true → nat_abs (high -ℤ low) ≤ n → nat_abs (v -ℤ t) ≤ n
within_span low high v t n h g b =
    let (l, r) = and_parts (le_z low v) (le_z v high) h in
    let (l', r') = and_parts (le_z low t) (le_z t high) g in
    omega (arith, ints)

-- a position is at most 640 units of its axis from any target
near : (a : Axis) (v t : ℤ) → in_range (position a) v ≡ true → in_range (position a) t ≡ true → nat_abs (v -ℤ t) ≤ 640 * unit a
unfolding in_range
near Zoom v t h g = within_span (pos 0) (pos 16384) v t (640 * 128) h g (omega arith)
near Focus v t h g = within_span (pos 0) (pos 65535) v t (640 * 128) h g (omega arith)
near Pan v t h g = within_span (negsuc 5119) (pos 5120) v t (640 * 16) h g (omega arith)
near Tilt v t h g = within_span (negsuc 1279) (pos 1280) v t (640 * 16) h g (omega arith)

-- so far takes at most so many steps, rounded up
pub few_steps : (d n k : ℕ) → 0 < n → d ≤ k * n → d / n + min 1 (d % n) ≤ k
few_steps d n k h g =
    let b : d / n < k + 1 = div_below d n (k + 1) h (omega (arith, add-mul k 1 n)) in
    let e = div-add-mod' d n in
    ⊎_elim
    (λ (q : d / n ≡ k). let z : d % n ≡ 0 = omega (arith, ap (λ (x : ℕ). x * n) q) in omega arith)
    (λ (q : d / n ≡ k → ⊥). omega arith)
    (cases_eq (d / n) k)

-- no order of ours takes more than 640 ticks
few_ticks : (p : Paces) (a : Axis) (v t : ℤ) → in_range (position a) v ≡ true → in_range (position a) t ≡ true
    → rounded_up (nat_abs (v -ℤ t)) (step p a) ≤ 640
few_ticks p a v t h g =
    few_steps (nat_abs (v -ℤ t)) (step p a) 640 (moves p a) (omega (arith, near a v t h g, at_least p a))

few_on : (x : Settings) (o : Order) (a : Axis) → all_in_range (parts o.targets) ≡ true → ticks_on (value_of x) o a ≤ 640
few_on x o a h = by (wants (parts o.targets) (position a)) refl
  where
    by : (w : Option ℤ) → wants (parts o.targets) (position a) ≡ w → ticks_on (value_of x) o a ≤ 640
    by None e = simp e (omega arith)
    by (Some t) e = simp e (few_ticks o.paces a (value_of x (position a)) t (x.ranged (position a)) (wants_in_range (parts o.targets) (position a) t h e))

pub few_of : (m : Motion) (x : Settings) (o : Order) → all_in_range (parts o.targets) ≡ true → ticks_of m (value_of x) o ≤ 640
few_of m x o h =
    let z = few_on x o Zoom h in
    let f = few_on x o Focus h in
    let p = few_on x o Pan h in
    let t = few_on x o Tilt h in
    elim m as (λ (k : Motion). ticks_of k (value_of x) o ≤ 640) [ AtOnce ↦ omega arith | Stepwise ↦ omega arith | Stalled ↦ omega arith ]
