-- The ways that positions go.
use Rattle.std.proofs.Common.{◌≡◌, ℕ, ◌≤◌, true, false, ◌&&◌, ℤ, pos, ◌+ℤ◌, ◌-ℤ◌, ◌≤ℤ◌, inl, inr, arith, w32, SFits, to_z, of_z}
use lib.Signed.{le_z}
use Rattle.std.proofs.lemmas.Int.{ints}
use Rattle.std.proofs.lemmas.Bool.{and_parts}
use Rattle.std.specs.Int.{saturate_signed}
use Rattle.std.specs.Int.RustNames.{unsigned_abs}
use Rattle.head.specs.declared.setting.Axis.{Axis}
use Rattle.head.specs.declared.setting.Range.TheVariants.{Span}
use Rattle.head.specs.Settings.{about, in_range, position}
use Rattle.head.specs.Meaning.{Between, Driven}
use Rattle.head.proofs.Bounds.{small}

-- so many units up, at most as many as the target is away
pub up : (v t r : ℤ) (d n : ℕ) → SFits w32 v → SFits w32 t → le_z v t ≡ true → n ≤ d → d ≡ unsigned_abs (v -ℤ t) → r ≡ saturate_signed w32 (v +ℤ pos n)
    → Between v (to_z w32 (of_z w32 r)) t
up v t r d n f g h k e s = inl (grind (arith, ints), grind (arith, ints))

pub down : (v t r : ℤ) (d n : ℕ) → SFits w32 v → SFits w32 t → le_z v t ≡ false → n ≤ d → d ≡ unsigned_abs (v -ℤ t) → r ≡ saturate_signed w32 (v -ℤ pos n)
    → Between v (to_z w32 (of_z w32 r)) t
down v t r d n f g h k e s = inr (grind (arith, ints), grind (arith, ints))

-- what is in the span of a position is in range
pub spanned : (a : Axis) (low high w : ℤ) → (about (position a)).range ≡ Span low high → low ≤ℤ w → w ≤ℤ high → in_range (position a) w ≡ true
unfolding in_range
spanned a low high w e h g = simp e (grind (arith, ints))

-- the ends of a span that has a value; they are small enough for the code
pub record Ends (low high v : ℤ) : Type 0 where
  pub above : low ≤ℤ v
  pub under : v ≤ℤ high
  pub lowest : to_z w32 (of_z w32 low) ≡ low
  pub highest : to_z w32 (of_z w32 high) ≡ high

ends_of : (a : Axis) (low high v : ℤ) → (about (position a)).range ≡ Span low high → low ≤ℤ v → v ≤ℤ high → Ends low high v
ends_of a low high v e above under =
    let l = small (position a) low (spanned a low high low e (omega (arith, ints)) (omega (arith, ints))) in
    let h = small (position a) high (spanned a low high high e (omega (arith, ints)) (omega (arith, ints))) in
    record { above = above; under = under; lowest = omega (arith, ints); highest = omega (arith, ints) }

pub ends : (a : Axis) (low high v : ℤ) → (about (position a)).range ≡ Span low high → in_range (position a) v ≡ true → Ends low high v
unfolding in_range
ends a low high v e r =
    let k : (le_z low v && le_z v high) ≡ true = simp e at r in
    let (p, q) = and_parts (le_z low v) (le_z v high) k in
    ends_of a low high v e (omega (arith, ints)) (omega (arith, ints))

-- part of the way that a drive goes is one that it may go
pub driven_part : (d v w end : ℤ) → Driven d v end → Between v w end → Driven d v w
driven_part d v w end far b =
    elim b [
      | inl (x, y) ↦ record {
        rises = λ p. x;
        falls = λ p. let f = far.falls p in omega (arith, ints);
        stands = λ p. let f = far.stands p in omega (arith, ints);
      }
      | inr (x, y) ↦ record {
        rises = λ p. let f = far.rises p in omega (arith, ints);
        falls = λ p. y;
        stands = λ p. let f = far.stands p in omega (arith, ints);
      }
    ]
