-- Where drives take positions.
use Rattle.std.proofs.Common.{◌≡◌, true, ◌&&◌, ℤ, pos, negsuc, ◌≤ℤ◌, arith}
use lib.Signed.{le_z}
use Rattle.std.proofs.lemmas.Int.{ints}
use Rattle.std.proofs.lemmas.Bool.{and_parts}
use Rattle.head.specs.declared.setting.Axis.{Axis}
use Rattle.head.specs.declared.setting.Axis.TheVariants.{Zoom, Focus, Pan, Tilt}
use Rattle.head.specs.Settings.{in_range, drive}

-- the bounds of every value of every drive
pub record Gentle (d : ℤ) : Type 0 where
  pub low : negsuc 23 ≤ℤ d
  pub high : d ≤ℤ pos 24

bounded : (low high d : ℤ) → negsuc 23 ≤ℤ low → high ≤ℤ pos 24 → (le_z low d && le_z d high) ≡ true → Gentle d
bounded low high d l h e =
    let (p, q) = and_parts (le_z low d) (le_z d high) e in
    record { low = omega (arith, ints); high = omega (arith, ints) }

-- every drive in range is gentle
pub gentle : (a : Axis) (d : ℤ) → in_range (drive a) d ≡ true → Gentle d
unfolding in_range
gentle Zoom d h = bounded (negsuc 7) (pos 8) d (omega (arith, ints)) (omega (arith, ints)) h
gentle Focus d h = bounded (negsuc 7) (pos 8) d (omega (arith, ints)) (omega (arith, ints)) h
gentle Pan d h = bounded (negsuc 23) (pos 24) d (omega (arith, ints)) (omega (arith, ints)) h
gentle Tilt d h = bounded (negsuc 19) (pos 20) d (omega (arith, ints)) (omega (arith, ints)) h
