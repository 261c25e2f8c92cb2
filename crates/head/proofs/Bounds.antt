-- What being in range says of a value.
use Rattle.std.proofs.Common.{◌≡◌, Bool, true, ◌&&◌, ℤ, pos, negsuc, ◌≤ℤ◌, refl, arith}
use lib.Signed.{le_z}
use Rattle.std.proofs.lemmas.Int.{ints}
use Rattle.std.proofs.lemmas.Bool.{and_parts}
use Rattle.std.proofs.lemmas.Bool.Decides.{nat_tests}
use Rattle.head.specs.declared.setting.Axis.{Axis}
use Rattle.head.specs.declared.setting.Range.{Range}
use Rattle.head.specs.declared.setting.Range.TheVariants.{Switch, WhiteBalance, Exposure, Span}
use Rattle.head.specs.declared.setting.Setting.{Setting}
use Rattle.head.specs.Settings.{about, within, in_range, position}
use Rattle.head.specs.declared.settings.Settings.{Settings}
use Rattle.head.specs.Meaning.{Between}
use Rattle.head.specs.Values.{value_of}
use Rattle.head.proofs.Tables.{each}

-- the bounds of every value of every setting
pub record Small (v : ℤ) : Type 0 where
  pub low : negsuc 5119 ≤ℤ v
  pub high : v ≤ℤ pos 65535

-- a span within the bounds of small values; a list of values passes
abbrev narrow : Range → Bool
narrow Switch = true
narrow WhiteBalance = true
narrow Exposure = true
narrow (Span low high) = le_z (negsuc 5119) low && le_z high (pos 65535)

small_within : (r : Range) (v : ℤ) → narrow r ≡ true → within r v ≡ true → Small v
small_within Switch v s h = grind (arith, nat_tests, ints)
small_within WhiteBalance v s h = grind (arith, nat_tests, ints)
small_within Exposure v s h = grind (arith, nat_tests, ints)
small_within (Span low high) v s h =
    let (p, q) = and_parts (le_z (negsuc 5119) low) (le_z high (pos 65535)) s in
    let (l, r) = and_parts (le_z low v) (le_z v high) h in
    record { low = omega (arith, ints); high = omega (arith, ints) }

-- every value in range is small
pub small : (s : Setting) (v : ℤ) → in_range s v ≡ true → Small v
unfolding in_range
small s v h = small_within (about s).range v (each (λ z. narrow (about z).range) refl s) h

-- and so is what the settings of a head hold
pub settings_small : (x : Settings) (s : Setting) → Small (value_of x s)
settings_small x s = small s (value_of x s) (x.ranged s)

-- a position that lies between two values in range is in range
pub between_in_range : (a : Axis) (v w t : ℤ) → in_range (position a) v ≡ true → in_range (position a) t ≡ true → Between v w t → in_range (position a) w ≡ true
unfolding in_range
between_in_range a v w t h g b = grind (arith, ints)
