-- What the dice show.
use Rattle.std.specs.Prelude.{ℕ, ◌+◌, ◌*◌, ◌/◌, ◌%◌, ◌^◌, max}

-- the number that comes after x
abbrev pub stirred : ℕ → ℕ
stirred x = (x * 1664525 + 1013904223) % 2 ^ 32

-- which of so many sides the number x shows
abbrev pub face : ℕ → ℕ → ℕ
face x sides = x / 2 ^ 8 % max 1 sides
