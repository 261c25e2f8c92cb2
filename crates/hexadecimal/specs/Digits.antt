-- A byte of two hexadecimal digits.
use Rattle.std.specs.Prelude.{ℕ, ◌+◌, ◌-◌, ◌*◌, if◌then◌else◌, ◌&&◌, List, [], ◌∷◌, Some, None, Option, nat_le}
use Rattle.std.specs.Option.{option_or}

-- a character from low to high, of which the first is worth so much
abbrev pub digit_among : ℕ → ℕ → ℕ → ℕ → Option ℕ
digit_among low high worth c = if nat_le low c && nat_le c high then Some (worth + (c - low)) else None

-- 0 to 9, A to F, a to f, by their codes
abbrev pub digit_of : ℕ → Option ℕ
digit_of c = option_or (digit_among 48 57 0 c) (option_or (digit_among 65 70 10 c) (digit_among 97 102 10 c))

abbrev pub two_digits : Option ℕ → Option ℕ → Option ℕ
two_digits (Some h) (Some l) = Some (h * 16 + l)
two_digits (Some h) None = None
two_digits None l = None

abbrev pub byte_of : List ℕ → Option ℕ
byte_of (high ∷ low ∷ []) = two_digits (digit_of high) (digit_of low)
byte_of word = None
