-- Numbers as packets have them: digits of four bits, one to a byte, highest first.
use Rattle.std.specs.Prelude.{ℕ, ◌+◌, ◌-◌, ◌*◌, ◌/◌, ◌%◌, if◌then◌else◌, ◌&&◌, List, [], ◌∷◌, ℤ, pos, negsuc, Some, None, Option, ◌==◌, nat_lt, slice_index}

-- the number of 0p
abbrev pub from_digit : ℕ → Option ℕ
from_digit p = if nat_lt p 16 then Some p else None

-- the number of 00 00 0p 0q
abbrev pub from_level : List ℕ → Option ℕ
from_level ds =
    let p = slice_index ds 2 in
    let q = slice_index ds 3 in
    if slice_index ds 0 == 0 && slice_index ds 1 == 0 && nat_lt p 16 && nat_lt q 16 then Some (p * 16 + q) else None

-- the number of 0p 0q 0r 0s
abbrev pub from_digits : List ℕ → Option ℕ
from_digits ds =
    let p = slice_index ds 0 in
    let q = slice_index ds 1 in
    let r = slice_index ds 2 in
    let s = slice_index ds 3 in
    if nat_lt p 16 && nat_lt q 16 && nat_lt r 16 && nat_lt s 16 then Some (p * 4096 + q * 256 + r * 16 + s) else None

-- sixteen bits in two's complement
abbrev pub signed : ℕ → ℤ
signed n = if nat_lt n 0x8000 then pos n else negsuc (0xffff - n)

-- the lowest sixteen bits of a value in two's complement
abbrev pub bits : ℤ → ℕ
bits (pos n) = n % 0x10000
bits (negsuc n) = 0xffff - n % 0x10000

abbrev pub digits : ℕ → List ℕ
digits n = n / 4096 ∷ n / 256 % 16 ∷ n / 16 % 16 ∷ n % 16 ∷ []
