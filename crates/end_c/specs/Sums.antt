-- What is summed of calls.
use Rattle.std.specs.Prelude.{ℕ, ◌+◌, ◌*◌, ◌%◌, ◌^◌, List, [], ◌∷◌, slice_index}
use Rattle.end.specs.Faults.{Answer, counts, faults, opens}
use Rattle.end.specs.Records.{Record}
use Rattle.wire.specs.Line.{over}
use Rattle.end_c.specs.Logs.{bit}

-- the count of bytes sent; or whether socket 1 is open
abbrev pub told : Answer → ℕ
told (counts n) = n
told (faults code n) = n
told (opens one two) = bit one

-- the buffer of 16 bytes that was lent to each of these calls; the newest stands first
abbrev pub buffer_after : List Record → List ℕ
buffer_after [] = 0 ∷ 0 ∷ 0 ∷ 0 ∷ 0 ∷ 0 ∷ 0 ∷ 0 ∷ 0 ∷ 0 ∷ 0 ∷ 0 ∷ 0 ∷ 0 ∷ 0 ∷ 0 ∷ []
buffer_after (r ∷ h) = over r.fed.sent (buffer_after h)

-- in 64 bits
abbrev pub sum_of : List Record → ℕ
sum_of [] = 0
sum_of (r ∷ h) = (sum_of h * 31 + told r.answer + slice_index (buffer_after (r ∷ h)) 1) % 2 ^ 64
