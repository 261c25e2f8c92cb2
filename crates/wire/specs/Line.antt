-- Sending: bytes in a lent buffer. One that is too short for them gets none, and is left as it is.
use Rattle.std.specs.Prelude.{ℕ, ◌+◌, if◌then◌else◌, List, ◌++◌, length, take, drop, Some, None, Option, nat_le}

-- the sent bytes in front, and every byte past them as it was
abbrev pub over : List ℕ → List ℕ → List ℕ
over sent out = sent ++ drop (length sent) out

-- the sent bytes from a place on, and every byte before and past them as it was
abbrev pub over_at : ℕ → List ℕ → List ℕ → List ℕ
over_at at sent out = take at out ++ (sent ++ drop (at + length sent) out)

-- the same, if there is room, and how many bytes are in front then
abbrev pub over_if_room : List ℕ → List ℕ → List ℕ
over_if_room sent out = if nat_le (length sent) (length out) then over sent out else out

abbrev pub count_if_room : List ℕ → List ℕ → Option ℕ
count_if_room sent out = if nat_le (length sent) (length out) then Some (length sent) else None

-- the same from a place on, and the place behind them
abbrev pub over_at_if_room : ℕ → List ℕ → List ℕ → List ℕ
over_at_if_room at sent out = if nat_le (at + length sent) (length out) then over_at at sent out else out

abbrev pub next_if_room : ℕ → List ℕ → List ℕ → Option ℕ
next_if_room at sent out = if nat_le (at + length sent) (length out) then Some (at + length sent) else None
