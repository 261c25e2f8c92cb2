-- Up to 16 bytes kept in a room of 16, with 0 in the rest of the room.
use Rattle.std.specs.Prelude.{◌≡◌, ℕ, ◌-◌, ◌≤◌, if◌then◌else◌, List, ◌++◌, length, take, replicate, Ok, Err, Result, nat_le}
use Rattle.wire.specs.declared.bytes.Full.{Full}

-- the room that bytes stand in
abbrev pub padded : List ℕ → List ℕ
padded bs = bs ++ replicate (16 - length bs) 0

-- n bytes stand in the room, and nothing else
pub record Padded (n : ℕ) (room : List ℕ) : Type 0 where
  pub most : n ≤ 16
  pub count : length (take n room) ≡ n
  pub rest : padded (take n room) ≡ room

-- bytes, if there is room for them
abbrev pub if_room : List ℕ → Result (List ℕ) Full
if_room bs = if nat_le (length bs) 16 then Ok bs else Err (record {})
