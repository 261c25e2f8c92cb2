-- Calls and heads as numbers.
use Rattle.std.specs.Prelude.{ℕ, ◌-◌, ◌/◌, ◌%◌, Bool, if◌then◌else◌, [], ◌∷◌, nat_lt, ◌==◌}
use Rattle.end.specs.declared.call.Call.{Call}
use Rattle.end.specs.declared.call.Call.TheVariants.{Byte, Tick, Open}
use Rattle.end.specs.Records.{room_for}
use Rattle.head.specs.Cases.{first_case}
use Rattle.heads.specs.declared.any.HeadKind.{HeadKind}
use Rattle.heads.specs.declared.any.HeadKind.TheVariants.{Block, Dome, StalledDome}
use Rattle.end_c.specs.declared.asked.Asked.{Asked}

abbrev called : ℕ → Call
called n = first_case ((nat_lt n 256, Byte n) ∷ (n == 256, Tick) ∷ []) Open

-- the low nine bits are a byte, a tick or the question which sockets are open
abbrev pub call_of : ℕ → Call
call_of n = called (n % 512)

-- the bits above tell how many bytes the buffer is short of 16
abbrev pub room_of : ℕ → ℕ
room_of n = 16 - n / 512

-- a call that is lent n bytes, if it needs a buffer
abbrev pub with_room : Call → ℕ → Asked
with_room c n = record { call = c; room = room_for c n }

-- what a number asks `r3_log` for; and `r3_time`, whose buffer is never short
abbrev pub asked_of : ℕ → Asked
asked_of n = with_room (call_of n) (room_of n)

abbrev pub asked_in_full : ℕ → Asked
asked_in_full n = with_room (call_of n) 16

-- the head that a number stands for
abbrev pub kind_numbered : ℕ → HeadKind
kind_numbered n = first_case ((n == 0, Block) ∷ (n == 1, Dome) ∷ []) StalledDome

-- a dome that is stalled or not
abbrev pub dome_kind : Bool → HeadKind
dome_kind stalled = if stalled then StalledDome else Dome
