-- What the framer holds, and what it keeps true of that.
use Rattle.std.specs.Prelude.{Bool, true, ◌&&◌, length, nat_le}
use Rattle.wire.specs.declared.framer.State.{State}
use Rattle.wire.specs.declared.framer.State.TheVariants.{Idle, Begun, Skipping}
use Rattle.wire.specs.Framing.{Held, none, begun, skipping}
use Rattle.wire.specs.Packets.{is_begun}

abbrev pub held : State → Held
held Idle = none
held (Begun bs) = begun bs
held Skipping = skipping

-- of a packet that is begun, its header and at most 14 bytes more, none FF
abbrev pub sound : State → Bool
sound Idle = true
sound (Begun bs) = is_begun bs && nat_le (length bs) 15
sound Skipping = true
