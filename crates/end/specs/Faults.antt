-- What a call answers: a count of bytes sent; a fault by number, layer and place, with the count sent; or which sockets are open.
use Rattle.std.specs.Prelude.{ℕ, Bool, Ok, Err, Result}
use Rattle.end.specs.declared.faults.Cause.{Cause}
use Rattle.end.specs.declared.faults.Cause.TheVariants.{ShortBuffer, Framing, Packet}
use Rattle.end.specs.declared.faults.Fault.{Fault}
use Rattle.rows.specs.declared.faults.PacketFault.{PacketFault}
use Rattle.rows.specs.Requests as packets
use Rattle.fault.specs.declared.code.FaultCode.{FaultCode}
use Rattle.wire.specs.declared.framer.FramingFault.{FramingFault}
use Rattle.fault.specs.declared.code.Layer.TheVariants as layer
use Rattle.fault.specs.Faults.{fault_code}
use Rattle.wire.specs.Framing as framing

abbrev pub cause_code : Cause → FaultCode
cause_code ShortBuffer = fault_code 1 layer.Call 0
cause_code (Framing f) = framing.framing_code f
cause_code (Packet f) = packets.packet_code f

-- a fault of framing comes with no reply
abbrev pub without_reply : FramingFault → Fault
without_reply f = record { cause = Framing f; sent = 0 }

-- a packet that the rows do not read is answered, by an error of four bytes
abbrev pub with_reply : PacketFault → Fault
with_reply f = record { cause = Packet f; sent = 4 }

-- what a call with a short buffer answers
abbrev pub refused : Fault
refused = record { cause = ShortBuffer; sent = 0 }

pub data Answer : Type 0 where
  counts : ℕ → Answer
  faults : FaultCode → ℕ → Answer
  -- whether sockets 1 and 2 are open
  opens : Bool → Bool → Answer

abbrev pub answered : Result ℕ Fault → Answer
answered (Ok n) = counts n
answered (Err f) = faults (cause_code f.cause) f.sent

-- the count that an answer tells
abbrev pub count_told : Result ℕ Fault → ℕ
count_told (Ok n) = n
count_told (Err f) = f.sent
