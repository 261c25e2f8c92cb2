-- Framing: what each byte makes of what stands before it.
use Rattle.std.specs.Prelude.{ℕ, if◌then◌else◌, List, [], ◌∷◌, ◌++◌, length, Some, None, Ok, Err, Option, Result, ◌==◌}
use Rattle.fault.specs.Faults.{fault_code}
use Rattle.fault.specs.declared.code.FaultCode.{FaultCode}
use Rattle.fault.specs.declared.code.Layer.TheVariants.{Framing}
use Rattle.wire.specs.declared.faults.FramingFault.{FramingFault}
use Rattle.wire.specs.declared.faults.FramingFault.TheVariants.{NoHeader, NoBody, Overlong}
use Rattle.wire.specs.declared.packet.Packet.{Packet}
use Rattle.wire.specs.Packets.{is_header}

-- between bytes: no packet begun, the bytes of one begun, or the rest being skipped
pub data Held : Type 0 where
  none : Held
  begun : List ℕ → Held
  skipping : Held

-- what a byte makes of it
abbrev pub held_after : Held → ℕ → Held
held_after none b = if is_header b then begun (b ∷ []) else none
held_after (begun bs) b =
    if b == 0xff then none
    else (if length bs == 15 then skipping else begun (bs ++ b ∷ []))
held_after skipping b = if b == 0xff then none else skipping

-- what a byte tells: nothing, a whole packet, or a fault
abbrev pub Event : Type 0
Event = Result (Option (List ℕ)) FramingFault

abbrev pub event : Held → ℕ → Event
event none b = if is_header b then Ok None else Err NoHeader
event (begun bs) b =
    if b == 0xff
    then (if length bs == 1 then Err NoBody else Ok (Some (bs ++ b ∷ [])))
    else (if length bs == 15 then Err Overlong else Ok None)
event skipping b = Ok None

-- each fault's number, layer and place
abbrev pub framing_code : FramingFault → FaultCode
framing_code NoHeader = fault_code 2 Framing 0
framing_code NoBody = fault_code 3 Framing 1
framing_code Overlong = fault_code 4 Framing 15

-- Packets, as the definitions above speak of them.

abbrev pub bytes_of : Packet → List ℕ
bytes_of p = p.bytes

abbrev pub event_told : Result (Option Packet) FramingFault → Event
event_told (Ok None) = Ok None
event_told (Ok (Some p)) = Ok (Some (bytes_of p))
event_told (Err e) = Err e
