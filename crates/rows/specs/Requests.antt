-- The packet layer: what a body asks for.
use Rattle.std.specs.Prelude.{ℕ, if◌then◌else◌, List, [], ◌∷◌, Ok, Err, Some, None, Option, Result, ◌==◌}
use Rattle.head.specs.declared.order.Order.{Order}
use Rattle.rows.specs.declared.command.Command as says
use Rattle.rows.specs.declared.faults.PacketFault.{PacketFault}
use Rattle.rows.specs.declared.faults.PacketFault.TheVariants.{UnknownBody, Row}
use Rattle.rows.specs.declared.faults.RowFault.{RowFault}
use Rattle.rows.specs.declared.inquiry.Inquiry.{Inquiry}
use Rattle.rows.specs.declared.request.Request.{Request}
use Rattle.rows.specs.declared.request.Request.TheVariants.{Command, Ask}
use Rattle.rows.specs.Commands.{read_command}
use Rattle.rows.specs.Inquiries.{read_inquiry}
use Rattle.rows.specs.Orders.{order_of}
use Rattle.rows.specs.Search as rows
use Rattle.fault.specs.declared.code.FaultCode.{FaultCode}
use Rattle.fault.specs.declared.code.Layer.TheVariants as layer
use Rattle.fault.specs.Faults.{fault_code}
use Rattle.wire.specs.Packets.{body_of}

abbrev pub as_command : Result (ℕ × says.Command) RowFault → Result Request PacketFault
as_command (Ok p) = Ok (Command p.0 p.1)
as_command (Err e) = Err (Row e)

abbrev pub as_inquiry : Result (ℕ × Inquiry) RowFault → Result Request PacketFault
as_inquiry (Ok p) = Ok (Ask p.1)
as_inquiry (Err e) = Err (Row e)

abbrev pub read_body : List ℕ → Result Request PacketFault
read_body [] = Err UnknownBody
read_body (t ∷ rest) =
    if t == 0x01 then as_command (read_command rest)
    else (if t == 0x09 then as_inquiry (read_inquiry rest) else Err UnknownBody)

-- the order that is asked for, if any
abbrev pub order_asked : Result Request PacketFault → Option Order
order_asked (Ok (Command row c)) = Some (order_of c)
order_asked (Ok (Ask q)) = None
order_asked (Err f) = None

-- the order that a whole packet is read as, if any
abbrev pub read_as : List ℕ → Option Order
read_as p = order_asked (read_body (body_of p))

-- each fault's number, layer and place; a row's is passed on whole
abbrev pub packet_code : PacketFault → FaultCode
packet_code UnknownBody = fault_code 5 layer.Packet 1
packet_code (Row f) = rows.row_code f
