-- What comes of a byte, by the end's address a, what its head means m, and its sockets k: a fault if any, the bytes sent,
-- the address then, and the deed.
use Rattle.std.specs.Prelude.{ℕ, ◌+◌, ◌*◌, if◌then◌else◌, not, List, [], ◌∷◌, ◌++◌, length, Some, None, Ok, Err, Option, Result}
use Rattle.end.specs.declared.faults.Cause.{Cause}
use Rattle.end.specs.declared.faults.Cause.TheVariants.{Framing, Packet}
use Rattle.end.specs.declared.socket.Sockets.{Sockets}
use Rattle.end.specs.Deeds.{Deed, nothing, clears, cancels, starts, displaces, ticks, other_socket}
use Rattle.end.specs.Faults.{Answer, counts, faults, cause_code}
use Rattle.end.specs.Sockets.{is_open, socket_at, finds_room, free, powering_in}
use Rattle.head.specs.declared.order.Order.{Order}
use Rattle.head.specs.declared.outcome.Ending.{Ending}
use Rattle.head.specs.declared.outcome.Endings.{Endings}
use Rattle.head.specs.Meaning.{Meaning, in_use}
use Rattle.rows.specs.declared.command.Command as says
use Rattle.rows.specs.declared.faults.PacketFault.{PacketFault}
use Rattle.rows.specs.declared.request.Request.{Request}
use Rattle.rows.specs.declared.request.Request.TheVariants.{Command, Ask}
use Rattle.rows.specs.Answers as inquiry
use Rattle.rows.specs.Orders.{order_of, subject}
use Rattle.rows.specs.Requests.{read_body}
use Rattle.rules.specs.declared.reply.Problem.TheVariants.{Syntax, BufferFull, Cancelled as CancelledCommand, NoSocket, NotExecutable}
use Rattle.rules.specs.declared.reply.Reply.{Reply}
use Rattle.rules.specs.declared.reply.Reply.TheVariants.{Acknowledgement, Completion, Error}
use Rattle.rules.specs.declared.ring.Rule.{Rule}
use Rattle.rules.specs.declared.ring.Rule.TheVariants.{TakenOff, AddressSet, ClearedForAll, SentOn, Cleared, Cancelled, Requested}
use Rattle.rules.specs.Modes.{forbidden_by}
use Rattle.rules.specs.Replies.{ending_reply, packet}
use Rattle.rules.specs.Ring.{rule_of}
use Rattle.wire.specs.Framing.{Event}
use Rattle.wire.specs.Packets.{body_of}

pub record Outcome : Type 0 where
  pub fault : Option Cause
  pub sent : List ℕ
  pub address : ℕ
  pub deed : Deed

abbrev pub fails : ℕ → Cause → List ℕ → Outcome
fails a f bytes = record { fault = Some f; sent = bytes; address = a; deed = nothing }

abbrev pub does : ℕ → Deed → List ℕ → Outcome
does a d bytes = record { fault = None; sent = bytes; address = a; deed = d }

abbrev pub sends : ℕ → List ℕ → Outcome
sends a bytes = does a nothing bytes

-- the header of an own packet, X0 with X = a + 8
abbrev pub own_header : ℕ → ℕ
own_header a = (a + 8) * 16

abbrev pub own : ℕ → Reply → List ℕ
own a r = packet (own_header a) r

-- a command that gets socket y; one in the other socket that names a common setting is displaced, which is told first
abbrev pub taken : ℕ → Sockets → ℕ → Order → Outcome
taken a k y o =
    if in_use (socket_at k (other_socket y)) o
    then does a (displaces y o) (own a (Error (other_socket y) CancelledCommand) ++ own a (Acknowledgement y))
    else does a (starts y o) (own a (Acknowledgement y))

-- an admitted command
abbrev pub commanded : ℕ → Meaning → Sockets → says.Command → Outcome
commanded a m k c =
    if not (finds_room k)
    then sends a (own a (Error 0 BufferFull))
    else (if forbidden_by m.setting m.pantilt (powering_in k) (subject c) (order_of c)
    then sends a (own a (Error 0 NotExecutable))
    else taken a k (free k) (order_of c))

abbrev pub requested : ℕ → Meaning → Sockets → Result Request PacketFault → Outcome
requested a m k (Ok (Command row c)) = commanded a m k c
requested a m k (Ok (Ask q)) = sends a (inquiry.answer_packet (own_header a) q m.setting m.pantilt)
requested a m k (Err f) = fails a (Packet f) (own a (Error 0 Syntax))

-- a cancel of socket y
abbrev pub cancelled : ℕ → Sockets → ℕ → Outcome
cancelled a k y =
    if is_open (socket_at k y)
    then does a (cancels y) (own a (Error y CancelledCommand))
    else sends a (own a (Error y NoSocket))

-- a whole packet p, by the first rule that it meets
abbrev pub met : ℕ → Meaning → Sockets → List ℕ → Rule → Outcome
met a m k p TakenOff = sends a []
met a m k p (AddressSet w) = does w clears (0x88 ∷ 0x30 ∷ (w + 1) ∷ 0xff ∷ [])
met a m k p ClearedForAll = does a clears p
met a m k p SentOn = sends a p
met a m k p Cleared = does a clears (own a (Completion 0))
met a m k p (Cancelled y) = cancelled a k y
met a m k p Requested = requested a m k (read_body (body_of p))

-- what framing tells of a byte
abbrev pub framed : ℕ → Meaning → Sockets → Event → Outcome
framed a m k (Ok None) = sends a []
framed a m k (Ok (Some p)) = met a m k p (rule_of a p)
framed a m k (Err f) = fails a (Framing f) []

-- what is sent of socket y's ending, behind the header
abbrev pub ended : ℕ → ℕ → Option Ending → List ℕ
ended header y None = []
ended header y (Some e) = packet header (ending_reply y e)

-- what is sent of a tick's endings: socket 1 first
abbrev pub both_ended : ℕ → Endings → List ℕ
both_ended header e = ended header 1 e.one ++ ended header 2 e.two

-- a tick at which the head tells these endings
abbrev pub ticked : ℕ → Endings → Outcome
ticked a e = does a (ticks e) (both_ended (own_header a) e)

abbrev pub answer_with : List ℕ → Option Cause → Answer
answer_with bytes None = counts (length bytes)
answer_with bytes (Some f) = faults (cause_code f) (length bytes)

-- what the call answers: the count sent, with the fault if there is one
abbrev pub answer_of : Outcome → Answer
answer_of o = answer_with o.sent o.fault
