-- What an end sends is whole packets.
use Rattle.std.proofs.Common.{◌≡◌, ℕ, suc, ◌+◌, ◌≤◌, Bool, true, false, cond, not, leb, List, [], ◌∷◌, ◌++◌, length, Some, None, Ok, Err, Option, Result, refl, inl, inr, append_assoc, arith, length-append}
use Rattle.std.proofs.lemmas.Bool.{ne_eqb, leb-true, cases_lt, and_parts}
use Rattle.std.proofs.lemmas.List.{append-nil, length_push}
use Rattle.end.specs.declared.call.Call.{Call}
use Rattle.end.specs.declared.call.Call.TheVariants.{Byte, Tick, Open}
use Rattle.end.specs.declared.socket.Sockets.{Sockets}
use Rattle.end.specs.Book.{Standing}
use Rattle.end.specs.Deeds.{other_socket}
use Rattle.end.specs.Faults.{Answer}
use Rattle.end.specs.Law.{WholePackets}
use Rattle.end.specs.Records.{Record, record_of}
use Rattle.end.specs.Outcomes.{Outcome, own_header, own, framed, met, taken, commanded, requested as asked-for, ended, ticked}
use Rattle.end.specs.Sockets.{is_open, socket_at, finds_room, free, powering_in}
use Rattle.end.specs.States.{State}
use Rattle.end.specs.Steps.{Step}
use Rattle.end.proofs.Heard.{Stands, Heard, nothing, faulty, packet, heard, Whole, whole}
use Rattle.end.proofs.Ruled.{Ruled, taken_off, address, cleared_for_all, sent_on, cleared, cancelled, requested, ruled}
use Rattle.end.proofs.Spoken.{Plain, plain_of, cut_packet, packet_of, own_header_plain, own_header_is, tail_of, tail_plain, own_is}
use Rattle.head.specs.declared.order.Order.{Order}
use Rattle.head.specs.declared.outcome.Ending.{Ending}
use Rattle.head.specs.declared.outcome.Ending.TheVariants.{Done, Jammed}
use Rattle.head.specs.declared.outcome.Endings.{Endings}
use Rattle.head.specs.Meaning.{Meaning, in_use}
use Rattle.rows.specs.declared.command.Command as says
use Rattle.rows.specs.declared.faults.PacketFault.{PacketFault}
use Rattle.rows.specs.declared.request.Request.{Request}
use Rattle.rows.specs.declared.request.Request.TheVariants.{Command, Ask}
use Rattle.rows.specs.Answers as inquiry
use Rattle.rows.specs.Orders.{order_of, subject}
use Rattle.rows.specs.Requests.{read_body}
use Rattle.rows.proofs.AnswerBytes.{answer_no_end, answer_short}
use Rattle.rules.specs.declared.reply.Problem.TheVariants.{Syntax, BufferFull, Cancelled as CancelledCommand, NoSocket, NotExecutable}
use Rattle.rules.specs.declared.reply.Reply.{Reply}
use Rattle.rules.specs.declared.reply.Reply.TheVariants.{Acknowledgement, Completion, Error}
use Rattle.rules.specs.declared.ring.Rule.{Rule}
use Rattle.rules.specs.Modes.{forbidden_by}
use Rattle.wire.specs.Framing.{Event}
use Rattle.wire.specs.Packets.{is_packet, body_of}

packet_length : (p : List ℕ) → is_packet p ≡ true → length p ≤ 16
packet_length [] h = omega arith
packet_length (b ∷ bs) h = let l = leb-true (length bs) 15 (and_parts _ (leb (length bs) 15) h).1 in omega arith

-- One packet in front of others.

silent : (n : ℕ) → WholePackets n []
silent n = record { complete = refl; each = refl; few = omega arith; short = omega arith }

in_front : (q rest : List ℕ) (n : ℕ) → Plain q → is_packet (q ++ 0xff ∷ []) ≡ true → length q + length rest ≤ 15 → WholePackets n rest → WholePackets (suc n) (q ++ 0xff ∷ rest)
in_front q rest n plain is room w =
    let c = cut_packet q rest plain in
    let few = w.few in
    record {
      complete = rw (c, w.complete) (append_assoc q (0xff ∷ []) rest);
      each = rw (c, is) w.each;
      few = rw c (omega arith);
      short = simp length-append (omega arith);
    }

one_packet : (h : ℕ) (t : List ℕ) → Plain (h ∷ t) → is_packet (h ∷ (t ++ 0xff ∷ [])) ≡ true → WholePackets 2 (h ∷ (t ++ 0xff ∷ []))
one_packet h t plain is =
    let l = packet_length (h ∷ (t ++ 0xff ∷ [])) is in
    let e = length_push t 0xff in
    in_front (h ∷ t) [] 1 plain is (omega arith) (silent 1)

-- as it came
passed : {p : List ℕ} → Whole p → WholePackets 2 p
passed (whole h t plain is) = one_packet h t plain is

-- a choice of two
either : (n : ℕ) (b : Bool) (o o' : Outcome) → WholePackets n o.sent → WholePackets n o'.sent → WholePackets n (cond b o o').sent
either n true o o' w w' = w
either n false o o' w w' = w'

address_packet : (w : ℕ) → 1 ≤ w → w ≤ 7 → WholePackets 2 (0x88 ∷ 0x30 ∷ (w + 1) ∷ 0xff ∷ [])
address_packet w some few =
    let plain : Plain (0x30 ∷ (w + 1) ∷ []) = (refl, (ne_eqb (w + 1) 0xff (λ e. omega arith), tt)) in
    one_packet 0x88 (0x30 ∷ (w + 1) ∷ []) (refl, plain) (packet_of 0x88 (0x30 ∷ (w + 1) ∷ []) refl plain (omega arith) (omega arith))

module _ (a : ℕ) (low : a ≤ 7) where
  -- behind the own header
  answered : (t : List ℕ) → Plain t → 1 ≤ length t → length t ≤ 14 → WholePackets 2 (own_header a ∷ (t ++ 0xff ∷ []))
  answered t plain some few = one_packet (own_header a) t (own_header_plain a low, plain) (packet_of (own_header a) t (own_header_is a low) plain some few)

  tail_length : (r : Reply) → (1 ≤ length (tail_of r)) × (length (tail_of r) ≤ 2)
  tail_length (Acknowledgement y) = (omega arith, omega arith)
  tail_length (Completion y) = (omega arith, omega arith)
  tail_length (Error y problem) = (omega arith, omega arith)

  reply_in_front : (r : Reply) (rest : List ℕ) (n : ℕ) → length rest ≤ 12 → WholePackets n rest → WholePackets (suc n) (own a r ++ rest)
  reply_in_front r rest n room w =
      let l = tail_length r in
      let few = l.1 in
      rw (own_is a r rest)
      (in_front (own_header a ∷ tail_of r) rest n (own_header_plain a low, tail_plain r)
      (packet_of (own_header a) (tail_of r) (own_header_is a low) (tail_plain r) l.0 (omega arith)) (omega arith) w)

  reply : (r : Reply) (n : ℕ) → WholePackets (suc n) (own a r)
  reply r n = rw append-nil at (reply_in_front r [] n (omega arith) (silent n))

  -- a request
  accepted : (k : Sockets) (y : ℕ) (o : Order) → WholePackets 2 (taken a k y o).sent
  accepted k y o =
      either 2 (in_use (socket_at k (other_socket y)) o) _ _
      (reply_in_front (Error (other_socket y) CancelledCommand) (own a (Acknowledgement y)) 1 (omega arith) (reply (Acknowledgement y) 0))
      (reply (Acknowledgement y) 1)

  command : (m : Meaning) (k : Sockets) (c : says.Command) → WholePackets 2 (commanded a m k c).sent
  command m k c =
      either 2 (not (finds_room k)) _ _ (reply (Error 0 BufferFull) 1)
      (either 2 (forbidden_by m.setting m.pantilt (powering_in k) (subject c) (order_of c)) _ _ (reply (Error 0 NotExecutable) 1)
      (accepted k (free k) (order_of c)))

  request : (m : Meaning) (k : Sockets) (r : Result Request PacketFault) → WholePackets 2 (asked-for a m k r).sent
  request m k (Ok (Command place c)) = command m k c
  request m k (Ok (Ask q)) =
      let t = inquiry.answer_body q.form m.setting q.setting m.pantilt in
      let short = answer_short q m.setting m.pantilt in
      answered t (plain_of t (answer_no_end q m.setting m.pantilt)) short.some short.few
  request m k (Err f) = reply (Error 0 Syntax) 1

  -- a whole packet
  meeting : {p : List ℕ} {r : Rule} {a' : ℕ} {c : Bool} (m : Meaning) (k : Sockets) → Whole p → Ruled a p r a' c → WholePackets 2 (met a m k p r).sent
  meeting m k w taken_off = silent 2
  meeting m k w (address {w = n} some few) = address_packet n some few
  meeting m k w (cleared_for_all f) = passed w
  meeting m k w (sent_on f) = passed w
  meeting m k w (cleared has) = reply (Completion 0) 1
  meeting m k w (cancelled {y = y} has) =
      either 2 (is_open (socket_at k y)) _ _ (reply (Error y CancelledCommand) 1) (reply (Error y NoSocket) 1)
  meeting {p = p} m k w (requested has) = request m k (read_body (body_of p))

  -- a byte
  hearing : {st : Standing} {h : _} {x : Option (List ℕ)} {ev : Event} (m : Meaning) (k : Sockets) → Heard st h x ev → WholePackets 2 (framed a m k ev).sent
  hearing m k (nothing t) = silent 2
  hearing m k (faulty t) = silent 2
  hearing m k (packet w) = meeting m k w (ruled a low w)

  -- a tick
  ended_length : (y : ℕ) (e : Option Ending) → length (ended (own_header a) y e) ≤ 12
  ended_length y None = omega arith
  ended_length y (Some Done) = omega arith
  ended_length y (Some Jammed) = omega arith

  ending : (y : ℕ) (e : Option Ending) (rest : List ℕ) (n : ℕ) → length rest ≤ 12 → WholePackets n rest → WholePackets (suc n) (ended (own_header a) y e ++ rest)
  ending y None rest n room w = let few = w.few in record { complete = w.complete; each = w.each; few = omega arith; short = w.short }
  ending y (Some Done) rest n room w = reply_in_front (Completion y) rest n room w
  ending y (Some Jammed) rest n room w = reply_in_front (Error y NotExecutable) rest n room w

  ticking : (e : Endings) → WholePackets 2 (ticked a e).sent
  ticking e = ending 1 e.one (ended (own_header a) 2 e.two) 1 (ended_length 2 e.two) (rw append-nil at (ending 2 e.two [] 0 (omega arith) (silent 0)))

module _ {st : Standing} (s : State) (n : ℕ) (a : Answer) (sent : List ℕ) (e : Endings) (s' : State) (low : s.address ≤ 7) (stands : Stands st s.held) where
  by_call : (c : Call) → Step s (record_of c n a sent e) s' → WholePackets 2 sent
  by_call (Byte b) d = elim (cases_lt n 16) [
    | inl less ↦ rw (d.short less).packets (silent 2)
    | inr enough ↦ rw (d.enough enough).packets (hearing s.address low s.head s.sockets (heard b stands))
  ]
  by_call Tick d = elim (cases_lt n 16) [
    | inl less ↦ rw (d.short less).packets (silent 2)
    | inr enough ↦ rw (d.enough enough).packets (ticking s.address low e)
  ]
  by_call Open d = rw d.silent (silent 2)

pub whole_packets : {st : Standing} (s : State) (r : Record) (s' : State) → s.address ≤ 7 → Stands st s.held → Step s r s' → WholePackets 2 r.fed.sent
whole_packets s r s' low stands d = by_call s r.fed.room r.answer r.fed.sent r.endings s' low stands r.fed.call d
