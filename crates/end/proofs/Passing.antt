-- What is none of an end's business does nothing, and orders come of packets that one row admits.
use Rattle.std.proofs.Common.{◌≡◌, ℕ, Bool, true, false, cond, not, ◌⊎◌, List, [], length, Some, None, Option, Ok, Err, Result, sym, ap, ◌∙◌, refl, subst, inl, inr}
use Rattle.end.specs.declared.socket.Sockets.{Sockets}
use Rattle.end.specs.Book.{Standing}
use Rattle.end.specs.Deeds.{Deed, nothing as no_deed, clears, cancels, starts, displaces, ticks, other_socket}
use Rattle.end.specs.Faults.{counts}
use Rattle.end.specs.Outcomes.{sends, Outcome, framed, met, requested, commanded, taken}
use Rattle.end.specs.Promises.{Comes, come}
use Rattle.end.specs.Records.{book_of}
use Rattle.end.specs.Sockets.{is_open, socket_at, finds_room, free, powering_in}
use Rattle.end.specs.States.{State}
use Rattle.end.specs.Steps.{Came, heard_in}
use Rattle.end.specs.Traffic.{DoesNothing, IsTakenOff, IsSentOn, PacketsOfOthersPass, AskedFor, OrdersAreAskedFor}
use Rattle.end.proofs.Heard.{Heard, nothing, faulty, packet, heard, Whole, whole}
use Rattle.end.proofs.Runs.{kept}
use Rattle.head.specs.declared.order.Order.{Order}
use Rattle.head.specs.Meaning.{Meaning, in_use}
use Rattle.rows.specs.declared.command.Command as says
use Rattle.rows.specs.declared.faults.PacketFault.{PacketFault}
use Rattle.rows.specs.declared.request.Request.{Request}
use Rattle.rows.specs.declared.request.Request.TheVariants.{Command, Ask}
use Rattle.rows.specs.OneRow.{ReadAsByOneRow}
use Rattle.rows.specs.Orders.{order_of, subject}
use Rattle.rows.specs.Requests.{order_asked, read_as, read_body}
use Rattle.rules.specs.declared.ring.Rule.{Rule}
use Rattle.rules.specs.declared.ring.Rule.TheVariants.{TakenOff, AddressSet, ClearedForAll, SentOn, Cleared, Cancelled, Requested}
use Rattle.rules.specs.Modes.{forbidden_by}
use Rattle.rules.specs.Ring.{rule_of, WhatBecomesOfPackets}
use Rattle.wire.specs.Framing.{Held, Event, held_after, event}
use Rattle.wire.specs.Packets.{is_packet, body_of}

-- A packet that is whole by the book is whole by the end.

whole_is : {p : List ℕ} → Whole p → is_packet p ≡ true
whole_is (whole h t plain is) = is

told : {f : Standing} {h : Held} {w : Option (List ℕ)} {e : Event} → Heard f h w e → (p : List ℕ) → w ≡ Some p → (e ≡ Ok (Some p)) × (is_packet p ≡ true)
told (nothing t) p e = cc
told (faulty t) p e = cc
told (packet {p = q} w) p e =
    let same : q ≡ p = cc in
    (ap (λ (z : List ℕ). let x : Event = Ok (Some z) in x) same, subst (λ (z : List ℕ). is_packet z ≡ true) same (whole_is w))

module _ (s : State) (b : ℕ) (p : List ℕ) (x : Comes s b) (e : event s.held b ≡ Ok (Some p)) where
  by_rule : (r : Rule) → rule_of s.address p ≡ r → heard_in s b ≡ met s.address s.head s.sockets p r
  by_rule r g = ap (λ (v : Event). framed s.address s.head s.sockets v) e ∙ ap (λ (v : Rule). met s.address s.head s.sockets p v) g

  does_nothing : (bytes : List ℕ) → heard_in s b ≡ sends s.address bytes → (x.sent ≡ bytes) × DoesNothing x
  does_nothing bytes o =
      let P : Outcome → Type 0 = λ v. Came s (held_after s.held b) v (come x) x.after in
      let c : P (sends s.address bytes) = subst P o (x.step.enough x.enough) in (
        c.packets,
        record {
          deed = ap (λ (v : Outcome). v.deed) o;
          answer = c.answer ∙ ap (λ (l : List ℕ). counts (length l)) (sym c.packets);
          head = c.head;
          sockets = c.sockets;
          address = c.address;
        },
      )

  taken_off : rule_of s.address p ≡ TakenOff → IsTakenOff x
  taken_off g = let q = does_nothing [] (by_rule TakenOff g) in record { sent = q.0; nothing = q.1 }

  sent_on : rule_of s.address p ≡ SentOn → IsSentOn p x
  sent_on g = let q = does_nothing p (by_rule SentOn g) in record { sent = q.0; nothing = q.1 }

pub packets_of_others_pass : WhatBecomesOfPackets → PacketsOfOthersPass
packets_of_others_pass ring m h s r b p w x =
    let i = kept r in
    let t = told (heard b i.stands) p w in
    let becomes = ring (book_of h).address p i.low t.1 in
    let here = ap (λ (a : ℕ). rule_of a p) i.address in
    record {
      from_this_end = λ some e. taken_off s b p x t.0 (here ∙ becomes.from_this_end some e);
      from_another = λ other some. sent_on s b p x t.0 (here ∙ becomes.from_another other some);
      for_another = λ other alone far. sent_on s b p x t.0 (here ∙ becomes.for_another other alone far);
      with_no_address = λ none plain. sent_on s b p x t.0 (here ∙ becomes.with_no_address none plain);
    }

-- An order that the head is given.

abbrev given : Deed → Option Order
given no_deed = None
given clears = None
given (cancels y) = None
given (starts y o) = Some o
given (displaces y o) = Some o
given (ticks e) = None

-- none, or this one
pub record Gives (x : Option Order) (o : Outcome) : Type 0 where
  pub either : (given o.deed ≡ None) ⊎ (given o.deed ≡ x)

gives_none : {x : Option Order} {o : Outcome} → given o.deed ≡ None → Gives x o
gives_none e = record { either = inl e }

gives_either : {x : Option Order} (b : Bool) (o o' : Outcome) → Gives x o → Gives x o' → Gives x (cond b o o')
gives_either true o o' e e' = e
gives_either false o o' e e' = e'

gives_taken : (a : ℕ) (k : Sockets) (y : ℕ) (o : Order) → Gives (Some o) (taken a k y o)
gives_taken a k y o = gives_either (in_use (socket_at k (other_socket y)) o) _ _ (record { either = inr refl }) (record { either = inr refl })

gives_command : (a : ℕ) (m : Meaning) (k : Sockets) (c : says.Command) → Gives (Some (order_of c)) (commanded a m k c)
gives_command a m k c =
    gives_either (not (finds_room k)) _ _ (gives_none refl)
    (gives_either (forbidden_by m.setting m.pantilt (powering_in k) (subject c) (order_of c)) _ _ (gives_none refl) (gives_taken a k (free k) (order_of c)))

-- what is read in a body
gives_request : (a : ℕ) (m : Meaning) (k : Sockets) (r : Result Request PacketFault) → Gives (order_asked r) (requested a m k r)
gives_request a m k (Ok (Command place c)) = gives_command a m k c
gives_request a m k (Ok (Ask q)) = gives_none refl
gives_request a m k (Err f) = gives_none refl

module _ (a : ℕ) (m : Meaning) (k : Sockets) (p : List ℕ) (o : Order) where
  -- the packet is left to the rows, which read the order in it
  pub record Read (r : Rule) : Type 0 where
    pub rule : r ≡ Requested
    pub order : read_as p ≡ Some o

  none_given : {A : Type 0} {u : Outcome} → Gives None u → given u.deed ≡ Some o → A
  none_given g e = elim g.either [ inl n ↦ cc | inr n ↦ cc ]

  by_request : Gives (read_as p) (requested a m k (read_body (body_of p))) → given (requested a m k (read_body (body_of p))).deed ≡ Some o → read_as p ≡ Some o
  by_request g e = elim g.either [ inl n ↦ cc | inr n ↦ sym n ∙ e ]

  read_in : (r : Rule) → given (met a m k p r).deed ≡ Some o → Read r
  read_in TakenOff e = cc
  read_in (AddressSet w) e = cc
  read_in ClearedForAll e = cc
  read_in SentOn e = cc
  read_in Cleared e = cc
  read_in (Cancelled y) e = none_given (gives_either (is_open (socket_at k y)) _ _ (gives_none refl) (gives_none refl)) e
  read_in Requested e = record { rule = refl; order = by_request (gives_request a m k (read_body (body_of p))) e }

module _ (by_row : ReadAsByOneRow) (s : State) (b : ℕ) (o : Order) where
  asked_for : (v : Event) → event s.held b ≡ v → given (framed s.address s.head s.sockets v).deed ≡ Some o → AskedFor s b o
  asked_for (Ok None) e g = cc
  asked_for (Ok (Some p)) e g =
      let r = read_in s.address s.head s.sockets p o (rule_of s.address p) g in
      record { packet = p; whole = e; for_this_end = r.rule; by_one_row = (by_row p o).0 r.order }
  asked_for (Err f) e g = cc

  is_given : (y : ℕ) → ((heard_in s b).deed ≡ starts y o) ⊎ ((heard_in s b).deed ≡ displaces y o) → given (heard_in s b).deed ≡ Some o
  is_given y w = elim w [ inl e ↦ ap given e | inr e ↦ ap given e ]

pub orders_are_asked_for : ReadAsByOneRow → OrdersAreAskedFor
orders_are_asked_for by_row s b y o w = asked_for by_row s b o (event s.held b) refl (is_given by_row s b o y w)
