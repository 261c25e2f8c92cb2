-- What the law means for whoever sends commands.
use Rattle.std.proofs.Common.{◌≡◌, ℕ, ◌+◌, ◌*◌, ◌/◌, ◌%◌, ◌<◌, ◌≤◌, Bool, true, false, cond, eqb, leb, ◌⊎◌, List, [], ◌∷◌, ◌++◌, length, Some, None, Ok, Option, sym, refl, ap, ◌∙◌, subst, inl, inr, add-zero, add_assoc, arith}
use Rattle.std.proofs.lemmas.Bool.{true≢false, eqb-false, eq-eqb, ne_eqb, le-leb, lt-ltb}
use Rattle.end.specs.declared.call.Call.{Call}
use Rattle.end.specs.declared.call.Call.TheVariants.{Byte, Tick, Open}
use Rattle.end.specs.Book.{Book, Entry, Standing, between, inside, Seen, closed, working, Said, acknowledges, ends, other, said_of, seen_after_said, cut, seen_after_replies, with_packet, after_tick, before_replies, made_whole, standing_after, clearing, accepted, after_call}
use Rattle.end.specs.declared.socket.Sockets.{Sockets}
use Rattle.end.specs.Deeds.{cancels}
use Rattle.end.specs.Faults.{counts}
use Rattle.end.specs.Law.{Law, InOrder, InOrderAt, Due, InTime, open_by}
use Rattle.end.specs.Outcomes.{own, sends, does, framed, met}
use Rattle.end.specs.Promises.{IsSocket, one, two, seen_at, EndingAmong, ClearedBy, Clearing, Over, OverIn, counted, ticks_in, Comes, come, Silent, ACancelIsNeverRefused, AWholeCancelIsNeverRefused, EveryAcknowledgedCommandIsEnded, WhatIsSentIsWholePackets}
use Rattle.end.specs.Records.{Record, book_of}
use Rattle.end.specs.Runs.{Run}
use Rattle.end.specs.Runs as runs
use Rattle.end.specs.Sockets.{is_open, socket_at, with_socket}
use Rattle.end.specs.States.{State}
use Rattle.end.specs.Steps.{Came}
use Rattle.end.proofs.Heard.{Stands, nowhere, within, passing}
use Rattle.end.proofs.Runs.{Inv, awake, in_range_in, kept, goes, call_law}
use Rattle.end.proofs.Tied.{Tied, rests, works, tied_open, tied_in_time}
use Rattle.head.specs.declared.order.Order.{Order}
use Rattle.head.specs.Meaning.{Meaning, Slot}
use Rattle.rules.specs.declared.reply.Problem.TheVariants.{Cancelled as CancelledCommand, NoSocket}
use Rattle.rules.specs.declared.reply.Reply.TheVariants.{Error}
use Rattle.rules.specs.declared.ring.Rule.{Rule}
use Rattle.rules.specs.declared.ring.Rule.TheVariants.{Cancelled}
use Rattle.rules.specs.Ring.{rule_of}
use Rattle.wire.specs.Framing.{Held, none, begun, held_after, Event, event}

-- An open socket stays open until an ending or a clearing.

working_open : (x : Seen) (p : List ℕ) (n : ℕ) → x ≡ working p n → open_by x ≡ true
working_open x p n e = rw e refl

-- over the packets that were sent
still_working : (a y : ℕ) (p q : List ℕ) (n : ℕ) (qs : List (List ℕ)) (x : Seen) → x ≡ working q n → InOrder a y p qs x → EndingAmong a y qs ⊎ (seen_after_replies a y p qs x ≡ working q n)
still_working a y p q n [] x e d = inr e
still_working a y p q n (t ∷ qs) x e d = by (said_of a y t) refl (still_working a y p q n qs x e) where
  by : (w : Said) → said_of a y t ≡ w → (InOrder a y p qs x → EndingAmong a y qs ⊎ (seen_after_replies a y p qs x ≡ working q n)) → EndingAmong a y (t ∷ qs) ⊎ (seen_after_replies a y p (t ∷ qs) x ≡ working q n)
  by acknowledges h held_after =
      let due : open_by x ≡ false = subst (λ (v : Said). Due v x) h d.0 in
      absurd (true≢false (sym (working_open x q n e) ∙ due))
  by ends h held_after = inl (inl h)
  by other h held_after = elim (held_after (subst (λ (v : Said). InOrder a y p qs (seen_after_said p v x)) h d.1)) [
    | inl f ↦ inl (inr f)
    | inr g ↦ inr (ap (λ (v : Said). seen_after_replies a y p qs (seen_after_said p v x)) h ∙ g)
  ]

-- over what the book notes of the call
module _ (k : Book) (y : ℕ) (number : IsSocket y) (p : List ℕ) (n : ℕ) (at : seen_at k y ≡ working p n) where
  received : {y : ℕ} → IsSocket y → (st : Standing) (q : List ℕ) (t : Bool) → clearing k.address q ≡ t → (t ≡ true) ⊎ (seen_at (with_packet k st (Some q)) y ≡ seen_at k y)
  received num st q true e = inl refl
  received one st q false e = inr (rw e refl)
  received two st q false e = inr (rw e refl)

  heard_whole : {y : ℕ} → IsSocket y → (st : Standing) → seen_at (with_packet k st None) y ≡ seen_at k y
  heard_whole one st = refl
  heard_whole two st = refl

  heard : (st : Standing) (w : Option (List ℕ)) → ClearedBy k.address w ⊎ (seen_at (with_packet k st w) y ≡ working p n)
  heard st None = inr (heard_whole number st ∙ at)
  heard st (Some q) = elim (received number st q (clearing k.address q) refl) [ inl c ↦ inl c | inr g ↦ inr (g ∙ at) ]

  aged : {y : ℕ} → IsSocket y → seen_at k y ≡ working p n → seen_at (after_tick k) y ≡ working p (n + 1)
  aged one e = rw e refl
  aged two e = rw e refl

  noted : (c : Call) (room : ℕ) → accepted c room ≡ true → Clearing k c ⊎ (seen_at (before_replies k c) y ≡ working p (n + counted c room))
  noted (Byte b) room t = elim (heard (standing_after k.standing b) (made_whole k.standing b)) [
    | inl c ↦ inl c
    | inr g ↦ inr (g ∙ ap (λ (z : ℕ). working p z) (sym (add-zero n)))
  ]
  noted Tick room t = inr (rw t (aged number at))
  noted Open room t = absurd (true≢false (sym t))

  -- over the call
  read_at : {y : ℕ} → IsSocket y → (e : Entry) → accepted e.call e.room ≡ true →
      seen_at (after_call k e) y ≡ seen_after_replies (before_replies k e.call).address y (before_replies k e.call).last (cut e.sent) (seen_at (before_replies k e.call) y)
  read_at one e t = rw t refl
  read_at two e t = rw t refl

  order_at : {y : ℕ} → IsSocket y → (s : State) (r : Record) (s' : State) → Law k s r s' → accepted r.fed.call r.fed.room ≡ true →
      InOrderAt k r.fed y (seen_at (before_replies k r.fed.call) y)
  order_at one s r s' l t = l.order_one t
  order_at two s r s' l t = l.order_two t

  uncounted : (c : Call) (room : ℕ) → accepted c room ≡ false → counted c room ≡ 0
  uncounted (Byte b) room t = refl
  uncounted Tick room t = rw t refl
  uncounted Open room t = refl

  over_call : (s : State) (r : Record) (s' : State) (t : Bool) → accepted r.fed.call r.fed.room ≡ t → Law k s r s' →
      Over k y r.fed ⊎ (seen_at (after_call k r.fed) y ≡ working p (n + counted r.fed.call r.fed.room))
  over_call s r s' true t l =
      let b = before_replies k r.fed.call in
      elim (noted r.fed.call r.fed.room t) [
        | inl c ↦ inl (record { taken = t; how = inr c })
        | inr g ↦ elim (still_working b.address y b.last p (n + counted r.fed.call r.fed.room) (cut r.fed.sent) (seen_at b y) g (order_at number s r s' l t)) [
          | inl f ↦ inl (record { taken = t; how = inl f })
          | inr w ↦ inr (read_at number r.fed t ∙ w)
        ]
      ]
  over_call s r s' false t l =
      let same : after_call k r.fed ≡ k = rw t refl in
      let none : n + counted r.fed.call r.fed.room ≡ n = ap (λ (z : ℕ). n + z) (uncounted r.fed.call r.fed.room t) ∙ add-zero n in
      inr (ap (λ (b : Book). seen_at b y) same ∙ at ∙ ap (λ (z : ℕ). working p z) (sym none))

-- Over a run.

module _ (m : Meaning) (h : List Record) (y : ℕ) (number : IsSocket y) (p : List ℕ) (n : ℕ) (at : seen_at (book_of h) y ≡ working p n) where
  open_until : (later : List Record) {s : State} → Run m (later ++ h) s → OverIn y h later ⊎ (seen_at (book_of (later ++ h)) y ≡ working p (n + ticks_in later))
  open_until [] r = inr (at ∙ ap (λ (z : ℕ). working p z) (sym (add-zero n)))
  open_until (r ∷ later) (runs.Run.then {s = s} {s' = s'} _ x d _) = elim (open_until later x) [
    | inl f ↦ inl (inr f)
    | inr g ↦ elim (over_call (book_of (later ++ h)) y number p (n + ticks_in later) g s r s' (accepted r.fed.call r.fed.room) refl (call_law r s' x d)) [
      | inl f ↦ inl (inl f)
      | inr w ↦ inr (w ∙ ap (λ (z : ℕ). working p z) (add_assoc n (ticks_in later) (counted r.fed.call r.fed.room)))
    ]
  ]

  in_time : {y : ℕ} → IsSocket y → (k : Book) (s : State) → Inv k s → InTime (seen_at k y)
  in_time one k s i = tied_in_time i.one
  in_time two k s i = tied_in_time i.two

  ended : (later : List Record) {s : State} → Run m (later ++ h) s → 1000 ≤ ticks_in later → OverIn y h later
  ended later {s} r many = elim (open_until later r) [
    | inl f ↦ f
    | inr g ↦
        let t : n + ticks_in later < 1000 = subst (λ (x : Seen). InTime x) g (in_time number (book_of (later ++ h)) s (kept r)) in
        absurd (omega arith)
  ]

pub every_acknowledged_command_is_ended : EveryAcknowledgedCommandIsEnded
every_acknowledged_command_is_ended m h later s r y number p n at many = ended m h y number p n at later r many

-- A cancel.

stands_inside : {st : Standing} {hd : Held} (bs : List ℕ) → Stands st hd → st ≡ inside bs → hd ≡ begun bs
stands_inside bs nowhere e = cc
stands_inside bs (within plain low high) e = cc
stands_inside bs passing e = cc

closed_tied : {l : Seen} {x : Option Order} {c : Slot} → Tied l x c → x ≡ None → l ≡ closed
closed_tied rests e = refl
closed_tied (works r low high) e = cc

abbrev cancel_of : ℕ → ℕ → List ℕ
cancel_of a y = (0x80 + a) ∷ (0x20 + y) ∷ 0xff ∷ []

module _ (a : ℕ) (low : a ≤ 7) (has : eqb a 0 ≡ false) where
  not_taken_off : eqb ((0x80 + a) / 16 % 8) a ≡ false
  not_taken_off =
      let e : (0x80 + a) / 16 ≡ 8 = omega arith in
      let z = eqb-false a 0 has in
      rw e (ne_eqb 0 a (λ q. z (sym q)))

  cancel_rule : {y : ℕ} → IsSocket y → rule_of a (cancel_of a y) ≡ Cancelled y
  cancel_rule one = let t = not_taken_off in let u = eq-eqb (0x80 + a) (0x80 + a) refl in rw (has, t, u) refl
  cancel_rule two = let t = not_taken_off in let u = eq-eqb (0x80 + a) (0x80 + a) refl in rw (has, t, u) refl

-- the socket is open by the end too
open_at : {y : ℕ} → IsSocket y → (k : Book) (s : State) (p : List ℕ) (n : ℕ) → Inv k s → seen_at k y ≡ working p n → is_open (socket_at s.sockets y) ≡ true
open_at one k s p n i e = tied_open i.one ∙ ap open_by e
open_at two k s p n i e = tied_open i.two ∙ ap open_by e

has_address : {y : ℕ} → IsSocket y → (k : Book) (s : State) (p : List ℕ) (n : ℕ) → Inv k s → seen_at k y ≡ working p n → eqb k.address 0 ≡ false
has_address one k s p n i e = awake k.address k.one k.two (eqb k.address 0) refl i.asleep (inl (working_open k.one p n e))
has_address two k s p n i e = awake k.address k.one k.two (eqb k.address 0) refl i.asleep (inr (working_open k.two p n e))

closed_at : {y : ℕ} → IsSocket y → (k : Book) (s : State) (x : Sockets) → Inv k s → s.sockets ≡ with_socket x y None → seen_at k y ≡ closed
closed_at one k s x i e = closed_tied i.one (ap (λ (z : Sockets). z.one) e)
closed_at two k s x i e = closed_tied i.two (ap (λ (z : Sockets). z.two) e)

reply_length : {y : ℕ} → IsSocket y → (a : ℕ) → own a (Error y CancelledCommand) ≡ (a + 8) * 16 ∷ (0x60 + y) ∷ 0x04 ∷ 0xff ∷ []
reply_length one a = refl
reply_length two a = refl

pub a_cancel_is_never_refused : ACancelIsNeverRefused
a_cancel_is_never_refused m h s r y number p n at st x =
    let k = book_of h in
    let i = kept r in
    let z = k.address in
    let bs : List ℕ = (0x80 + z) ∷ (0x20 + y) ∷ [] in
    let has = has_address number k s p n i at in
    let T : Held → ℕ → Type 0 = λ hd n. Came s (held_after hd 0xff) (framed n s.head s.sockets (event hd 0xff)) (come x) x.after in
    let c₁ : T s.held s.address = x.step.enough x.enough in
    let c₂ : T (begun bs) s.address = subst (λ (hd : Held). T hd s.address) (stands_inside bs i.stands st) c₁ in
    let c₃ : T (begun bs) z = subst (λ (n : ℕ). T (begun bs) n) i.address c₂ in
    let U : Rule → Type 0 = λ rule. Came s none (met z s.head s.sockets (cancel_of z y) rule) (come x) x.after in
    let c₄ : U (Cancelled y) = subst U (cancel_rule z i.low has number) c₃ in
    let V : Bool → Type 0 = λ t. Came s none (cond t (does z (cancels y) (own z (Error y CancelledCommand))) (sends z (own z (Error y NoSocket)))) (come x) x.after in
    let c : V true = subst V (open_at number k s p n i at) c₄ in
    let after = (goes k s (come x) x.after i x.step).inv in
    record {
      answer = c.answer ∙ ap (λ (q : List ℕ). counts (length q)) (reply_length number z);
      ending = c.packets ∙ reply_length number z;
      shut = closed_at number (after_call k (come x).fed) x.after s.sockets after c.sockets;
    }

-- A cancel from its first byte on.

-- after a byte that makes nothing whole
record Quiet (m : Meaning) (h : List Record) {s : State} {b : ℕ} (x : Comes s b) (st : Standing) (y : ℕ) : Type 0 where
  run : Run m (come x ∷ h) x.after
  silent : Silent x
  address : (book_of (come x ∷ h)).address ≡ (book_of h).address
  standing : (book_of (come x ∷ h)).standing ≡ st
  seen : seen_at (book_of (come x ∷ h)) y ≡ seen_at (book_of h) y

quiet : (m : Meaning) (h : List Record) (s : State) (b : ℕ) (x : Comes s b) (st : Standing) (y : ℕ) → IsSocket y → Run m h s →
    event s.held b ≡ Ok None → made_whole (book_of h).standing b ≡ None → standing_after (book_of h).standing b ≡ st → Quiet m h x st y
quiet m h s b x st y number r tells unmade stands =
    let T : Event → Type 0 = λ ev. Came s (held_after s.held b) (framed s.address s.head s.sockets ev) (come x) x.after in
    let c : T (Ok None) = subst T tells (x.step.enough x.enough) in
    let v = in_range_in r in
    let big = le-leb 16 x.room x.enough in
    record {
      run = runs.Run.then (come x) r x.step (record { each = λ t. rw (c.head.kept.setting t) (v.each t) });
      silent = record { answer = c.answer; nothing = c.packets };
      address = rw (big, unmade) refl;
      standing = rw (big, unmade) stands;
      seen = seen number c.packets big;
    }
  where
    seen : {y : ℕ} → IsSocket y → x.sent ≡ [] → leb 16 x.room ≡ true → seen_at (book_of (come x ∷ h)) y ≡ seen_at (book_of h) y
    seen one e big = rw (big, unmade, e) refl
    seen two e big = rw (big, unmade, e) refl

stands_between : {st : Standing} {hd : Held} → Stands st hd → st ≡ between → hd ≡ none
stands_between nowhere e = refl
stands_between (within plain head high) e = cc
stands_between passing e = cc

second_byte : {y : ℕ} → IsSocket y → eqb (0x20 + y) 0xff ≡ false
second_byte one = refl
second_byte two = refl

pub a_whole_cancel_is_never_refused : AWholeCancelIsNeverRefused
a_whole_cancel_is_never_refused m h s r y number p n at st x₁ x₂ x₃ =
    let i = kept r in
    let low = i.low in
    let b₁ = 0x80 + (book_of h).address in
    let b₂ = 0x20 + y in
    let l = le-leb 0x80 b₁ (omega arith) in
    let g = le-leb b₁ 0xfe (omega arith) in
    let f = lt-ltb b₁ 0xff (omega arith) in
    let q₁ = quiet m h s b₁ x₁ (inside (b₁ ∷ [])) y number r (rw (stands_between i.stands st, l, g) refl) (rw st refl) (rw (st, l, f) refl) in
    let t = second_byte number in
    let hd = stands_inside (b₁ ∷ []) (kept q₁.run).stands q₁.standing in
    let q₂ = quiet m (come x₁ ∷ h) x₁.after b₂ x₂ (inside (b₁ ∷ b₂ ∷ [])) y number q₁.run (rw (hd, t) refl) (rw (q₁.standing, t) refl) (rw (q₁.standing, t) refl) in
    let e = q₂.address ∙ q₁.address in
    record {
      first = q₁.silent;
      second = q₂.silent;
      address = e;
      third = a_cancel_is_never_refused m (come x₂ ∷ come x₁ ∷ h) x₂.after q₂.run y number p n (q₂.seen ∙ q₁.seen ∙ at)
          (q₂.standing ∙ ap (λ (z : ℕ). inside ((0x80 + z) ∷ b₂ ∷ [])) (sym e)) x₃;
    }

-- What is sent.

pub what_is_sent_is_whole_packets : WhatIsSentIsWholePackets
what_is_sent_is_whole_packets m h s x r s' d = (call_law r s' x d).whole
