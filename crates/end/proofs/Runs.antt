-- The law of the sockets, for every run.
use Rattle.std.proofs.Common.{◌≡◌, ℕ, ◌-◌, ◌≤◌, Bool, true, false, cond, eqb, leb, ◌⊎◌, List, [], ◌∷◌, ◌++◌, length, ℤ, Some, None, Ok, Err, Option, Result, sym, refl, ap, ◌∙◌, subst, inl, inr, append-nil, arith}
use Rattle.std.proofs.lemmas.Bool.{eqb-true, leb-true, leb-false}
use Rattle.end.specs.declared.call.Call.{Call}
use Rattle.end.specs.declared.call.Call.TheVariants.{Byte, Tick, Open}
use Rattle.end.specs.declared.end.End.{End}
use Rattle.end.specs.declared.faults.Cause.TheVariants.{ShortBuffer}
use Rattle.end.specs.declared.socket.Sockets.{Sockets}
use Rattle.end.specs.Book.{Book, Standing, Seen, closed, between, cut, seen_after_replies, with_packet, after_replies, after_tick, one_tick_older, before_replies, accepted, after_call, fresh, clearing}
use Rattle.end.specs.Deeds.{Unchanged}
use Rattle.end.specs.Faults.{Answer, opens}
use Rattle.end.specs.Law.{Lawful, Law, Agreement, WholePackets, InOrder, InOrderAt, MayChange, open_by, Keeps, LawfulBehind, CallsKeepTheLaw, SocketsAgreeInEveryRun}
use Rattle.end.specs.Law as law
use Rattle.end.specs.Ends as Ends
use Rattle.end.specs.Ends.{CallsOn}
use Rattle.end.specs.Played.{CallMade, Played, PlayedOn}
use Rattle.end.specs.Records.{Record, record_of, room_for, book_of}
use Rattle.end.specs.Runs.{Run, Calls, RunsGoOn}
use Rattle.end.specs.Runs as runs
use Rattle.end.specs.Outcomes.{Outcome, own_header, sends, fails, framed, met, ended, requested as asked_for}
use Rattle.end.specs.States.{State, InRange, state}
use Rattle.end.specs.Steps.{Came, Made, Step}
use Rattle.end.proofs.Effects as effects
use Rattle.end.proofs.Heard.{Stands, nowhere, Heard, nothing, faulty, packet, heard, Whole}
use Rattle.end.proofs.Ruled.{Ruled, taken_off, address, cleared_for_all, sent_on, cleared, cancelled, requested, ruled}
use Rattle.end.proofs.Sent.{whole_packets}
use Rattle.end.proofs.Ticking.{tied_after_tick, changed}
use Rattle.end.proofs.Tied.{Tied, rests, tied_open, tied_holds, tied_in_time, After}
use Rattle.head.specs.declared.outcome.Endings.{Endings}
use Rattle.head.specs.declared.setting.Setting.{Setting}
use Rattle.head.specs.declared.traits.Head.{Ghosts as HeadGhosts}
use Rattle.head.specs.declared.traits.Look.{Ghosts as LookGhosts}
use Rattle.head.specs.Meaning.{Meaning}
use Rattle.rows.specs.declared.faults.PacketFault.{PacketFault}
use Rattle.rows.specs.declared.request.Request.{Request}
use Rattle.rows.specs.declared.request.Request.TheVariants.{Command, Ask}
use Rattle.rows.specs.Requests.{read_body}
use Rattle.rules.specs.declared.ring.Rule.{Rule}
use Rattle.wire.specs.Framing.{Held, none, Event}
use Rattle.wire.specs.Packets.{body_of}

-- What is kept from call to call.
pub record Inv (k : Book) (s : State) : Type 0 where
  pub address : s.address ≡ k.address
  pub low : k.address ≤ 7
  pub stands : Stands k.standing s.held
  -- with no address, both are closed
  pub asleep : k.address ≡ 0 → (k.one ≡ closed) × (k.two ≡ closed)
  pub one : Tied k.one s.sockets.one s.head.slots.one
  pub two : Tied k.two s.sockets.two s.head.slots.two

-- what an end with no address sends says nothing of a socket
reads_asleep : (y : ℕ) (p : List ℕ) (qs : List (List ℕ)) (x : Seen) → seen_after_replies 0 y p qs x ≡ x
reads_asleep y p [] x = refl
reads_asleep y p (q ∷ qs) x = reads_asleep y p qs x

asleep_after : (a y : ℕ) (p : List ℕ) (qs : List (List ℕ)) (x : Seen) → a ≡ 0 → x ≡ closed → seen_after_replies a y p qs x ≡ closed
asleep_after a y p qs x e h = ap (λ (n : ℕ). seen_after_replies n y p qs x) e ∙ reads_asleep y p qs x ∙ h

-- an open socket is of an end with an address
pub awake : (a : ℕ) (l₁ l₂ : Seen) (t : Bool) → eqb a 0 ≡ t → (a ≡ 0 → (l₁ ≡ closed) × (l₂ ≡ closed)) → (open_by l₁ ≡ true) ⊎ (open_by l₂ ≡ true) → eqb a 0 ≡ false
awake a l₁ l₂ true e h w =
    let c = h (eqb-true a 0 e) in
    elim w [
      | inl o ↦ let q = ap open_by c.0 in cc
      | inr o ↦ let q = ap open_by c.1 in cc
    ]
awake a l₁ l₂ false e h w = e

-- A whole packet.

-- no request changes the address
cond_address : (b : Bool) (o o' : Outcome) → (cond b o o').address ≡ cond b o.address o'.address
cond_address true o o' = refl
cond_address false o o' = refl

cond_same : (b : Bool) (a : ℕ) → cond b a a ≡ a
cond_same true a = refl
cond_same false a = refl

requested_address : (a : ℕ) (m : Meaning) (k : Sockets) (r : Result Request PacketFault) → (asked_for a m k r).address ≡ a
requested_address a m k (Ok (Command row o)) = simp (cond_address, cond_same)
requested_address a m k (Ok (Ask q)) = refl
requested_address a m k (Err f) = refl

abbrev shut_if : Bool → Seen → Seen
shut_if b l = cond b closed l

pub record Packeted (a' : ℕ) (o : Outcome) (p : List ℕ) (l₁ l₂ : Seen) (sent : List ℕ) (f : Setting → ℤ) (s' : State) : Type 0 where
  pub then : o.address ≡ a'
  pub low : a' ≤ 7
  pub after : After a' p l₁ l₂ sent f s'

module _ (s : State) (p sent : List ℕ) (s' : State) (low : s.address ≤ 7) (l₁ l₂ : Seen)
    (t₁ : Tied l₁ s.sockets.one s.head.slots.one) (t₂ : Tied l₂ s.sockets.two s.head.slots.two) where
  abbrev a : ℕ
  a = s.address

  abbrev Done : Outcome → Type 0
  Done o = effects.Done s.head.setting s.head.pantilt a p sent s' low o s.sockets.one s.sockets.two s.head.slots.one s.head.slots.two

  met_packet : {r : Rule} {a' : ℕ} {c : Bool} → Whole p → Ruled a p r a' c → Done (met a s.head s.sockets p r) →
      Packeted a' (met a s.head s.sockets p r) p (shut_if c l₁) (shut_if c l₂) sent s.head.setting s'
  met_packet w taken_off d = record { then = refl; low = low; after = effects.silent s.head.setting s.head.pantilt a p sent s' low t₁ t₂ d }
  met_packet w (address {w = n} some few) d = record {
    then = refl;
    low = few;
    after = effects.addressed s.head.setting s.head.pantilt n p sent s' few n s.sockets.one s.sockets.two s.head.slots.one s.head.slots.two refl some (record { packets = d.packets; head = d.head; sockets = d.sockets });
  }
  met_packet w (cleared_for_all f) d = record {
    then = refl;
    low = low;
    after = effects.wiped_passed s.head.setting s.head.pantilt a p sent s' low s.sockets.one s.sockets.two s.head.slots.one s.head.slots.two w f d;
  }
  met_packet w (sent_on f) d = record { then = refl; low = low; after = effects.passed s.head.setting s.head.pantilt a p sent s' low w f t₁ t₂ d }
  met_packet w (cleared has) d = record {
    then = refl;
    low = low;
    after = effects.wiped_here s.head.setting s.head.pantilt a p sent s' low has s.sockets.one s.sockets.two s.head.slots.one s.head.slots.two d;
  }
  met_packet w (cancelled {y = y} has) d = record {
    then = simp (cond_address, cond_same);
    low = low;
    after = effects.cancel s.head.setting s.head.pantilt a p sent s' low has y (eqb y 1) (eqb y 2) refl refl t₁ t₂ d;
  }
  met_packet w (requested has) d = record {
    then = requested_address a s.head s.sockets (read_body (body_of p));
    low = low;
    after = effects.request s.head.setting s.head.pantilt a p sent s' low has (read_body (body_of p)) refl t₁ t₂ d;
  }

-- A byte, by what the book and the end make of it.

-- the book k, which has taken note of the call, and the state after it
pub record Noted (k : Book) (f : Setting → ℤ) (sent : List ℕ) (s' : State) : Type 0 where
  pub inv : Inv (after_replies k sent) s'
  pub order_one : InOrder k.address 1 k.last (cut sent) k.one
  pub order_two : InOrder k.address 2 k.last (cut sent) k.two
  pub settings : (t : Setting) → s'.head.setting t ≡ f t

noted : (k : Book) (f : Setting → ℤ) (sent : List ℕ) (s' : State) → s'.address ≡ k.address → k.address ≤ 7 → Stands k.standing s'.held →
    (k.address ≡ 0 → (k.one ≡ closed) × (k.two ≡ closed)) → After k.address k.last k.one k.two sent f s' → Noted k f sent s'
noted k f sent s' e low st asleep r = record {
  inv = record {
    address = e;
    low = low;
    stands = st;
    asleep = λ z. let c = asleep z in (asleep_after k.address 1 k.last (cut sent) k.one z c.0, asleep_after k.address 2 k.last (cut sent) k.two z c.1);
    one = r.one;
    two = r.two;
  };
  order_one = r.order_one;
  order_two = r.order_two;
  settings = r.settings;
}

ruled_asleep : {a : ℕ} {p : List ℕ} {r : Rule} {a' : ℕ} {c : Bool} → Ruled a p r a' c → a' ≡ 0 → a ≡ 0
ruled_asleep taken_off e = e
ruled_asleep (address some few) e = absurd (omega arith)
ruled_asleep (cleared_for_all f) e = e
ruled_asleep (sent_on f) e = e
ruled_asleep (cleared has) e = e
ruled_asleep (cancelled has) e = e
ruled_asleep (requested has) e = e

shut_closed : (b : Bool) (l : Seen) → l ≡ closed → shut_if b l ≡ closed
shut_closed true l e = refl
shut_closed false l e = e

module _ (k : Book) (s : State) (r : Record) (s' : State) (i : Inv k s) where
  abbrev sent : List ℕ
  sent = r.fed.sent

  abbrev as_at : ℕ → Book
  as_at n = record { address = n; standing = k.standing; last = k.last; one = k.one; two = k.two }

  -- nothing whole: nothing sent, nothing done
  unheard : {st : Standing} {h : Held} → (d : effects.Done s.head.setting s.head.pantilt k.address k.last sent s' i.low (sends k.address []) s.sockets.one s.sockets.two s.head.slots.one s.head.slots.two) →
      s'.address ≡ s.address → s'.held ≡ h → Stands st h → Noted (with_packet k st None) s.head.setting sent s'
  unheard {st} d e g t =
      noted (with_packet k st None) s.head.setting sent s' (e ∙ i.address) i.low (rw g t) i.asleep
      (effects.silent s.head.setting s.head.pantilt k.address k.last sent s' i.low i.one i.two d)

  whole_heard : {p : List ℕ} → Whole p → Came s none (framed s.address s.head s.sockets (Ok (Some p))) r s' →
      Noted (with_packet (as_at s.address) between (Some p)) s.head.setting sent s'
  whole_heard {p} w c =
      let low : s.address ≤ 7 = subst (λ (n : ℕ). n ≤ 7) (sym i.address) i.low in
      let u = ruled s.address low w in
      let m = met_packet s p sent s' low k.one k.two i.one i.two w u (record { packets = c.packets; head = c.head; sockets = c.sockets }) in
      noted (with_packet (as_at s.address) between (Some p)) s.head.setting sent s' (c.address ∙ m.then) m.low (rw c.held nowhere)
      (λ z. let q = i.asleep (sym i.address ∙ ruled_asleep u z) in (shut_closed (clearing s.address p) k.one q.0, shut_closed (clearing s.address p) k.two q.1))
      m.after

  byte_heard : {st : Standing} {h : Held} {w : Option (List ℕ)} {ev : Event} → Heard st h w ev → Came s h (framed s.address s.head s.sockets ev) r s' →
      Noted (with_packet k st w) s.head.setting sent s'
  byte_heard (nothing t) c = unheard (record { packets = c.packets; head = c.head; sockets = c.sockets }) c.address c.held t
  byte_heard (faulty t) c = unheard (record { packets = c.packets; head = c.head; sockets = c.sockets }) c.address c.held t
  byte_heard (packet {p = p} w) c = subst (λ (n : ℕ). Noted (with_packet (as_at n) between (Some p)) s.head.setting sent s') i.address (whole_heard w c)

-- One call.

pub record Goes (k : Book) (s : State) (r : Record) (s' : State) : Type 0 where
  pub inv : Inv (after_call k r.fed) s'
  pub order_one : accepted r.fed.call r.fed.room ≡ true → InOrderAt k r.fed 1 (before_replies k r.fed.call).one
  pub order_two : accepted r.fed.call r.fed.room ≡ true → InOrderAt k r.fed 2 (before_replies k r.fed.call).two
  pub silent : accepted r.fed.call r.fed.room ≡ false → r.fed.sent ≡ []
  pub settings : (t : Setting) → (s'.head.setting t ≡ s.head.setting t) ⊎ MayChange k s.head r.fed t
  pub answer : r.fed.call ≡ Open → r.answer ≡ opens (open_by k.one) (open_by k.two)

-- end and head as before, nothing sent
still : (k : Book) (s s' : State) → Inv k s → Unchanged s.head s'.head → s'.sockets ≡ s.sockets → s'.address ≡ s.address → s'.held ≡ s.held → Inv k s'
still k s s' i h c e g = record {
  address = e ∙ i.address;
  low = i.low;
  stands = rw g i.stands;
  asleep = i.asleep;
  one = rw (c, h.slots) i.one;
  two = rw (c, h.slots) i.two;
}

-- a call with a short buffer
refused : (k : Book) (s : State) (r : Record) (s' : State) → (r.fed.call ≡ Open → ⊥) → accepted r.fed.call r.fed.room ≡ false → Inv k s →
    Came s s.held (fails s.address ShortBuffer []) r s' → Goes k s r s'
refused k s r s' never w i c = record {
  inv = rw w (still k s s' i c.head c.sockets c.address c.held);
  order_one = λ t. cc;
  order_two = λ t. cc;
  silent = λ t. c.packets;
  settings = λ t. inl (c.head.kept.setting t);
  answer = λ o. absurd (never o);
}

module _ (k : Book) (s : State) (n : ℕ) (a : Answer) (sent : List ℕ) (e : Endings) (s' : State) where
  abbrev of : Call → Record
  of c = record_of c n a sent e

  byte_goes : (b : ℕ) (w : Bool) → leb 16 n ≡ w → Inv k s → Step s (of (Byte b)) s' → Goes k s (of (Byte b)) s'
  byte_goes b true w i d =
      let r = byte_heard k s (of (Byte b)) s' i (heard b i.stands) (d.enough (leb-true 16 n w)) in
      record {
        inv = rw w r.inv;
        order_one = λ t. r.order_one;
        order_two = λ t. r.order_two;
        silent = λ t. cc;
        settings = λ t. inl (r.settings t);
        answer = λ o. cc;
      }
  byte_goes b false w i d = refused k s (of (Byte b)) s' (λ o. cc) w i (d.short (leb-false 16 n w))

  tick_goes : (w : Bool) → leb 16 n ≡ w → Inv k s → Step s (of Tick) s' → Goes k s (of Tick) s'
  tick_goes true w i d =
      let c = d.enough (leb-true 16 n w) in
      let h = c.head in
      let says = subst (λ (z : ℕ). sent ≡ ended (own_header z) 1 e.one ++ ended (own_header z) 2 e.two) i.address c.packets in
      let r = tied_after_tick k.address k.last sent s' e i.low (awake k.address k.one k.two (eqb k.address 0) refl i.asleep) i.one i.two h.one h.two c.sockets says in
      let q = noted (after_tick k) s'.head.setting sent s' (c.address ∙ i.address) i.low (rw c.held i.stands)
      (λ z. let y = i.asleep z in (ap one_tick_older y.0, ap one_tick_older y.1)) r in
      record {
        inv = rw w q.inv;
        order_one = λ t. q.order_one;
        order_two = λ t. q.order_two;
        silent = λ t. cc;
        settings = λ t. elim (changed s.head s'.head e t h i.one i.two) [ inl y ↦ inl y | inr y ↦ inr (record { tick = refl; room = leb-true 16 n w; why = y }) ];
        answer = λ o. cc;
      }
  tick_goes false w i d = refused k s (of Tick) s' (λ o. cc) w i (d.short (leb-false 16 n w))

  open_goes : Inv k s → Step s (of Open) s' → Goes k s (of Open) s'
  open_goes i d = record {
    inv = still k s s' i d.head d.sockets d.address d.held;
    order_one = λ t. cc;
    order_two = λ t. cc;
    silent = λ t. d.silent;
    settings = λ t. inl (d.head.kept.setting t);
    answer = λ o. let x = tied_open i.one in let y = tied_open i.two in d.answer ∙ rw (x, y) refl;
  }

  call_goes : (c : Call) → Inv k s → Step s (of c) s' → Goes k s (of c) s'
  call_goes (Byte b) i d = byte_goes b (leb 16 n) refl i d
  call_goes Tick i d = tick_goes (leb 16 n) refl i d
  call_goes Open i d = open_goes i d

pub goes : (k : Book) (s : State) (r : Record) (s' : State) → Inv k s → Step s r s' → Goes k s r s'
goes k s r s' i d = call_goes k s r.fed.room r.answer r.fed.sent r.endings s' r.fed.call i d

-- Every run.

just_made : {m : Meaning} {s : State} → Made m s → Inv fresh s
just_made {s = s} d = record {
  address = d.address;
  low = omega arith;
  stands = rw d.held nowhere;
  asleep = λ z. (refl, refl);
  one = rw (d.sockets, d.head.slots) rests;
  two = rw (d.sockets, d.head.slots) rests;
}

pub in_range_in : {m : Meaning} {h : List Record} {s : State} → Run m h s → InRange s
in_range_in (runs.Run.made d v) = v
in_range_in (runs.Run.then r x d v) = v

pub kept : {m : Meaning} {h : List Record} {s : State} → Run m h s → Inv (book_of h) s
kept (runs.Run.made d v) = just_made d
kept (runs.Run.then {h = h} {s = s} {s' = s'} r x d v) = (goes (book_of h) s r s' (kept x) d).inv

agreement : (k : Book) (s : State) → Inv k s → Agreement k s
agreement k s i =
    let x = tied_open i.one in
    let y = tied_open i.two in
    record { asked = rw (x, y) refl; slot_one = tied_holds i.one; slot_two = tied_holds i.two }

lawful_call : (k : Book) (s : State) (r : Record) (s' : State) → WholePackets 2 r.fed.sent → Goes k s r s' → Law k s r s'
lawful_call k s r s' w g = record {
  agreement = agreement (after_call k r.fed) s' g.inv;
  whole = w;
  order_one = g.order_one;
  order_two = g.order_two;
  silent = g.silent;
  time_one = tied_in_time g.inv.one;
  time_two = tied_in_time g.inv.two;
  settings = g.settings;
  answer = g.answer;
}

pub call_law : {m : Meaning} {h : List Record} {s : State} (r : Record) (s' : State) → Run m h s → Step s r s' → Law (book_of h) s r s'
call_law {h = h} {s = s} r s' x d =
    let i = kept x in
    lawful_call (book_of h) s r s' (whole_packets s r s' (rw i.address i.low) i.stands d) (goes (book_of h) s r s' i d)

pub every_run : {m : Meaning} {h : List Record} {s : State} → Run m h s → Lawful m h s
every_run (runs.Run.made {s = s} d v) = law.Lawful.made d v (agreement fresh s (just_made d))
every_run (runs.Run.then {s' = s'} r x d v) = law.Lawful.then r (every_run x) d v (call_law r s' x d)

pub sockets_agree_in_every_run : SocketsAgreeInEveryRun
sockets_agree_in_every_run m h s r = every_run r

pub keeps : (s : State) (r : Record) (s' : State) → InRange s' → Step s r s' → Keeps s r s'
keeps s r s' v d m h x = record { lawful = every_run (runs.Run.then r x d v); now = call_law r s' x d }

-- Calls behind a run.

pub run_behind : {m : Meaning} {before : List Record} {s : State} {h : List Record} {s' : State} → Calls s h s' → Run m before s → Run m (h ++ before) s'
run_behind runs.Calls.none x = x
run_behind (runs.Calls.then r c d v) x = runs.Run.then r (run_behind c x) d v

pub runs_go_on : RunsGoOn
runs_go_on m before h s s' x c = run_behind c x

pub behind : {h : List Record} {s s' : State} → Calls s h s' → LawfulBehind s h s'
behind c m before x = every_run (run_behind c x)

pub calls_keep_the_law : CallsKeepTheLaw
calls_keep_the_law s h s' c = behind c

-- Calls by the end's own values.
module _ {H : Type 0} {h : HeadGhosts H} {l : LookGhosts H} where
  -- are calls by what the head means
  calls_meant : {x : End H h l} {rs : List Record} {x' : End H h l} → CallsOn x rs x' → Calls (state x) rs (state x')
  calls_meant Ends.CallsOn.none = runs.Calls.none
  calls_meant (Ends.CallsOn.then k c step ranged head) = runs.Calls.then k (calls_meant c) step ranged

  pub behind_on : {x x' : End H h l} {rs : List Record} → CallsOn x rs x' → LawfulBehind (state x) rs (state x')
  behind_on c = behind (calls_meant c)

  -- one list of calls and then another
  pub calls_on_then : {x x' : End H h l} {rs rs' : List Record} {x'' : End H h l} → CallsOn x rs x' → CallsOn x' rs' x'' → CallsOn x (rs' ++ rs) x''
  calls_on_then c Ends.CallsOn.none = c
  calls_on_then c (Ends.CallsOn.then k c' step ranged head) = Ends.CallsOn.then k (calls_on_then c c') step ranged head

-- A list of calls.

module _ {H : Type 0} {h : HeadGhosts H} {l : LookGhosts H} {x : End H h l} where
  pub served_run : {m : Meaning} {rs : List Record} {x' : End H h l} → CallsOn x rs x' → Run m [] (state x) → Run m rs (state x')
  served_run {m = m} {rs = rs} {x' = x'} c r = subst (λ (k : List Record). Run m k (state x')) (append-nil rs) (run_behind (calls_meant c) r)

  pub played : {m : Meaning} {calls : List Call} {n : ℕ} {bytes : List ℕ} {x' : End H h l} → Run m [] (state x) → PlayedOn x calls n bytes x' → Played m calls n bytes (state x')
  played r p = record { run = p.run; asked = p.asked; logged = p.logged; shared = p.shared; lawful = every_run (served_run p.served r) }

  pub played_none : (n : ℕ) → PlayedOn x [] n [] x
  played_none n = record { run = []; asked = refl; logged = refl; shared = tt; served = Ends.CallsOn.none }

  pub played_more : (calls : List Call) (n : ℕ) (bytes : List ℕ) (x' : End H h l) (c : Call) (sent : List ℕ) (x'' : End H h l) →
      CallMade c (n - length bytes) x' sent x'' → PlayedOn x calls n bytes x' → PlayedOn x (calls ++ c ∷ []) n (bytes ++ sent) x''
  played_more calls n bytes x' c sent x'' d v =
      let r = record_of c (room_for c (n - length bytes)) d.answer sent d.endings in
      record {
        run = r ∷ v.run;
        asked = ap (λ (z : List Call). z ++ c ∷ []) v.asked;
        logged = ap (λ (z : List ℕ). z ++ sent) v.logged;
        shared = (ap (λ (z : List ℕ). room_for c (n - length z)) (sym v.logged), v.shared);
        served = Ends.CallsOn.then r v.served d.step d.ranged d.head;
      }
