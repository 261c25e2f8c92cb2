-- The law of the sockets, over runs of any length, over any head.
use Rattle.std.specs.Prelude.{◌≡◌, ℕ, ◌<◌, ◌≤◌, Bool, true, false, ◌⊎◌, List, [], ◌∷◌, ◌++◌, length, pos, is_some, Some, None, Option}
use Rattle.std.specs.List.{concat, list_all}
use Rattle.end.specs.declared.call.Call.TheVariants.{Tick, Open}
use Rattle.end.specs.Book.{Book, Entry, Seen, closed, working, Said, acknowledges, ends, other, said_of, seen_after_said, cut, fresh, before_replies, accepted, after_call}
use Rattle.end.specs.Faults.{opens}
use Rattle.end.specs.Records.{Record, book_of}
use Rattle.end.specs.Runs.{Run, Calls}
use Rattle.end.specs.Sockets.{is_open}
use Rattle.end.specs.States.{State, InRange}
use Rattle.end.specs.Steps.{Made, Step}
use Rattle.head.specs.declared.order.Order.{Order}
use Rattle.head.specs.declared.setting.Axis.{Axis}
use Rattle.head.specs.declared.setting.Setting.{Setting}
use Rattle.head.specs.Meaning.{Meaning, Slot, order_in}
use Rattle.head.specs.Orders.{parts, names}
use Rattle.head.specs.Settings.{position, drive}
use Rattle.rows.specs.Requests.{read_as}
use Rattle.wire.specs.Packets.{is_packet}

-- Agreement.

abbrev pub open_by : Seen → Bool
open_by closed = false
open_by (working p n) = true

-- what the slot of a socket holds, by the book: the order that the packet of its command is read as
abbrev pub command_of : Seen → Option Order
command_of closed = None
command_of (working p n) = read_as p

-- a socket by the book and a slot by the head: the slot has an order exactly if the socket is open, and it is the command's
pub record SlotAgrees (x : Seen) (c : Slot) : Type 0 where
  pub whether : is_some (order_in c) ≡ open_by x
  pub which : order_in c ≡ command_of x

-- what the end answers if it is asked now which sockets are open, is what the book has; and so have the slots of the head
pub record Agreement (k : Book) (s : State) : Type 0 where
  pub asked : opens (is_open s.sockets.one) (is_open s.sockets.two) ≡ opens (open_by k.one) (open_by k.two)
  pub slot_one : SlotAgrees k.one s.head.slots.one
  pub slot_two : SlotAgrees k.two s.head.slots.two

-- Whole packets.

-- bytes that are at most n packets and fit in 16: the book's cut loses none of them, and makes only packets of them
pub record WholePackets (n : ℕ) (sent : List ℕ) : Type 0 where
  pub complete : concat (cut sent) ≡ sent
  pub each : list_all is_packet (cut sent) ≡ true
  pub few : length (cut sent) ≤ n
  pub short : length sent ≤ 16

-- Order of packets.

-- no acknowledgement for a socket that is open just before it, no ending for one that is closed just before it
abbrev pub Due : Said → Seen → Type 0
Due acknowledges x = open_by x ≡ false
Due ends x = open_by x ≡ true
Due other x = Unit {0}

-- packets of an end with address a, read in turn for socket y; p is the last whole packet
abbrev pub InOrder : ℕ → ℕ → List ℕ → List (List ℕ) → Seen → Type 0
InOrder a y p [] x = Unit {0}
InOrder a y p (q ∷ qs) x = Due (said_of a y q) x × InOrder a y p qs (seen_after_said p (said_of a y q) x)

-- the packets that a call sent, read for socket y, which is x as the call's packets begin; k is the book before the call
abbrev pub InOrderAt : Book → Entry → ℕ → Seen → Type 0
InOrderAt k e y x = let b = before_replies k e.call in InOrder b.address y b.last (cut e.sent) x

-- fewer than 1,000 accepted ticks since the acknowledgement
abbrev pub InTime : Seen → Type 0
InTime closed = Unit {0}
InTime (working p n) = n < 1000

-- Settings.

abbrev pub names_by : Option Order → Setting → Bool
names_by None t = false
names_by (Some o) t = names (parts o.targets) t

-- an open command, by the book, names the setting
abbrev pub Named : Seen → Setting → Type 0
Named x t = names_by (command_of x) t ≡ true

-- the setting is a position whose drive is not 0
pub record IsDriven (m : Meaning) (t : Setting) : Type 0 where
  pub axis : Axis
  pub is : position axis ≡ t
  pub moves : m.setting (drive axis) ≡ pos 0 → ⊥

-- a setting may change at an accepted tick, if an open command names it or its drive is not 0
pub record MayChange (k : Book) (m : Meaning) (e : Entry) (t : Setting) : Type 0 where
  pub tick : e.call ≡ Tick
  pub room : 16 ≤ e.room
  pub why : Named k.one t ⊎ Named k.two t ⊎ IsDriven m t

-- The law of one call in state s, of which r is the record, that leads to s'; k is the book before it.
pub record Law (k : Book) (s : State) (r : Record) (s' : State) : Type 0 where
  pub agreement : Agreement (after_call k r.fed) s'
  pub whole : WholePackets 2 r.fed.sent
  -- the packets that an accepted call sent, as the book reads them
  pub order_one : accepted r.fed.call r.fed.room ≡ true → InOrderAt k r.fed 1 (before_replies k r.fed.call).one
  pub order_two : accepted r.fed.call r.fed.room ≡ true → InOrderAt k r.fed 2 (before_replies k r.fed.call).two
  -- any other sent nothing
  pub silent : accepted r.fed.call r.fed.room ≡ false → r.fed.sent ≡ []
  pub time_one : InTime (after_call k r.fed).one
  pub time_two : InTime (after_call k r.fed).two
  pub settings : (t : Setting) → (s'.head.setting t ≡ s.head.setting t) ⊎ MayChange k s.head r.fed t
  -- a question which sockets are open was answered as the book has it
  pub answer : r.fed.call ≡ Open → r.answer ≡ opens (open_by k.one) (open_by k.two)

-- a run of which the law holds after each call
pub data Lawful (m : Meaning) : List Record → State → Type 0 where
  made : {s : State} → Made m s → InRange s → Agreement fresh s → Lawful m [] s
  then : {h : List Record} {s s' : State} (r : Record) →
      Lawful m h s → Step s r s' → InRange s' → Law (book_of h) s r s' → Lawful m (r ∷ h) s'

-- every run is lawful
abbrev pub SocketsAgreeInEveryRun : Type 0
SocketsAgreeInEveryRun = (m : Meaning) (h : List Record) (s : State) → Run m h s → Lawful m h s

-- what a call owes to every run that leads to it: the run with this call is a run, the law holds after each of its calls, and
-- after this one with what it answered
pub record LawKept (m : Meaning) (h : List Record) (s : State) (r : Record) (s' : State) : Type 0 where
  pub lawful : Lawful m (r ∷ h) s'
  pub now : Law (book_of h) s r s'

abbrev pub Keeps : State → Record → State → Type 0
Keeps s r s' = (m : Meaning) (h : List Record) → Run m h s → LawKept m h s r s'

-- calls from s to s' keep it too: behind every run that leads to s they are a run, and the law holds after each
abbrev pub LawfulBehind : State → List Record → State → Type 0
LawfulBehind s h s' = (m : Meaning) (before : List Record) → Run m before s → Lawful m (h ++ before) s'

abbrev pub CallsKeepTheLaw : Type 0
CallsKeepTheLaw = (s : State) (h : List Record) (s' : State) → Calls s h s' → LawfulBehind s h s'
