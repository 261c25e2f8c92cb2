-- What whole packets do to an end, by their sender and receiver and by the rows: those that are none of its business do nothing,
-- and the head is given an order only for one that is for this end, and that one row admits.
use Rattle.std.specs.Prelude.{◌≡◌, ◌≢◌, ℕ, ◌≤◌, false, ◌⊎◌, List, [], length, Some, Ok}
use Rattle.end.specs.Book.{made_whole}
use Rattle.end.specs.Deeds.{nothing, starts, displaces, Unchanged}
use Rattle.end.specs.Faults.{counts}
use Rattle.end.specs.Promises.{Comes}
use Rattle.end.specs.Records.{Record, book_of}
use Rattle.end.specs.Runs.{Run}
use Rattle.end.specs.States.{State}
use Rattle.end.specs.Steps.{heard_in}
use Rattle.head.specs.declared.order.Order.{Order}
use Rattle.head.specs.Meaning.{Meaning}
use Rattle.rows.specs.OneRow.{OrderedByOne}
use Rattle.rules.specs.declared.ring.Rule.TheVariants.{Requested}
use Rattle.rules.specs.Ring.{sender, receiver, is_broadcast, Plain, rule_of}
use Rattle.wire.specs.Framing.{event}
use Rattle.wire.specs.Packets.{body_of}

-- what was sent is all that came of the byte, and it is counted
pub record DoesNothing {s : State} {b : ℕ} (x : Comes s b) : Type 0 where
  -- so the head is the very same value, as the call promises
  pub deed : (heard_in s b).deed ≡ nothing
  pub answer : x.answer ≡ counts (length x.sent)
  pub head : Unchanged s.head x.after.head
  pub sockets : x.after.sockets ≡ s.sockets
  pub address : x.after.address ≡ s.address

-- it is taken off the ring
pub record IsTakenOff {s : State} {b : ℕ} (x : Comes s b) : Type 0 where
  pub sent : x.sent ≡ []
  pub nothing : DoesNothing x

-- the packet is sent on as it came
pub record IsSentOn (p : List ℕ) {s : State} {b : ℕ} (x : Comes s b) : Type 0 where
  pub sent : x.sent ≡ p
  pub nothing : DoesNothing x

-- the byte makes the packet p whole, for an end with address a
pub record LetsPass (a : ℕ) (p : List ℕ) {s : State} {b : ℕ} (x : Comes s b) : Type 0 where
  -- what is from this end is taken off, broadcast or not
  pub from_this_end : 1 ≤ a → sender p ≡ a → IsTakenOff x
  -- what another end sends, to whomever
  pub from_another : sender p ≢ a → sender p ≢ 0 → IsSentOn p x
  -- what is for another
  pub for_another : sender p ≢ a → is_broadcast p ≡ false → receiver p ≢ a → IsSentOn p x
  -- with no address, everything but the two broadcasts that every end obeys
  pub with_no_address : a ≡ 0 → Plain a p → IsSentOn p x

-- in any run
abbrev pub PacketsOfOthersPass : Type 0
PacketsOfOthersPass =
    (m : Meaning) (h : List Record) (s : State) → Run m h s →
    (b : ℕ) (p : List ℕ) → made_whole (book_of h).standing b ≡ Some p → (x : Comes s b) → LetsPass (book_of h).address p x

-- the byte makes whole a packet that the rules of the ring leave to the rows, and the order is that of the one row that admits it
pub record AskedFor (s : State) (b : ℕ) (o : Order) : Type 0 where
  pub packet : List ℕ
  pub whole : event s.held b ≡ Ok (Some packet)
  pub for_this_end : rule_of s.address packet ≡ Requested
  pub by_one_row : OrderedByOne (body_of packet) o

-- an order that a byte has the head given
abbrev pub OrdersAreAskedFor : Type 0
OrdersAreAskedFor =
    (s : State) (b y : ℕ) (o : Order) →
    ((heard_in s b).deed ≡ starts y o) ⊎ ((heard_in s b).deed ≡ displaces y o) → AskedFor s b o
