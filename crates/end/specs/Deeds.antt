-- What a call does to the sockets and the head.
use Rattle.std.specs.Prelude.{◌≡◌, ℕ, ◌-◌, Some, None, Option, Result}
use Rattle.end.specs.declared.socket.Sockets.{Sockets}
use Rattle.end.specs.Sockets.{both_closed, with_socket}
use Rattle.head.specs.declared.order.Order.{Order}
use Rattle.head.specs.declared.outcome.Ending.{Ending}
use Rattle.head.specs.declared.outcome.Endings.{Endings}
use Rattle.head.specs.declared.outcome.Refusal.{Refusal}
use Rattle.head.specs.declared.traits.Head.{Ghosts}
use Rattle.head.specs.Meaning.{Meaning, Slots, idle, Kept, Started, Ticked, Dropped}

pub data Deed : Type 0 where
  nothing : Deed
  -- both slots are dropped and both sockets closed
  clears : Deed
  -- slot y is dropped and its socket closed
  cancels : ℕ → Deed
  -- slot y is given the order, and its socket is open with it
  starts : ℕ → Order → Deed
  -- the other slot is dropped and its socket closed; then slot y is given the order
  displaces : ℕ → Order → Deed
  -- the head ticks, and a socket whose order ended is closed
  ticks : Endings → Deed

-- the other socket than y
abbrev pub other_socket : ℕ → ℕ
other_socket y = 3 - y

-- The head over a deed, by its own values: the calls that it goes through, in order, from x to x'. What a call is to a head
-- only the head knows, so that only the very calls show these.

-- by what a drop and a start are to the head
pub record DropsBoth {H : Type 0} (drop : H → ℕ → H → Type 0) (x x' : H) : Type 0 where
  pub between : H
  pub one : drop x 1 between
  pub two : drop between 2 x'

abbrev pub StartRelation : Type 0 → Type 1
StartRelation H = H → ℕ → Order → Result (Unit {0}) Refusal → H → Type 0

-- the head answers, be it that it turns the order down; no run comes to that
pub record Starts {H : Type 0} (start : StartRelation H) (x : H) (y : ℕ) (o : Order) (x' : H) : Type 0 where
  pub answer : Result (Unit {0}) Refusal
  pub started : start x y o answer x'

pub record DropsAndStarts {H : Type 0} (drop : H → ℕ → H → Type 0) (start : StartRelation H)
    (x : H) (y : ℕ) (o : Order) (x' : H) : Type 0 where
  pub between : H
  pub dropped : drop x (other_socket y) between
  pub starts : Starts start between y o x'

abbrev pub HeadCalls : {H : Type 0} → Ghosts H → Deed → H → H → Type 0
HeadCalls head nothing x x' = x' ≡ x
HeadCalls head clears x x' = DropsBoth head.dropped x x'
HeadCalls head (cancels y) x x' = head.dropped x y x'
HeadCalls head (starts y o) x x' = Starts head.started x y o x'
HeadCalls head (displaces y o) x x' = DropsAndStarts head.dropped head.started x y o x'
HeadCalls head (ticks e) x x' = head.ticked x e x'

-- The same by what the head means.

-- settings, pan and tilt, and slots as before
pub record Unchanged (m m' : Meaning) : Type 0 where
  pub kept : Kept m m'
  pub slots : m'.slots ≡ m.slots

abbrev pub both_idle : Slots
both_idle = record { one = idle; two = idle }

-- both slots idle, and all else as before
pub record MadeIdle (m m' : Meaning) : Type 0 where
  pub kept : Kept m m'
  pub slots : m'.slots ≡ both_idle

pub record Given (m : Meaning) (y : ℕ) (o : Order) (m' : Meaning) : Type 0 where
  pub answer : ℕ
  pub started : Started m y o answer m'

-- first the other slot is dropped
pub record Displaced (m : Meaning) (y : ℕ) (o : Order) (m' : Meaning) : Type 0 where
  pub between : Meaning
  pub dropped : Dropped m (other_socket y) between
  pub given : Given between y o m'

abbrev pub DidHead : Deed → Meaning → Meaning → Type 0
DidHead nothing m m' = Unchanged m m'
DidHead clears m m' = MadeIdle m m'
DidHead (cancels y) m m' = Dropped m y m'
DidHead (starts y o) m m' = Given m y o m'
DidHead (displaces y o) m m' = Displaced m y o m'
DidHead (ticks e) m m' = Ticked m e m'

-- a socket whose order ended is closed
abbrev pub settled : Option Ending → Option Order → Option Order
settled None x = x
settled (Some e) x = None

-- the sockets after a deed
abbrev pub sockets_after : Deed → Sockets → Sockets
sockets_after nothing k = k
sockets_after clears k = both_closed
sockets_after (cancels y) k = with_socket k y None
sockets_after (starts y o) k = with_socket k y (Some o)
sockets_after (displaces y o) k = with_socket (with_socket k (other_socket y) None) y (Some o)
sockets_after (ticks e) k = record { one = settled e.one k.one; two = settled e.two k.two }

abbrev pub none_ended : Endings
none_ended = record { one = None; two = None }

-- the endings that the head tells over a deed
abbrev pub endings_in : Deed → Endings
endings_in nothing = none_ended
endings_in clears = none_ended
endings_in (cancels y) = none_ended
endings_in (starts y o) = none_ended
endings_in (displaces y o) = none_ended
endings_in (ticks e) = e
