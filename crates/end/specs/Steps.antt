-- One call on an end: what it answers, what it sends, and what the end and its head are then.
use Rattle.std.specs.Prelude.{◌≡◌, ℕ, ◌<◌, ◌≤◌, if◌then◌else◌, []}
use Rattle.end.specs.declared.call.Call.{Call}
use Rattle.end.specs.declared.call.Call.TheVariants.{Byte, Tick, Open}
use Rattle.end.specs.declared.faults.Cause.TheVariants.{ShortBuffer}
use Rattle.end.specs.Book.{accepted}
use Rattle.end.specs.Deeds.{Deed, nothing, ticks, DidHead, sockets_after, endings_in, none_ended, MadeIdle, Unchanged}
use Rattle.end.specs.Faults.{opens}
use Rattle.end.specs.Outcomes.{Outcome, fails, framed, ticked, answer_of}
use Rattle.end.specs.Records.{Record}
use Rattle.end.specs.Sockets.{is_open, both_closed}
use Rattle.end.specs.States.{State}
use Rattle.head.specs.declared.outcome.Endings.{Endings}
use Rattle.head.specs.Meaning.{Meaning}
use Rattle.wire.specs.Framing.{Held, none, held_after, event}

-- what comes of a byte
abbrev pub heard_in : State → ℕ → Outcome
heard_in s b = framed s.address s.head s.sockets (event s.held b)

-- the deed of a call: a call that is not accepted does nothing
abbrev pub deed_by : State → Call → Endings → Deed
deed_by s (Byte b) e = (heard_in s b).deed
deed_by s Tick e = ticks e
deed_by s Open e = nothing

abbrev pub deed_of : State → Record → Deed
deed_of s r = if accepted r.fed.call r.fed.room then deed_by s r.fed.call r.endings else nothing

-- the outcome o came about, with framing h then: the answer, the bytes sent, what the head told, and the state are those that it says
pub record Came (s : State) (h : Held) (o : Outcome) (r : Record) (s' : State) : Type 0 where
  pub answer : r.answer ≡ answer_of o
  pub packets : r.fed.sent ≡ o.sent
  pub endings : r.endings ≡ endings_in o.deed
  pub head : DidHead o.deed s.head s'.head
  pub sockets : s'.sockets ≡ sockets_after o.deed s.sockets
  pub address : s'.address ≡ o.address
  pub held : s'.held ≡ h

-- a call with a buffer under 16 bytes is refused with fault 1, nothing is sent, end and head are as before
pub record WithRoom (accepted : Type 0) (s : State) (r : Record) (s' : State) : Type 0 where
  pub short : r.fed.room < 16 → Came s s.held (fails s.address ShortBuffer []) r s'
  pub enough : 16 ≤ r.fed.room → accepted

-- the question which sockets are open: it changes nothing
pub record OpenAsked (s : State) (r : Record) (s' : State) : Type 0 where
  pub answer : r.answer ≡ opens (is_open s.sockets.one) (is_open s.sockets.two)
  pub silent : r.fed.sent ≡ []
  pub untold : r.endings ≡ none_ended
  pub head : Unchanged s.head s'.head
  pub sockets : s'.sockets ≡ s.sockets
  pub address : s'.address ≡ s.address
  pub held : s'.held ≡ s.held

abbrev pub StepOf : Call → State → Record → State → Type 0
StepOf (Byte b) s r s' = WithRoom (Came s (held_after s.held b) (heard_in s b) r s') s r s'
StepOf Tick s r s' = WithRoom (Came s s.held (ticked s.address r.endings) r s') s r s'
StepOf Open s r s' = OpenAsked s r s'

-- a call, in whatever state. What is free are only the head's choices, within what its own start and tick promise
abbrev pub Step : State → Record → State → Type 0
Step s r s' = StepOf r.fed.call s r s'

-- an end just made of a head: its slots are dropped, it has no address, no packet is begun and both sockets are closed
pub record Made (m : Meaning) (s : State) : Type 0 where
  pub head : MadeIdle m s.head
  pub address : s.address ≡ 0
  pub held : s.held ≡ none
  pub sockets : s.sockets ≡ both_closed
