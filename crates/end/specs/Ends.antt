-- An end and its head by their own values, over calls and what calls are made of.
use Rattle.std.specs.Prelude.{◌≡◌, ℕ, List, [], ◌∷◌, Result}
use Rattle.end.specs.declared.call.Call.TheVariants.{Tick}
use Rattle.end.specs.declared.end.End.{End}
use Rattle.end.specs.declared.faults.Fault.{Fault}
use Rattle.end.specs.Deeds.{Deed, clears, HeadCalls, sockets_after}
use Rattle.end.specs.Faults.{Answer, counts}
use Rattle.end.specs.Law.{Keeps}
use Rattle.end.specs.Outcomes.{Outcome, ticked, answer_of}
use Rattle.end.specs.Records.{Record, call_record}
use Rattle.end.specs.States.{InRange, state}
use Rattle.end.specs.Steps.{Step, deed_of}
use Rattle.head.specs.declared.outcome.Endings.{Endings}
use Rattle.head.specs.declared.traits.Head.{Ghosts as HeadGhosts}
use Rattle.head.specs.declared.traits.Look.{Ghosts as LookGhosts}
use Rattle.wire.specs.Framing.{Held}
use Rattle.wire.specs.Line.{over}

-- the head of an end
abbrev pub head_of : {H : Type 0} {h : HeadGhosts H} {l : LookGhosts H} → End H h l → H
head_of x = x.head

-- the head went through the calls of deed d, and through no others
abbrev pub HeadOver : {H : Type 0} {h : HeadGhosts H} {l : LookGhosts H} → Deed → End H h l → End H h l → Type 0
HeadOver {h = h} d x x' = HeadCalls h d x.head x'.head

-- the end's head is the one that was given, with both slots dropped; and the other way round
abbrev pub TakesOver : {H : Type 0} {h : HeadGhosts H} {l : LookGhosts H} → H → End H h l → Type 0
TakesOver {h = h} given x = HeadCalls h clears given x.head

abbrev pub HandsBack : {H : Type 0} {h : HeadGhosts H} {l : LookGhosts H} → End H h l → H → Type 0
HandsBack {h = h} x given = HeadCalls h clears x.head given

-- a tick: with the endings that the head told it is a step and keeps the law, and the head went through this one tick, or
-- through none if the tick is refused
pub record TickMade {H : Type 0} {h : HeadGhosts H} {l : LookGhosts H}
    (x : End H h l) (old : List ℕ) (r : Result ℕ Fault) (new : List ℕ) (x' : End H h l) : Type 0 where
  pub endings : Endings
  pub step : Step (state x) (call_record Tick old r new endings) (state x')
  pub head : HeadOver (deed_of (state x) (call_record Tick old r new endings)) x x'
  pub law : Keeps (state x) (call_record Tick old r new endings) (state x')

-- The calls from end x to another, by values: each is a step, over which the head went through the calls of its deed. The newest
-- record stands first.
pub data CallsOn {H : Type 0} {h : HeadGhosts H} {l : LookGhosts H} (x : End H h l) : List Record → End H h l → Type 0 where
  none : CallsOn x [] x
  then : {rs : List Record} {x' x'' : End H h l} (r : Record) → CallsOn x rs x' →
      Step (state x') r (state x'') → InRange (state x'') → HeadOver (deed_of (state x') r) x' x'' → CallsOn x (r ∷ rs) x''

-- What calls are made of.

-- a deed, with address and framing as before
pub record Worked {H : Type 0} {h : HeadGhosts H} {l : LookGhosts H} (d : Deed) (x x' : End H h l) : Type 0 where
  pub head : HeadCalls h d x.head x'.head
  pub sockets : x'.sockets ≡ sockets_after d x.sockets
  pub address : x'.address ≡ x.address
  pub held : x'.framer ≡ x.framer

-- the outcome o came about, with framing f then, and its bytes are in front of a buffer
pub record CameWith {H : Type 0} {h : HeadGhosts H} {l : LookGhosts H}
    (x : End H h l) (f : Held) (o : Outcome) (a : Answer) (old new : List ℕ) (x' : End H h l) : Type 0 where
  pub answer : a ≡ answer_of o
  pub sent : new ≡ over o.sent old
  pub head : HeadCalls h o.deed x.head x'.head
  pub sockets : x'.sockets ≡ sockets_after o.deed x.sockets
  pub address : x'.address ≡ o.address
  pub held : x'.framer ≡ f

-- of a whole packet, which leaves framing as it was
abbrev pub CameOf : {H : Type 0} {h : HeadGhosts H} {l : LookGhosts H} →
    End H h l → Outcome → Answer → List ℕ → List ℕ → End H h l → Type 0
CameOf x o a old new x' = CameWith x x.framer o a old new x'

-- a tick for which there is room, by the endings that the head told
pub record TickCame {H : Type 0} {h : HeadGhosts H} {l : LookGhosts H}
    (x : End H h l) (n : ℕ) (old new : List ℕ) (x' : End H h l) : Type 0 where
  pub endings : Endings
  pub came : CameOf x (ticked x.address endings) (counts n) old new x'
