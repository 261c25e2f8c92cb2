-- A list of calls played on a fresh end, all with one log.
use Rattle.std.specs.Prelude.{◌≡◌, ℕ, ◌-◌, List, [], ◌∷◌, length}
use Rattle.end.specs.declared.call.Call.{Call}
use Rattle.end.specs.declared.end.End.{End}
use Rattle.end.specs.Ends.{HeadOver, CallsOn, TakesOver}
use Rattle.end.specs.Faults.{Answer}
use Rattle.end.specs.Law.{Lawful}
use Rattle.end.specs.Records.{Record, record_of, calls_of, sent_by, room_for}
use Rattle.end.specs.States.{State, InRange, meaning, state}
use Rattle.end.specs.Steps.{Made, Step, deed_of}
use Rattle.head.specs.declared.outcome.Endings.{Endings}
use Rattle.head.specs.declared.traits.Head.{Ghosts as HeadGhosts}
use Rattle.head.specs.declared.traits.Look.{Ghosts as LookGhosts}
use Rattle.head.specs.Meaning.{Meaning}

-- each byte and tick had as its buffer what a log of n bytes had left
abbrev pub Shared : ℕ → List Record → Type 0
Shared n [] = Unit {0}
Shared n (r ∷ h) = (r.fed.room ≡ room_for r.fed.call (n - length (sent_by h))) × Shared n h

-- a call that finds so much room leads from x to x', in range, sends these bytes, and has the head go through its deed
pub record CallMade {H : Type 0} {h : HeadGhosts H} {l : LookGhosts H}
    (c : Call) (room : ℕ) (x : End H h l) (sent : List ℕ) (x' : End H h l) : Type 0 where
  pub answer : Answer
  pub endings : Endings
  pub step : Step (state x) (record_of c (room_for c room) answer sent endings) (state x')
  pub ranged : InRange (state x')
  pub head : HeadOver (deed_of (state x) (record_of c (room_for c room) answer sent endings)) x x'

-- these calls were made in turn on end x, the bytes are what was sent, and x' is the end they came to
pub record PlayedOn {H : Type 0} {h : HeadGhosts H} {l : LookGhosts H}
    (x : End H h l) (calls : List Call) (n : ℕ) (bytes : List ℕ) (x' : End H h l) : Type 0 where
  pub run : List Record
  pub asked : calls_of run ≡ calls
  pub logged : sent_by run ≡ bytes
  pub shared : Shared n run
  pub served : CallsOn x run x'

-- the same of an end just made of a head, which had both slots dropped
pub record PlayedFrom {H : Type 0} {h : HeadGhosts H} {l : LookGhosts H}
    (given : H) (calls : List Call) (n : ℕ) (bytes : List ℕ) (x' : End H h l) : Type 0 where
  pub first : End H h l
  pub head : TakesOver given first
  pub made : Made (meaning l h.slots given) (state first)
  pub played : PlayedOn first calls n bytes x'

-- by what heads mean: on an end just made of a head that means m, s is the state that these calls came to, and the law held
-- after each of them
pub record Played (m : Meaning) (calls : List Call) (n : ℕ) (bytes : List ℕ) (s : State) : Type 0 where
  pub run : List Record
  pub asked : calls_of run ≡ calls
  pub logged : sent_by run ≡ bytes
  pub shared : Shared n run
  pub lawful : Lawful m run s
