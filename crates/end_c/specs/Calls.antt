-- Calls as they were asked for, on an end over any head.
use Rattle.std.specs.Prelude.{◌≡◌, ℕ, List, [], ◌∷◌, ◌++◌}
use Rattle.end.specs.declared.call.Call.{Call}
use Rattle.end.specs.declared.end.End.{End}
use Rattle.end.specs.Ends.{HeadOver, CallsOn, TakesOver}
use Rattle.end.specs.Records.{Record}
use Rattle.end.specs.States.{InRange, meaning, state}
use Rattle.end.specs.Steps.{Made, Step, deed_of}
use Rattle.head.specs.declared.traits.Head.{Ghosts as HeadGhosts}
use Rattle.head.specs.declared.traits.Look.{Ghosts as LookGhosts}
use Rattle.wire.specs.Line.{over}
use Rattle.end_c.specs.declared.asked.Asked.{Asked}
use Rattle.end_c.specs.Asked.{with_room}
use Rattle.end_c.specs.Logs.{logged, appended}
use Rattle.end_c.specs.Sums.{told}

abbrev pub asked_in : Record → Asked
asked_in r = record { call = r.fed.call; room = r.fed.room }

-- the calls made and their buffers, the oldest first
abbrev pub calls_made : List Record → List Asked
calls_made [] = []
calls_made (r ∷ h) = calls_made h ++ asked_in r ∷ []

-- the call that was asked for leads from x to x', and the head goes through what it does
pub record AskedCall {H : Type 0} {h : HeadGhosts H} {l : LookGhosts H}
    (asked : Asked) (x : End H h l) (r : Record) (x' : End H h l) : Type 0 where
  pub call : asked_in r ≡ asked
  pub step : Step (state x) r (state x')
  pub ranged : InRange (state x')
  pub head : HeadOver (deed_of (state x) r) x x'

-- calls made in turn, from x to x'; the newest record stands first
pub record AskedCalls {H : Type 0} {h : HeadGhosts H} {l : LookGhosts H}
    (asked : List Asked) (x : End H h l) (run : List Record) (x' : End H h l) : Type 0 where
  pub calls : calls_made run ≡ asked
  pub served : CallsOn x run x'

-- the same on an end that was just made of the head
pub record AskedRun {H : Type 0} {h : HeadGhosts H} {l : LookGhosts H}
    (given : H) (asked : List Asked) (run : List Record) (x : End H h l) : Type 0 where
  pub first : End H h l
  pub head : TakesOver given first
  pub made : Made (meaning l h.slots given) (state first)
  pub ranged : InRange (state first)
  pub calls : AskedCalls asked first run x

-- a call, with what it adds to a log of n bytes
pub record CallLogged {H : Type 0} {h : HeadGhosts H} {l : LookGhosts H}
    (c : Call) (room : ℕ) (n : ℕ) (x : End H h l) (old new : List ℕ) (x' : End H h l) : Type 0 where
  pub made : Record
  pub call : AskedCall (with_room c room) x made x'
  pub log : new ≡ appended n old (logged made)

-- a call, with what it tells and what it does to its buffer of 16 bytes
pub record CallCounted {H : Type 0} {h : HeadGhosts H} {l : LookGhosts H}
    (c : Call) (x : End H h l) (old new : List ℕ) (n : ℕ) (x' : End H h l) : Type 0 where
  pub made : Record
  pub call : AskedCall (with_room c 16) x made x'
  pub count : n ≡ told made.answer
  pub buffer : new ≡ over made.fed.sent old
