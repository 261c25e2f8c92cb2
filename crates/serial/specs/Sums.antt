-- What serving comes to, however long it was and whatever ended it.
use Rattle.std.specs.Prelude.{◌≡◌, ℕ, ◌≤◌, List, [], ◌∷◌, ◌++◌, length, Ok, Err, Result}
use Rattle.std.specs.declared.io.Error.{Error}
use Rattle.end.specs.declared.call.Call.{Call}
use Rattle.end.specs.Ends.{CallsOn}
use Rattle.end.specs.Law.{LawfulBehind}
use Rattle.end.specs.Records.{Record, calls_of, sent_by}
use Rattle.end.specs.States.{state}
use Rattle.head.specs.declared.traits.Head.{Ghosts as HeadGhosts}
use Rattle.head.specs.declared.traits.Look.{Ghosts as LookGhosts}
use Rattle.serial.specs.declared.port.Port.{Port}
use Rattle.serial.specs.declared.silence.Finish.{Finish}
use Rattle.serial.specs.declared.ticks.Ticks.{Ticks}
use Rattle.serial.specs.Outside.{Known, Moved}
use Rattle.serial.specs.Ticks.{owed, paid_at}
use Rattle.serial.specs.Turns.{HadRoom, calls_in}

-- a turn by its time
pub record TurnAt : Type 0 where
  pub bytes : List ℕ
  pub time : ℕ

-- Of turns, the newest first: the time of the last, the ticks that are paid then, the calls and the bytes read, the oldest first.

abbrev pub time_after : List TurnAt → ℕ
time_after [] = 0
time_after (t ∷ ts) = t.time

abbrev pub ticks_after : Ticks → List TurnAt → Ticks
ticks_after k [] = k
ticks_after k (t ∷ ts) = paid_at (ticks_after k ts) t.time

abbrev pub calls_over : Ticks → List TurnAt → List Call
calls_over k [] = []
calls_over k (t ∷ ts) = calls_over k ts ++ calls_in t.bytes (owed (ticks_after k ts) t.time)

abbrev pub bytes_over : List TurnAt → List ℕ
bytes_over [] = []
bytes_over (t ∷ ts) = bytes_over ts ++ t.bytes

-- time never falls
abbrev pub Rising : List TurnAt → Type 0
Rising [] = Unit {0}
Rising (t ∷ ts) = (time_after ts ≤ t.time) × Rising ts

abbrev pub newest_sent : List Record → List ℕ
newest_sent [] = []
newest_sent (r ∷ h) = r.fed.sent

module _ {H : Type 0} {h : HeadGhosts H} {l : LookGhosts H} where
  -- The calls that were made are those of whole turns and a beginning of those of one more, each with room; they are a run behind
  -- every run that led to the box, and the law holds after each. What was read is the bytes of the turns. The line has got what
  -- the calls sent, all but a rest of the last reply where a write failed.
  pub record Sum (p p' : Port H h l) (k k' : Known) : Type 0 where
    pub turns : List TurnAt
    pub rising : Rising turns
    pub records : List Record
    pub made : CallsOn p.end records p'.end
    pub room : HadRoom records
    pub law : LawfulBehind (state p.end) records (state p'.end)
    -- the calls of the last turn that were not made, and what was read where the clock failed after it
    pub unmade : List Call
    pub asked : calls_of records ++ unmade ≡ calls_over p.ticks turns
    pub untold : List ℕ
    pub got : List ℕ
    pub lost : List ℕ
    pub sent : sent_by records ≡ got ++ lost
    pub rest : length lost ≤ length (newest_sent records)
    pub moved : Moved (bytes_over turns ++ untold) got k k'

  -- where serving finished, nothing is left over
  pub record IsWhole {p p' : Port H h l} {k k' : Known} (s : Sum p p' k k') : Type 0 where
    pub unmade : s.unmade ≡ []
    pub untold : s.untold ≡ []
    pub lost : s.lost ≡ []

  abbrev pub Sums : Port H h l → Known → Result Finish Error → Port H h l → Known → Type 0
  Sums p k (Ok f) p' k' = (s : Sum p p' k k') × IsWhole s
  Sums p k (Err e) p' k' = Sum p p' k k'
