-- What a turn does: calls made in order on an end, each with its reply put on the line before the next; and what serving comes to.
-- The end and its head stand for themselves, and not for what they mean: what a call is to a head, only that very call shows.
use Rattle.std.specs.Prelude.{◌≡◌, ◌≢◌, ℕ, ◌-◌, ◌/◌, ◌^◌, ◌<◌, min, max, List, [], ◌∷◌, ◌++◌, length, map, replicate, Some, None, Ok, Err, Option, Result, IfErr}
use Rattle.std.specs.IoError.{error_kind}
use Rattle.std.specs.Time.{instant_nanos}
use Rattle.std.specs.declared.io.Error.{Error}
use Rattle.std.specs.declared.io.ErrorKind.TheVariants.{Interrupted}
use Rattle.std.specs.declared.time.Instant.{Instant}
use Rattle.end.specs.declared.call.Call.{Call}
use Rattle.end.specs.declared.call.Call.TheVariants.{Byte, Tick}
use Rattle.end.specs.declared.end.End.{End}
use Rattle.end.specs.Ends.{CallsOn, HeadOver, TakesOver}
use Rattle.end.specs.Faults.{Answer}
use Rattle.end.specs.Law.{LawfulBehind}
use Rattle.end.specs.Records.{Record, calls_of, record_of, room_for}
use Rattle.end.specs.States.{meaning, state}
use Rattle.end.specs.Steps.{Made, Step, deed_of}
use Rattle.head.specs.declared.outcome.Endings.{Endings}
use Rattle.head.specs.declared.traits.Head.{Ghosts as HeadGhosts}
use Rattle.head.specs.declared.traits.Look.{Ghosts as LookGhosts}
use Rattle.serial.specs.declared.port.Port.{Port}
use Rattle.serial.specs.declared.silence.Finish.{Finish}
use Rattle.serial.specs.Outside.{Operation, reads, writes, tells, Operating, Operated}
use Rattle.serial.specs.Silences.{heard, finish}
use Rattle.serial.specs.Ticks.{owed, paid_at}

-- the calls of a turn: each byte that was read, and then the ticks owed
abbrev pub calls_in : List ℕ → ℕ → List Call
calls_in bytes ticks = map Byte bytes ++ replicate ticks Tick

-- each call had a buffer of 16 bytes, which is room for all that a call sends: none is refused for want of room
abbrev pub HadRoom : List Record → Type 0
HadRoom [] = Unit {0}
HadRoom (r ∷ h) = (r.fed.room ≡ room_for r.fed.call 16) × HadRoom h

-- a call that sends nothing writes nothing
abbrev pub reply : List ℕ → Result (Unit {0}) Error → List Operation
reply [] r = []
reply (b ∷ bs) r = writes (b ∷ bs) r ∷ []

-- these bytes of a call were written, if there are any; or that failed
pub data Wrote {O : Type 0} (op : Operating O) (sent : List ℕ) (x : O) : Result (Unit {0}) Error → O → Type 0 where
  all : {y : O} → Operated op x (reply sent (Ok tt)) y → Wrote op sent x (Ok tt) y
  lost : {e : Error} {y : O} → 0 < length sent → Operated op x (writes sent (Err e) ∷ []) y → Wrote op sent x (Err e) y

-- what calls sent, each written by itself, the oldest first
abbrev pub replies : List Record → List Operation
replies [] = []
replies (r ∷ h) = replies h ++ reply r.fed.sent (Ok tt)

module _ {O : Type 0} (op : Operating O) {H : Type 0} {h : HeadGhosts H} {l : LookGhosts H} where
  -- one call, with a buffer of 16 bytes: a step of the end, over which the head went through just the calls of its deed; and its reply
  pub record CallReplied (c : Call) (end : End H h l) (x : O) (w : Result (Unit {0}) Error) (end' : End H h l) (y : O) : Type 0 where
    pub answer : Answer
    pub sent : List ℕ
    pub endings : Endings
    pub step : Step (state end) (record_of c (room_for c 16) answer sent endings) (state end')
    pub head : HeadOver (deed_of (state end) (record_of c (room_for c 16) answer sent endings)) end end'
    pub wrote : Wrote op sent x w y

  -- By just these calls, in turn, the end came from one value to another, and at each its head by just the calls of what was done;
  -- what each sent was written.
  pub record Answered (calls : List Call) (end : End H h l) (x : O) (end' : End H h l) (y : O) : Type 0 where
    pub records : List Record
    pub asked : calls_of records ≡ calls
    pub made : CallsOn end records end'
    pub room : HadRoom records
    pub law : LawfulBehind (state end) records (state end')
    pub written : Operated op x (replies records) y

  -- What a call sent could not be written, for the reason e, and no call was made after it: each reply goes out before the next call
  -- is made.
  pub record Failed (calls : List Call) (e : Error) (end : End H h l) (x : O) (end' : End H h l) (y : O) : Type 0 where
    pub last : Record
    pub before : List Record
    pub left : List Call
    pub asked : calls_of (last ∷ before) ++ left ≡ calls
    pub made : CallsOn end (last ∷ before) end'
    pub room : HadRoom (last ∷ before)
    pub law : LawfulBehind (state end) (last ∷ before) (state end')
    pub lost : 0 < length last.fed.sent
    pub written : Operated op x (replies before ++ writes last.fed.sent (Err e) ∷ []) y

-- A box, which is a port: its end, the ticks paid, the silence of the line, and after how many quiet reads serving ends.
module _ {H : Type 0} {h : HeadGhosts H} {l : LookGhosts H} where
  abbrev pub end_of : Port H h l → End H h l
  end_of p = p.end

  -- of an end just made of this head: no tick is paid, and nothing was heard
  pub record Fresh (given : H) (tick : ℕ) (reads : Option ℕ) (p : Port H h l) : Type 0 where
    pub head : TakesOver given p.end
    pub made : Made (meaning l h.slots given) (state p.end)
    pub ticks : p.ticks ≡ record { length = tick; paid = 0 }
    pub silence : p.silence ≡ record { reads = 0; since = 0 }
    pub quiet : p.quiet ≡ reads

  -- the calls of a turn after a read of these bytes, by the ticks that are owed at this time
  abbrev pub calls_due : Port H h l → List ℕ → ℕ → List Call
  calls_due p bytes now = calls_in bytes (owed p.ticks now)

  -- what ends serving then, if anything does
  abbrev pub finish_of : Port H h l → List ℕ → ℕ → Option Finish
  finish_of p bytes now = finish p.silence (length bytes) now p.quiet

  -- what such a turn leaves of ticks and silence
  pub record Counted (bytes : List ℕ) (now : ℕ) (p p' : Port H h l) : Type 0 where
    pub ticks : p'.ticks ≡ paid_at p.ticks now
    pub silence : p'.silence ≡ heard p.silence (length bytes) now
    pub quiet : p'.quiet ≡ p.quiet

-- Reading, and the time.

-- what a turn begins with: the bytes of a read, and what the clock told after it
pub record Turn : Type 0 where
  pub bytes : List ℕ
  pub told : Instant

-- whole milliseconds from the start to what the clock told; where the clock went back, time stands
abbrev pub time_then : Instant → ℕ → Instant → ℕ
time_then start time told = max time (min ((instant_nanos told - instant_nanos start) / 1_000_000) (2 ^ 64 - 1))

-- so many bytes at most does a read ask for
abbrev pub most_read : ℕ
most_read = 256

module _ {O : Type 0} (op : Operating O) where
  -- a read that answered r; one that a signal broke off, before a byte came, is made again
  pub data Unbroken : O → Result (List ℕ) Error → O → Type 0 where
    read : {x y : O} (r : Result (List ℕ) Error) → IfErr r (λ e. error_kind e ≢ Interrupted) → op x (reads most_read r) y → Unbroken x r y
    again : {x y z : O} {r : Result (List ℕ) Error} (e : Error) → error_kind e ≡ Interrupted → op x (reads most_read (Err e)) y →
        Unbroken y r z → Unbroken x r z

  pub record Begun (x : O) (t : Turn) (y : O) : Type 0 where
    pub between : O
    pub read : Unbroken x (Ok t.bytes) between
    pub clock : op between (tells (Ok t.told)) y

-- Turn after turn.

-- between turns: a box, the time of its last turn, and what is outside
pub record Moment (O H : Type 0) (h : HeadGhosts H) (l : LookGhosts H) : Type 0 where
  pub port : Port H h l
  pub time : ℕ
  pub outside : O

-- when serving starts, time is 0
abbrev pub at_start : {O H : Type 0} {h : HeadGhosts H} {l : LookGhosts H} → Port H h l → O → Moment O H h l
at_start p x = record { port = p; time = 0; outside = x }

module _ {O : Type 0} (op : Operating O) {H : Type 0} {h : HeadGhosts H} {l : LookGhosts H} (start : Instant) where
  -- a whole turn from m to m', with what ends serving then, if anything does
  pub record TurnMade (m : Moment O H h l) (t : Turn) (f : Option Finish) (m' : Moment O H h l) : Type 0 where
    pub between : O
    pub begun : Begun op m.outside t between
    pub time : m'.time ≡ time_then start m.time t.told
    pub answered : Answered op (calls_due m.port t.bytes m'.time) m.port.end between m'.port.end m'.outside
    pub counted : Counted t.bytes m'.time m.port m'.port
    pub told : f ≡ finish_of m.port t.bytes m'.time

  -- whole turns after which the line went on, the newest first
  pub data TurnsMade (m : Moment O H h l) : List Turn → Moment O H h l → Type 0 where
    none : TurnsMade m [] m
    then : {ts : List Turn} {m' m'' : Moment O H h l} (t : Turn) → TurnsMade m ts m' → TurnMade m' t None m'' → TurnsMade m (t ∷ ts) m''

  -- a turn in which a reply could not be written, for the reason e
  pub record ReplyLost (m : Moment O H h l) (t : Turn) (e : Error) (m' : Moment O H h l) : Type 0 where
    pub between : O
    pub begun : Begun op m.outside t between
    pub time : m'.time ≡ time_then start m.time t.told
    pub failed : Failed op (calls_due m.port t.bytes m'.time) e m.port.end between m'.port.end m'.outside
    pub counted : Counted t.bytes m'.time m.port m'.port

  -- A turn in which a read, the clock or a write failed, with the error e; no call was made after that.
  pub data TurnFailed (m : Moment O H h l) (e : Error) (m' : Moment O H h l) : Type 0 where
    at_read : Unbroken op m.outside (Err e) m'.outside → m'.port ≡ m.port → TurnFailed m e m'
    at_clock : (bytes : List ℕ) {between : O} → Unbroken op m.outside (Ok bytes) between → op between (tells (Err e)) m'.outside →
        m'.port ≡ m.port → TurnFailed m e m'
    at_reply : (t : Turn) → ReplyLost m t e m' → TurnFailed m e m'

-- Serving a line: the clock is asked when it starts, and turn comes after turn, each with all its calls, until one ends it or
-- something fails.
pub data Served {O : Type 0} (op : Operating O) {H : Type 0} {h : HeadGhosts H} {l : LookGhosts H} (p : Port H h l) (x : O) :
    Result Finish Error → Port H h l → O → Type 0 where
  unstarted : {e : Error} {y : O} → op x (tells (Err e)) y → Served op p x (Err e) p y
  finished : (start : Instant) {z : O} {ts : List Turn} {m m' : Moment O H h l} (t : Turn) {f : Finish} → op x (tells (Ok start)) z →
      TurnsMade op start (at_start p z) ts m → TurnMade op start m t (Some f) m' → Served op p x (Ok f) m'.port m'.outside
  failed : (start : Instant) {z : O} {ts : List Turn} {m m' : Moment O H h l} {e : Error} → op x (tells (Ok start)) z →
      TurnsMade op start (at_start p z) ts m → TurnFailed op start m e m' → Served op p x (Err e) m'.port m'.outside
