-- The box as a program: what comes of its words and of the line.
use Rattle.std.specs.Prelude.{◌≡◌, ℕ, Ok, Err, Result}
use Rattle.std.specs.declared.io.Error.{Error}
use Rattle.end.specs.Ends.{head_of}
use Rattle.head.specs.declared.setting.Setting.{Setting}
use Rattle.head.specs.declared.traits.Head.{Ghosts as HeadGhosts}
use Rattle.head.specs.declared.traits.Look.{Ghosts as LookGhosts}
use Rattle.head.specs.Settings.{about}
use Rattle.heads.specs.Any.{kind_of}
use Rattle.serial.specs.declared.arguments.Arguments.{Arguments}
use Rattle.serial.specs.declared.port.Port.{Port}
use Rattle.serial.specs.declared.program.AnyBox.{AnyBox}
use Rattle.serial.specs.declared.program.Failure.{Failure}
use Rattle.serial.specs.declared.program.Failure.TheVariants.{Arguments as WrongWords, Io, LineGone}
use Rattle.serial.specs.declared.silence.Finish.{Finish}
use Rattle.serial.specs.declared.silence.Finish.TheVariants.{Quiet, Gone}
use Rattle.serial.specs.Outside.{Operating}
use Rattle.serial.specs.Turns.{Fresh, Served, end_of}

-- what the program answers, by what serving did
abbrev pub answer : Result Finish Error → Result (Unit {0}) Failure
answer (Ok Quiet) = Ok tt
answer (Ok Gone) = Err LineGone
answer (Err e) = Err (Io e)

-- the words are wrong, or cannot be read
abbrev pub OfWords : Failure → Type 0
OfWords (WrongWords e) = Unit {0}
OfWords (Io e) = Unit {0}
OfWords LineGone = ⊥

abbrev pub status_of : Result (Unit {0}) Failure → ℕ
status_of (Ok u) = 0
status_of (Err e) = 1

-- a box that is just made of a head with its first settings, with the arguments' ticks
pub record MadeFor {H : Type 0} {h : HeadGhosts H} {l : LookGhosts H} (a : Arguments) (p : Port H h l) : Type 0 where
  pub made_of : H
  pub settings : (s : Setting) → l.setting made_of s ≡ (about s).first
  pub fresh : Fresh made_of a.tick a.quiet p

-- and that has the head of their kind
pub record BoxFor (a : Arguments) (b : AnyBox) : Type 0 where
  pub made : MadeFor a b.port
  pub kind : kind_of (head_of (end_of b.port)) ≡ a.head

-- A run of the program. What is wrong with the words is told before anything is done outside.
pub data ProgramRan {O : Type 0} (op : Operating O) (x : O) : Result (Unit {0}) Failure → O → Type 0 where
  unserved : (f : Failure) → OfWords f → ProgramRan op x (Err f) x
  served : (a : Arguments) {b b' : AnyBox} {r : Result Finish Error} {y : O} → BoxFor a b → Served op b.port x r b'.port y →
      ProgramRan op x (answer r) y

-- one that ended with status n
pub record Told {O : Type 0} (op : Operating O) (x : O) (n : ℕ) (y : O) : Type 0 where
  pub result : Result (Unit {0}) Failure
  pub ran : ProgramRan op x result y
  pub status : n ≡ status_of result
