-- Calls as numbers, played on an end just made of one of our heads.
use Rattle.std.specs.Prelude.{◌≡◌, ℕ, ◌⊎◌, List, [], ◌∷◌, map}
use Rattle.end.specs.Deeds.{Deed, nothing, clears, cancels, starts, displaces, ticks, other_socket, both_idle}
use Rattle.end.specs.Law.{Law}
use Rattle.end.specs.Records.{Record, book_of}
use Rattle.end.specs.States.{State}
use Rattle.end.specs.Steps.{Made, Step, deed_of}
use Rattle.head.specs.declared.order.Order.{Order}
use Rattle.head.specs.declared.setting.Setting.{Setting}
use Rattle.head.specs.Meaning.{Meaning, busy, put, Dropped}
use Rattle.head.specs.Settings.{about}
use Rattle.heads.specs.Any.{can_turn}
use Rattle.heads.specs.declared.any.HeadKind.{HeadKind}
use Rattle.heads.specs.declared.any.HeadKind.TheVariants.{Block, Dome, StalledDome}
use Rattle.heads.specs.declared.motion.Motion.{Motion}
use Rattle.heads.specs.declared.motion.Motion.TheVariants.{AtOnce, Stepwise, Stalled}
use Rattle.heads.specs.Exact.{TickedExactly, ticks_of}
use Rattle.end_c.specs.declared.asked.Asked.{Asked}
use Rattle.end_c.specs.Asked.{asked_of, asked_in_full}
use Rattle.end_c.specs.Calls.{calls_made}
use Rattle.end_c.specs.Logs.{log_of}
use Rattle.end_c.specs.Sums.{sum_of}

-- What a kind of head is.

abbrev pub moves_as : HeadKind → Motion
moves_as Block = AtOnce
moves_as Dome = Stepwise
moves_as StalledDome = Stalled

-- with its first settings and idle slots
pub record NewHead (k : HeadKind) (m : Meaning) : Type 0 where
  pub settings : (s : Setting) → m.setting s ≡ (about s).first
  pub slots : m.slots ≡ both_idle
  pub pantilt : m.pantilt ≡ can_turn k

-- What a head that moves as g adds to what a deed means: it leaves nothing to choose.

-- an order is turned down; or slot y holds it, with the ticks that such a head chooses
abbrev pub Takes : Motion → Meaning → ℕ → Order → Meaning → Type 0
Takes g m y o m' = (m'.slots ≡ m.slots) ⊎ (m'.slots ≡ put m.slots y (busy o (ticks_of g m.setting o)))

abbrev pub Exactly : Motion → Deed → Meaning → Meaning → Type 0
Exactly g nothing m m' = Unit {0}
Exactly g clears m m' = Unit {0}
Exactly g (cancels y) m m' = Unit {0}
Exactly g (starts y o) m m' = Takes g m y o m'
Exactly g (displaces y o) m m' = (between : Meaning) × Dropped m (other_socket y) between × Takes g between y o m'
Exactly g (ticks e) m m' = TickedExactly g m e m'

-- a run over such a head, of which the law holds after each call; the newest record stands first
pub data ExactRun (g : Motion) (m : Meaning) : List Record → State → Type 0 where
  made : {s : State} → Made m s → ExactRun g m [] s
  then : {h : List Record} {s s' : State} (r : Record) → ExactRun g m h s →
      Step s r s' → Exactly g (deed_of s r) s.head s'.head → Law (book_of h) s r s' → ExactRun g m (r ∷ h) s'

-- What is exported.

-- these calls were made in turn on an end just made of a new head of that kind
pub record OurRun (k : HeadKind) (asked : List Asked) (run : List Record) : Type 0 where
  pub head : Meaning
  pub new : NewHead k head
  pub last : State
  pub exact : ExactRun (moves_as k) head run last
  pub calls : calls_made run ≡ asked

-- the bytes are the log of the calls that numbers ask for, if it has room for n
pub record IsLog (k : HeadKind) (numbers : List ℕ) (n : ℕ) (bytes : List ℕ) : Type 0 where
  pub run : List Record
  pub played : OurRun k (map asked_of numbers) run
  pub log : bytes ≡ log_of n run

-- n is their sum
pub record IsSum (k : HeadKind) (numbers : List ℕ) (n : ℕ) : Type 0 where
  pub run : List Record
  pub played : OurRun k (map asked_in_full numbers) run
  pub sum : n ≡ sum_of run
