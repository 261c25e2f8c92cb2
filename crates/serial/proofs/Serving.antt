-- Turn after turn, put together.
use Rattle.std.proofs.Common.{◌≡◌, ℕ, ◌≤◌, arith, List, [], ◌∷◌, Some, None, Ok, Err, Option, Result, subst, sym, IsErrAnd}
use Rattle.std.specs.declared.io.Error.{Error}
use Rattle.std.specs.declared.time.Instant.{Instant}
use Rattle.head.specs.declared.traits.Head.{Ghosts as HeadGhosts}
use Rattle.head.specs.declared.traits.Look.{Ghosts as LookGhosts}
use Rattle.serial.specs.declared.port.Port.{Port}
use Rattle.serial.specs.declared.silence.Finish.{Finish}
use Rattle.serial.specs.Outside.{Operation, Operating, Operated, tells, Known, Means}
use Rattle.serial.specs.Outside as outside
use Rattle.serial.specs.Turns.{Answered, Failed, Counted, calls_due, finish_of, time_then, Unbroken, Moment, Turn, TurnMade, TurnsMade, none, then, TurnFailed, at_reply, Served, finished, failed, at_start}
use Rattle.serial.proofs.Reading.{no_more_by}

-- a box that was started as p with x outside, and has come to m by whole turns
pub record Goes {O : Type 0} (op : Operating O) {H : Type 0} {h : HeadGhosts H} {l : LookGhosts H} (start : Instant)
    (p : Port H h l) (x : O) (m : Moment O H h l) : Type 0 where
  pub first : O
  pub opened : op x (tells (Ok start)) first
  pub turns : List Turn
  pub made : TurnsMade op start (at_start p first) turns m

-- An answer, where it is handed on by `?`.

pub err_told : {T E : Type 0} (P : Result T E → Type 0) (r : Result T E) {e : E} → IsErrAnd r (λ y. y ≡ e) → P (Err e) → P r
err_told P (Ok x) is p = absurd is
err_told P (Err y) is p = subst (λ (z : _). P (Err z)) (sym is) p

-- Turns.

module _ {O : Type 0} {op : Operating O} {H : Type 0} {h : HeadGhosts H} {l : LookGhosts H} {start told : Instant} {m : Moment O H h l}
    {bytes : List ℕ} {y z w : O} {p : Port H h l} {now : ℕ} where
  pub turn_made : {f : Option Finish} → Unbroken op m.outside (Ok bytes) y → op y (tells (Ok told)) z → now ≡ time_then start m.time told →
      Answered op (calls_due m.port bytes now) m.port.end z p.end w → Counted bytes now m.port p → f ≡ finish_of m.port bytes now →
      TurnMade op start m (record { bytes = bytes; told = told }) f (record { port = p; time = now; outside = w })
  turn_made r c time a counted finish = record {
    between = _;
    begun = record { between = _; read = r; clock = c };
    time = time;
    answered = a;
    counted = counted;
    told = finish;
  }

  pub turn_lost : {e : Error} → Unbroken op m.outside (Ok bytes) y → op y (tells (Ok told)) z → now ≡ time_then start m.time told →
      Failed op (calls_due m.port bytes now) e m.port.end z p.end w → Counted bytes now m.port p →
      TurnFailed op start m e (record { port = p; time = now; outside = w })
  turn_lost r c time f counted = at_reply (record { bytes = bytes; told = told }) (record {
    between = _;
    begun = record { between = _; read = r; clock = c };
    time = time;
    failed = f;
    counted = counted;
  })

module _ {O : Type 0} {op : Operating O} {H : Type 0} {h : HeadGhosts H} {l : LookGhosts H} {start : Instant} {p : Port H h l} {x : O} where
  pub begins : {y : O} → op x (tells (Ok start)) y → Goes op start p x (at_start p y)
  begins o = record { first = _; opened = o; turns = []; made = none }

  pub goes_on : {m m' : Moment O H h l} {t : Turn} {f : Option Finish} → Goes op start p x m → TurnMade op start m t f m' → f ≡ None → Goes op start p x m'
  goes_on {m = m} {m' = m'} {t = t} g q e = record {
    first = g.first;
    opened = g.opened;
    turns = t ∷ g.turns;
    made = then t g.made (subst (λ (f : Option Finish). TurnMade op start m t f m') e q);
  }

  pub ends : {m m' : Moment O H h l} {t : Turn} {f : Option Finish} {v : Finish} →
      Goes op start p x m → TurnMade op start m t f m' → f ≡ Some v → Served op p x (Ok v) m'.port m'.outside
  ends {m = m} {m' = m'} {t = t} g q e = finished start t g.opened g.made (subst (λ (f : Option Finish). TurnMade op start m t f m') e q)

  pub fails : {m m' : Moment O H h l} {e : Error} → Goes op start p x m → TurnFailed op start m e m' → Served op p x (Err e) m'.port m'.outside
  fails g q = failed start g.opened g.made q

-- reads are not more after operations
pub no_more_then : {O : Type 0} {op : Operating O} (known : O → Known) → ((x : O) (o : Operation) (y : O) → op x o y → Means o (known x) (known y)) →
    {x y : O} {os : List Operation} → Operated op x os y → (known y).left ≤ (known x).left
no_more_then known means outside.none = omega arith
no_more_then known means (outside.then o p ps) =
    let here = no_more_by known means p in
    let there = no_more_then known means ps in
    omega arith
