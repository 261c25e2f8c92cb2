-- Reads that a signal broke off, and the one that was not.
use Rattle.std.proofs.Common.{◌≡◌, ℕ, ◌≤◌, Bool, true, false, IsTrue, ◌↔◌, List, Ok, Err, Result, OnOk, IfErr}
use Rattle.std.proofs.lemmas.Bool.{both_ways}
use Rattle.std.specs.IoError.{error_kind}
use Rattle.std.specs.declared.io.Error.{Error}
use Rattle.std.specs.declared.io.ErrorKind.TheVariants.{Interrupted}
use Rattle.serial.specs.Outside.{Operation, Operating, reads, writes, tells, bytes_read, Known, Means}
use Rattle.serial.specs.Turns.{Unbroken, read, again, most_read}

-- reads that were all broken off
pub data Broken {O : Type 0} (op : Operating O) (x : O) : O → Type 0 where
  none : Broken op x x
  more : {y z : O} (e : Error) → Broken op x y → error_kind e ≡ Interrupted → op y (reads most_read (Err e)) z → Broken op x z

pub behind : {O : Type 0} {op : Operating O} {x y z : O} {r : Result (List ℕ) Error} → Broken op x y → Unbroken op y r z → Unbroken op x r z
behind none q = q
behind (more e p signal o) q = behind p (again e signal o q)

pub not_broken : {O : Type 0} {op : Operating O} {x y z : O} (r : Result ℕ Error) (buffer : List ℕ) (b : Bool) → Broken op x y →
    IfErr r (λ e. IsTrue b ↔ (error_kind e ≡ Interrupted)) → b ≡ false → op y (reads most_read (bytes_read r buffer)) z → Unbroken op x (bytes_read r buffer) z
not_broken (Ok n) buffer b p s f o = behind p (read _ tt o)
not_broken (Err e) buffer b p s f o = behind p (read _ (λ signal. both_ways b f (s.1 signal)) o)

pub broken : {O : Type 0} {op : Operating O} {x y z : O} (r : Result ℕ Error) (buffer : List ℕ) (b : Bool) → Broken op x y → OnOk r (b ≡ false) →
    IfErr r (λ e. IsTrue b ↔ (error_kind e ≡ Interrupted)) → b ≡ true → op y (reads most_read (bytes_read r buffer)) z → Broken op x z
broken (Ok n) buffer b p w s t o = absurd (both_ways b w t)
broken (Err e) buffer b p w s t o = more e p (s.0 t) o

-- no operation leaves more reads than there were
pub no_more : (o : Operation) (k k' : Known) → Means o k k' → k'.left ≤ k.left
no_more (reads n (Ok bytes)) k k' m = m.0.left
no_more (reads n (Err e)) k k' m = m.0.left
no_more (writes bytes (Ok u)) k k' m = m.left
no_more (writes bytes (Err e)) k k' m = m.1.left
no_more (tells r) k k' m = m.left

pub no_more_by : {O : Type 0} {op : Operating O} (known : O → Known) → ((x : O) (o : Operation) (y : O) → op x o y → Means o (known x) (known y)) →
    {x y : O} {o : Operation} → op x o y → (known y).left ≤ (known x).left
no_more_by known means {x = x} {y = y} {o = o} p = no_more o (known x) (known y) (means x o y p)
