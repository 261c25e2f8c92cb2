-- What is outside of a box: a line, which is read and written, and a clock; and what operations on them come to.
use Rattle.std.specs.Prelude.{◌≡◌, ℕ, ◌<◌, ◌≤◌, List, [], ◌∷◌, take, Option, Ok, Err, Result}
use Rattle.std.specs.Io.KnownBytes.{Appends, Consumes}
use Rattle.std.specs.IoError.{error_kind}
use Rattle.std.specs.Result.{result_map_both}
use Rattle.std.specs.declared.io.Error.{Error}
use Rattle.std.specs.declared.io.ErrorKind.TheVariants.{Interrupted}
use Rattle.std.specs.declared.time.Instant.{Instant}

-- an operation, with what came of it
pub data Operation : Type 0 where
  -- a read that asked for so many bytes at most gave these, or failed
  reads : ℕ → Result (List ℕ) Error → Operation
  -- these bytes were to be written
  writes : List ℕ → Result (Unit {0}) Error → Operation
  -- the clock told the time, or failed
  tells : Result Instant Error → Operation

-- the bytes that a read gave which answered so, on a buffer that then holds these
abbrev pub bytes_read : Result ℕ Error → List ℕ → Result (List ℕ) Error
bytes_read r buffer = result_map_both (λ n. take n buffer) (λ e. e) r

-- How an outside comes from one value to another.
abbrev pub Operating : Type 0 → Type 1
Operating O = O → Operation → O → Type 0

-- operations one after the other, the oldest first
pub data Operated {O : Type 0} (op : Operating O) : O → List Operation → O → Type 0 where
  none : {x : O} → Operated op x [] x
  then : {x y z : O} (o : Operation) {os : List Operation} → op x o y → Operated op y os z → Operated op x (o ∷ os) z

-- What is known of an outside: the bytes that are still to be read and those that the line has got, where these are known; and how
-- many reads it has left.
pub record Known : Type 0 where
  pub unread : Option (List ℕ)
  pub got : Option (List ℕ)
  pub left : ℕ

-- these bytes came from the line, and those went onto it
pub record Moved (input output : List ℕ) (k k' : Known) : Type 0 where
  pub consumed : Consumes k.unread k'.unread input
  pub appended : Appends k.got k'.got output
  pub left : k'.left ≤ k.left

-- what every outside keeps to. After a read that gave bytes or none, or that a signal broke off, fewer are left
abbrev pub Means : Operation → Known → Known → Type 0
Means (reads n (Ok bytes)) k k' = Moved bytes [] k k' × (k'.left < k.left)
Means (reads n (Err e)) k k' = Moved [] [] k k' × (error_kind e ≡ Interrupted → k'.left < k.left)
Means (writes bytes (Ok u)) k k' = Moved [] bytes k k'
Means (writes bytes (Err e)) k k' = (n : ℕ) × Moved [] (take n bytes) k k'
Means (tells r) k k' = Moved [] [] k k'
