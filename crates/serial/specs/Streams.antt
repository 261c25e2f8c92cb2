-- What operations on a reader, a writer and a clock come to, by what is known of their bytes.
use Rattle.std.specs.Prelude.{◌≡◌, ℕ, List, take, Option}
use Rattle.std.specs.Io.KnownBytes.{Appends}
use Rattle.serial.specs.declared.streams.Streams.{Streams}
use Rattle.serial.specs.Outside.{Operation, reads, writes, tells, Known, Means}

-- some of the bytes, from the front, were appended
abbrev pub AppendsFront : Option (List ℕ) → Option (List ℕ) → List ℕ → Type 0
AppendsFront old new bytes = (n : ℕ) × Appends old new (take n bytes)

module _ {R W C : Type 0} (remaining : R → Option (List ℕ)) (contents : W → Option (List ℕ)) where
  abbrev pub known_of : Streams R W C → Known
  known_of x = record { unread = remaining x.input; got = contents x.output; left = x.reads }

  -- what an operation leaves alone: a read the writer, a write the reader, the clock both
  abbrev pub LeavesAlone : Operation → Streams R W C → Streams R W C → Type 0
  LeavesAlone (reads n r) x y = y.output ≡ x.output
  LeavesAlone (writes bytes r) x y = y.input ≡ x.input
  LeavesAlone (tells r) x y = (y.input ≡ x.input) × (y.output ≡ x.output)

  pub record OperatedOn (x : Streams R W C) (o : Operation) (y : Streams R W C) : Type 0 where
    pub alone : LeavesAlone o x y
    pub known : Means o (known_of x) (known_of y)

  pub operated_means : (x : Streams R W C) (o : Operation) (y : Streams R W C) → OperatedOn x o y → Means o (known_of x) (known_of y)
  operated_means x o y p = p.known
