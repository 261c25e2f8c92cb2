-- Quiet reads: what is counted, and what it tells of the line.
use Rattle.std.specs.Prelude.{ℕ, ◌+◌, ◌-◌, ◌%◌, ◌^◌, Bool, false, if◌then◌else◌, ◌&&◌, min, Some, None, Option, ◌==◌, nat_le, nat_lt, [], ◌∷◌}
use Rattle.head.specs.Cases.{first_case}
use Rattle.serial.specs.declared.silence.Finish.{Finish}
use Rattle.serial.specs.declared.silence.Finish.TheVariants.{Quiet, Gone}
use Rattle.serial.specs.declared.silence.Silence.{Silence}

-- quiet reads in a row, with one more
abbrev pub more : Silence → ℕ
more s = min (s.reads + 1) (2 ^ 64 - 1)

-- the last of a hundred
abbrev pub whole : Silence → Bool
whole s = more s % 100 == 0

-- after a read of so many bytes
abbrev pub heard : Silence → ℕ → ℕ → Silence
heard s count now = record {
  reads = if count == 0 then more s else 0;
  since = if count == 0 then (if whole s then now else s.since) else now;
}

-- as many quiet reads as the program was told to wait for
abbrev pub enough : Option ℕ → ℕ → Bool
enough None n = false
enough (Some most) n = nat_le most n

-- what ends serving after such a read, if anything does: that the line has gone is told first
abbrev pub finish : Silence → ℕ → ℕ → Option ℕ → Option Finish
finish s count now quiet =
    first_case (
    (nat_lt 0 count, None)
    ∷ (whole s && nat_lt (now - s.since) 1000, Some Gone)
    ∷ (enough quiet (more s), Some Quiet)
    ∷ []
    ) None
