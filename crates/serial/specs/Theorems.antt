-- What owing means over several reads.
use Rattle.std.specs.Prelude.{◌≡◌, ℕ, ◌+◌, ◌≤◌}
use Rattle.serial.specs.declared.ticks.Ticks.{Ticks}
use Rattle.serial.specs.Ticks.{due, owed, paid_at}

-- A read between two times loses no tick and adds none, and leaves the same time paid: as many ticks are owed by both reads as by
-- one at the second time, so long as these are no more than are owed at once. So it is of any reads, one by one.
pub record ReadsOweTogether : Type 0 where
  pub ticks : (t : Ticks) (first second : ℕ) → 1 ≤ t.length → t.paid ≤ first → first ≤ second → due t second ≤ 50 →
      owed t first + owed (paid_at t first) second ≡ owed t second
  pub time : (t : Ticks) (first second : ℕ) → 1 ≤ t.length → t.paid ≤ first → first ≤ second → due t second ≤ 50 →
      paid_at (paid_at t first) second ≡ paid_at t second
