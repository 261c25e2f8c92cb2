-- What a clock owes at a time: `due` is all of it, and no more than 50 is owed: a second, at the usual length.
use Rattle.std.specs.Prelude.{ℕ, ◌+◌, ◌-◌, ◌*◌, ◌/◌, if◌then◌else◌, ◌||◌, min, nat_lt}
use Rattle.serial.specs.declared.ticks.Ticks.{Ticks}

-- whole ticks since the last that was paid; none where the clock went back
abbrev pub due : Ticks → ℕ → ℕ
due t now = (now - t.paid) / t.length

abbrev pub owed : Ticks → ℕ → ℕ
owed t now = min (due t now) 50

-- up to when ticks are paid then. What is left of a tick stays owed; after a jump, forth or back, time counts from now
abbrev pub paid_at : Ticks → ℕ → Ticks
paid_at t now = record {
  length = t.length;
  paid = if nat_lt now t.paid || nat_lt 50 (due t now) then now else t.paid + due t now * t.length;
}
