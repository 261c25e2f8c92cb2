-- What a dome that is not stalled keeps: every position that an order names is near enough to its target for the ticks
-- left.
use Rattle.std.specs.Prelude.{ℕ, ◌*◌, Bool, true, false, ◌&&◌, ◌≡◌, ℤ, ◌-ℤ◌, Some, None, Option, nat_le, unsigned_abs}
use Rattle.head.specs.declared.order.Order.{Order}
use Rattle.head.specs.declared.outcome.Ending.{Ending}
use Rattle.head.specs.declared.outcome.Ending.TheVariants.{Done, Jammed}
use Rattle.head.specs.declared.setting.Axis.{Axis}
use Rattle.head.specs.declared.setting.Axis.TheVariants.{Zoom, Focus, Pan, Tilt}
use Rattle.head.specs.declared.setting.Setting.{Setting}
use Rattle.head.specs.Settings.{position}
use Rattle.head.specs.Orders.{parts, wants}
use Rattle.head.specs.Meaning.{Slot, idle, busy, Meaning}
use Rattle.heads.specs.Motion.{step}

abbrev pub within_reach : ℕ → ℤ → Option ℤ → Bool
within_reach d v None = true
within_reach d v (Some t) = nat_le (unsigned_abs (v -ℤ t)) d

abbrev pub in_time : Order → ℕ → (Setting → ℤ) → Axis → Bool
in_time o n f a = within_reach (n * step o.paces a) (f (position a)) (wants (parts o.targets) (position a))

abbrev pub punctual : Slot → (Setting → ℤ) → Bool
punctual idle f = true
punctual (busy o n) f = in_time o n f Zoom && in_time o n f Focus && in_time o n f Pan && in_time o n f Tilt

-- both slots are
pub record OnTime (m : Meaning) : Type 0 where
  pub one : punctual m.slots.one m.setting ≡ true
  pub two : punctual m.slots.two m.setting ≡ true

abbrev pub is_jammed : Option Ending → Bool
is_jammed None = false
is_jammed (Some Done) = false
is_jammed (Some Jammed) = true
