-- How a dome moves, and the ticks that it chooses.
use Rattle.std.specs.Prelude.{◌≡◌, Bool, true, false, if◌then◌else◌, ℤ, refl}
use Rattle.head.specs.declared.order.Order.{Order}
use Rattle.head.specs.declared.setting.Setting.{Setting}
use Rattle.heads.specs.declared.motion.Motion.{Motion}
use Rattle.heads.specs.declared.motion.Motion.TheVariants.{Stepwise, Stalled}
use Rattle.heads.specs.Exact.{longest, ticks_of}

abbrev pub motion_of : Bool → Motion
motion_of stalled = if stalled then Stalled else Stepwise

-- stalled or not, a dome chooses as many ticks as its steps would take
pub steps_counted : (stalled : Bool) (f : Setting → ℤ) (o : Order) → ticks_of (motion_of stalled) f o ≡ longest f o
steps_counted true f o = refl
steps_counted false f o = refl
