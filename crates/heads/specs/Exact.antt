-- What our heads do, exactly: the ticks that they choose, every setting after a tick, and how orders end.
use Rattle.std.specs.Prelude.{◌≡◌, ℕ, ◌+◌, ◌/◌, ◌%◌, min, max, Bool, true, false, if◌then◌else◌, ◌&&◌, ℤ, ◌-ℤ◌}
use Rattle.std.specs.Prelude.{fold, map, Some, None, Option, int_le, nat_lt, unsigned_abs}
use Rattle.head.specs.declared.order.Order.{Order}
use Rattle.head.specs.declared.order.Paces.{Paces}
use Rattle.head.specs.declared.outcome.Ending.{Ending}
use Rattle.head.specs.declared.outcome.Ending.TheVariants.{Done, Jammed}
use Rattle.head.specs.declared.outcome.Endings.{Endings}
use Rattle.head.specs.declared.setting.Axis.{Axis}
use Rattle.head.specs.declared.setting.Axis.TheVariants.{Zoom, Focus, Pan, Tilt}
use Rattle.head.specs.declared.setting.Setting.{Setting}
use Rattle.head.specs.Settings.{about, position, drive, axes}
use Rattle.head.specs.Orders.{parts, wants}
use Rattle.head.specs.Meaning.{Slot, idle, busy, Slots, Meaning, rest}
use Rattle.heads.specs.declared.motion.Motion.{Motion}
use Rattle.heads.specs.declared.motion.Motion.TheVariants.{AtOnce, Stepwise, Stalled}
use Rattle.heads.specs.Motion.{step, moved, driven}

-- Ticks of an order, where f has the settings as it starts.

abbrev pub rounded_up : ℕ → ℕ → ℕ
rounded_up d n = d / n + min 1 (d % n)

-- the ticks from v to the target by steps of n; none if there is no target
abbrev pub ticks_to : ℕ → ℤ → Option ℤ → ℕ
ticks_to n v None = 0
ticks_to n v (Some t) = rounded_up (unsigned_abs (v -ℤ t)) n

abbrev pub ticks_on : (Setting → ℤ) → Order → Axis → ℕ
ticks_on f o a = ticks_to (step o.paces a) (f (position a)) (wants (parts o.targets) (position a))

-- the most ticks of the positions that the order names, and at least 1
abbrev pub longest : (Setting → ℤ) → Order → ℕ
longest f o = fold max 1 (map (ticks_on f o) axes)

abbrev pub ticks_of : Motion → (Setting → ℤ) → Order → ℕ
ticks_of AtOnce f o = 1
ticks_of Stepwise f o = longest f o
ticks_of Stalled f o = longest f o

-- Endings, where f has the settings after the tick.

abbrev pub is_at : ℤ → Option ℤ → Bool
is_at v None = true
is_at v (Some t) = int_le v t && int_le t v

-- a position of the order is at its target, or is not named
abbrev pub there : Order → (Setting → ℤ) → Axis → Bool
there o f a = is_at (f (position a)) (wants (parts o.targets) (position a))

abbrev pub arrived : Order → (Setting → ℤ) → Bool
arrived o f = there o f Zoom && there o f Focus && there o f Pan && there o f Tilt

-- an order ends at its last tick: done, or jammed if a position that it names is off its target
abbrev pub ending_told : Slot → (Setting → ℤ) → Option Ending
ending_told idle f = None
ending_told (busy o n) f = if nat_lt 1 n then None else Some (if arrived o f then Done else Jammed)

-- Settings after a tick that tells how the orders fared, where f has the settings before.

abbrev pub is_done : Option Ending → Bool
is_done None = false
is_done (Some Done) = true
is_done (Some Jammed) = false

-- a setting with a target: a position moves, another gets its target once the order is done
abbrev pub pulled_to : Motion → Paces → Option Axis → Option Ending → ℤ → ℤ → ℤ
pulled_to m p (Some a) e v t = moved m p a v t
pulled_to m p None e v t = if is_done e then t else v

abbrev pulled_by : Motion → Paces → Option Axis → Option Ending → ℤ → Option ℤ → Option ℤ
pulled_by m p a e v None = None
pulled_by m p a e v (Some t) = Some (pulled_to m p a e v t)

-- where a slot's order takes a setting from v, if it names it
abbrev pub pulled : Motion → Slot → Option Ending → Setting → ℤ → Option ℤ
pulled m idle e s v = None
pulled m (busy o n) e s v = pulled_by m o.paces (about s).axis e v (wants (parts o.targets) s)

-- a setting that no order names: a position goes as its drive says, another stands
abbrev pub unnamed : Motion → Option Axis → (Setting → ℤ) → Setting → ℤ
unnamed m None f s = f s
unnamed m (Some a) f s = driven m a (f s) (f (drive a))

abbrev pub or_value : Option ℤ → ℤ → ℤ
or_value None v = v
or_value (Some w) v = w

abbrev pub value_after : Motion → Slots → Endings → (Setting → ℤ) → Setting → ℤ
value_after m b e f s =
    or_value (pulled m b.one e.one s (f s))
    (or_value (pulled m b.two e.two s (f s))
    (unnamed m (about s).axis f s))

-- a tick of our heads: nothing is left to choose
pub record TickedExactly (motion : Motion) (m : Meaning) (e : Endings) (m' : Meaning) : Type 0 where
  pub pantilt : m'.pantilt ≡ m.pantilt
  pub one : m'.slots.one ≡ rest m.slots.one
  pub two : m'.slots.two ≡ rest m.slots.two
  pub told_one : e.one ≡ ending_told m.slots.one m'.setting
  pub told_two : e.two ≡ ending_told m.slots.two m'.setting
  pub setting : (s : Setting) → m'.setting s ≡ value_after motion m.slots e m.setting s
