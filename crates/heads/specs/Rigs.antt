-- A rig as what a head means, and what its code finds before it moves anything.
use Rattle.std.specs.Prelude.{◌≡◌, Bool, true, if◌then◌else◌, ◌&&◌, ℤ, is_some, Some, None, Option, nat_lt}
use Rattle.head.specs.declared.order.Order.{Order}
use Rattle.head.specs.declared.outcome.Ending.{Ending}
use Rattle.head.specs.declared.outcome.Endings.{Endings}
use Rattle.head.specs.declared.outcome.Ending.TheVariants.{Done, Jammed}
use Rattle.head.specs.declared.setting.Axis.{Axis}
use Rattle.head.specs.declared.setting.Axis.TheVariants.{Zoom, Focus, Pan, Tilt}
use Rattle.head.specs.declared.setting.Setting.{Setting}
use Rattle.head.specs.Settings.{about, same, position, drive}
use Rattle.head.specs.Orders.{parts, wants}
use Rattle.head.specs.Meaning.{Slot, idle, busy, Slots, Meaning}
use Rattle.head.specs.Values.{value_of}
use Rattle.head.specs.Works.{slots_of}
use Rattle.heads.specs.declared.motion.Motion.{Motion}
use Rattle.heads.specs.declared.rig.Rig.{Rig}
use Rattle.heads.specs.Motion.{moved, driven}
use Rattle.heads.specs.Exact.{is_at, is_done, or_value, pulled, value_after}

abbrev pub rig_meaning : Bool → Rig → Meaning
rig_meaning pantilt r = record { setting = value_of r.settings; pantilt = pantilt; slots = slots_of r.works }

-- a rig whose settings have come to the values f, and which is as before otherwise
pub record MovesOnly (r : Rig) (f : Setting → ℤ) (r' : Rig) : Type 0 where
  pub values : (s : Setting) → value_of r'.settings s ≡ f s
  pub motion : r'.motion ≡ r.motion
  pub slots : slots_of r'.works ≡ slots_of r.works

-- whether this tick takes a position to its target, where g moves it toward one
abbrev pub reaches : (ℤ → ℤ) → Option ℤ → Bool
reaches g None = true
reaches g (Some t) = is_at (g t) (Some t)

abbrev pub arrives : Motion → Order → (Setting → ℤ) → Axis → Bool
arrives m o f a = reaches (moved m o.paces a (f (position a))) (wants (parts o.targets) (position a))

abbrev pub all_arrive : Motion → Order → (Setting → ℤ) → Bool
all_arrive m o f = arrives m o f Zoom && arrives m o f Focus && arrives m o f Pan && arrives m o f Tilt

-- how a slot's order will end at this tick, where f has the settings before it
abbrev pub foretold : Motion → Slot → (Setting → ℤ) → Option Ending
foretold m idle f = None
foretold m (busy o n) f = if nat_lt 1 n then None else Some (if all_arrive m o f then Done else Jammed)

-- a setting with its target, if it has one, at its place; a position moves, and is nowhere put
abbrev pub target_given : Option Axis → Option ℤ → ℤ → ℤ
target_given (Some a) w v = v
target_given None w v = or_value w v

-- a setting from v, where a slot's order that is done gives settings their targets
abbrev pub set_when_done : Slot → Option Ending → Setting → ℤ → ℤ
set_when_done idle e s v = v
set_when_done (busy o n) e s v = if is_done e then target_given (about s).axis (wants (parts o.targets) s) v else v

-- settings that have the values f, where the drive of an axis moves its position
abbrev pub drifted : Motion → Axis → (Setting → ℤ) → Setting → ℤ
drifted m a f s = if same s (position a) then driven m a (f (position a)) (f (drive a)) else f s

abbrev pub or : Option ℤ → Option ℤ → Option ℤ
or None y = y
or (Some t) y = Some t

-- where an order takes a setting from v, if one names it
abbrev pub taken_by_orders : Motion → Slots → Endings → ℤ → Setting → Option ℤ
taken_by_orders m b e v s = or (pulled m b.one e.one s v) (pulled m b.two e.two s v)

-- settings that have the values f, where the position of an axis goes as an order has it, or as its drive
abbrev pub followed : Motion → Slots → Endings → Axis → (Setting → ℤ) → Setting → ℤ
followed m b e a f s = if same s (position a) then value_after m b e f (position a) else f s

-- settings that have the values f, where each position goes as an order has it, or as its drive
abbrev pub positions_moved : Motion → Slots → Endings → (Setting → ℤ) → Setting → ℤ
positions_moved m b e f s = if is_some (about s).axis then value_after m b e f s else f s
