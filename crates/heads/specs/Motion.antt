-- How our heads move one position in one tick.
use Rattle.std.specs.Prelude.{ℕ, ◌*◌, max, ℤ, pos, ◌+ℤ◌, ◌-ℤ◌, ◌*ℤ◌}
use Rattle.std.specs.Int.{int_min, int_max}
use Rattle.head.specs.declared.order.Paces.{Paces}
use Rattle.head.specs.declared.setting.Axis.{Axis}
use Rattle.head.specs.declared.setting.Axis.TheVariants.{Zoom, Focus, Pan, Tilt}
use Rattle.head.specs.declared.setting.Range.{Range}
use Rattle.head.specs.declared.setting.Range.TheVariants.{Switch, WhiteBalance, Exposure, Span}
use Rattle.head.specs.Settings.{about, position}
use Rattle.heads.specs.declared.motion.Motion.{Motion}
use Rattle.heads.specs.declared.motion.Motion.TheVariants.{AtOnce, Stepwise, Stalled}

-- the units that a position moves in a tick for each unit of pace or of drive
abbrev pub unit : Axis → ℕ
unit Zoom = 128
unit Focus = 128
unit Pan = 16
unit Tilt = 16

abbrev pub pace : Paces → Axis → ℕ
pace p Zoom = p.lens
pace p Focus = p.lens
pace p Pan = p.pan
pace p Tilt = p.tilt

-- the units of an order's tick; pace 0 counts as 1
abbrev pub step : Paces → Axis → ℕ
step p a = unit a * max (pace p a) 1

-- at most n units from v toward t: the value nearest to t that is so near to v
abbrev pub toward : ℕ → ℤ → ℤ → ℤ
toward n v t = int_max (v -ℤ pos n) (int_min t (v +ℤ pos n))

-- where an order's tick takes a position from v, if its target is t
abbrev pub moved : Motion → Paces → Axis → ℤ → ℤ → ℤ
moved AtOnce p a v t = t
moved Stepwise p a v t = toward (step p a) v t
moved Stalled p a v t = v

-- w, or the end of the range that it has passed
abbrev pub held_to_range : Range → ℤ → ℤ
held_to_range Switch w = w
held_to_range WhiteBalance w = w
held_to_range Exposure w = w
held_to_range (Span low high) w = int_min (int_max w low) high

-- where a tick takes a position that no order names from v, if its drive is d
abbrev pub driven : Motion → Axis → ℤ → ℤ → ℤ
driven AtOnce a v d = held_to_range (about (position a)).range (v +ℤ pos (unit a) *ℤ d)
driven Stepwise a v d = held_to_range (about (position a)).range (v +ℤ pos (unit a) *ℤ d)
driven Stalled a v d = v
