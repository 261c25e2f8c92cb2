-- A drive may always be stopped, so what moves a position asks nothing more of its targets than that position.
use Rattle.std.proofs.Common.{◌≡◌, true, ◌&&◌, pos, refl, rules}
use Rattle.head.specs.declared.setting.Axis.{Axis}
use Rattle.head.specs.declared.setting.Axis.TheVariants.{Zoom, Focus, Pan, Tilt}
use Rattle.head.specs.declared.setting.Setting.TheVariants as setting
use Rattle.head.specs.Orders.{parts, all_in_range}
use Rattle.head.specs.Settings.{position, drive, in_range}
use Rattle.rows.specs.declared.command.Command.TheVariants.{Position, PanTiltPosition}
use Rattle.rows.specs.declared.command.PanTiltMove.{PanTiltMove}
use Rattle.rows.specs.declared.command.LensPosition.{LensPosition}
use Rattle.rows.specs.Orders.{order_of}

stopped : (a : Axis) → in_range (drive a) (pos 0) ≡ true
unfolding in_range
stopped Zoom = refl
stopped Focus = refl
stopped Pan = refl
stopped Tilt = refl

pub placed : (p : LensPosition) → all_in_range (parts (order_of (Position p)).targets) ≡ in_range (position p.axis) p.position
placed p = simp (stopped p.axis) (grind rules)

pub turned : (p : PanTiltMove) → all_in_range (parts (order_of (PanTiltPosition p)).targets) ≡ (in_range setting.Pan p.pan && in_range setting.Tilt p.tilt)
turned p = simp (stopped Pan, stopped Tilt) (grind rules)
