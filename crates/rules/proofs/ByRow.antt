-- When a command of each row is forbidden.
use Rattle.std.proofs.Common.{◌≡◌, Bool, true, false, not, ◌&&◌, ◌||◌, refl}
use Rattle.head.specs.declared.order.Order.{Order}
use Rattle.head.specs.declared.setting.Setting.TheVariants.{Power, Zoom, ZoomDrive, FocusMode, Focus, FocusDrive, WhiteBalance, RedGain, BlueGain, ExposureMode, Shutter, Iris, Gain, Bright, Freeze, Mute, Infrared, Identity, Pan, Tilt, PanDrive, TiltDrive}
use Rattle.head.specs.Orders.{parts, any_pan_tilt}
use Rattle.rules.specs.Modes.{to_get, power_off, freeze_on, manual_focus, manual_balance, manual_exposure, shutter_mode, iris_mode, bright_mode, ModesRowByRow}

-- Rows by what can forbid them: x is power, y freeze, z a mode that is needed, v power being switched on, w want of pan and tilt.

always : (x y v w : Bool) → (v || ((x && false) || (y && false) || false) || w) ≡ (v || false || w)
always true true v w = refl
always true false v w = refl
always false true v w = refl
always false false v w = refl

by_power : (x y v w : Bool) → (v || ((x && true) || (y && false) || false) || w) ≡ (v || (x || false) || w)
by_power true y v w = refl
by_power false true v w = refl
by_power false false v w = refl

by_freeze : (x y v w : Bool) → (v || ((x && true) || (y && true) || false) || w) ≡ (v || (x || (y || false)) || w)
by_freeze true y v w = refl
by_freeze false true v w = refl
by_freeze false false v w = refl

by_need : (x y z v w : Bool) → (v || ((x && true) || (y && false) || z) || w) ≡ (v || (x || (z || false)) || w)
by_need true y z v w = refl
by_need false true true v w = refl
by_need false true false v w = refl
by_need false false true v w = refl
by_need false false false v w = refl

by_all : (x y z v w : Bool) → (v || ((x && true) || (y && true) || z) || w) ≡ (v || (x || (y || (z || false))) || w)
by_all true y z v w = refl
by_all false true z v w = refl
by_all false false true v w = refl
by_all false false false v w = refl

abbrev lacking : Bool → Order → Bool
lacking pt o = not pt && any_pan_tilt (parts o.targets)

pub modes_row_by_row : ModesRowByRow
modes_row_by_row f pt v Power o = always (power_off f) (freeze_on f) v (lacking pt o)
modes_row_by_row f pt v Zoom o = by_power (power_off f) (freeze_on f) v (lacking pt o)
modes_row_by_row f pt v ZoomDrive o = by_power (power_off f) (freeze_on f) v (lacking pt o)
modes_row_by_row f pt v FocusMode o = by_power (power_off f) (freeze_on f) v (lacking pt o)
modes_row_by_row f pt v Focus o = by_need (power_off f) (freeze_on f) (not (manual_focus f)) v (lacking pt o)
modes_row_by_row f pt v FocusDrive o = by_need (power_off f) (freeze_on f) (not (manual_focus f)) v (lacking pt o)
modes_row_by_row f pt v WhiteBalance o = by_freeze (power_off f) (freeze_on f) v (lacking pt o)
modes_row_by_row f pt v RedGain o = by_all (power_off f) (freeze_on f) (not (manual_balance f)) v (lacking pt o)
modes_row_by_row f pt v BlueGain o = by_all (power_off f) (freeze_on f) (not (manual_balance f)) v (lacking pt o)
modes_row_by_row f pt v ExposureMode o = by_all (power_off f) (freeze_on f) ((manual_exposure f || iris_mode f) && to_get o ExposureMode 13) v (lacking pt o)
modes_row_by_row f pt v Shutter o = by_all (power_off f) (freeze_on f) (not (manual_exposure f || shutter_mode f)) v (lacking pt o)
modes_row_by_row f pt v Iris o = by_all (power_off f) (freeze_on f) (not (manual_exposure f || iris_mode f)) v (lacking pt o)
modes_row_by_row f pt v Gain o = by_all (power_off f) (freeze_on f) (not (manual_exposure f)) v (lacking pt o)
modes_row_by_row f pt v Bright o = by_all (power_off f) (freeze_on f) (not (bright_mode f)) v (lacking pt o)
modes_row_by_row f pt v Freeze o = by_power (power_off f) (freeze_on f) v (lacking pt o)
modes_row_by_row f pt v Mute o = by_power (power_off f) (freeze_on f) v (lacking pt o)
modes_row_by_row f pt v Infrared o = by_freeze (power_off f) (freeze_on f) v (lacking pt o)
modes_row_by_row f pt v Identity o = by_power (power_off f) (freeze_on f) v (lacking pt o)
modes_row_by_row f pt v Pan o = by_power (power_off f) (freeze_on f) v (lacking pt o)
modes_row_by_row f pt v Tilt o = by_power (power_off f) (freeze_on f) v (lacking pt o)
modes_row_by_row f pt v PanDrive o = by_power (power_off f) (freeze_on f) v (lacking pt o)
modes_row_by_row f pt v TiltDrive o = by_power (power_off f) (freeze_on f) v (lacking pt o)
