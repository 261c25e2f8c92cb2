-- What the modes forbid. A command goes by its row, the setting that its code stands for, by that setting's number n.
use Rattle.std.specs.Prelude.{◌≡◌, ℕ, Bool, false, not, ◌&&◌, ◌||◌, List, [], ◌∷◌, ℤ, ◌==◌, nat_le}
use Rattle.std.specs.List.{list_any}
use Rattle.std.specs.Option.{option_map_or}
use Rattle.head.specs.declared.order.Order.{Order}
use Rattle.head.specs.declared.setting.Setting.{Setting}
use Rattle.head.specs.declared.setting.Setting.TheVariants.{Power, Zoom, ZoomDrive, FocusMode, Focus, FocusDrive, WhiteBalance, RedGain, BlueGain, ExposureMode, Shutter, Iris, Gain, Bright, Freeze, Mute, Infrared, Identity, Pan, Tilt, PanDrive, TiltDrive}
use Rattle.head.specs.Cases.{first_case}
use Rattle.head.specs.Orders.{parts, wants, any_pan_tilt}
use Rattle.head.specs.Settings.{number, has_value}
use Rattle.rules.specs.declared.modes.Modes.{Modes}

abbrev pub modes_of : (Setting → ℤ) → Modes
modes_of f = record { power = f Power; focus = f FocusMode; white_balance = f WhiteBalance; exposure = f ExposureMode; freeze = f Freeze }

-- by the order, the setting s is to get the value n
abbrev pub to_get : Order → Setting → ℕ → Bool
to_get o s n = option_map_or (λ v. has_value v n) (wants (parts o.targets) s) false

-- with power off, all but the power row
abbrev pub off : Modes → ℕ → Bool
off m n = has_value m.power 3 && nat_le 1 n

-- with freeze on, the rows of settings 6 to 13 and 16
abbrev pub frozen : Modes → ℕ → Bool
frozen m n = has_value m.freeze 2 && ((nat_le 6 n && nat_le n 13) || n == 16)

-- focus and its drive need manual focus, the gains of red and blue manual white balance; bright mode is not reached from
-- manual or iris mode; shutter needs manual or shutter mode, iris manual or iris mode, gain manual mode, bright bright mode
abbrev pub lacks : Modes → ℕ → Order → Bool
lacks m n o =
    first_case (
    (n == 4 || n == 5, not (has_value m.focus 3))
    ∷ (n == 7 || n == 8, not (has_value m.white_balance 5))
    ∷ (n == 9, (has_value m.exposure 3 || has_value m.exposure 11) && to_get o ExposureMode 13)
    ∷ (n == 10, not (has_value m.exposure 3 || has_value m.exposure 10))
    ∷ (n == 11, not (has_value m.exposure 3 || has_value m.exposure 11))
    ∷ (n == 12, not (has_value m.exposure 3))
    ∷ (n == 13, not (has_value m.exposure 13))
    ∷ []
    ) false

abbrev pub forbids : Modes → ℕ → Order → Bool
forbids m n o = off m n || frozen m n || lacks m n o

-- an order that names power with target 2
abbrev pub powers_on : Order → Bool
powers_on o = to_get o Power 2

-- where f has the values that are looked at
abbrev pub forbidden_by : (Setting → ℤ) → Bool → Bool → Setting → Order → Bool
forbidden_by f pantilt powering row o =
    powering
    || forbids (modes_of f) (number row) o
    || (not pantilt && any_pan_tilt (parts o.targets))

-- Row by row.

abbrev pub power_off : (Setting → ℤ) → Bool
power_off f = has_value (f Power) 3

abbrev pub freeze_on : (Setting → ℤ) → Bool
freeze_on f = has_value (f Freeze) 2

abbrev pub manual_focus : (Setting → ℤ) → Bool
manual_focus f = has_value (f FocusMode) 3

abbrev pub manual_balance : (Setting → ℤ) → Bool
manual_balance f = has_value (f WhiteBalance) 5

abbrev pub manual_exposure : (Setting → ℤ) → Bool
manual_exposure f = has_value (f ExposureMode) 3

abbrev pub shutter_mode : (Setting → ℤ) → Bool
shutter_mode f = has_value (f ExposureMode) 10

abbrev pub iris_mode : (Setting → ℤ) → Bool
iris_mode f = has_value (f ExposureMode) 11

abbrev pub bright_mode : (Setting → ℤ) → Bool
bright_mode f = has_value (f ExposureMode) 13

-- the modes that forbid a command of each row: power is off, freeze is on, or a mode that it needs is another. (Tilt and
-- its drive are no rows: no code stands for them.)
abbrev pub against : (Setting → ℤ) → Order → Setting → List Bool
against f o Power = []
against f o Zoom = power_off f ∷ []
against f o ZoomDrive = power_off f ∷ []
against f o FocusMode = power_off f ∷ []
against f o Focus = power_off f ∷ not (manual_focus f) ∷ []
against f o FocusDrive = power_off f ∷ not (manual_focus f) ∷ []
against f o WhiteBalance = power_off f ∷ freeze_on f ∷ []
against f o RedGain = power_off f ∷ freeze_on f ∷ not (manual_balance f) ∷ []
against f o BlueGain = power_off f ∷ freeze_on f ∷ not (manual_balance f) ∷ []
against f o ExposureMode = power_off f ∷ freeze_on f ∷ ((manual_exposure f || iris_mode f) && to_get o ExposureMode 13) ∷ []
against f o Shutter = power_off f ∷ freeze_on f ∷ not (manual_exposure f || shutter_mode f) ∷ []
against f o Iris = power_off f ∷ freeze_on f ∷ not (manual_exposure f || iris_mode f) ∷ []
against f o Gain = power_off f ∷ freeze_on f ∷ not (manual_exposure f) ∷ []
against f o Bright = power_off f ∷ freeze_on f ∷ not (bright_mode f) ∷ []
against f o Freeze = power_off f ∷ []
against f o Mute = power_off f ∷ []
against f o Infrared = power_off f ∷ freeze_on f ∷ []
against f o Identity = power_off f ∷ []
against f o Pan = power_off f ∷ []
against f o Tilt = power_off f ∷ []
against f o PanDrive = power_off f ∷ []
against f o TiltDrive = power_off f ∷ []

-- a command is forbidden while power is being switched on, by a mode against its row, and where it names pan or tilt and
-- there are none; and otherwise it is not
abbrev pub ModesRowByRow : Type 0
ModesRowByRow = (f : Setting → ℤ) (pantilt powering : Bool) (row : Setting) (o : Order) →
    forbidden_by f pantilt powering row o
    ≡ (powering || list_any (λ b. b) (against f o row) || (not pantilt && any_pan_tilt (parts o.targets)))
