-- The settings: number, range, axis and first value of each, and what being in range means.
use Rattle.std.specs.Prelude.{ℕ, Bool, false, ◌&&◌, ◌||◌, List, [], ◌∷◌, ℤ, pos, negsuc, Some, None, Option}
use Rattle.std.specs.Prelude.{◌==◌, int_le, slice_get, slice_index_or}
use Rattle.std.specs.Option.{option_map}
use Rattle.head.specs.declared.setting.Setting.{Setting}
use Rattle.head.specs.declared.setting.Setting.TheVariants.{Power, Zoom, ZoomDrive, FocusMode, Focus, FocusDrive}
use Rattle.head.specs.declared.setting.Setting.TheVariants.{WhiteBalance, RedGain, BlueGain, ExposureMode, Shutter}
use Rattle.head.specs.declared.setting.Setting.TheVariants.{Iris, Gain, Bright, Freeze, Mute, Infrared, Identity}
use Rattle.head.specs.declared.setting.Setting.TheVariants.{Pan, Tilt, PanDrive, TiltDrive}
use Rattle.head.specs.declared.setting.Axis.{Axis}
use Rattle.head.specs.declared.setting.Axis.TheVariants as axis
use Rattle.head.specs.declared.setting.Range.{Range}
use Rattle.head.specs.declared.setting.Range.TheVariants.{Switch, WhiteBalance as White, Exposure, Span}

pub record Facts : Type 0 where
  pub number : ℕ
  pub range : Range
  -- of a position, what it is the position of
  pub axis : Option Axis
  -- the value with which our heads are made
  pub first : ℤ

abbrev facts : ℕ → Range → Option Axis → ℤ → Facts
facts n r a v = record { number = n; range = r; axis = a; first = v }

-- the table of settings
abbrev pub about : Setting → Facts
about Power = facts 0 Switch None (pos 2)
about Zoom = facts 1 (Span (pos 0) (pos 0x4000)) (Some axis.Zoom) (pos 0)
about ZoomDrive = facts 2 (Span (negsuc 7) (pos 8)) None (pos 0)
about FocusMode = facts 3 Switch None (pos 2)
about Focus = facts 4 (Span (pos 0) (pos 0xffff)) (Some axis.Focus) (pos 0)
about FocusDrive = facts 5 (Span (negsuc 7) (pos 8)) None (pos 0)
about WhiteBalance = facts 6 White None (pos 0)
about RedGain = facts 7 (Span (pos 0) (pos 255)) None (pos 0)
about BlueGain = facts 8 (Span (pos 0) (pos 255)) None (pos 0)
about ExposureMode = facts 9 Exposure None (pos 0)
about Shutter = facts 10 (Span (pos 0) (pos 255)) None (pos 0)
about Iris = facts 11 (Span (pos 0) (pos 255)) None (pos 0)
about Gain = facts 12 (Span (pos 0) (pos 255)) None (pos 0)
about Bright = facts 13 (Span (pos 0) (pos 255)) None (pos 0)
about Freeze = facts 14 Switch None (pos 3)
about Mute = facts 15 Switch None (pos 3)
about Infrared = facts 16 Switch None (pos 3)
about Identity = facts 17 (Span (pos 0) (pos 0xffff)) None (pos 0)
about Pan = facts 18 (Span (negsuc 5119) (pos 5120)) (Some axis.Pan) (pos 0)
about Tilt = facts 19 (Span (negsuc 1279) (pos 1280)) (Some axis.Tilt) (pos 0)
about PanDrive = facts 20 (Span (negsuc 23) (pos 24)) None (pos 0)
about TiltDrive = facts 21 (Span (negsuc 19) (pos 20)) None (pos 0)

abbrev pub number : Setting → ℕ
number s = (about s).number

-- the settings by number; how many there are is the length of this list
abbrev pub all : List Setting
all = Power ∷ Zoom ∷ ZoomDrive ∷ FocusMode ∷ Focus ∷ FocusDrive ∷ WhiteBalance ∷ RedGain ∷ BlueGain ∷ ExposureMode
    ∷ Shutter ∷ Iris ∷ Gain ∷ Bright ∷ Freeze ∷ Mute ∷ Infrared ∷ Identity ∷ Pan ∷ Tilt ∷ PanDrive ∷ TiltDrive ∷ []

-- the setting that has a number; none has the length of the list or more
abbrev pub numbered : ℕ → Option Setting
numbered n = slice_get all n

-- what looking at number n tells, where f has the values
abbrev pub looked : (Setting → ℤ) → ℕ → Option ℤ
looked f n = option_map f (numbered n)

abbrev pub same : Setting → Setting → Bool
same s z = number s == number z

-- the value v is n
abbrev pub has_value : ℤ → ℕ → Bool
has_value (pos n) m = n == m
has_value (negsuc n) m = false

-- a value of a range: one of its list, or from the lowest to the highest
abbrev pub within : Range → ℤ → Bool
within Switch v = has_value v 2 || has_value v 3
within White v = has_value v 0 || has_value v 1 || has_value v 2 || has_value v 3 || has_value v 5
within Exposure v = has_value v 0 || has_value v 3 || has_value v 10 || has_value v 11 || has_value v 13
within (Span low high) v = int_le low v && int_le v high

-- shut, since a search through several of them breaks off at a bound
unfoldable pub in_range : Setting → ℤ → Bool
in_range s v = within (about s).range v

-- the value of a setting in a list by number
abbrev pub value_in : List ℤ → Setting → ℤ
value_in vs s = slice_index_or vs (number s) (pos 0)

-- pan, tilt and their drives
abbrev pub is_pan_tilt : Setting → Bool
is_pan_tilt s = same s Pan || same s Tilt || same s PanDrive || same s TiltDrive

-- the two settings of an axis
abbrev pub position : Axis → Setting
position axis.Zoom = Zoom
position axis.Focus = Focus
position axis.Pan = Pan
position axis.Tilt = Tilt

abbrev pub drive : Axis → Setting
drive axis.Zoom = ZoomDrive
drive axis.Focus = FocusDrive
drive axis.Pan = PanDrive
drive axis.Tilt = TiltDrive

-- the axes by the numbers of their positions
abbrev pub axes : List Axis
axes = axis.Zoom ∷ axis.Focus ∷ axis.Pan ∷ axis.Tilt ∷ []
