-- The forms of answers: which setting is answered in which, and what each can tell.
use Rattle.std.specs.Prelude.{◌≡◌, true, List, [], ◌∷◌, ℤ, pos, neg_ℤ, ◌≤ℤ◌, Some, None, Option, Contains}
use Rattle.head.specs.declared.setting.Setting.{Setting}
use Rattle.head.specs.declared.setting.Setting.TheVariants.{Power, Zoom, FocusMode, Focus, WhiteBalance, RedGain, BlueGain, ExposureMode, Shutter, Iris, Gain, Bright, Freeze, Mute, Infrared, Identity, Pan, Tilt}
use Rattle.head.specs.Settings.{in_range}
use Rattle.rows.specs.declared.inquiry.Form.{Form}
use Rattle.rows.specs.declared.inquiry.Form.TheVariants.{Digit, Level, Number, PanTilt}

-- the form in which a setting is answered; tilt is asked for with pan, and drives are not asked for
abbrev pub form_of : Setting → Option Form
form_of Power = Some Digit
form_of FocusMode = Some Digit
form_of WhiteBalance = Some Digit
form_of ExposureMode = Some Digit
form_of Freeze = Some Digit
form_of Mute = Some Digit
form_of Infrared = Some Digit
form_of RedGain = Some Level
form_of BlueGain = Some Level
form_of Shutter = Some Level
form_of Iris = Some Level
form_of Gain = Some Level
form_of Bright = Some Level
form_of Zoom = Some Number
form_of Focus = Some Number
form_of Identity = Some Number
form_of Pan = Some PanTilt
form_of _ = None

-- the settings that an answer in a form tells, where s is asked for
abbrev pub settings_told : Form → Setting → List Setting
settings_told Digit s = s ∷ []
settings_told Level s = s ∷ []
settings_told Number s = s ∷ []
settings_told PanTilt s = Pan ∷ Tilt ∷ []

-- the values that a form can tell: its digits are all a number has, and those of pan and tilt are in two's complement
abbrev pub least : Form → ℤ
least Digit = pos 0
least Level = pos 0
least Number = pos 0
least PanTilt = neg_ℤ (pos 0x8000)

abbrev pub greatest : Form → ℤ
greatest Digit = pos 0xf
greatest Level = pos 0xff
greatest Number = pos 0xffff
greatest PanTilt = pos 0x7fff

pub record CanTell (form : Form) (v : ℤ) : Type 0 where
  pub low : least form ≤ℤ v
  pub high : v ≤ℤ greatest form

-- a form can tell every value in range of the settings that are told in it
abbrev pub FormsFit : Type 0
FormsFit = (s : Setting) (form : Form) (t : Setting) (v : ℤ) →
    form_of s ≡ Some form → Contains (settings_told form s) t → in_range t v ≡ true → CanTell form v
