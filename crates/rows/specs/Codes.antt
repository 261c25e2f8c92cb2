-- The codes of rows, and the settings that they stand for.
use Rattle.std.specs.Prelude.{ℕ, List, [], ◌∷◌, find, Option, ◌==◌}
use Rattle.std.specs.Option.{option_map}
use Rattle.head.specs.declared.setting.Setting.{Setting}
use Rattle.head.specs.declared.setting.Setting.TheVariants.{FocusMode, WhiteBalance, ExposureMode, Freeze, Mute, Infrared, RedGain, BlueGain, Shutter, Iris, Gain, Bright}
use Rattle.rows.specs.declared.codes.Codes.{Codes}
use Rattle.rows.specs.declared.codes.Codes.TheVariants.{One, Modes, Levels}

-- codes and their settings
abbrev pub pairs : Codes → List (ℕ × Setting)
pairs (One d s) = (d, s) ∷ []
pairs Modes =
    (0x38, FocusMode) ∷ (0x35, WhiteBalance) ∷ (0x39, ExposureMode)
    ∷ (0x62, Freeze) ∷ (0x75, Mute) ∷ (0x01, Infrared) ∷ []
pairs Levels =
    (0x43, RedGain) ∷ (0x44, BlueGain) ∷ (0x4a, Shutter)
    ∷ (0x4b, Iris) ∷ (0x4c, Gain) ∷ (0x4d, Bright) ∷ []

-- the setting beside the code, the first if it stands there twice
abbrev pub coded : List (ℕ × Setting) → ℕ → Option Setting
coded ps c = option_map (λ p. p.1) (find (λ p. c == p.0) ps)

-- the setting that a code stands for
abbrev pub setting_of : Codes → ℕ → Option Setting
setting_of cs c = coded (pairs cs) c
