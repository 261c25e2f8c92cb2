-- What an order names: the value that each setting is to get, by its one to four targets.
use Rattle.std.specs.Prelude.{Bool, true, not, ◌&&◌, ◌||◌, List, [], ◌∷◌, ℤ}
use Rattle.std.specs.Prelude.{is_some, Option, find}
use Rattle.std.specs.List.{list_all, list_any}
use Rattle.std.specs.Option.{option_map}
use Rattle.head.specs.declared.setting.Setting.{Setting}
use Rattle.head.specs.declared.setting.Setting.TheVariants.{Pan, Tilt, PanDrive, TiltDrive}
use Rattle.head.specs.declared.target.Target.{Target}
use Rattle.head.specs.declared.target.Targets.{Targets}
use Rattle.head.specs.declared.target.Targets.TheVariants.{One, Two, Three, Four}
use Rattle.head.specs.Settings.{same, in_range}

abbrev pub parts : Targets → List Target
parts (One ts) = ts
parts (Two ts) = ts
parts (Three ts) = ts
parts (Four ts) = ts

-- the value that a setting is to get, if it is named
abbrev pub wants : List Target → Setting → Option ℤ
wants ts s = option_map (λ t. t.value) (find (λ t. same t.setting s) ts)

abbrev pub names : List Target → Setting → Bool
names ts s = is_some (wants ts s)

-- no setting is named twice
abbrev pub different : List Target → Bool
different [] = true
different (t ∷ ts) = not (names ts t.setting) && different ts

abbrev pub all_in_range : List Target → Bool
all_in_range ts = list_all (λ t. in_range t.setting t.value) ts

-- pan, tilt or one of their drives is named
abbrev pub any_pan_tilt : List Target → Bool
any_pan_tilt ts = names ts Pan || names ts Tilt || names ts PanDrive || names ts TiltDrive

-- some setting is named by both
abbrev pub shares : List Target → List Target → Bool
shares ts us = list_any (λ t. names us t.setting) ts
