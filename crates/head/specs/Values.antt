-- The values of all settings of a head that keeps them together.
use Rattle.std.specs.Prelude.{ℤ}
use Rattle.head.specs.declared.setting.Setting.{Setting}
use Rattle.head.specs.declared.settings.Settings.{Settings}
use Rattle.head.specs.Settings.{value_in}

abbrev pub value_of : Settings → Setting → ℤ
value_of x s = value_in x.values s
