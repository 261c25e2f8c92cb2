-- Looking at a setting's number tells its value.
use Rattle.std.proofs.Common.{◌≡◌, ℤ, Some, arith}
use Rattle.head.specs.declared.setting.Setting.{Setting}
use Rattle.head.specs.Settings.{number, looked}

pub looked_is : (f : Setting → ℤ) (s : Setting) → looked f (number s) ≡ Some (f s)
looked_is f s = grind arith
