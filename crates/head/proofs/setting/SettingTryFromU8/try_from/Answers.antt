use Rattle.std.proofs.Common.{◌≡◌, ℕ, List, Option, Bor, slice_get, rules}
use Rattle.std.proofs.lemmas.Option.{gets}
use Rattle.std.specs.Option.{option_copied}
use Rattle.std.specs.Slice.{IsItemAt}
use Rattle.head.specs.declared.setting.Setting.{Setting}
use Rattle.head.specs.Settings.{all}
use Rattle.head.proofs.setting.SettingTryFromU8.try_from.Goals as goal

-- over any list, since the tactics take the table of settings apart
copied : (xs : List Setting) (i : ℕ) (r : Option (Bor Setting)) → IsItemAt xs i r → option_copied r ≡ slice_get xs i
copied xs i r h = search (rules, gets)

pub returns : goal.returns
returns c = cc (copied all c.from.result c.get.result c.get.ensures.lookup)
