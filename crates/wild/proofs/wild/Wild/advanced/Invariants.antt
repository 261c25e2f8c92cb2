use Rattle.std.proofs.Common.{◌<◌}
use Rattle.head.specs.declared.setting.Setting.{Setting}
use Rattle.head.specs.Settings.{number}
use Rattle.head.specs.Values.{value_of}
use Rattle.wild.specs.Wilds.{wild_meaning, Goes}
use Rattle.wild.proofs.wild.Wild.advanced.Given as goal

-- the settings that the loop has passed have gone as they may
abbrev pub invariant-loop-setting : goal.invariant-loop-setting
invariant-loop-setting l = (s : Setting) → number s < l.setting-index → Goes (wild_meaning l.self) l.endings s (value_of l.settings s)
