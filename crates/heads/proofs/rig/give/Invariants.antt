use Rattle.std.proofs.Common.{◌≡◌, ◌≤◌, true, length}
use Rattle.head.specs.declared.setting.Setting.{Setting}
use Rattle.head.specs.Orders.{wants, all_in_range}
use Rattle.head.specs.Settings.{about}
use Rattle.head.specs.Values.{value_of}
use Rattle.heads.specs.Rigs.{target_given}
use Rattle.heads.proofs.rig.give.Given as goal

-- what is left, given to the settings as they are, makes of them what all targets make
abbrev pub invariant-loop-left : goal.invariant-loop-left
invariant-loop-left l =
    (length l.left ≤ length l.targets)
    × (all_in_range l.left ≡ true)
    × ((s : Setting) → target_given (about s).axis (wants l.left s) (value_of l.settings s) ≡ target_given (about s).axis (wants l.targets s) (value_of l.fn.settings s))

abbrev pub decreases-loop-left : goal.decreases-loop-left
decreases-loop-left l = length l.left
