use Rattle.std.proofs.Common.{Bool, Option, ℤ, refl, sym, ◌∙◌}
use Rattle.head.specs.declared.setting.Axis.{Axis}
use Rattle.head.specs.Orders.{parts}
use Rattle.head.specs.Settings.{position}
use Rattle.head.specs.Values.{value_of}
use Rattle.heads.specs.Motion.{moved}
use Rattle.heads.specs.Rigs.{reaches, arrives}
use Rattle.heads.proofs.Axes.{all_four}
use Rattle.heads.proofs.Once.{all_of_none}
use Rattle.heads.proofs.motion.Motion.all_arrive.Goals as goal

pub returns-else-names_position : goal.returns-else-names_position
returns-else-names_position c =
    let m = c.args.self in
    let f = value_of c.args.settings.now in
    let o = c.args.order.now in
    let p : Axis → Option ℤ → Bool = λ a w. reaches (moved m o.paces a (f (position a))) w in
    let n = simp c.as_slice.ensures.is at (sym c.if-names_position.ensures) in
    sym (all_of_none p (λ a. refl) (parts o.targets) o.distinct n) ∙ all_four (arrives m o f)
