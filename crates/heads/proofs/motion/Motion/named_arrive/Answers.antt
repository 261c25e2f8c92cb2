use Rattle.std.proofs.Common.{Bool, true, Option, ℤ, refl, ◌∙◌, rules}
use Rattle.std.proofs.lemmas.Iterator.{YieldsList-from_slice}
use Rattle.std.proofs.lemmas.Iterator.Search.{all_from_yields_List}
use Rattle.head.specs.declared.setting.Axis.{Axis}
use Rattle.head.specs.Orders.{parts}
use Rattle.head.specs.Settings.{position}
use Rattle.head.specs.Values.{value_of}
use Rattle.heads.specs.Motion.{moved}
use Rattle.heads.specs.Rigs.{reaches, arrives}
use Rattle.heads.proofs.Axes.{all_four}
use Rattle.heads.proofs.Once.{of_target, all_of}
use Rattle.heads.proofs.motion.Motion.named_arrive.Goals as goal

pub returns : goal.returns
returns c =
    let m = c.args.self in
    let f = value_of c.args.settings.now in
    let o = c.args.order.now in
    let p : Axis → Option ℤ → Bool = λ a w. reaches (moved m o.paces a (f (position a))) w in
    all_from_yields_List (of_target true p) _ _ c.all.result c.all.ensures.ran (YieldsList-from_slice (parts o.targets) cc) (λ x b q k. search rules)
    ∙ all_of p (λ a. refl) (parts o.targets) o.distinct ∙ all_four (arrives m o f)
