use Rattle.std.proofs.Common.{is_ok, ◌≡◌, get_or, ℤ, sym, ◌∙◌, subst, arith, w32, SFits, to_z, of_z, rules}
use Rattle.std.proofs.lemmas.Int.{to_z-of_z}
use Rattle.head.specs.declared.setting.Setting.TheVariants.{Power}
use Rattle.head.specs.Settings.{all}
use Rattle.head.specs.Values.{value_of}
use Rattle.head.proofs.Tables.{below, number_at}
use Rattle.wild.specs.Wilds.{wild_meaning, Goes}
use Rattle.wild.proofs.Steps.{passed_more}
use Rattle.wild.proofs.wild.Wild.advanced.Goals as goal

pub loop-setting-preserved : goal.loop-setting-preserved
loop-setting-preserved c =
    let m = wild_meaning c.args.self.now in
    let k = c.loop-setting.setting-index in
    let x = get_or all k Power in
    let f : SFits w32 c.step.result = search rules in
    let v : to_z w32 (of_z w32 c.step.result) ≡ c.step.result = to_z-of_z w32 c.step.result f in
    let g = subst (λ (w : ℤ). Goes m c.args.endings x w) (sym v) c.step.ensures in
    passed_more (Goes m c.args.endings) k x (is_ok c.set.result) (to_z w32 (of_z w32 c.step.result)) (value_of c.loop-setting.settings) (value_of c.set.new.self)
    (number_at k c.loop-setting-test.true) (c.set.ensures.taken ∙ g.ranged) g c.set.ensures.values c.loop-setting.invariant

pub returns : goal.returns
returns c s = c.loop-setting.invariant s (omega (arith, below s))
