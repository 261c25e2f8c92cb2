use Rattle.std.proofs.Common.{◌∙◌, sym}
use Rattle.heads.proofs.Idle.{idle_ran}
use Rattle.heads.proofs.rig.Rig.tick.Goals as goal

pub returns-clause-ran : goal.returns-clause-ran
returns-clause-ran c p =
    idle_ran c.args.self.now c.drift_all.new.self p (sym c.is_some.ensures ∙ c.if-is_some.false) (sym c.is_some-else-is_some.ensures ∙ c.if-is_some-2.false)
    c.drift_all.ensures
