use Rattle.std.proofs.Common.{◌∙◌, refl, subst}
use Rattle.heads.specs.declared.motion.Motion.{Motion}
use Rattle.heads.specs.Exact.{TickedExactly}
use Rattle.heads.specs.Rigs.{rig_meaning}
use Rattle.heads.proofs.Punctual.{rig_keeps}
use Rattle.heads.proofs.Rigs.{ticked}
use Rattle.heads.proofs.geared.GearedHead.tick.Goals as goal

pub invariant_of-self : goal.invariant_of-self
invariant_of-self g c =
    let h = c.args.self.now in
    let p = g.G.Gear.PAN_TILT in
    let r = c.tick.new.self in
    record {
      moves = c.tick.ensures.motion ∙ h.moves;
      on_time = λ e. (rig_keeps p h.rig r c.tick.result (subst (λ (m : Motion). TickedExactly m (rig_meaning p h.rig) c.tick.result (rig_meaning p r)) (h.moves ∙ e) (c.tick.ensures.ran p)) (h.on_time e)).0;
    }

pub returns : goal.returns
returns g c =
    let h = c.args.self.now in
    let p = g.G.Gear.PAN_TILT in
    let r = c.tick.new.self in
    record {
      ticked = ticked h.rig.motion p h.rig r c.tick.result (c.tick.ensures.ran p);
      exact = subst (λ (m : Motion). TickedExactly m (rig_meaning p h.rig) c.tick.result (rig_meaning p r)) h.moves (c.tick.ensures.ran p);
      arrives = λ e. (rig_keeps p h.rig r c.tick.result (subst (λ (m : Motion). TickedExactly m (rig_meaning p h.rig) c.tick.result (rig_meaning p r)) (h.moves ∙ e) (c.tick.ensures.ran p)) (h.on_time e)).1;
      gear = refl;
    }
