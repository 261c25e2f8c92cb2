use Rattle.std.proofs.Common.{◌∙◌}
use Rattle.heads.specs.Rigs.{rig_meaning}
use Rattle.heads.proofs.Punctual.{start_keeps}
use Rattle.heads.proofs.geared.GearedHead.start.Goals as goal

pub invariant_of-self : goal.invariant_of-self
invariant_of-self g c =
    let h = c.args.self.now in
    let p = g.G.Gear.PAN_TILT in
    let s = simp c.PAN_TILT.ensures at c.start.ensures.started in
    record {
      moves = c.start.ensures.motion ∙ h.moves;
      on_time = λ e. start_keeps (rig_meaning p h.rig) (rig_meaning p c.start.new.self) c.args.slot c.args.order.now c.start.result s (simp (h.moves ∙ e) at c.start.ensures.ticks) (h.on_time e);
    }
