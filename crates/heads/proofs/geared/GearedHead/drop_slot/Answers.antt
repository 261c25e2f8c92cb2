use Rattle.std.proofs.Common.{refl}
use Rattle.heads.specs.Rigs.{rig_meaning}
use Rattle.heads.specs.declared.rig.Rig.{Rig}
use Rattle.heads.proofs.Punctual.{drop_keeps}
use Rattle.heads.proofs.geared.GearedHead.drop_slot.Goals as goal

pub invariant_of-self : goal.invariant_of-self
invariant_of-self g c =
    let h = c.args.self.now in
    let p = g.G.Gear.PAN_TILT in
    let r : Rig = record { motion = h.rig.motion; settings = h.rig.settings; works = c.drop_slot.new.self } in
    record {
      moves = h.moves;
      on_time = λ e. drop_keeps (rig_meaning p h.rig) (rig_meaning p r) _
          (record { kept = record { setting = λ s. refl; pantilt = refl }; now_idle = c.drop_slot.ensures.now_idle }) (h.on_time e);
    }
