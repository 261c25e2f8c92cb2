-- A rig's tick is one of every head.
use Rattle.std.proofs.Common.{Bool}
use Rattle.head.specs.declared.outcome.Endings.{Endings}
use Rattle.head.specs.Meaning.{Ticked}
use Rattle.head.proofs.Held.{slot_timed}
use Rattle.head.proofs.Relax.{lawful}
use Rattle.heads.specs.declared.motion.Motion.{Motion}
use Rattle.heads.specs.declared.rig.Rig.{Rig}
use Rattle.heads.specs.Exact.{TickedExactly}
use Rattle.heads.specs.Rigs.{rig_meaning}
use Rattle.heads.proofs.Lawful.{strict}

pub ticked : (motion : Motion) (p : Bool) (r r' : Rig) (e : Endings) → TickedExactly motion (rig_meaning p r) e (rig_meaning p r') → Ticked (rig_meaning p r) e (rig_meaning p r')
ticked motion p r r' e ran =
    lawful (rig_meaning p r) e (rig_meaning p r') (strict motion (rig_meaning p r) (rig_meaning p r') e r.settings.ranged (slot_timed r.works.one) (slot_timed r.works.two) r.works.apart ran)
