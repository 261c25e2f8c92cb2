use Rattle.std.proofs.Common.{◌≡◌, ◌∙◌, false, rules}
use Rattle.head.specs.Values.{value_of}
use Rattle.heads.proofs.Given.{drift_only, moving}
use Rattle.heads.proofs.rig.Rig.move_positions.Goals as goal

pub returns-else-moves-2 : goal.returns-else-moves-2
returns-else-moves-2 c =
    let r = c.args.self.now in
    let one : moving r.works.one ≡ false = search (rules) in
    let two : moving r.works.two ≡ false = search (rules) in
    let m = c.drift_all.ensures in
    record {
      values = λ s. m.values s ∙ drift_only r c.args.endings (value_of r.settings) s one two;
      motion = m.motion;
      slots = m.slots;
    }
