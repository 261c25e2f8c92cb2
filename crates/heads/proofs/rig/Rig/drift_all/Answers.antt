use Rattle.head.specs.declared.setting.Axis.TheVariants.{Focus, Pan, Tilt}
use Rattle.head.specs.Values.{value_of}
use Rattle.heads.proofs.Idle.{drifts, same_drifting}
use Rattle.heads.proofs.rig.Rig.drift_all.Goals as goal

pub returns : goal.returns
returns c =
    let r = c.args.self.now in
    let z = c.drift.new.self in
    let o = c.drift-2.new.self in
    let p = c.drift-3.new.self in
    let t = c.drift-4.new.self in
    let mz = c.drift.ensures in
    let mo = same_drifting r z Focus _ (value_of z.settings) o mz c.drift-2.ensures in
    let mp = same_drifting r o Pan _ (value_of o.settings) p mo c.drift-3.ensures in
    let mt = same_drifting r p Tilt _ (value_of p.settings) t mp c.drift-4.ensures in
    record {
      values = drifts r.motion (value_of r.settings) (value_of z.settings) (value_of o.settings) (value_of p.settings) (value_of t.settings) mz.values mo.values mp.values mt.values;
      motion = mt.motion;
      slots = mt.slots;
    }
