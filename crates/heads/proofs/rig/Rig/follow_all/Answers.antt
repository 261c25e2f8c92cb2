use Rattle.head.specs.declared.setting.Axis.TheVariants.{Focus, Pan, Tilt}
use Rattle.head.specs.Values.{value_of}
use Rattle.head.specs.Works.{slots_of}
use Rattle.heads.proofs.Given.{follows, same_following}
use Rattle.heads.proofs.rig.Rig.follow_all.Goals as goal

pub returns : goal.returns
returns c =
    let r = c.args.self.now in
    let e = c.args.endings in
    let z = c.follow.new.self in
    let o = c.follow-2.new.self in
    let p = c.follow-3.new.self in
    let t = c.follow-4.new.self in
    let mz = c.follow.ensures in
    let mo = same_following r z e Focus _ (value_of z.settings) o mz c.follow-2.ensures in
    let mp = same_following r o e Pan _ (value_of o.settings) p mo c.follow-3.ensures in
    let mt = same_following r p e Tilt _ (value_of p.settings) t mp c.follow-4.ensures in
    record {
      values = follows r.motion (slots_of r.works) e (value_of r.settings) (value_of z.settings) (value_of o.settings) (value_of p.settings) (value_of t.settings)
          mz.values mo.values mp.values mt.values;
      motion = mt.motion;
      slots = mt.slots;
    }
