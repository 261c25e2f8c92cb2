use Rattle.std.proofs.Common.{◌∙◌, sym, w32, SFits, rules}
use Rattle.std.proofs.lemmas.Int.{to_z-of_z}
use Rattle.head.specs.Values.{value_of}
use Rattle.wild.proofs.Steps.{alone_driven}
use Rattle.wild.proofs.wild.Wild.alone.Goals as goal

pub returns-in-Some : goal.returns-in-Some
returns-in-Some c =
    let x = c.args.self.now.settings in
    let s = c.args.setting in
    let f : SFits w32 c.get-from.result = search rules in
    let g : SFits w32 c.drive_end.result = search rules in
    let h : SFits w32 c.between.result = search rules in
    let b = simp to_z-of_z at c.between.ensures in
    simp to_z-of_z
    (alone_driven (value_of x) s c.in-Some.axis c.drive_end.result c.between.result (sym c.axis.ensures ∙ c.in-Some.is) (x.ranged s)
    c.drive_end.ensures.driven c.drive_end.ensures.ranged (simp c.get-from.ensures at b))
