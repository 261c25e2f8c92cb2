use Rattle.std.proofs.Common.{ℤ, sym, ◌∙◌, subst, w32, SFits, rules}
use Rattle.std.proofs.lemmas.Int.{to_z-of_z}
use Rattle.wild.specs.Wilds.{wild_meaning, Goes}
use Rattle.head.proofs.Held.{wanted_in_range}
use Rattle.wild.proofs.Steps.{goes}
use Rattle.wild.proofs.wild.Wild.step.Goals as goal

pub returns : goal.returns
returns c =
    let h = c.args.self.now in
    let m = wild_meaning h in
    let e = c.args.endings in
    let s = c.args.setting in
    let f : SFits w32 c.unwrap_or.result = search rules in
    let g : SFits w32 c.alone-alone.result = search rules in
    let k = simp (c.or.ensures, to_z-of_z w32 c.alone-alone.result g) at c.unwrap_or.ensures in
    subst (λ (w : ℤ). Goes m e s w) (sym (to_z-of_z w32 c.unwrap_or.result f ∙ k))
    (goes m e s c.led-one.result c.led-two.result c.alone-alone.result (h.settings.ranged s) (h.works.apart s) (wanted_in_range h.works.one s) (wanted_in_range h.works.two s)
    c.led-one.ensures c.led-two.ensures c.alone-alone.ensures)
