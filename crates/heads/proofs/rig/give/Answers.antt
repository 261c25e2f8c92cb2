use Rattle.std.proofs.lemmas.Int.{ints, to_z-of_z}
use Rattle.head.proofs.Bounds.{small}
use Rattle.std.proofs.Common.{is_some, is_none, false, w32, true, cond, ◌&&◌, SFits, ◌≡◌, ◌∙◌, ◌-◌, ap, sym, arith, length, take, get_or, pos}
use Rattle.std.proofs.lemmas.List.{length-take}
use Rattle.head.specs.declared.setting.Setting.TheVariants.{Power}
use Rattle.head.specs.declared.setting.Setting.{Setting}
use Rattle.head.specs.declared.target.Target.{Target}
use Rattle.head.specs.Orders.{wants}
use Rattle.head.specs.Settings.{about, same}
use Rattle.head.specs.Values.{value_of}
use Rattle.heads.specs.Rigs.{target_given}
use Rattle.heads.proofs.Given.{given_last, in_range_last}
use Rattle.heads.proofs.rig.give.Goals as goal

pub loop-left-preserved-then-is_none : goal.loop-left-preserved-then-is_none
loop-left-preserved-then-is_none c =
    let ts = c.loop-left.left.now in
    let d : Target = record { setting = Power; value = pos 0 } in
    let x = get_or ts (length ts - 1) d in
    let l = c.in-len1-up.len_at_least in
    let i = c.loop-left.invariant in
    let h = in_range_last ts d l i.1 in
    let b = small x.setting x.value h.1 in
    let f : SFits w32 x.value = omega (arith, ints) in
    let v = to_z-of_z w32 x.value f in
    let n : is_some (about x.setting).axis ≡ false = sym (ap is_some c.axis.ensures) ∙ c.if-is_none.ensures in (
      omega (arith, length-take (length ts - 1) ts, i.0),
      h.0,
      λ (s : Setting).
          let e : value_of c.put.new.self s ≡ cond (is_none (about x.setting).axis && same s x.setting) x.value (value_of c.loop-left.settings s) = c.put.ensures s ∙ simp (v, n) in
          ap (target_given (about s).axis (wants (take (length ts - 1) ts) s)) e ∙ sym (given_last ts d s (value_of c.loop-left.settings s) l) ∙ i.2 s,
    )

pub loop-left-preserved : goal.loop-left-preserved
loop-left-preserved c =
    let ts = c.loop-left.left.now in
    let d : Target = record { setting = Power; value = pos 0 } in
    let x = get_or ts (length ts - 1) d in
    let l = c.in-len1-up.len_at_least in
    let i = c.loop-left.invariant in
    let n : is_some (about x.setting).axis ≡ true = sym (ap is_some c.axis.ensures) ∙ c.if-is_none.ensures in (
      omega (arith, length-take (length ts - 1) ts, i.0),
      (in_range_last ts d l i.1).0,
      λ (s : Setting).
          let g = given_last ts d s (value_of c.loop-left.settings s) l in
          sym (simp n at g) ∙ i.2 s,
    )
