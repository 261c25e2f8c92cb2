use Rattle.std.proofs.Common.{refl, ap, ◌∙◌}
use Rattle.heads.specs.declared.dome.Turning.{Turning}
use Rattle.heads.specs.Heads.{motion_of, steps_counted}
use Rattle.end_c.specs.Asked.{dome_kind}
use Rattle.end_c.proofs.Exact.{our_run, dome_moves, dome_turns}
use Rattle.end_c.proofs.time.time_dome.Goals as goal

pub returns : goal.returns
returns c =
    let p = c.play.ensures in
    let moves = ap (λ (t : Turning). motion_of t.stalled) c.new.ensures.stalled ∙ dome_moves c.args.stalled in
    let played = our_run (λ x y o r z p. p) (λ x e z p. p) (λ x y z p. p) (λ x. refl) (λ k f o. steps_counted k.stalled f o) (dome_kind c.args.stalled) c.new.result moves (dome_turns c.args.stalled) c.new.ensures.settings c.new.ensures.slots p.1 in
    record { run = p.0; played = played; sum = p.2 }
