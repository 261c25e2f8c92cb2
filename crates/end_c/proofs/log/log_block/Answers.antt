use Rattle.std.proofs.Common.{refl}
use Rattle.heads.specs.declared.any.HeadKind.TheVariants.{Block}
use Rattle.end_c.proofs.Exact.{our_run}
use Rattle.end_c.proofs.log.log_block.Goals as goal

pub returns-clause-logged : goal.returns-clause-logged
returns-clause-logged c =
    let p = c.play.ensures.logged in
    let played = our_run (λ x y o r z p. p) (λ x e z p. p) (λ x y z p. p) (λ x. refl) (λ k f o. refl) Block c.new.result refl refl c.new.ensures.settings c.new.ensures.slots p.1 in
    record { run = p.0; played = played; log = p.2 }
