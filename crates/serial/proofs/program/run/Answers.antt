use Rattle.std.proofs.Common.{sym, subst}
use Rattle.serial.specs.Program.{ProgramRan, unserved, served}
use Rattle.serial.proofs.Serving.{err_told}
use Rattle.serial.proofs.program.run.Goals as goal

pub returns-in_err-arguments : goal.returns-in_err-arguments
returns-in_err-arguments g c =
    err_told (λ r. ProgramRan g.O.Outside.operated c.args.outside.now r c.args.outside.now) c.from_residual.result c.from_residual.ensures.1
    (unserved c.in_err-arguments.field-0.0 c.in_err-arguments.ensures)

pub returns : goal.returns
returns g c =
    subst (λ (r : _). ProgramRan g.O.Outside.operated c.args.outside.now r c.serve.new.outside) (sym c.answer.ensures)
    (served c.in_ok-arguments.arguments {b' = record { port = c.serve.new.self }} (record { made = c.box_for.ensures.made; kind = c.box_for.ensures.kind }) c.serve.ensures.served)
