use Rattle.std.proofs.Common.{ap, ℕ}
use Rattle.serial.specs.Turns.{calls_in}
use Rattle.serial.proofs.Turned.{answered_both, failed_behind, handed_on, answered_as, failed_as}
use Rattle.serial.proofs.port.Port.turn.Goals as goal

pub returns-in_err-answer_ticks-clause-failed : goal.returns-in_err-answer_ticks-clause-failed
returns-in_err-answer_ticks-clause-failed g c =
    handed_on c.from_residual-in_err-answer_ticks.result _ c.from_residual-in_err-answer_ticks.ensures.1
    (failed_as (ap (λ (n : ℕ). calls_in c.args.bytes.now n) c.owed-ticks.ensures.ticks)
    (failed_behind c.in_ok-answer_bytes.ensures.answered c.in_err-answer_ticks.ensures.failed))

pub returns-clause-answered : goal.returns-clause-answered
returns-clause-answered g c =
    answered_as (ap (λ (n : ℕ). calls_in c.args.bytes.now n) c.owed-ticks.ensures.ticks)
    (answered_both c.in_ok-answer_bytes.ensures.answered c.in_ok-answer_ticks.ensures.answered)
