use Rattle.serial.proofs.Turned.{none_answered, call_answered, call_failed, answered_both, failed_behind, failed_before, handed_on, answered_as, failed_as, more_ticks, ticks_parted}
use Rattle.serial.proofs.port.answer_ticks.Goals as goal

pub loop-init : goal.loop-init
loop-init g c = none_answered

pub loop-preserved : goal.loop-preserved
loop-preserved g c = answered_as (more_ticks c.loop.counter) (answered_both c.loop.invariant (call_answered g.met.H.Look.ranged c.in_ok-answer_tick.ensures))

pub returns-in_err-answer_tick-clause-failed : goal.returns-in_err-answer_tick-clause-failed
returns-in_err-answer_tick-clause-failed g c =
    handed_on c.from_residual.result _ c.from_residual.ensures.1
    (failed_as (ticks_parted c.loop.counter c.args.ticks c.loop-test.true)
    (failed_before _ (failed_behind c.loop.invariant (call_failed g.met.H.Look.ranged c.in_err-answer_tick.ensures))))
