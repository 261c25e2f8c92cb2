use Rattle.std.proofs.Common.{sym}
use Rattle.serial.proofs.Turned.{none_answered, call_answered, call_failed, answered_both, failed_behind, failed_before, handed_on, answered_as, failed_as, more_bytes, bytes_parted}
use Rattle.serial.proofs.port.answer_bytes.Goals as goal

pub loop-byte-init : goal.loop-byte-init
loop-byte-init g c = none_answered

pub loop-byte-preserved : goal.loop-byte-preserved
loop-byte-preserved g c =
    answered_as (sym (more_bytes c.args.bytes.now c.loop-byte.byte-index c.loop-byte-test.true))
    (answered_both c.loop-byte.invariant (call_answered g.met.H.Look.ranged c.in_ok-answer_byte.ensures))

pub returns-in_err-answer_byte-clause-failed : goal.returns-in_err-answer_byte-clause-failed
returns-in_err-answer_byte-clause-failed g c =
    handed_on c.from_residual.result _ c.from_residual.ensures.1
    (failed_as (bytes_parted c.args.bytes.now c.loop-byte.byte-index c.loop-byte-test.true)
    (failed_before _ (failed_behind c.loop-byte.invariant (call_failed g.met.H.Look.ranged c.in_err-answer_byte.ensures))))
