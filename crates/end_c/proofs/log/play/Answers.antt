use Rattle.std.proofs.Common.{refl, ◌∙◌, subst, ◌∷◌, arith}
use Rattle.end.specs.States.{InRange, state}
use Rattle.end_c.specs.declared.asked.Asked.{Asked}
use Rattle.end_c.specs.Logs.{logged}
use Rattle.end_c.specs.Asked.{asked_of}
use Rattle.end_c.specs.Calls.{AskedCall}
use Rattle.end_c.proofs.Calls.{none_asked, next_asked, all_asked, same}
use Rattle.end_c.proofs.Logging.{put_behind, same_past}
use Rattle.end_c.proofs.log.play.Goals as goal

pub loop-number-init : goal.loop-number-init
loop-number-init g c = (omega arith, (_, none_asked, refl), refl)

pub loop-number-preserved : goal.loop-number-preserved
loop-number-preserved g c =
    let d = c.log_call-count.ensures in
    let i = c.loop-number.invariant.1 in
    let one = subst (λ (a : Asked). AskedCall a c.loop-number.end d.logged.made c.log_call-count.new.end) (same c.from.ensures.0 c.from.ensures.1) d.logged.call in (
      d.within,
      (d.logged.made ∷ i.0, next_asked asked_of c.args.calls.now c.loop-number.number-index c.loop-number-test.true i.1 one, put_behind (logged d.logged.made) d.logged.log c.loop-number.auto.log i.2),
      d.untouched ∙ same_past c.loop-number.count c.log_call-count.result c.loop-number.log c.args.log.now c.loop-number.invariant.2,
    )

pub returns-clause-logged : goal.returns-clause-logged
returns-clause-logged g c =
    let i = c.loop-number.invariant.1 in
    let ranged : InRange (state c.make-end.result) = record { each = g.met.H.Look.ranged c.make-end.result.head } in
    (i.0, all_asked asked_of c.args.calls.now c.loop-number.number-index (omega arith) c.make-end.ensures.head c.make-end.ensures.made ranged i.1, i.2)
