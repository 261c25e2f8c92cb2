use Rattle.std.proofs.Common.{refl, ap, ◌∙◌, List, ℕ, ◌∷◌, arith}
use Rattle.end.specs.States.{InRange, state}
use Rattle.wire.specs.Line.{over}
use Rattle.end_c.specs.Asked.{asked_in_full}
use Rattle.end_c.proofs.Calls.{none_asked, next_asked, all_asked}
use Rattle.end_c.proofs.Counting.{summed}
use Rattle.end_c.proofs.time.play.Goals as goal

pub loop-number-init : goal.loop-number-init
loop-number-init g c = (_, none_asked, refl, refl)

pub loop-number-preserved : goal.loop-number-preserved
loop-number-preserved g c =
    let d = c.call-count.ensures in
    let i = c.loop-number.invariant in
    let buffer = d.buffer ∙ ap (λ (b : List ℕ). over d.made.fed.sent b) i.2 in
    (d.made ∷ i.0, next_asked asked_in_full c.args.calls.now c.loop-number.number-index c.loop-number-test.true i.1 d.call, buffer, summed d.made i.0 i.3 d.count c.from.ensures buffer)

pub returns : goal.returns
returns g c =
    let i = c.loop-number.invariant in
    let ranged : InRange (state c.make-end.result) = record { each = g.met.H.Look.ranged c.make-end.result.head } in
    (i.0, all_asked asked_in_full c.args.calls.now c.loop-number.number-index (omega arith) c.make-end.ensures.head c.make-end.ensures.made ranged i.1, i.3)
