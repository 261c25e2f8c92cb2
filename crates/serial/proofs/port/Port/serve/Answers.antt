use Rattle.std.proofs.Common.{arith, refl}
use Rattle.serial.specs.Turns.{Served, unstarted, at_read, at_clock}
use Rattle.serial.proofs.Reading.{no_more_by}
use Rattle.serial.proofs.Serving.{begins, err_told, turn_made, turn_lost, goes_on, ends, fails, no_more_then}
use Rattle.serial.proofs.Summing.{sums}
use Rattle.serial.proofs.port.Port.serve.Goals as goal

pub returns-in_err-start-clause-served : goal.returns-in_err-start-clause-served
returns-in_err-start-clause-served g c =
    err_told (λ r. Served g.O.Outside.operated c.args.self.now c.args.outside.now r c.args.self.now c.now.new.self) c.from_residual.result
    c.from_residual.ensures.1 (unstarted c.in_err-start.ensures)

pub loop-count-init : goal.loop-count-init
loop-count-init g c = begins c.in_ok-start.ensures

pub returns-in_err-count-clause-served : goal.returns-in_err-count-clause-served
returns-in_err-count-clause-served g c =
    err_told (λ r. Served g.O.Outside.operated c.args.self.now c.args.outside.now r c.loop-count.self c.read.new.outside)
    c.from_residual-in_err-count.result c.from_residual-in_err-count.ensures.1
    (fails {m' = record { port = c.loop-count.self; time = 0; outside = c.read.new.outside }} c.loop-count.invariant
    (at_read c.in_err-count.ensures.unbroken refl))

pub returns-in_err-now-clause-served : goal.returns-in_err-now-clause-served
returns-in_err-now-clause-served g c =
    err_told (λ r. Served g.O.Outside.operated c.args.self.now c.args.outside.now r c.loop-count.self c.now-in-loop-count.new.self)
    c.from_residual-in_err-now.result c.from_residual-in_err-now.ensures.1
    (fails {m' = record { port = c.loop-count.self; time = 0; outside = c.now-in-loop-count.new.self }} c.loop-count.invariant
    (at_clock _ c.in_ok-count.ensures.unbroken c.in_err-now.ensures refl))

pub returns-in_err-finish-clause-served : goal.returns-in_err-finish-clause-served
returns-in_err-finish-clause-served g c =
    let e = c.turn.ensures in
    err_told (λ r. Served g.O.Outside.operated c.args.self.now c.args.outside.now r c.turn.new.self c.turn.new.outside)
    c.from_residual-in_err-finish.result c.from_residual-in_err-finish.ensures.1
    (fails c.loop-count.invariant (turn_lost c.in_ok-count.ensures.unbroken c.in_ok-now.ensures c.time_at-time.ensures c.in_err-finish.ensures.failed e.counted))

pub returns-in-Some-clause-served : goal.returns-in-Some-clause-served
returns-in-Some-clause-served g c =
    let e = c.in_ok-finish.ensures in
    ends c.loop-count.invariant (turn_made c.in_ok-count.ensures.unbroken c.in_ok-now.ensures c.time_at-time.ensures e.answered e.counted e.told) c.in-Some.is

pub loop-count-preserved : goal.loop-count-preserved
loop-count-preserved g c =
    let e = c.in_ok-finish.ensures in
    goes_on c.loop-count.invariant (turn_made c.in_ok-count.ensures.unbroken c.in_ok-now.ensures c.time_at-time.ensures e.answered e.counted e.told) c.in_default.is

pub loop-count-smaller : goal.loop-count-smaller
loop-count-smaller g c =
    let known = g.O.Outside.known in
    let means = g.met.O.Outside.means in
    let after_read = c.in_ok-count.ensures.fewer in
    let after_clock = no_more_by known means c.in_ok-now.ensures in
    let after_turn = no_more_then known means c.in_ok-finish.ensures.answered.written in
    omega arith

pub returns-in_err-start-clause-sums : goal.returns-in_err-start-clause-sums
returns-in_err-start-clause-sums g c = sums _ g.O.Outside.known g.met.O.Outside.means (returns-in_err-start-clause-served g c)

pub returns-in_err-count-clause-sums : goal.returns-in_err-count-clause-sums
returns-in_err-count-clause-sums g c = sums _ g.O.Outside.known g.met.O.Outside.means (returns-in_err-count-clause-served g c)

pub returns-in_err-now-clause-sums : goal.returns-in_err-now-clause-sums
returns-in_err-now-clause-sums g c = sums _ g.O.Outside.known g.met.O.Outside.means (returns-in_err-now-clause-served g c)

pub returns-in_err-finish-clause-sums : goal.returns-in_err-finish-clause-sums
returns-in_err-finish-clause-sums g c = sums _ g.O.Outside.known g.met.O.Outside.means (returns-in_err-finish-clause-served g c)

pub returns-in-Some-clause-sums : goal.returns-in-Some-clause-sums
returns-in-Some-clause-sums g c = sums _ g.O.Outside.known g.met.O.Outside.means (returns-in-Some-clause-served g c)
