use Rattle.std.proofs.lemmas.Bool.{ne_eqb}
use Rattle.head.specs.Meaning.{busy, order_in}
use Rattle.head.specs.Work.{slot_of}
use Rattle.head.proofs.Apart.{apart_sym, apart_held}
use Rattle.head.proofs.Starts.{not_in_use}
use Rattle.head.proofs.works.Works.start.Goals as goal

pub invariant_of-self-then-slot-eq1 : goal.invariant_of-self-then-slot-eq1
invariant_of-self-then-slot-eq1 c =
    let w = c.args.self.now in
    let o = c.args.order.now in
    let h = not_in_use c.args.pan_tilt (order_in (slot_of w.one)) (order_in (slot_of w.two)) c.args.slot o c.in_ok-admit.ensures in
    record { apart = apart_held (slot_of w.two) o c.args.ticks.count (simp c.if-slot-eq1.true at h) }

pub invariant_of-self-else-slot-eq1-2 : goal.invariant_of-self-else-slot-eq1-2
invariant_of-self-else-slot-eq1-2 c =
    let w = c.args.self.now in
    let o = c.args.order.now in
    let n = c.args.ticks.count in
    let h = not_in_use c.args.pan_tilt (order_in (slot_of w.one)) (order_in (slot_of w.two)) c.args.slot o c.in_ok-admit.ensures in
    let k = simp (ne_eqb c.args.slot 1 c.if-slot-eq1.false) at h in
    record { apart = apart_sym (busy o n) (slot_of w.one) (apart_held (slot_of w.one) o n k) }
