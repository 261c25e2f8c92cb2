use Rattle.std.proofs.Common.{◌≡◌, ◌≤◌, ℕ, Bool, Ok, Err, Result, OnOk, min, arith}
use Rattle.head.specs.declared.outcome.Refusal.{Refusal}
use Rattle.head.specs.Meaning.{busy, put, order_in, reason, reason_given}
use Rattle.head.specs.Values.{value_of}
use Rattle.head.specs.Works.{slots_of}
use Rattle.head.proofs.Starts.{targets_in_range}
use Rattle.head.specs.declared.order.Order.{Order}
use Rattle.head.specs.declared.works.Works.{Works}
use Rattle.heads.specs.declared.rig.Rig.{Rig}
use Rattle.heads.specs.Exact.{ticks_of}
use Rattle.heads.proofs.Spans.{few_of}
use Rattle.heads.proofs.rig.Rig.start.Goals as goal

-- no order that is started takes more ticks than a slot may have left
uncut : (p : Bool) (x : Rig) (w : Works) (y : ℕ) (o : Order) (n : ℕ) (r : Result (Unit {0}) Refusal)
    → reason_given r ≡ reason p (order_in (slots_of x.works).one) (order_in (slots_of x.works).two) y o
    → n ≡ min (ticks_of x.motion (value_of x.settings) o) 1000 → OnOk r (slots_of w ≡ put (slots_of x.works) y (busy o n))
    → OnOk r (slots_of w ≡ put (slots_of x.works) y (busy o (ticks_of x.motion (value_of x.settings) o)))
uncut p x w y o n (Ok u) h e t =
    let few = few_of x.motion x.settings o (targets_in_range p (order_in (slots_of x.works).one) (order_in (slots_of x.works).two) y o h) in
    let same : n ≡ ticks_of x.motion (value_of x.settings) o = omega arith in
    rw (← same) t
uncut p x w y o n (Err f) h e t = tt

-- an order that is started has its targets in range, so none of ours takes more than 640
short : (p : Bool) (x : Rig) (y : ℕ) (o : Order) (r : Result (Unit {0}) Refusal)
    → reason_given r ≡ reason p (order_in (slots_of x.works).one) (order_in (slots_of x.works).two) y o
    → OnOk r (ticks_of x.motion (value_of x.settings) o ≤ 640)
short p x y o (Ok u) h =
    few_of x.motion x.settings o (targets_in_range p (order_in (slots_of x.works).one) (order_in (slots_of x.works).two) y o h)
short p x y o (Err f) h = tt

pub returns-clause-few : goal.returns-clause-few
returns-clause-few c =
    short c.args.pan_tilt c.args.self.now c.args.slot c.args.order.now c.start.result c.start.ensures.first_reason

pub returns-clause-ticks : goal.returns-clause-ticks
returns-clause-ticks c =
    uncut c.args.pan_tilt c.args.self.now c.start.new.self c.args.slot c.args.order.now c.ticks-ticks.result.count c.start.result
    c.start.ensures.first_reason c.ticks-ticks.ensures c.start.ensures.taken
