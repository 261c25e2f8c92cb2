-- Each case is computed.
use Rattle.std.proofs.Common.{◌≡◌, ℕ, List, [], ◌∷◌, Some, None, Option, ap, ◌∙◌, arith}
use Rattle.std.proofs.lemmas.Bool.{true≢false, false≢true}
use Rattle.head.specs.declared.order.Order.{Order}
use Rattle.head.specs.Settings.{in_range, number}
use Rattle.head.specs.declared.target.Target.{Target}
use Rattle.head.specs.Orders.{parts}
use Rattle.rows.specs.Commands.{read_command}
use Rattle.rows.specs.Reading.{ranged}
use Rattle.end.proofs.tried.the_law_excludes.Goals as goal

first_number : List Target → ℕ
first_number [] = 0
first_number (t ∷ ts) = number t.setting

first_named : Option Order → ℕ
first_named None = 0
first_named (Some o) = first_number (parts o.targets)

pub returns : goal.returns
unfolding first_number first_named in_range read_command ranged
returns c = record {
  no_end = λ w. let e = w.complete in cc;
  no_body = λ w. false≢true w.each;
  three_packets = λ w. let few = w.few in omega arith;
  second_acknowledgement = λ d. true≢false d.0;
  ending_of_none = λ d. false≢true d.0;
  ending_twice = λ d. false≢true d.1.0;
  thousand_ticks = λ d. omega arith;
  open_with_no_order = λ d. false≢true d.whether;
  order_with_none_open = λ o n d. true≢false d.whether;
  another_order = λ o n e d. let z : ◌≡◌ {A = ℕ} 15 1 = ap first_named (e ∙ d.which) in omega arith;
}
