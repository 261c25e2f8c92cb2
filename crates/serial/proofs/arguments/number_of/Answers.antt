use Rattle.std.proofs.Common.{sym, ◌∙◌, lit<}
use Rattle.serial.proofs.Numbers.{parsed}
use Rattle.serial.proofs.arguments.number_of.Goals as goal

pub returns : goal.returns
returns c =
    let plain = c.if-starts_with.ensures.byte (lit< tt) (lit< tt) (λ w o p. p) in
    c.ok.ensures.value ∙ parsed c.args.word.now c.parse.result (sym plain) c.parse.ensures.value.0
