use Rattle.head.proofs.Made.{some_made}
use Rattle.head.proofs.order.Order.new.Goals as goal

pub returns-then-differ : goal.returns-then-differ
returns-then-differ c = some_made c.args.targets c.args.paces _
