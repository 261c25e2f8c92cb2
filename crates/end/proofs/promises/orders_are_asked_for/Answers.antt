use Rattle.end.proofs.Passing.{orders_are_asked_for}
use Rattle.end.proofs.promises.orders_are_asked_for.Goals as goal

pub returns : goal.returns
returns c = orders_are_asked_for c.an_order_is_read_by_one_row.ensures
