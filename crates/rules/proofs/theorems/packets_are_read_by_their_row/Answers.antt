use Rattle.rules.proofs.Ordered.{read_by_row}
use Rattle.rules.proofs.theorems.packets_are_read_by_their_row.Goals as goal

pub returns : goal.returns
returns c = read_by_row c.an_order_is_read_by_one_row.ensures c.one_byte_off_is_no_order.ensures
