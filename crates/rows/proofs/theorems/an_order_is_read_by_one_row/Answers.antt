use Rattle.rows.proofs.OneRow.{read_as_by_one_row}
use Rattle.rows.proofs.theorems.an_order_is_read_by_one_row.Goals as goal

pub returns : goal.returns
returns c = read_as_by_one_row
