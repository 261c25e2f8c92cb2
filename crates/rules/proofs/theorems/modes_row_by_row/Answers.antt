use Rattle.rules.proofs.ByRow.{modes_row_by_row}
use Rattle.rules.proofs.theorems.modes_row_by_row.Goals as goal

pub returns : goal.returns
returns c = modes_row_by_row
