use Rattle.rows.proofs.OneOff.{one_byte_off}
use Rattle.rows.proofs.theorems.one_byte_off_is_no_order.Goals as goal

pub returns : goal.returns
returns c = one_byte_off
