use Rattle.wire.proofs.Framed.{the_line_is_found_again}
use Rattle.wire.proofs.theorems.the_line_is_found_again.Goals as goal

pub returns : goal.returns
returns c = the_line_is_found_again
