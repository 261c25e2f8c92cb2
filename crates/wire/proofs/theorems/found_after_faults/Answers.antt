use Rattle.wire.proofs.Faulty.{found_after_faults}
use Rattle.wire.proofs.theorems.found_after_faults.Goals as goal

pub returns : goal.returns
returns c = found_after_faults
