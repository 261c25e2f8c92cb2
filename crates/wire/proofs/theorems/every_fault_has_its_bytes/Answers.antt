use Rattle.wire.proofs.Faulty.{every_fault_has_its_bytes}
use Rattle.wire.proofs.theorems.every_fault_has_its_bytes.Goals as goal

pub returns : goal.returns
returns c = every_fault_has_its_bytes
