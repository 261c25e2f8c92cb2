use Rattle.serial.proofs.Owing.{reads_owe_together}
use Rattle.serial.proofs.theorems.reads_owe_together.Goals as goal

pub returns : goal.returns
returns c = reads_owe_together
