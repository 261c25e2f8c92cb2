use Rattle.end.proofs.Passing.{packets_of_others_pass}
use Rattle.end.proofs.promises.packets_of_others_pass.Goals as goal

pub returns : goal.returns
returns c = packets_of_others_pass c.what_becomes_of_packets.ensures
