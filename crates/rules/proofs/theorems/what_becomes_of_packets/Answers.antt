use Rattle.rules.proofs.Becoming.{what_becomes_of_packets}
use Rattle.rules.proofs.theorems.what_becomes_of_packets.Goals as goal

pub returns : goal.returns
returns c = what_becomes_of_packets
