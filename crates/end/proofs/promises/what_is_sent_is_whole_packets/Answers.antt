use Rattle.end.proofs.Promised.{what_is_sent_is_whole_packets}
use Rattle.end.proofs.promises.what_is_sent_is_whole_packets.Goals as goal

pub returns : goal.returns
returns c = what_is_sent_is_whole_packets
