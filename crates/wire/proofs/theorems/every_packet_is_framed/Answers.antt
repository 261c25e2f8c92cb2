use Rattle.wire.proofs.Framed.{every_packet_is_framed}
use Rattle.wire.proofs.theorems.every_packet_is_framed.Goals as goal

pub returns : goal.returns
returns c = every_packet_is_framed
