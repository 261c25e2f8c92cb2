use Rattle.rules.proofs.Ruled.{each_packet_meets_one_rule}
use Rattle.rules.proofs.theorems.each_packet_meets_one_rule.Goals as goal

pub returns : goal.returns
returns c = each_packet_meets_one_rule
