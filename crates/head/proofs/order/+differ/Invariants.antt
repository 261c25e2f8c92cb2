use Rattle.std.proofs.Common.{length}
use Rattle.head.proofs.order.+differ.Given as goal

abbrev pub decreases-differ : goal.decreases-differ
decreases-differ l = length l.targets.now
