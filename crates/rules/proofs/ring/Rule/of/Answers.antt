use Rattle.wire.specs.Framing.{bytes_of}
use Rattle.rules.proofs.Ruled.{met_by}
use Rattle.rules.proofs.ring.Rule.of.Goals as goal

pub returns-clause-meets : goal.returns-clause-meets
returns-clause-meets c = met_by c.args.address (bytes_of c.args.packet.now) c.first_that_fits.result c.first_that_fits.ensures.rule
