use Rattle.std.proofs.Common.{rules}
use Rattle.end.proofs.Runs.{keeps}
use Rattle.end.proofs.end.End.open.Goals as goal

pub returns : goal.returns
returns g c = record { step = search rules; law = keeps _ _ _ (record { each = g.met.H.Look.ranged c.args.self.now.head }) (search rules) }
