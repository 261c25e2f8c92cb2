use Rattle.end.proofs.Runs.{calls_keep_the_law}
use Rattle.end.proofs.promises.calls_keep_the_law.Goals as goal

pub returns : goal.returns
returns c = calls_keep_the_law
