use Rattle.end.proofs.Runs.{runs_go_on}
use Rattle.end.proofs.promises.runs_go_on.Goals as goal

pub returns : goal.returns
returns c = runs_go_on
