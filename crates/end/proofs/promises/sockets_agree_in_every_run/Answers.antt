use Rattle.end.proofs.Runs.{sockets_agree_in_every_run}
use Rattle.end.proofs.promises.sockets_agree_in_every_run.Goals as goal

pub returns : goal.returns
returns c = sockets_agree_in_every_run
