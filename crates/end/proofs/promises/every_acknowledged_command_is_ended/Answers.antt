use Rattle.end.proofs.Promised.{every_acknowledged_command_is_ended}
use Rattle.end.proofs.promises.every_acknowledged_command_is_ended.Goals as goal

pub returns : goal.returns
returns c = every_acknowledged_command_is_ended
