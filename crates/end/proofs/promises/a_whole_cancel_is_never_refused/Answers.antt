use Rattle.end.proofs.Promised.{a_whole_cancel_is_never_refused}
use Rattle.end.proofs.promises.a_whole_cancel_is_never_refused.Goals as goal

pub returns : goal.returns
returns c = a_whole_cancel_is_never_refused
