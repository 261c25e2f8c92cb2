-- Each run is computed.
use Rattle.std.proofs.Common.{refl}
use Rattle.end.proofs.tried.the_book_reads_runs.Goals as goal

pub returns : goal.returns
returns c = refl
