use Rattle.std.proofs.Common.{◌≡◌, arith}
use Rattle.std.proofs.lemmas.Grind.{common_steps}
use Rattle.rows.specs.Requests.{read_body}
use Rattle.rows.proofs.OneRow.{as_requested}
use Rattle.rows.proofs.request.read.Goals as goal

pub returns-in-1-clause-one_row : goal.returns-in-1-clause-one_row
returns-in-1-clause-one_row c =
    let is : c.command.result ≡ read_body c.args.body.now = grind (arith, common_steps) in
    as_requested c.args.body.now c.command.result is
