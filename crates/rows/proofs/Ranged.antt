-- Whatever a body is read as has every target in range.
use Rattle.std.proofs.Common.{◌≡◌, ℕ, true, List, Ok, subst}
use Rattle.head.specs.Orders.{parts, all_in_range}
use Rattle.rows.specs.declared.command.Command.{Command}
use Rattle.rows.specs.declared.request.Request.TheVariants as request
use Rattle.rows.specs.OneRow.{ReadByOne, RequestByOneRow}
use Rattle.rows.specs.Orders.{order_of}
use Rattle.rows.specs.Requests.{read_body}
use Rattle.rows.proofs.OneRow.{request_by_one_row}

pub body_in_range : (body : List ℕ) (i : ℕ) (c : Command) → read_body body ≡ Ok (request.Command i c) → all_in_range (parts (order_of c).targets) ≡ true
body_in_range body i c e =
    let one : ReadByOne body i c = subst (RequestByOneRow body) e (request_by_one_row body) in
    one.in_range
