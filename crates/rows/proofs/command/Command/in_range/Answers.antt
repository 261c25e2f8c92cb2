use Rattle.std.proofs.Common.{rules}
use Rattle.rows.proofs.Stopped.{placed, turned}
use Rattle.rows.proofs.command.Command.in_range.Goals as goal

pub returns-in-Position : goal.returns-in-Position
returns-in-Position c =
    let p = c.in-Position.to in
    simp (c.in-Position.is, placed p) (search rules)

pub returns-then-admits-2 : goal.returns-then-admits-2
returns-then-admits-2 c =
    let t = c.in-PanTiltPosition.to in
    simp (c.in-PanTiltPosition.is, turned t) (search rules)
