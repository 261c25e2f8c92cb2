use Rattle.std.proofs.Common.{◌≤◌, arith}
use Rattle.std.proofs.lemmas.Int.{to_z-of_z}
use Rattle.wild.proofs.Ways.{up, down}
use Rattle.wild.proofs.dice.Dice.between.Goals as goal
use Rattle.wild.proofs.dice.Dice.between.Goals.{in-0, in-1-to-9, in_default}

pub returns-then-from-to : goal.returns-then-from-to
returns-then-from-to c =
    let f = c.ranges.from in
    let t = c.ranges.to in
    let part : c.match-roll.way' ≤ c.abs_diff-whole.result = elim c.match-roll.branch [ in-0 w ↦ omega arith | in-1-to-9 w ↦ omega arith | in_default w ↦ omega arith ] in
    up c.args.from c.args.to c.saturating_add_unsigned.result c.abs_diff-whole.result c.match-roll.way' f t
    (simp to_z-of_z at c.if-from-to.true) part (simp to_z-of_z at c.abs_diff-whole.ensures) (simp to_z-of_z at c.saturating_add_unsigned.ensures)

pub returns-else-from-to : goal.returns-else-from-to
returns-else-from-to c =
    let f = c.ranges.from in
    let t = c.ranges.to in
    let part : c.match-roll.way' ≤ c.abs_diff-whole.result = elim c.match-roll.branch [ in-0 w ↦ omega arith | in-1-to-9 w ↦ omega arith | in_default w ↦ omega arith ] in
    down c.args.from c.args.to c.saturating_sub_unsigned.result c.abs_diff-whole.result c.match-roll.way' f t
    (simp to_z-of_z at c.if-from-to.false) part (simp to_z-of_z at c.abs_diff-whole.ensures) (simp to_z-of_z at c.saturating_sub_unsigned.ensures)
