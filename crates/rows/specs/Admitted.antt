-- What rows make of a body in its parts, by the ghost members of their trait.
use Rattle.std.specs.Prelude.{Bool, Option}
use Rattle.rows.specs.declared.row.Body.{Body}
use Rattle.rows.specs.declared.row.Row.{Ghosts}
use Rattle.rows.specs.Search.{row_meaning}

abbrev pub covers : {R M : Type 0} → Ghosts R M → Body → R → Bool
covers row b r = row.has r b.category b.code

abbrev pub admits : {R M : Type 0} → Ghosts R M → Body → R → Option M
admits row b r = row_meaning row.has row.reads b.category b.code b.operands.now r
