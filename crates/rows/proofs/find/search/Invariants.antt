use Rattle.std.proofs.Common.{◌≡◌, ℕ, ◌<◌, ◌≤◌, length, get_or, None}
use Rattle.rows.specs.Admitted.{admits}
use Rattle.rows.proofs.find.search.Given as goal

-- none of the rows that the loop has passed admits the body
abbrev pub invariant-loop-i : goal.invariant-loop-i
invariant-loop-i g l = (l.i ≤ length l.rows) × ((k : ℕ) (d : g.row.R.Denot) → k < l.i → admits g.R.Row l.body (get_or l.rows k d) ≡ None)
