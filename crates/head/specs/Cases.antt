-- A choice by tests that are tried in turn.
use Rattle.std.specs.Prelude.{Bool, if◌then◌else◌, List, [], ◌∷◌}

-- what stands beside the first test that holds; d where none does
abbrev pub first_case : {A : Type 0} → List (Bool × A) → A → A
first_case [] d = d
first_case (c ∷ cs) d = if c.0 then c.1 else first_case cs d
