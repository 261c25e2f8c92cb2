-- The row search: the first row that admits a body; and if none does, whether some row has its category and code.
use Rattle.std.specs.Prelude.{ℕ, suc, Bool, if◌then◌else◌, List, [], ◌∷◌, Some, None, Err, Option, Result}
use Rattle.std.specs.List.{list_any}
use Rattle.std.specs.Option.{ok_or}
use Rattle.rows.specs.declared.faults.RowFault.{RowFault}
use Rattle.rows.specs.declared.faults.RowFault.TheVariants.{NoSuchCode, NoSuchOperands}
use Rattle.fault.specs.declared.code.FaultCode.{FaultCode}
use Rattle.fault.specs.declared.code.Layer.TheVariants as layer
use Rattle.fault.specs.Faults.{fault_code}

-- what a row makes of a category, a code and operands, if it admits them
abbrev pub row_meaning : {X M : Type 0} → (X → ℕ → ℕ → Bool) → (X → ℕ → List ℕ → Option M) →
    ℕ → ℕ → List ℕ → X → Option M
row_meaning has reads k c os x = if has x k c then reads x c os else None

abbrev pub first_or : {M : Type 0} → Option M → Option (ℕ × M) → Option (ℕ × M)
first_or (Some m) rest = Some (0, m)
first_or None None = None
first_or None (Some p) = Some (suc p.0, p.1)

-- the first element of a list that f gives something for, by its place
abbrev pub first_of : {X M : Type 0} → (X → Option M) → List X → Option (ℕ × M)
first_of f [] = None
first_of f (x ∷ xs) = first_or (f x) (first_of f xs)

-- where no row admits a body: whether some row has its category and code
abbrev pub fault_of : Bool → RowFault
fault_of known = if known then NoSuchOperands else NoSuchCode

-- the first row that admits a body, by its place, with what it makes of it; or what is wrong with the body
abbrev pub found : {X M : Type 0} → (X → ℕ → ℕ → Bool) → (X → ℕ → List ℕ → Option M) →
    List X → List ℕ → Result (ℕ × M) RowFault
found has reads rows [] = Err NoSuchCode
found has reads rows (k ∷ []) = Err NoSuchCode
found has reads rows (k ∷ c ∷ os) =
    ok_or (first_of (row_meaning has reads k c os) rows) (fault_of (list_any (λ x. has x k c) rows))

-- each fault's number, layer and place
abbrev pub row_code : RowFault → FaultCode
row_code NoSuchCode = fault_code 6 layer.Row 2
row_code NoSuchOperands = fault_code 7 layer.Row 4
