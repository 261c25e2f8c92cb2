-- An order is what its targets and paces make.
use Rattle.std.proofs.Common.{◌≡◌, Bool, true, false, Some, refl, ap}
use mathlib.Core.Bool.{Bool-set}
use Rattle.head.specs.declared.order.Paces.{Paces}
use Rattle.head.specs.declared.target.Targets.{Targets}
use Rattle.head.specs.Made.{if_different, made}
use Rattle.head.specs.Orders.{parts, different}

some_by : (ts : Targets) (p : Paces) (b : Bool) (q : different (parts ts) ≡ b) (e : different (parts ts) ≡ true) → b ≡ true
    → Some (record { targets = ts; paces = p; distinct = e }) ≡ if_different ts p b q
some_by ts p true q e t = ap (λ (h : different (parts ts) ≡ true). Some (record { targets = ts; paces = p; distinct = h })) (Bool-set _ _ e q)
some_by ts p false q e t = cc

pub some_made : (ts : Targets) (p : Paces) (e : different (parts ts) ≡ true) → Some (record { targets = ts; paces = p; distinct = e }) ≡ made ts p
some_made ts p e = some_by ts p (different (parts ts)) refl e e
