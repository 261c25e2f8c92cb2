-- The order of some targets: there is none if a setting is named twice.
use Rattle.std.specs.Prelude.{◌≡◌, Bool, true, false, Some, None, Option, refl}
use Rattle.head.specs.declared.order.Order.{Order}
use Rattle.head.specs.declared.order.Paces.{Paces}
use Rattle.head.specs.declared.target.Targets.{Targets}
use Rattle.head.specs.Orders.{parts, different}

abbrev pub if_different : (ts : Targets) → Paces → (b : Bool) → different (parts ts) ≡ b → Option Order
if_different ts p true e = Some (record { targets = ts; paces = p; distinct = e })
if_different ts p false e = None

abbrev pub made : Targets → Paces → Option Order
made ts p = if_different ts p (different (parts ts)) refl
