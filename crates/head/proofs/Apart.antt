-- Slots whose orders name no common setting.
use Rattle.std.proofs.Common.{◌≡◌, ℕ, false, ◌&&◌, ℤ, is_some, Some, None, Option, refl, ◌∙◌}
use Rattle.std.proofs.lemmas.Bool.{and_right}
use Rattle.std.proofs.Math.Bool.{and_comm}
use Rattle.head.specs.declared.order.Order.{Order}
use Rattle.head.specs.Orders.{parts, wants}
use Rattle.head.specs.Meaning.{Slot, idle, busy, wanted, Apart, order_in, in_use}
use Rattle.head.proofs.Wants.{apart}

pub apart_sym : (a b : Slot) → Apart a b → Apart b a
apart_sym a b h s = and_comm (is_some (wanted b s)) (is_some (wanted a s)) ∙ h s

-- an order that is not in use beside what another slot holds
pub apart_held : (b : Slot) (o : Order) (n : ℕ) → in_use (order_in b) o ≡ false → Apart (busy o n) b
apart_held idle o n h s = and_right (is_some (wanted (busy o n) s)) false refl
apart_held (busy p k) o n h s = by (wants (parts o.targets) s) refl
  where
    by : (w : Option ℤ) → wants (parts o.targets) s ≡ w → (is_some (wanted (busy o n) s) && is_some (wanted (busy p k) s)) ≡ false
    by None e = simp e
    by (Some t) e = simp (e, apart (parts o.targets) (parts p.targets) h s t e)

-- where the second wants a value, the first wants none
pub other_none : (x y : Option ℤ) (t : ℤ) → (is_some x && is_some y) ≡ false → y ≡ Some t → x ≡ None
other_none None y t h e = refl
other_none (Some s) None t h e = cc
other_none (Some s) (Some u) t h e = cc
