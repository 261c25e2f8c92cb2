-- What an end with address a reads as an order: a packet that the rules of the ring leave to the rows, as the one row
-- says that admits it.
use Rattle.std.specs.Prelude.{◌≡◌, ◌↔◌, ℕ, ◌+◌, ◌≤◌, false, List, Some, None}
use Rattle.head.specs.declared.order.Order.{Order}
use Rattle.rows.specs.declared.operands.Operands.{Operands}
use Rattle.rows.specs.declared.table.TableRow.{TableRow}
use Rattle.rows.specs.OneRow.{row_at, OrderedByOne, IsOneOff, is_zoom_position}
use Rattle.rows.specs.Requests.{read_as}
use Rattle.rules.specs.declared.ring.Rule.TheVariants.{Requested}
use Rattle.rules.specs.Ring.{header, rule_of}
use Rattle.wire.specs.Packets.{body_of}

pub record PacketsAreReadByTheirRow : Type 0 where
  -- what is left to the rows is read as an order exactly when one row admits its body, and then it is that row's order
  pub read : (a : ℕ) (p : List ℕ) (o : Order) → rule_of a p ≡ Requested →
      (read_as p ≡ Some o) ↔ OrderedByOne (body_of p) o
  -- every packet for this end that a row admits is left to the rows
  pub left : (a : ℕ) (p : List ℕ) (o : Order) → 1 ≤ a → a ≤ 7 → header p ≡ 0x80 + a →
      OrderedByOne (body_of p) o → rule_of a p ≡ Requested
  -- with a byte more or less than its row has it is read as none; but zoom to a position is, with a speed, another row's
  pub one_off : (a : ℕ) (p : List ℕ) (i : ℕ) (r : TableRow Operands) → rule_of a p ≡ Requested →
      row_at i ≡ Some r → IsOneOff r (body_of p) → is_zoom_position (body_of p) ≡ false → read_as p ≡ None
