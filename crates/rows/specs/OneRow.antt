-- A packet is read as an order exactly when one command row admits its body, and as that row's order.
use Rattle.std.specs.Prelude.{◌≡◌, ◌↔◌, ℕ, ◌+◌, ◌<◌, Bool, true, false, if◌then◌else◌, ◌&&◌, ◌||◌, ◌⊎◌, List, [], ◌∷◌, length, is_some, Some, None, Ok, Err, Option, Result, MatchResult, ◌==◌, slice_get, slice_index}
use Rattle.std.specs.Option.{option_and_then}
use Rattle.head.specs.declared.order.Order.{Order}
use Rattle.head.specs.declared.setting.Setting.{Setting}
use Rattle.head.specs.Orders.{parts, all_in_range}
use Rattle.rows.specs.declared.command.Command.{Command}
use Rattle.rows.specs.declared.faults.PacketFault.{PacketFault}
use Rattle.rows.specs.declared.faults.RowFault.{RowFault}
use Rattle.rows.specs.declared.operands.Operands.{Operands}
use Rattle.rows.specs.declared.request.Request.{Request}
use Rattle.rows.specs.declared.request.Request.TheVariants as request
use Rattle.rows.specs.declared.table.TableRow.{TableRow}
use Rattle.rows.specs.Codes.{setting_of}
use Rattle.rows.specs.Commands.{commands}
use Rattle.rows.specs.Orders.{order_of, subject}
use Rattle.rows.specs.Reading.{operand_count, reads}
use Rattle.rows.specs.Requests.{read_as}
use Rattle.rows.specs.Rows.{row_has, row_reads}
use Rattle.rows.specs.Search.{row_meaning}
use Rattle.wire.specs.Packets.{body_of}

-- the command row at a place, from 0; there is none past the last
abbrev pub row_at : ℕ → Option (TableRow Operands)
row_at i = slice_get commands i

-- what the row at a place makes of a body, if it admits it: 01, category, code, operands
abbrev pub admitted_by : ℕ → List ℕ → Option Command
admitted_by i [] = None
admitted_by i (t ∷ []) = None
admitted_by i (t ∷ k ∷ []) = None
admitted_by i (t ∷ k ∷ c ∷ os) =
    if t == 0x01 then option_and_then (row_meaning row_has (row_reads reads) k c os) (row_at i) else None

-- the setting that a body's code stands for, in the list of the row at a place
abbrev pub code_setting : ℕ → List ℕ → Option Setting
code_setting i body = option_and_then (λ r. setting_of r.codes (slice_index body 2)) (row_at i)

-- the row at place i admits the body as this command, and no other row admits it; every target is in range, and
-- the body's code stands for what the command is about
pub record ReadByOne (body : List ℕ) (i : ℕ) (c : Command) : Type 0 where
  pub place : i < length commands
  pub command : admitted_by i body ≡ Some c
  pub only : (j : ℕ) → is_some (admitted_by j body) ≡ true → j ≡ i
  pub in_range : all_in_range (parts (order_of c).targets) ≡ true
  pub subject : code_setting i body ≡ Some (subject c)

abbrev pub ReadByNone : List ℕ → Type 0
ReadByNone body = (j : ℕ) → admitted_by j body ≡ None

abbrev pub ByOneRow : List ℕ → Result (ℕ × Command) RowFault → Type 0
ByOneRow body r = MatchResult r (λ p. ReadByOne body p.0 p.1) (λ e. ReadByNone body)

-- the same of all that a body may be
abbrev pub RequestByOneRow : List ℕ → Result Request PacketFault → Type 0
RequestByOneRow body (Ok (request.Command i c)) = ReadByOne body i c
RequestByOneRow body (Ok (request.Ask q)) = ReadByNone body
RequestByOneRow body (Err f) = ReadByNone body

-- just one row admits the body, and makes this order of it
pub record OrderedByOne (body : List ℕ) (o : Order) : Type 0 where
  pub row : ℕ
  pub command : Command
  pub by_one : ReadByOne body row command
  pub order : order_of command ≡ o

-- of every packet
abbrev pub ReadAsByOneRow : Type 0
ReadAsByOneRow = (p : List ℕ) (o : Order) → (read_as p ≡ Some o) ↔ OrderedByOne (body_of p) o

-- A body with one operand more or less.

-- a body with the category and a code of a row, and one operand more or less than the row has
pub record IsOneOff (r : TableRow Operands) (body : List ℕ) : Type 0 where
  pub category : ℕ
  pub code : ℕ
  pub operands : List ℕ
  pub is : body ≡ 0x01 ∷ category ∷ code ∷ operands
  pub has : row_has r category code ≡ true
  pub one_off : (length operands ≡ operand_count r.form + 1) ⊎ (length operands + 1 ≡ operand_count r.form)

-- 04 47 with four or five operands: zoom to a position is one byte longer with a speed, and both are rows
abbrev pub is_zoom_position : List ℕ → Bool
is_zoom_position body =
    slice_index body 1 == 0x04 && slice_index body 2 == 0x47 && (length body == 7 || length body == 8)

-- such a packet is read as no order
abbrev pub OneByteOffIsNoOrder : Type 0
OneByteOffIsNoOrder = (p : List ℕ) (i : ℕ) (r : TableRow Operands) →
    row_at i ≡ Some r → IsOneOff r (body_of p) → is_zoom_position (body_of p) ≡ false → read_as p ≡ None
