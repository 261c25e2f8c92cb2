-- Whatever a command row makes of operands has every target in range.
use Rattle.std.proofs.Common.{◌≡◌, ℕ, Bool, true, cond, eqb, List, Some, None, Option, length, slice_index}
use Rattle.std.proofs.lemmas.Bool.{cond_both}
use Rattle.head.specs.declared.order.Order.{Order}
use Rattle.head.specs.declared.order.Paces.{Paces}
use Rattle.head.specs.declared.setting.Setting.{Setting}
use Rattle.head.specs.Orders.{parts, all_in_range}
use Rattle.rows.specs.declared.command.Command.{Command}
use Rattle.rows.specs.declared.operands.Operands.{Operands}
use Rattle.rows.specs.declared.operands.Operands.TheVariants.{Digit, LensDrive, Position, PositionAtSpeed, Level, Number, PanTiltDrive, PanTiltPosition, Home}
use Rattle.rows.specs.declared.operands.Sense.TheVariants.{Up, Down}
use Rattle.rows.specs.declared.table.TableRow.{TableRow}
use Rattle.rows.specs.Codes.{setting_of}
use Rattle.rows.specs.Digits.{from_digits}
use Rattle.rows.specs.Orders.{order_of}
use Rattle.std.specs.Option.{option_and_then}
use Rattle.rows.specs.Reading.{ranged, turning, steered, pan_tilt_driven, pan_tilt_placed, four, operand_count, operands_mean, reads}
use Rattle.rows.specs.Rows.{row_has, row_reads}
use Rattle.rows.specs.Search.{row_meaning}
use Rattle.rows.proofs.Somes.{Each, each_some, each_none, each_when, each_bound, of_each}

abbrev OrderInRange : Order → Type 0
OrderInRange o = all_in_range (parts o.targets) ≡ true

-- every command that is made has every target in range
InRange : Option Command → Type 0
InRange x = Each (λ c. OrderInRange (order_of c)) x

when_in_range : (b : Bool) (x : Option Command) → InRange x → InRange (cond b x None)
unfolding InRange
when_in_range = each_when _

bound_in_range : {A : Type 0} (x : Option A) (f : A → Option Command) → ((a : A) → InRange (f a)) → InRange (option_and_then f x)
unfolding InRange
bound_in_range = each_bound _

ranged_in_range : (c : Command) → InRange (ranged c)
unfolding ranged InRange
ranged_in_range c =
    cond_both (all_in_range (parts (order_of c).targets)) (Some c) None (Each (λ d. OrderInRange (order_of d)))
    (λ e. each_some _ c e) (λ e. each_none _)

driven_in_range : (p : Paces) (d e : ℕ) → InRange (pan_tilt_driven p d e)
driven_in_range p d e = bound_in_range (steered Up d p.pan) _ (λ x. bound_in_range (steered Down e p.tilt) _ (λ y. ranged_in_range _))

placed_in_range : (p : Paces) (xs ys : List ℕ) → InRange (pan_tilt_placed p xs ys)
placed_in_range p xs ys = bound_in_range (from_digits xs) _ (λ x. bound_in_range (from_digits ys) _ (λ y. ranged_in_range _))

means_in_range : (f : Operands) (s : Setting) (os : List ℕ) → InRange (operands_mean f s os)
means_in_range Digit s os = bound_in_range _ _ (λ n. ranged_in_range _)
means_in_range (LensDrive e) s os = bound_in_range _ _ (λ d. ranged_in_range _)
means_in_range (Position a lens) s os = bound_in_range _ _ (λ n. ranged_in_range _)
means_in_range (PositionAtSpeed a) s os = when_in_range _ _ (bound_in_range _ _ (λ n. ranged_in_range _))
means_in_range Level s os = bound_in_range _ _ (λ n. ranged_in_range _)
means_in_range Number s os = bound_in_range _ _ (λ n. ranged_in_range _)
means_in_range PanTiltDrive s os = bound_in_range (turning (slice_index os 0) (slice_index os 1)) _ (λ p. driven_in_range p (slice_index os 2) (slice_index os 3))
means_in_range PanTiltPosition s os = bound_in_range (turning (slice_index os 0) (slice_index os 1)) _ (λ p. placed_in_range p (four 2 os) (four 6 os))
means_in_range Home s os = ranged_in_range _

reads_in_range : (f : Operands) (s : Setting) (os : List ℕ) → InRange (reads f s os)
reads_in_range f s os = when_in_range (eqb (length os) (operand_count f)) (operands_mean f s os) (means_in_range f s os)

row_in_range : (r : TableRow Operands) (k c : ℕ) (os : List ℕ) → InRange (row_meaning row_has (row_reads reads) k c os r)
row_in_range r k c os = when_in_range (row_has r k c) _ (bound_in_range (setting_of r.codes c) _ (λ s. reads_in_range r.form s os))

pub meaning_in_range : (r : TableRow Operands) (k c : ℕ) (os : List ℕ) (m : Command) → row_meaning row_has (row_reads reads) k c os r ≡ Some m
    → all_in_range (parts (order_of m).targets) ≡ true
unfolding InRange
meaning_in_range r k c os m e = of_each (λ d. OrderInRange (order_of d)) _ m (row_in_range r k c os) e
