-- Packets for this end that a row admits.
use Rattle.std.proofs.Common.{◌≡◌, ◌≢◌, ℕ, ◌+◌, ◌≤◌, Bool, true, false, not, List, [], ◌∷◌, length, is_some, Some, refl, ap, subst, arith}
use Rattle.head.specs.declared.order.Order.{Order}
use Rattle.head.proofs.Tables.{all_below, each_below}
use Rattle.rows.specs.Commands.{commands}
use Rattle.rows.specs.OneRow.{admitted_by, OrderedByOne, ReadAsByOneRow, OneByteOffIsNoOrder}
use Rattle.rules.specs.declared.ring.Rule.{Rule}
use Rattle.rules.specs.declared.ring.Rule.TheVariants.{TakenOff, AddressSet, ClearedForAll, SentOn, Cleared, Cancelled, Requested}
use Rattle.rules.specs.Orders.{PacketsAreReadByTheirRow}
use Rattle.rules.specs.Ring.{rule_number, header, rule_of, Tells}
use Rattle.rules.proofs.Ruled.{met}
use Rattle.rules.proofs.Becoming.{own, second, third, fourth, but_fifth, for_one}
use Rattle.wire.specs.Packets.{body_of}

-- no row admits a body that clears, or that cancels

abbrev clear : List ℕ
clear = 0x01 ∷ 0x00 ∷ 0x01 ∷ []

abbrev turned_down : ℕ → Bool
turned_down i = not (is_some (admitted_by i clear))

all_turned_down : all_below turned_down (length commands) ≡ true
all_turned_down = refl

not_clear : (bs : List ℕ) (o : Order) → OrderedByOne bs o → bs ≢ clear
not_clear bs o h e =
    let k = h.by_one.command in
    let m : admitted_by h.row clear ≡ Some h.command = subst (λ (z : List ℕ). admitted_by h.row z ≡ Some h.command) e k in
    let t : turned_down h.row ≡ true = each_below turned_down (length commands) all_turned_down h.row h.by_one.place in
    let f : turned_down h.row ≡ false = ap (λ x. not (is_some x)) m in
    absurd cc

not_cancel : (bs : List ℕ) (o : Order) (b : ℕ) → OrderedByOne bs o → bs ≢ b ∷ []
not_cancel bs o b h e =
    let k = h.by_one.command in
    let m : admitted_by h.row (b ∷ []) ≡ Some h.command = subst (λ (z : List ℕ). admitted_by h.row z ≡ Some h.command) e k in
    cc

fifth_rule : (r : Rule) (p : List ℕ) (o : Order) → rule_number r ≡ 5 → Tells p r → OrderedByOne (body_of p) o → r ≡ Requested
fifth_rule TakenOff p o e t h = absurd (omega arith)
fifth_rule (AddressSet w) p o e t h = absurd (omega arith)
fifth_rule ClearedForAll p o e t h = absurd (omega arith)
fifth_rule SentOn p o e t h = absurd (omega arith)
fifth_rule Cleared p o e t h = absurd (not_clear (body_of p) o h t)
fifth_rule (Cancelled y) p o e t h = absurd (not_cancel (body_of p) o (0x20 + y) h t.1)
fifth_rule Requested p o e t h = refl

left : (a : ℕ) (p : List ℕ) (o : Order) → 1 ≤ a → a ≤ 7 → header p ≡ 0x80 + a → OrderedByOne (body_of p) o → rule_of a p ≡ Requested
left a p o l m e h =
    let f = met a p in
    let s = for_one a p m e in
    let n : rule_number (rule_of a p) ≡ 5 = but_fifth a p f.fits
    (λ f. let q = own a p f in absurd (omega arith))
    (λ f. let q = second a p f in absurd (omega arith))
    (λ f. let q = third a p f in absurd (omega arith))
    (λ f. fourth a p f l e) in
    fifth_rule (rule_of a p) p o n f.tells h

pub read_by_row : ReadAsByOneRow → OneByteOffIsNoOrder → PacketsAreReadByTheirRow
read_by_row by off = record {
  read = λ a p o e. by p o;
  left = left;
  one_off = λ a p i r e f h z. off p i r f h z;
}
