-- No two command rows admit one packet.
use Rattle.std.proofs.Common.{◌≡◌, ℕ, zero, suc, ◌<◌, Bool, true, false, not, ◌&&◌, ◌||◌, cond, eqb, List, [], ◌∷◌, length, get_or, is_some, MatchOption, Some, None, Ok, Err, Option, Result, sym, refl, ap, ◌∙◌, subst, ⊎_elim}
use Rattle.std.specs.List.{list_any, slice_get}
use Rattle.std.specs.Option.{ok_or, option_and_then}
use Rattle.std.proofs.lemmas.Bool.{and_parts, and_from, or_left, or_right, or_cases, eqb-true, eq-eqb, cases_Bool, cond_both, not_from_true, both_ways, false≢true}
use Rattle.std.proofs.lemmas.Option.{slice_get_within, get_or_from_slice_get}
use Rattle.head.specs.declared.order.Order.{Order}
use Rattle.head.specs.declared.setting.Setting.{Setting}
use Rattle.head.proofs.Options.{no_some, some_out}
use Rattle.head.proofs.Tables.{all_below, each_below}
use Rattle.rows.specs.declared.command.Command.{Command}
use Rattle.rows.specs.declared.faults.PacketFault.{PacketFault}
use Rattle.rows.specs.declared.faults.PacketFault.TheVariants.{UnknownBody}
use Rattle.rows.specs.declared.faults.RowFault.{RowFault}
use Rattle.rows.specs.declared.inquiry.Inquiry.{Inquiry}
use Rattle.rows.specs.declared.operands.Operands.{Operands}
use Rattle.rows.specs.declared.request.Request.{Request}
use Rattle.rows.specs.declared.request.Request.TheVariants as request
use Rattle.rows.specs.declared.table.TableRow.{TableRow}
use Rattle.rows.specs.Codes.{pairs, coded, setting_of}
use Rattle.rows.specs.Commands.{commands, read_command}
use Rattle.rows.specs.Inquiries.{read_inquiry}
use Rattle.rows.specs.OneRow.{row_at, admitted_by, ReadByOne, ReadByNone, ByOneRow, RequestByOneRow, OrderedByOne, ReadAsByOneRow}
use Rattle.rows.specs.Orders.{order_of}
use Rattle.rows.specs.Reading.{operand_count, reads}
use Rattle.rows.specs.Requests.{as_command, as_inquiry, read_body, order_asked}
use Rattle.rows.specs.Rows.{row_has, row_reads}
use Rattle.rows.specs.Search.{row_meaning, first_or, first_of}
use Rattle.wire.specs.Packets.{body_of}
use Rattle.rows.proofs.Somes.{when_some, bound}
use Rattle.rows.proofs.Subjects.{code_is_subject}
use Rattle.rows.proofs.Targets.{meaning_in_range}

-- What a row that admits a command has of it.

pub record Has (r : TableRow Operands) (k c : ℕ) (os : List ℕ) : Type 0 where
  pub category : k ≡ r.category
  pub code : is_some (coded (pairs r.codes) c) ≡ true
  pub operands : length os ≡ operand_count r.form

pub has : (r : TableRow Operands) (k c : ℕ) (os : List ℕ) (m : Command) → row_meaning row_has (row_reads reads) k c os r ≡ Some m → Has r k c os
has r k c os o e =
    let (h, m) = when_some (row_has r k c) (row_reads reads r c os) e in
    let (x, y) = and_parts (eqb k r.category) (is_some (setting_of r.codes c)) h in
    let (s, t, u) = bound (setting_of r.codes c) (λ s. reads r.form s os) m in
    record { category = eqb-true k r.category x; code = y; operands = eqb-true (length os) (operand_count r.form) (when_some _ _ u).0 }

-- Two rows that may admit one command are alike, and no two of the table are.

unfoldable pub common : List (ℕ × Setting) → List (ℕ × Setting) → Bool
common ps qs = list_any (λ p. is_some (coded qs p.0)) ps

pub both_common : (ps qs : List (ℕ × Setting)) (c : ℕ) → is_some (coded ps c) ≡ true → is_some (coded qs c) ≡ true → common ps qs ≡ true
unfolding common
both_common [] qs c h g = absurd (false≢true h)
both_common (p ∷ ps) qs c h g =
    ⊎_elim
    (λ (e : eqb c p.0 ≡ true). or_left (is_some (coded qs p.0)) (common ps qs) (subst (λ (x : ℕ). is_some (coded qs x) ≡ true) (eqb-true c p.0 e) g))
    (λ (e : eqb c p.0 ≡ false). or_right (is_some (coded qs p.0)) (common ps qs) (both_common ps qs c (simp e at h) g))
    (cases_Bool (eqb c p.0))

alike : TableRow Operands → TableRow Operands → Bool
alike r q = eqb r.category q.category && common (pairs r.codes) (pairs q.codes) && eqb (operand_count r.form) (operand_count q.form)

alike_both : (r q : TableRow Operands) (k c : ℕ) (os : List ℕ) → Has r k c os → Has q k c os → alike r q ≡ true
unfolding alike
alike_both r q k c os h g =
    and_from (eqb r.category q.category && common (pairs r.codes) (pairs q.codes)) (eqb (operand_count r.form) (operand_count q.form))
    (and_from (eqb r.category q.category) (common (pairs r.codes) (pairs q.codes))
    (eq-eqb r.category q.category (sym h.category ∙ g.category)) (both_common (pairs r.codes) (pairs q.codes) c h.code g.code))
    (eq-eqb (operand_count r.form) (operand_count q.form) (sym h.operands ∙ g.operands))

-- A test of each two rows of the table, by their places; d stands past the last.

unfoldable pub at_place : (d : TableRow Operands) → ℕ → TableRow Operands
at_place d i = get_or commands i d

unfoldable pub test_all : (TableRow Operands → ℕ → ℕ → Bool) → TableRow Operands → Bool
test_all t d = all_below (λ i. all_below (t d i) (length commands)) (length commands)

pub tested : (t : TableRow Operands → ℕ → ℕ → Bool) (d : TableRow Operands) (i j : ℕ) → test_all t d ≡ true → i < length commands → j < length commands → t d i j ≡ true
unfolding test_all
tested t d i j h p q = each_below (t d i) (length commands) (each_below (λ x. all_below (t d x) (length commands)) (length commands) h i p) j q

told_apart : TableRow Operands → ℕ → ℕ → Bool
told_apart d i j = eqb i j || not (alike (at_place d i) (at_place d j))

all_told_apart : (d : TableRow Operands) → test_all told_apart d ≡ true
unfolding test_all told_apart at_place alike common
all_told_apart d = refl

pub placed : (i : ℕ) (r d : TableRow Operands) → row_at i ≡ Some r → at_place d i ≡ r
unfolding at_place
placed i r d e = get_or_from_slice_get commands i r d e

alike_is : (i j : ℕ) (r q : TableRow Operands) → row_at i ≡ Some r → row_at j ≡ Some q → alike r q ≡ true → i ≡ j
unfolding told_apart
alike_is i j r q e f a =
    let same : alike (at_place r i) (at_place r j) ≡ true = simp (placed i r r e, placed j q r f, a) in
    ⊎_elim (λ h. eqb-true i j h) (λ n. absurd (both_ways (not (alike (at_place r i) (at_place r j))) (not_from_true (alike (at_place r i) (at_place r j)) same) n))
    (or_cases (eqb i j) (not (alike (at_place r i) (at_place r j)))
    (tested told_apart r i j (all_told_apart r) (slice_get_within commands i r e) (slice_get_within commands j q f)))

-- The row that admits a body, behind its first byte.

pub record Admits (i : ℕ) (k c : ℕ) (os : List ℕ) (m : Command) : Type 0 where
  pub row : TableRow Operands
  pub place : row_at i ≡ Some row
  pub meaning : row_meaning row_has (row_reads reads) k c os row ≡ Some m

pub admits_is : (i t k c : ℕ) (os : List ℕ) (m : Command) → admitted_by i (t ∷ k ∷ c ∷ os) ≡ Some m → (t ≡ 0x01) × Admits i k c os m
admits_is i t k c os m e =
    let (b, x) = when_some (eqb t 0x01) (option_and_then (row_meaning row_has (row_reads reads) k c os) (row_at i)) e in
    let (r, p, n) = bound (row_at i) (row_meaning row_has (row_reads reads) k c os) x in
    (eqb-true t 0x01 b, record { row = r; place = p; meaning = n })

some_is : {A : Type 0} (x : Option A) → is_some x ≡ true → (a : A) × (x ≡ Some a)
some_is None e = absurd (false≢true e)
some_is (Some a) e = (a, refl)

one_row : (i j : ℕ) (body : List ℕ) (m : Command) → admitted_by i body ≡ Some m → is_some (admitted_by j body) ≡ true → j ≡ i
one_row i j [] m e f = no_some e
one_row i j (t ∷ []) m e f = no_some e
one_row i j (t ∷ k ∷ []) m e f = no_some e
one_row i j (t ∷ k ∷ c ∷ os) m e f =
    let (n, g) = some_is (admitted_by j (t ∷ k ∷ c ∷ os)) f in
    let x = (admits_is i t k c os m e).1 in
    let y = (admits_is j t k c os n g).1 in
    alike_is j i y.row x.row y.place x.place (alike_both y.row x.row k c os (has y.row k c os n y.meaning) (has x.row k c os m x.meaning))

-- Reading, by one row or by none.

module _ {X M : Type 0} (f : X → Option M) where
  abbrev Nowhere : List X → Type 0
  Nowhere xs = (j : ℕ) → option_and_then f (slice_get xs j) ≡ None

  abbrev Here : List X → ℕ × M → Type 0
  Here xs p = option_and_then f (slice_get xs p.0) ≡ Some p.1

  longer : (x : X) (xs : List X) → f x ≡ None → Nowhere xs → Nowhere (x ∷ xs)
  longer x xs e h zero = e
  longer x xs e h (suc j) = h j

  one_more : (x : X) (xs : List X) (y : Option M) (r : Option (ℕ × M)) → f x ≡ y → MatchOption r (Nowhere xs) (Here xs) → MatchOption (first_or y r) (Nowhere (x ∷ xs)) (Here (x ∷ xs))
  one_more x xs (Some m) r e h = e
  one_more x xs None None e h = longer x xs e h
  one_more x xs None (Some p) e h = h

  -- the first element is somewhere, or f gives nothing anywhere
  first_is : (xs : List X) → MatchOption (first_of f xs) (Nowhere xs) (Here xs)
  first_is [] = λ j. refl
  first_is (x ∷ xs) = one_more x xs (f x) (first_of f xs) refl (first_is xs)

abbrev meaning_of : ℕ → ℕ → List ℕ → TableRow Operands → Option Command
meaning_of k c os = row_meaning row_has (row_reads reads) k c os

by_one_row : (k c : ℕ) (os : List ℕ) (r : Option (ℕ × Command)) (e : RowFault)
    → MatchOption r (Nowhere (meaning_of k c os) commands) (Here (meaning_of k c os) commands)
    → ByOneRow (0x01 ∷ k ∷ c ∷ os) (ok_or r e)
by_one_row k c os None e h = h
by_one_row k c os (Some p) e h =
    let x = (admits_is p.0 0x01 k c os p.1 h).1 in
    record {
      place = slice_get_within commands p.0 x.row x.place;
      command = h;
      only = λ j s. one_row p.0 j (0x01 ∷ k ∷ c ∷ os) p.1 h s;
      in_range = meaning_in_range x.row k c os p.1 x.meaning;
      subject = rw x.place (code_is_subject p.0 x.row k c os p.1 x.place x.meaning);
    }

-- a command is read as what one row makes of it, exactly when one row admits it
pub read_by_one_row : (rest : List ℕ) → ByOneRow (0x01 ∷ rest) (read_command rest)
unfolding read_command
read_by_one_row [] = λ j. refl
read_by_one_row (k ∷ []) = λ j. refl
read_by_one_row (k ∷ c ∷ os) = by_one_row k c os _ _ (first_is (meaning_of k c os) commands)

pub as_read : (rest : List ℕ) (r : Result (ℕ × Command) RowFault) → r ≡ read_command rest → ByOneRow (0x01 ∷ rest) r
as_read rest r e = subst (ByOneRow (0x01 ∷ rest)) (sym e) (read_by_one_row rest)

-- The same of whole bodies.

command_by_one : (body : List ℕ) (r : Result (ℕ × Command) RowFault) → ByOneRow body r → RequestByOneRow body (as_command r)
command_by_one body (Ok p) h = h
command_by_one body (Err f) h = h

inquiry_by_none : (body : List ℕ) (r : Result (ℕ × Inquiry) RowFault) → ReadByNone body → RequestByOneRow body (as_inquiry r)
inquiry_by_none body (Ok p) h = h
inquiry_by_none body (Err f) h = h

no_command : (t : ℕ) (rest : List ℕ) → eqb t 0x01 ≡ false → ReadByNone (t ∷ rest)
no_command t [] e j = refl
no_command t (k ∷ []) e j = refl
no_command t (k ∷ c ∷ os) e j = simp e

other_by_none : (t : ℕ) (rest : List ℕ) (b : Bool) → eqb t 0x01 ≡ false → RequestByOneRow (t ∷ rest) (cond b (as_inquiry (read_inquiry rest)) (Err UnknownBody))
other_by_none t rest true e = inquiry_by_none (t ∷ rest) (read_inquiry rest) (no_command t rest e)
other_by_none t rest false e = no_command t rest e

pub request_by_one_row : (body : List ℕ) → RequestByOneRow body (read_body body)
request_by_one_row [] = λ j. refl
request_by_one_row (t ∷ rest) =
    cond_both (eqb t 0x01) (as_command (read_command rest)) (cond (eqb t 0x09) (as_inquiry (read_inquiry rest)) (Err UnknownBody)) (RequestByOneRow (t ∷ rest))
    (λ e. command_by_one (t ∷ rest) (read_command rest) (subst (λ (x : ℕ). ByOneRow (x ∷ rest) (read_command rest)) (sym (eqb-true t 0x01 e)) (read_by_one_row rest)))
    (other_by_none t rest (eqb t 0x09))

pub as_requested : (body : List ℕ) (r : Result Request PacketFault) → r ≡ read_body body → RequestByOneRow body r
as_requested body r e = subst (RequestByOneRow body) (sym e) (request_by_one_row body)

-- And of packets.

ordered : (body : List ℕ) (r : Result Request PacketFault) (o : Order) → RequestByOneRow body r → order_asked r ≡ Some o → OrderedByOne body o
ordered body (Ok (request.Command i c)) o h e = record { row = i; command = c; by_one = h; order = some_out e }
ordered body (Ok (request.Ask q)) o h e = no_some e
ordered body (Err f) o h e = no_some e

none_admits : (body : List ℕ) {P : Type 0} (o : Order) → ReadByNone body → OrderedByOne body o → P
none_admits body o h x = no_some (sym (h x.row) ∙ x.by_one.command)

same_command : (body : List ℕ) (i j : ℕ) (c d : Command) → ReadByOne body i c → ReadByOne body j d → c ≡ d
same_command body i j c d h g =
    let is : j ≡ i = h.only j (ap is_some g.command) in
    some_out (sym h.command ∙ subst (λ (x : ℕ). admitted_by x body ≡ Some d) is g.command)

is_ordered : (body : List ℕ) (r : Result Request PacketFault) (o : Order) → RequestByOneRow body r → OrderedByOne body o → order_asked r ≡ Some o
is_ordered body (Ok (request.Command i c)) o h x = ap (λ d. Some (order_of d)) (same_command body i x.row c x.command h x.by_one) ∙ ap Some x.order
is_ordered body (Ok (request.Ask q)) o h x = none_admits body o h x
is_ordered body (Err f) o h x = none_admits body o h x

-- a packet is read as an order exactly when just one row admits its body, and makes that order of it
pub read_as_by_one_row : ReadAsByOneRow
read_as_by_one_row p o =
    let body = body_of p in
    (ordered body (read_body body) o (request_by_one_row body), is_ordered body (read_body body) o (request_by_one_row body))
