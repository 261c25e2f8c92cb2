-- A body with one operand more or less than a row has is no order, but where zoom to a position has a row for either.
use Rattle.std.proofs.Common.{◌≡◌, ℕ, ◌+◌, Bool, true, false, not, ◌&&◌, ◌||◌, eqb, ◌⊎◌, List, [], ◌∷◌, length, is_some, Some, None, Option, sym, refl, ◌∙◌, subst, ⊎_elim, arith}
use Rattle.std.specs.List.{list_all}
use Rattle.std.proofs.lemmas.Bool.{and_parts, and_from, or_left, or_right, or_cases, eqb-true, eq-eqb, cases_Bool, not_from_true, both_ways, false≢true}
use Rattle.std.proofs.lemmas.Option.{slice_get_within}
use Rattle.head.specs.declared.setting.Setting.{Setting}
use Rattle.rows.specs.declared.command.Command.{Command}
use Rattle.rows.specs.declared.operands.Operands.{Operands}
use Rattle.rows.specs.declared.table.TableRow.{TableRow}
use Rattle.rows.specs.Codes.{pairs, coded}
use Rattle.rows.specs.Commands.{commands}
use Rattle.rows.specs.OneRow.{row_at, admitted_by, IsOneOff, is_zoom_position, OneByteOffIsNoOrder}
use Rattle.rows.specs.Reading.{operand_count}
use Rattle.rows.specs.Requests.{read_as}
use Rattle.rows.specs.Rows.{row_has}
use Rattle.rows.proofs.OneRow.{Has, has, common, both_common, at_place, test_all, tested, placed, admits_is, read_as_by_one_row}
use Rattle.wire.specs.Packets.{body_of}

-- m is n and one more, or one less
beside : ℕ → ℕ → Bool
beside m n = eqb m (n + 1) || eqb (m + 1) n

-- two rows that share category and code, and have one operand more or less
near : TableRow Operands → TableRow Operands → Bool
near r q = eqb r.category q.category && common (pairs r.codes) (pairs q.codes) && beside (operand_count q.form) (operand_count r.form)

zoom_row : TableRow Operands → Bool
zoom_row q =
    eqb q.category 0x04 && list_all (λ p. eqb p.0 0x47) (pairs q.codes) && (eqb (operand_count q.form) 4 || eqb (operand_count q.form) 5)

only_zoom : TableRow Operands → ℕ → ℕ → Bool
only_zoom d i j = not (near (at_place d i) (at_place d j)) || zoom_row (at_place d j)

all_only_zoom : (d : TableRow Operands) → test_all only_zoom d ≡ true
unfolding test_all only_zoom at_place near beside common zoom_row
all_only_zoom d = refl

near_is_zoom : (i j : ℕ) (r q : TableRow Operands) → row_at i ≡ Some r → row_at j ≡ Some q → near r q ≡ true → zoom_row q ≡ true
unfolding only_zoom
near_is_zoom i j r q e f n =
    let here : near (at_place r i) (at_place r j) ≡ true = simp (placed i r r e, placed j q r f, n) in
    ⊎_elim (λ h. absurd (both_ways (not (near (at_place r i) (at_place r j))) (not_from_true (near (at_place r i) (at_place r j)) here) h))
    (λ z. subst (λ (x : TableRow Operands). zoom_row x ≡ true) (placed j q r f) z)
    (or_cases (not (near (at_place r i) (at_place r j))) (zoom_row (at_place r j))
    (tested only_zoom r i j (all_only_zoom r) (slice_get_within commands i r e) (slice_get_within commands j q f)))

one_code : (n : ℕ) (ps : List (ℕ × Setting)) (c : ℕ) → list_all (λ p. eqb p.0 n) ps ≡ true → is_some (coded ps c) ≡ true → c ≡ n
one_code n [] c h e = absurd (false≢true e)
one_code n (p ∷ ps) c h e =
    let (first, rest) = and_parts (eqb p.0 n) (list_all (λ p. eqb p.0 n) ps) h in
    ⊎_elim (λ (b : eqb c p.0 ≡ true). eqb-true c p.0 b ∙ eqb-true p.0 n first)
    (λ (b : eqb c p.0 ≡ false). one_code n ps c rest (simp b at e)) (cases_Bool (eqb c p.0))

sized : (t k c : ℕ) (os : List ℕ) (n : ℕ) → length os ≡ n → (eqb n 4 || eqb n 5) ≡ true
    → (eqb (length (t ∷ k ∷ c ∷ os)) 7 || eqb (length (t ∷ k ∷ c ∷ os)) 8) ≡ true
sized t k c os n e h =
    ⊎_elim (λ (b : eqb n 4 ≡ true). let four = eqb-true n 4 b in or_left _ _ (eq-eqb (length (t ∷ k ∷ c ∷ os)) 7 (omega arith)))
    (λ (b : eqb n 5 ≡ true). let five = eqb-true n 5 b in or_right _ _ (eq-eqb (length (t ∷ k ∷ c ∷ os)) 8 (omega arith))) (or_cases (eqb n 4) (eqb n 5) h)

zoom_body : (q : TableRow Operands) (k c : ℕ) (os : List ℕ) → Has q k c os → zoom_row q ≡ true → is_zoom_position (0x01 ∷ k ∷ c ∷ os) ≡ true
unfolding zoom_row
zoom_body q k c os h z =
    let (x, n) = and_parts (eqb q.category 0x04 && list_all (λ p. eqb p.0 0x47) (pairs q.codes)) _ z in
    let (category, codes) = and_parts (eqb q.category 0x04) (list_all (λ p. eqb p.0 0x47) (pairs q.codes)) x in
    let is_k : k ≡ 0x04 = h.category ∙ eqb-true q.category 0x04 category in
    let is_c : c ≡ 0x47 = one_code 0x47 (pairs q.codes) c codes h.code in
    and_from _ _ (and_from _ _ (eq-eqb k 0x04 is_k) (eq-eqb c 0x47 is_c)) (sized 0x01 k c os (operand_count q.form) h.operands n)

count_beside : (m n : ℕ) → (m ≡ n + 1) ⊎ (m + 1 ≡ n) → beside m n ≡ true
unfolding beside
count_beside m n h = ⊎_elim (λ e. or_left _ _ (eq-eqb m (n + 1) e)) (λ e. or_right _ _ (eq-eqb (m + 1) n e)) h

off_is_near : (r q : TableRow Operands) (k c : ℕ) (os : List ℕ) → row_has r k c ≡ true → (length os ≡ operand_count r.form + 1) ⊎ (length os + 1 ≡ operand_count r.form)
    → Has q k c os → near r q ≡ true
unfolding near
off_is_near r q k c os h o g =
    let (x, y) = and_parts (eqb k r.category) (is_some (coded (pairs r.codes) c)) h in
    and_from _ _ (and_from _ _ (eq-eqb r.category q.category (sym (eqb-true k r.category x) ∙ g.category)) (both_common (pairs r.codes) (pairs q.codes) c y g.code))
    (subst (λ (n : ℕ). beside n (operand_count r.form) ≡ true) g.operands (count_beside (length os) (operand_count r.form) o))

only_zoom_reads : (i : ℕ) (r : TableRow Operands) (body : List ℕ) (j : ℕ) (m : Command) → row_at i ≡ Some r → IsOneOff r body → admitted_by j body ≡ Some m → is_zoom_position body ≡ true
only_zoom_reads i r body j m e h a =
    let k = h.category in
    let c = h.code in
    let os = h.operands in
    let admitted : admitted_by j (0x01 ∷ k ∷ c ∷ os) ≡ Some m = subst (λ (b : List ℕ). admitted_by j b ≡ Some m) h.is a in
    let x = (admits_is j 0x01 k c os m admitted).1 in
    let parts = has x.row k c os m x.meaning in
    subst (λ (b : List ℕ). is_zoom_position b ≡ true) (sym h.is)
    (zoom_body x.row k c os parts (near_is_zoom i j r x.row e x.place (off_is_near r x.row k c os h.has h.one_off parts)))

none_unless : {A : Type 0} (x : Option A) → ((a : A) → x ≡ Some a → ⊥) → x ≡ None
none_unless None h = refl
none_unless (Some a) h = absurd (h a refl)

pub one_byte_off : OneByteOffIsNoOrder
one_byte_off p i r e h z =
    none_unless (read_as p)
    (λ o is.
    let by = (read_as_by_one_row p o).0 is in
    false≢true (sym z ∙ only_zoom_reads i r (body_of p) by.row by.command e h by.by_one.command))
