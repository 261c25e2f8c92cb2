-- The book frames bytes as the end does.
use Rattle.std.proofs.Common.{◌≡◌, ℕ, ◌+◌, ◌<◌, ◌≤◌, Bool, true, false, cond, ◌&&◌, eqb, ltb, leb, List, [], ◌∷◌, ◌++◌, length, Some, None, Ok, Err, Option, sym, refl, ap, arith, length-append}
use Rattle.std.proofs.lemmas.Bool.{eqb-true, eqb-false, ne_eqb, ltb-true, ltb-false, leb-true, lt-ltb, le-ltb, le-leb, lt-leb, and_parts}
use Rattle.end.specs.Book.{Standing, between, inside, skipping, standing_after, made_whole}
use Rattle.end.proofs.Spoken.{Plain, plain_push, packet_of}
use Rattle.wire.specs.declared.faults.FramingFault.{FramingFault}
use Rattle.wire.specs.declared.faults.FramingFault.TheVariants.{NoBody, Overlong}
use Rattle.wire.specs.Framing as end
use Rattle.wire.specs.Packets.{is_header, is_packet}

-- the first byte is a header
abbrev pub Headed : List ℕ → Type 0
Headed [] = ⊥
Headed (h ∷ t) = is_header h ≡ true

headed_push : (bs : List ℕ) (b : ℕ) → Headed bs → Headed (bs ++ b ∷ [])
headed_push [] b h = absurd h
headed_push (x ∷ bs) b h = h

headed_some : (bs : List ℕ) → Headed bs → 1 ≤ length bs
headed_some [] h = absurd h
headed_some (x ∷ bs) h = omega arith

-- the book's standing and the end's, the same
pub data Stands : Standing → end.Held → Type 0 where
  nowhere : Stands between end.none
  within : {bs : List ℕ} → Plain bs → Headed bs → length bs ≤ 15 → Stands (inside bs) (end.begun bs)
  passing : Stands skipping end.skipping

-- a whole packet: a header, a body, FF, and no other FF
pub data Whole : List ℕ → Type 0 where
  whole : (h : ℕ) (t : List ℕ) → Plain (h ∷ t) → is_packet (h ∷ (t ++ 0xff ∷ [])) ≡ true → Whole (h ∷ (t ++ 0xff ∷ []))

-- what a byte makes, for both the same
pub data Heard : Standing → end.Held → Option (List ℕ) → end.Event → Type 0 where
  nothing : {f : Standing} {h : end.Held} → Stands f h → Heard f h None (Ok None)
  faulty : {f : Standing} {h : end.Held} {e : FramingFault} → Stands f h → Heard f h None (Err e)
  packet : {p : List ℕ} → Whole p → Heard between end.none (Some p) (Ok (Some p))

abbrev HeardAt : Standing → end.Held → ℕ → Type 0
HeardAt f h b = Heard (standing_after f b) (end.held_after h b) (made_whole f b) (end.event h b)

-- a byte between packets
start : (b : ℕ) (t : Bool) → is_header b ≡ t → (leb 0x80 b && ltb b 0xff) ≡ t → HeardAt between end.none b
start b true e g =
    let n : eqb b 0xff ≡ false = ne_eqb b 0xff (λ q. omega (arith, leb-true b 0xfe (and_parts (leb 0x80 b) (leb b 0xfe) e).1)) in
    rw (e, g) (nothing (within {bs = b ∷ []} (n, tt) e (omega arith)))
start b false e g = rw (e, g) (faulty nowhere)

header_same : (b : ℕ) → is_header b ≡ (leb 0x80 b && ltb b 0xff)
header_same b = ap (λ (t : Bool). leb 0x80 b && t) (below (ltb b 0xff) refl) where
  below : (t : Bool) → ltb b 0xff ≡ t → leb b 0xfe ≡ t
  below true e = let h = ltb-true b 0xff e in le-leb b 0xfe (omega arith)
  below false e = let h = ltb-false b 0xff e in lt-leb b 0xfe (omega arith)

whole_of : (bs : List ℕ) → Plain bs → Headed bs → 1 < length bs → length bs ≤ 15 → Whole (bs ++ 0xff ∷ [])
whole_of [] plain head many high = absurd head
whole_of (x ∷ bs) plain head many high = whole x bs plain (packet_of x bs head plain.1 (omega arith) (omega arith))

-- FF inside a packet, by whether it is the second byte
ended : (bs : List ℕ) (t : Bool) → Plain bs → Headed bs → length bs ≤ 15 → eqb (length bs) 1 ≡ t →
    Heard between end.none (cond (ltb 1 (length bs)) (Some (bs ++ 0xff ∷ [])) None) (cond (eqb (length bs) 1) (Err NoBody) (Ok (Some (bs ++ 0xff ∷ []))))
ended bs true plain head high e =
    let one = eqb-true (length bs) 1 e in
    rw (e, le-ltb 1 (length bs) (omega arith)) (faulty nowhere)
ended bs false plain head high e =
    let more = eqb-false (length bs) 1 e in
    let some = headed_some bs head in
    let many : 1 < length bs = omega (arith, more) in
    rw (e, lt-ltb 1 (length bs) many) (packet (whole_of bs plain head many high))

-- any other byte inside a packet, by whether there is room for it
grown : (bs : List ℕ) (b : ℕ) (t : Bool) → Plain bs → Headed bs → length bs ≤ 15 → eqb b 0xff ≡ false → eqb (length bs) 15 ≡ t →
    Heard (cond (ltb (length bs) 15) (inside (bs ++ b ∷ [])) skipping) (cond (eqb (length bs) 15) end.skipping (end.begun (bs ++ b ∷ []))) None
    (cond (eqb (length bs) 15) (Err Overlong) (Ok None))
grown bs b true plain head high n e =
    let full = eqb-true (length bs) 15 e in
    rw (e, le-ltb (length bs) 15 (omega arith)) (faulty passing)
grown bs b false plain head high n e =
    let more = eqb-false (length bs) 15 e in
    let l : length (bs ++ b ∷ []) ≡ length bs + 1 = simp length-append in
    let few : length bs < 15 = omega (arith, more) in
    rw (e, lt-ltb (length bs) 15 few) (nothing (within (plain_push bs b plain n) (headed_push bs b head) (omega arith)))

inner : (bs : List ℕ) (b : ℕ) (t : Bool) → Plain bs → Headed bs → length bs ≤ 15 → eqb b 0xff ≡ t → HeardAt (inside bs) (end.begun bs) b
inner bs b true plain head high e =
    let q = eqb-true b 0xff e in
    rw q (ended bs (eqb (length bs) 1) plain head high refl)
inner bs b false plain head high e = rw e (grown bs b (eqb (length bs) 15) plain head high e refl)

skipped : (b : ℕ) (t : Bool) → eqb b 0xff ≡ t → HeardAt skipping end.skipping b
skipped b true e = rw e (nothing nowhere)
skipped b false e = rw e (nothing passing)

pub heard : {f : Standing} {h : end.Held} (b : ℕ) → Stands f h → HeardAt f h b
heard b nowhere = start b (is_header b) refl (sym (header_same b))
heard b (within {bs} plain head high) = inner bs b (eqb b 0xff) plain head high refl
heard b passing = skipped b (eqb b 0xff) refl
