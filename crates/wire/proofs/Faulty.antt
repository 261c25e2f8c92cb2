-- The bytes of each fault, and what comes after.
use Rattle.std.proofs.Common.{◌≡◌, ◌≢◌, ℕ, ◌+◌, Bool, true, false, cond, not, eqb, List, [], ◌∷◌, ◌++◌, length, Some, None, Ok, Err, sym, refl, ap, ◌∙◌, subst, append_assoc, arith, length-append}
use Rattle.std.proofs.lemmas.Bool.{eqb-true, eqb-false, ne_eqb, and_parts, and_from, not-true}
use Rattle.std.proofs.lemmas.List.{append-nil}
use Rattle.wire.specs.declared.faults.FramingFault.{FramingFault}
use Rattle.wire.specs.declared.faults.FramingFault.TheVariants.{NoHeader, NoBody, Overlong}
use Rattle.wire.specs.Framing.{Held, none, begun, skipping, held_after, Event, event}
use Rattle.wire.specs.Packets.{is_header, no_end, is_begun, is_packet}
use Rattle.wire.specs.Theorems.{held_after_all, events, at_last, LeadsTo, no_header, no_body, overlong, left_by, Faulty, EndsFaulty, EveryFaultHasItsBytes, nothing_for, FoundAfterFaults}
use Rattle.wire.proofs.Framed.{every_packet_is_framed}

-- Lists of bytes, one behind the other.

after_both : (h : Held) (bs cs : List ℕ) → held_after_all h (bs ++ cs) ≡ held_after_all (held_after_all h bs) cs
after_both h [] cs = refl
after_both h (b ∷ bs) cs = after_both (held_after h b) bs cs

events_both : (h : Held) (bs cs : List ℕ) → events h (bs ++ cs) ≡ events h bs ++ events (held_after_all h bs) cs
events_both h [] cs = refl
events_both h (b ∷ bs) cs = ap (λ (es : List Event). event h b ∷ es) (events_both (held_after h b) bs cs)

-- a byte that tells nothing, and the bytes behind it
goes_on : (h k : Held) (b : ℕ) (bs : List ℕ) → held_after h b ≡ k → held_after_all h (b ∷ bs) ≡ held_after_all k bs
goes_on h k b bs e = ap (λ (x : Held). held_after_all x bs) e

tells_none : (h k : Held) (b : ℕ) (bs : List ℕ) → held_after h b ≡ k → event h b ≡ Ok None → events h (b ∷ bs) ≡ Ok None ∷ events k bs
tells_none h k b bs e f = ap (λ (x : Event). x ∷ events (held_after h b) bs) f ∙ ap (λ (x : Held). Ok None ∷ events x bs) e

at_last_more : (e : Event) (c : ℕ) (bs : List ℕ) (b : ℕ) → at_last e (c ∷ (bs ++ b ∷ [])) ≡ Ok None ∷ at_last e (bs ++ b ∷ [])
at_last_more e c [] b = refl
at_last_more e c (d ∷ bs) b = refl

-- Bytes that lead to a fault.

record Long (front rest : List ℕ) (b : ℕ) : Type 0 where
  left : held_after_all (begun front) (rest ++ b ∷ []) ≡ skipping
  told : events (begun front) (rest ++ b ∷ []) ≡ at_last (Err Overlong) (rest ++ b ∷ [])

more_than : (front rest : List ℕ) (b : ℕ) → no_end rest ≡ true → length front + length rest ≡ 15 → b ≢ 0xff → Long front rest b
more_than front [] b n l f =
    let e : eqb b 0xff ≡ false = ne_eqb b 0xff f in
    let m : length front ≡ 15 = omega arith in
    record { left = rw (e, m) refl; told = rw (e, m) refl }
more_than front (c ∷ rest) b n l f =
    let q = and_parts (not (eqb c 0xff)) (no_end rest) n in
    let e : eqb c 0xff ≡ false = not-true (eqb c 0xff) q.0 in
    let g : eqb (length front) 15 ≡ false = ne_eqb (length front) 15 (λ x. omega arith) in
    let k : length (front ++ c ∷ []) ≡ length front + 1 = simp length-append in
    let r = more_than (front ++ c ∷ []) rest b q.1 (omega arith) f in
    let s : held_after (begun front) c ≡ begun (front ++ c ∷ []) = rw (e, g) refl in
    let t : event (begun front) c ≡ Ok None = rw (e, g) refl in
    record {
      left = goes_on (begun front) (begun (front ++ c ∷ [])) c (rest ++ b ∷ []) s ∙ r.left;
      told =
          tells_none (begun front) (begun (front ++ c ∷ [])) c (rest ++ b ∷ []) s t
          ∙ ap (λ (es : List Event). Ok None ∷ es) r.told
          ∙ sym (at_last_more (Err Overlong) c rest b);
    }

open_faulty : (bs : List ℕ) (b : ℕ) → is_begun bs ≡ true → length bs ≡ 15 → b ≢ 0xff → Faulty Overlong (bs ++ b ∷ [])
open_faulty [] b o l f = absurd (omega arith)
open_faulty (h ∷ bs) b o l f =
    let q = and_parts (is_header h) (no_end bs) o in
    let r = more_than (h ∷ []) bs b q.1 (omega arith) f in
    let s : held_after none h ≡ begun (h ∷ []) = rw q.0 refl in
    let t : event none h ≡ Ok None = rw q.0 refl in
    record {
      left = goes_on none (begun (h ∷ [])) h (bs ++ b ∷ []) s ∙ r.left;
      told =
          tells_none none (begun (h ∷ [])) h (bs ++ b ∷ []) s t
          ∙ ap (λ (es : List Event). Ok None ∷ es) r.told
          ∙ sym (at_last_more (Err Overlong) h bs b);
    }

faulty : (e : FramingFault) (bs : List ℕ) → LeadsTo e bs → Faulty e bs
faulty e bs (no_header b n) = record { left = rw n refl; told = rw n refl }
faulty e bs (no_body h i) = record { left = rw i refl; told = rw i refl }
faulty e bs (overlong front b o l f) = open_faulty front b o l f

-- Where a packet is begun, its bytes stand last, behind others that leave none begun.

data Began (h : Held) (bs xs : List ℕ) : Type 0 where
  -- it was begun before
  inside : (ys : List ℕ) → h ≡ begun ys → xs ≡ ys ++ bs → no_end bs ≡ true → Began h bs xs
  behind : (front : List ℕ) → bs ≡ front ++ xs → held_after_all h front ≡ none → is_begun xs ≡ true → Began h bs xs

by_header : (t : Bool) (b : ℕ) (ys : List ℕ) → cond t (begun (b ∷ [])) none ≡ begun ys → (t ≡ true) × (ys ≡ b ∷ [])
by_header true b ys e = (refl, cc)
by_header false b ys e = absurd cc

by_more : (t u : Bool) (zs ys : List ℕ) → cond t none (cond u skipping (begun zs)) ≡ begun ys → (t ≡ false) × (ys ≡ zs)
by_more true u zs ys e = absurd cc
by_more false true zs ys e = absurd cc
by_more false false zs ys e = (refl, cc)

by_none : (t : Bool) (ys : List ℕ) → cond t none skipping ≡ begun ys → ⊥
by_none true ys e = cc
by_none false ys e = cc

one_more : (h : Held) (b : ℕ) (bs xs : List ℕ) → Began (held_after h b) bs xs → Began h (b ∷ bs) xs
one_more h b bs xs (behind front e n o) = behind (b ∷ front) (ap (λ (z : List ℕ). b ∷ z) e) n o
one_more none b bs xs (inside ys e f n) =
    let q = by_header (is_header b) b ys e in
    let g : b ∷ bs ≡ xs = sym (f ∙ ap (λ (z : List ℕ). z ++ bs) q.1) in
    behind [] g refl (subst (λ (z : List ℕ). is_begun z ≡ true) g (and_from (is_header b) (no_end bs) q.0 n))
one_more (begun zs) b bs xs (inside ys e f n) =
    let q = by_more (eqb b 0xff) (eqb (length zs) 15) (zs ++ b ∷ []) ys e in
    inside zs refl (f ∙ ap (λ (z : List ℕ). z ++ bs) q.1 ∙ append_assoc zs (b ∷ []) bs) (rw q.0 n)
one_more skipping b bs xs (inside ys e f n) = absurd (by_none (eqb b 0xff) ys e)

began : (h : Held) (bs xs : List ℕ) → held_after_all h bs ≡ begun xs → Began h bs xs
began h [] xs e = inside xs e (sym (append-nil xs)) refl
began h (b ∷ bs) xs e = one_more h b bs xs (began (held_after h b) bs xs e)

-- Where a byte is at fault.

one_byte : (xs : List ℕ) → is_begun xs ≡ true → length xs ≡ 1 → (h : ℕ) × (xs ≡ h ∷ []) × (is_header h ≡ true)
one_byte [] o l = absurd (omega arith)
one_byte (h ∷ []) o l = (h, refl, let q = and_parts (is_header h) true o in q.0)
one_byte (h ∷ d ∷ xs) o l = absurd (omega arith)

module _ (e : FramingFault) (bs : List ℕ) (b : ℕ) where
  with_none : (t : Bool) → is_header b ≡ t → held_after_all none bs ≡ none → cond {A = Event} t (Ok None) (Err NoHeader) ≡ Err e → EndsFaulty e (bs ++ b ∷ [])
  with_none true i n f = absurd cc
  with_none false i n f =
      let g : NoHeader ≡ e = cc in
      record { before = bs; bytes = b ∷ []; are = refl; idle = n; lead = subst (λ (z : FramingFault). LeadsTo z (b ∷ [])) g (no_header b i) }

  behind_front : (front xs : List ℕ) → bs ≡ front ++ xs → bs ++ b ∷ [] ≡ front ++ (xs ++ b ∷ [])
  behind_front front xs f = ap (λ (z : List ℕ). z ++ b ∷ []) f ∙ append_assoc front xs (b ∷ [])

  short : (front xs : List ℕ) → bs ≡ front ++ xs → held_after_all none front ≡ none → is_begun xs ≡ true → b ≡ 0xff → length xs ≡ 1 → NoBody ≡ e → EndsFaulty e (bs ++ b ∷ [])
  short front xs f n o i l g =
      let h = one_byte xs o l in
      let k : xs ++ b ∷ [] ≡ h.0 ∷ 0xff ∷ [] = ap (λ (z : List ℕ). z ++ b ∷ []) h.1 ∙ ap (λ (z : ℕ). h.0 ∷ z ∷ []) i in
      record {
        before = front;
        bytes = xs ++ b ∷ [];
        are = behind_front front xs f;
        idle = n;
        lead = rw k (subst (λ (z : FramingFault). LeadsTo z (h.0 ∷ 0xff ∷ [])) g (no_body h.0 h.2));
      }

  long : (front xs : List ℕ) → bs ≡ front ++ xs → held_after_all none front ≡ none → is_begun xs ≡ true → b ≢ 0xff → length xs ≡ 15 → Overlong ≡ e → EndsFaulty e (bs ++ b ∷ [])
  long front xs f n o i l g =
      record {
        before = front;
        bytes = xs ++ b ∷ [];
        are = behind_front front xs f;
        idle = n;
        lead = subst (λ (z : FramingFault). LeadsTo z (xs ++ b ∷ [])) g (overlong xs b o l i);
      }

  with_begun : (front xs : List ℕ) (t u v : Bool) → bs ≡ front ++ xs → held_after_all none front ≡ none → is_begun xs ≡ true →
      eqb b 0xff ≡ t → eqb (length xs) 1 ≡ u → eqb (length xs) 15 ≡ v →
      cond {A = Event} t (cond {A = Event} u (Err NoBody) (Ok (Some (xs ++ b ∷ [])))) (cond {A = Event} v (Err Overlong) (Ok None)) ≡ Err e → EndsFaulty e (bs ++ b ∷ [])
  with_begun front xs true true v f n o i l m g = short front xs f n o (eqb-true b 0xff i) (eqb-true (length xs) 1 l) cc
  with_begun front xs true false v f n o i l m g = absurd cc
  with_begun front xs false u true f n o i l m g = long front xs f n o (eqb-false b 0xff i) (eqb-true (length xs) 15 m) cc
  with_begun front xs false u false f n o i l m g = absurd cc

  of_begun : (xs : List ℕ) → Began none bs xs → event (begun xs) b ≡ Err e → EndsFaulty e (bs ++ b ∷ [])
  of_begun xs (inside ys p q n) g = absurd cc
  of_begun xs (behind front f n o) g = with_begun front xs (eqb b 0xff) (eqb (length xs) 1) (eqb (length xs) 15) f n o refl refl refl g

  at_fault : (h : Held) → held_after_all none bs ≡ h → event h b ≡ Err e → EndsFaulty e (bs ++ b ∷ [])
  at_fault none n g = with_none (is_header b) refl n g
  at_fault (begun xs) n g = of_begun xs (began none bs xs n) g
  at_fault skipping n g = absurd cc

pub every_fault_has_its_bytes : EveryFaultHasItsBytes
every_fault_has_its_bytes = record { all = faulty; only = λ e bs b g. at_fault e bs b (held_after_all none bs) refl g }

-- After a fault.

skips : (bs : List ℕ) → no_end bs ≡ true → (held_after_all skipping bs ≡ skipping) × (events skipping bs ≡ nothing_for bs)
skips [] n = (refl, refl)
skips (b ∷ bs) n =
    let q = and_parts (not (eqb b 0xff)) (no_end bs) n in
    let e : eqb b 0xff ≡ false = not-true (eqb b 0xff) q.0 in
    let r = skips bs q.1 in
    (rw e r.0, rw e (ap (λ (es : List Event). Ok None ∷ es) r.1))

skipped : (bs : List ℕ) → no_end bs ≡ true → (held_after_all skipping (bs ++ 0xff ∷ []) ≡ none) × (events skipping (bs ++ 0xff ∷ []) ≡ nothing_for (bs ++ 0xff ∷ []))
skipped [] n = (refl, refl)
skipped (b ∷ bs) n =
    let q = and_parts (not (eqb b 0xff)) (no_end bs) n in
    let e : eqb b 0xff ≡ false = not-true (eqb b 0xff) q.0 in
    let r = skipped bs q.1 in
    let s : held_after skipping b ≡ skipping = rw e refl in (
      goes_on skipping skipping b (bs ++ 0xff ∷ []) s ∙ r.0,
      tells_none skipping skipping b (bs ++ 0xff ∷ []) s refl ∙ ap (λ (es : List Event). Ok None ∷ es) r.1,
    )

next : (e : FramingFault) (bs p : List ℕ) → left_by e ≡ none → LeadsTo e bs → is_packet p ≡ true →
    events none (bs ++ p) ≡ at_last (Err e) bs ++ at_last (Ok (Some p)) p
next e bs p n l k =
    let f = faulty e bs l in
    let g : held_after_all none bs ≡ none = f.left ∙ n in
    let h = every_packet_is_framed p k in
    events_both none bs p ∙ rw (f.told, g, h.told) refl

behind_rest : (bs rest p : List ℕ) → LeadsTo Overlong bs → no_end rest ≡ true → is_packet p ≡ true →
    events none (bs ++ (rest ++ 0xff ∷ []) ++ p) ≡ at_last (Err Overlong) bs ++ nothing_for (rest ++ 0xff ∷ []) ++ at_last (Ok (Some p)) p
behind_rest bs rest p l n k =
    let f = faulty Overlong bs l in
    let g = skipped rest n in
    let h = every_packet_is_framed p k in
    let r : List ℕ = rest ++ 0xff ∷ [] in
    let x : held_after_all none (bs ++ r) ≡ none = after_both none bs r ∙ ap (λ (z : Held). held_after_all z r) f.left ∙ g.0 in
    let y : events none (bs ++ r) ≡ at_last (Err Overlong) bs ++ nothing_for r =
    events_both none bs r
    ∙ ap (λ (es : List Event). es ++ events (held_after_all none bs) r) f.told
    ∙ ap (λ (z : Held). at_last (Err Overlong) bs ++ events z r) f.left
    ∙ ap (λ (es : List Event). at_last (Err Overlong) bs ++ es) g.1 in
    events_both none (bs ++ r) p
    ∙ ap (λ (es : List Event). es ++ events (held_after_all none (bs ++ r)) p) y
    ∙ ap (λ (z : Held). (at_last (Err Overlong) bs ++ nothing_for r) ++ events z p) x
    ∙ ap (λ (es : List Event). (at_last (Err Overlong) bs ++ nothing_for r) ++ es) h.told

pub found_after_faults : FoundAfterFaults
found_after_faults = record {
  header = λ h i. rw i refl;
  rest = skips;
  end = (refl, refl);
  next = next;
  behind = behind_rest;
}
