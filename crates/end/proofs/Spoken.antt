-- What the book makes of bytes that an end sends: its own replies, and packets that say nothing of its sockets.
use Rattle.std.proofs.Common.{◌≡◌, ℕ, ◌+◌, ◌/◌, ◌%◌, ◌<◌, ◌≤◌, Bool, true, false, cond, not, ◌&&◌, eqb, List, [], ◌∷◌, ◌++◌, length, sym, refl, ap, ◌∙◌, subst, append_assoc, arith}
use Rattle.std.proofs.lemmas.Bool.{eqb-false, eq-eqb, ne_eqb, le-leb, and_parts, not-true}
use Rattle.std.proofs.lemmas.List.{length_push}
use Rattle.end.specs.Book.{Seen, Said, acknowledges, ends, other, equal_bytes, cut, cut_from, said_of, seen_after_said, seen_after_replies}
use Rattle.end.specs.Law.{Due, InOrder}
use Rattle.end.specs.Outcomes.{own, own_header}
use Rattle.rules.specs.declared.reply.Problem.{Problem}
use Rattle.rules.specs.declared.reply.Problem.TheVariants.{Syntax, BufferFull, Cancelled, NoSocket, NotExecutable}
use Rattle.rules.specs.declared.reply.Reply.{Reply}
use Rattle.rules.specs.declared.reply.Reply.TheVariants.{Acknowledgement, Completion, Error}
use Rattle.rules.specs.Replies.{problem_code}
use Rattle.wire.specs.Packets.{is_header, no_end, closes, is_packet}

-- Bytes without FF, and how they are cut.

abbrev pub Plain : List ℕ → Type 0
Plain [] = Unit {0}
Plain (b ∷ bs) = (eqb b 0xff ≡ false) × Plain bs

pub plain_of : (bs : List ℕ) → no_end bs ≡ true → Plain bs
plain_of [] h = tt
plain_of (b ∷ bs) h = let q = and_parts (not (eqb b 0xff)) (no_end bs) h in (not-true (eqb b 0xff) q.0, plain_of bs q.1)

pub plain_push : (bs : List ℕ) (b : ℕ) → Plain bs → eqb b 0xff ≡ false → Plain (bs ++ b ∷ [])
plain_push [] b h e = (e, tt)
plain_push (x ∷ bs) b h e = (h.0, plain_push bs b h.1 e)

cut_plain : (begun q rest : List ℕ) → Plain q → cut_from begun (q ++ 0xff ∷ rest) ≡ (begun ++ (q ++ 0xff ∷ [])) ∷ cut_from [] rest
cut_plain begun [] rest h = refl
cut_plain begun (x ∷ q) rest h =
    rw h.0 (cut_plain (begun ++ x ∷ []) q rest h.1 ∙ ap (λ (z : List ℕ). z ∷ cut_from [] rest) (append_assoc begun (x ∷ []) (q ++ 0xff ∷ [])))

pub cut_packet : (q rest : List ℕ) → Plain q → cut (q ++ 0xff ∷ rest) ≡ (q ++ 0xff ∷ []) ∷ cut rest
cut_packet q rest h = cut_plain [] q rest h

-- with a header and 1 to 14 bytes behind it, and FF, they are a packet
closes_plain : (t : List ℕ) → Plain t → closes (t ++ 0xff ∷ []) ≡ true
closes_plain [] h = refl
closes_plain (b ∷ []) h = rw h.0 refl
closes_plain (b ∷ c ∷ t) h = rw h.0 (closes_plain (c ∷ t) h.1)

pub packet_of : (h : ℕ) (t : List ℕ) → is_header h ≡ true → Plain t → 1 ≤ length t → length t ≤ 14 → is_packet (h ∷ (t ++ 0xff ∷ [])) ≡ true
packet_of h t header plain low high =
    let n = length_push t 0xff in
    rw (header, closes_plain t plain, le-leb 2 (length (t ++ 0xff ∷ [])) (omega arith), le-leb (length (t ++ 0xff ∷ [])) 15 (omega arith)) refl

small : (b : ℕ) → b < 0xff → eqb b 0xff ≡ false
small b h = ne_eqb b 0xff (λ e. omega arith)

pub own_header_plain : (a : ℕ) → a ≤ 7 → eqb (own_header a) 0xff ≡ false
own_header_plain a h = small (own_header a) (omega arith)

pub own_header_is : (a : ℕ) → a ≤ 7 → is_header (own_header a) ≡ true
own_header_is a h = rw (le-leb 0x80 (own_header a) (omega arith), le-leb (own_header a) 0xfe (omega arith)) refl

-- A packet says of socket y only what an own one says behind its header.

abbrev pub behind : ℕ → List ℕ → Said
behind y t =
    cond (equal_bytes t ((0x40 + y) ∷ 0xff ∷ [])) acknowledges
    (cond (equal_bytes t ((0x50 + y) ∷ 0xff ∷ [])) ends
    (cond (equal_bytes t ((0x60 + y) ∷ 0x04 ∷ 0xff ∷ [])) ends
    (cond (equal_bytes t ((0x60 + y) ∷ 0x41 ∷ 0xff ∷ [])) ends
    other)))

word_own : (a y : ℕ) (t : List ℕ) → eqb a 0 ≡ false → said_of a y (own_header a ∷ t) ≡ behind y t
word_own a y t has = rw (has, eq-eqb (own_header a) (own_header a) refl)

word_none : (a y h : ℕ) (t : List ℕ) → eqb h (own_header a) ≡ false → said_of a y (h ∷ t) ≡ other
word_none a y h t e = rw e (none (eqb a 0)) where
  none : (b : Bool) → cond b other other ≡ other
  none true = refl
  none false = refl

-- Replies of the end.

abbrev pub tail_of : Reply → List ℕ
tail_of (Acknowledgement z) = (0x40 + z % 16) ∷ []
tail_of (Completion z) = (0x50 + z % 16) ∷ []
tail_of (Error z problem) = (0x60 + z % 16) ∷ problem_code problem ∷ []

-- what a reply says of socket y
abbrev pub said : ℕ → Reply → Said
said y r = behind y (tail_of r ++ 0xff ∷ [])

pub own_is : (a : ℕ) (r : Reply) (rest : List ℕ) → own a r ++ rest ≡ own_header a ∷ (tail_of r ++ 0xff ∷ rest)
own_is a (Acknowledgement z) rest = refl
own_is a (Completion z) rest = refl
own_is a (Error z problem) rest = refl

code_small : (problem : Problem) → problem_code problem < 0xff
code_small Syntax = omega arith
code_small BufferFull = omega arith
code_small Cancelled = omega arith
code_small NoSocket = omega arith
code_small NotExecutable = omega arith

pub tail_plain : (r : Reply) → Plain (tail_of r)
tail_plain (Acknowledgement z) = (small _ (omega arith), tt)
tail_plain (Completion z) = (small _ (omega arith), tt)
tail_plain (Error z problem) = (small _ (omega arith), (small _ (code_small problem), tt))

-- replies one behind the other
abbrev pub owns : ℕ → List Reply → List ℕ
owns a [] = []
owns a (r ∷ rs) = own a r ++ owns a rs

-- socket y after replies, by what they say of it, and that each was due
abbrev pub spoken : List ℕ → ℕ → List Reply → Seen → Seen
spoken p y [] x = x
spoken p y (r ∷ rs) x = spoken p y rs (seen_after_said p (said y r) x)

abbrev pub AllDue : List ℕ → ℕ → List Reply → Seen → Type 0
AllDue p y [] x = Unit {0}
AllDue p y (r ∷ rs) x = Due (said y r) x × AllDue p y rs (seen_after_said p (said y r) x)

-- what the book reads in sent bytes for socket y
pub record Read (a y : ℕ) (p sent : List ℕ) (x x' : Seen) : Type 0 where
  pub line : seen_after_replies a y p (cut sent) x ≡ x'
  pub order : InOrder a y p (cut sent) x

-- one packet more in front, which says w
read_more : (a y : ℕ) (p sent rest q : List ℕ) (w : Said) (x x' : Seen) → cut sent ≡ q ∷ cut rest → said_of a y q ≡ w → Due w x → Read a y p rest (seen_after_said p w x) x' → Read a y p sent x x'
read_more a y p sent rest q w x x' e h d r = record {
  line = rw e (ap (λ (v : Said). seen_after_replies a y p (cut rest) (seen_after_said p v x)) h ∙ r.line);
  order = rw e (subst (λ (v : Said). Due v x × InOrder a y p (cut rest) (seen_after_said p v x)) (sym h) (d, r.order));
}

module _ (a : ℕ) (low : a ≤ 7) where
  cut_own : (r : Reply) (rest : List ℕ) → cut (own a r ++ rest) ≡ (own_header a ∷ (tail_of r ++ 0xff ∷ [])) ∷ cut rest
  cut_own r rest =
      ap (λ (bs : List ℕ). cut bs) (own_is a r rest)
      ∙ cut_packet (own_header a ∷ tail_of r) rest (own_header_plain a low, tail_plain r)

  module _ (has : eqb a 0 ≡ false) where
    pub read_owns : (y : ℕ) (p : List ℕ) (rs : List Reply) (x : Seen) → AllDue p y rs x → Read a y p (owns a rs) x (spoken p y rs x)
    read_owns y p [] x d = record { line = refl; order = tt }
    read_owns y p (r ∷ rs) x d =
        read_more a y p (own a r ++ owns a rs) (owns a rs) _ (said y r) x _ (cut_own r (owns a rs)) (word_own a y (tail_of r ++ 0xff ∷ []) has) d.0
        (read_owns y p rs (seen_after_said p (said y r) x) d.1)

-- A packet that says nothing of a socket.

pub read_none : (a y : ℕ) (p : List ℕ) (x : Seen) → Read a y p [] x x
read_none a y p x = record { line = refl; order = tt }

read_other : (a y : ℕ) (p sent : List ℕ) (x : Seen) → cut sent ≡ sent ∷ [] → said_of a y sent ≡ other → Read a y p sent x x
read_other a y p sent x e w = read_more a y p sent [] sent other x x e w tt (read_none a y p x)

-- one that another sent
sent_by : (a h : ℕ) → a ≤ 7 → h ≡ own_header a → h / 16 % 8 ≡ a
sent_by a h low e = omega arith

word_foreign : (a y h : ℕ) (t : List ℕ) (z : Bool) → a ≤ 7 → eqb a 0 ≡ z → (not z && eqb (h / 16 % 8) a) ≡ false → said_of a y (h ∷ t) ≡ other
word_foreign a y h t true low e f = rw e refl
word_foreign a y h t false low e f = word_none a y h t (ne_eqb h (own_header a) (λ q. eqb-false (h / 16 % 8) a f (sent_by a h low q)))

pub read_foreign : (a y h : ℕ) (p t : List ℕ) (x : Seen) → a ≤ 7 → Plain (h ∷ t) → (not (eqb a 0) && eqb (h / 16 % 8) a) ≡ false →
    Read a y p (h ∷ (t ++ 0xff ∷ [])) x x
read_foreign a y h p t x low plain f =
    read_other a y p (h ∷ (t ++ 0xff ∷ [])) x (cut_packet (h ∷ t) [] plain) (word_foreign a y h (t ++ 0xff ∷ []) (eqb a 0) low refl f)

-- an own one that is neither an acknowledgement nor an ending
pub read_own_other : (a y : ℕ) (p t : List ℕ) (x : Seen) → a ≤ 7 → eqb a 0 ≡ false → Plain t → behind y (t ++ 0xff ∷ []) ≡ other →
    Read a y p (own_header a ∷ (t ++ 0xff ∷ [])) x x
read_own_other a y p t x low has plain b =
    read_other a y p (own_header a ∷ (t ++ 0xff ∷ [])) x (cut_packet (own_header a ∷ t) [] (own_header_plain a low, plain)) (word_own a y (t ++ 0xff ∷ []) has ∙ b)
