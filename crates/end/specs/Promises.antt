-- What the law means for whoever sends commands: a cancel always works, every acknowledged command is ended, and what is sent is
-- whole packets.
use Rattle.std.specs.Prelude.{◌≡◌, ℕ, ◌+◌, ◌*◌, ◌≤◌, true, if◌then◌else◌, ◌⊎◌, List, [], ◌∷◌, ◌++◌, Some, None, Option, ◌==◌}
use Rattle.end.specs.declared.call.Call.{Call}
use Rattle.end.specs.declared.call.Call.TheVariants.{Byte, Tick, Open}
use Rattle.end.specs.Book.{Book, Entry, Seen, closed, working, between, inside, ends, said_of, cut, before_replies, made_whole, clearing, accepted}
use Rattle.end.specs.Deeds.{none_ended}
use Rattle.end.specs.Faults.{Answer, counts}
use Rattle.end.specs.Law.{WholePackets}
use Rattle.end.specs.Records.{Record, record_of, book_of}
use Rattle.end.specs.Runs.{Run}
use Rattle.end.specs.States.{State}
use Rattle.end.specs.Steps.{Step}
use Rattle.head.specs.Meaning.{Meaning}

-- socket 1 or 2 by the book
pub data IsSocket : ℕ → Type 0 where
  one : IsSocket 1
  two : IsSocket 2

abbrev pub seen_at : Book → ℕ → Seen
seen_at k y = if y == 1 then k.one else k.two

-- A cancel.

-- a byte that comes in state s, given room
pub record Comes (s : State) (b : ℕ) : Type 0 where
  pub room : ℕ
  pub enough : 16 ≤ room
  pub answer : Answer
  pub sent : List ℕ
  pub after : State
  pub step : Step s (record_of (Byte b) room answer sent none_ended) after

abbrev pub come : {s : State} {b : ℕ} → Comes s b → Record
come {b = b} x = record_of (Byte b) x.room x.answer x.sent none_ended

-- it is answered with the count 0, and nothing is sent
pub record Silent {s : State} {b : ℕ} (x : Comes s b) : Type 0 where
  pub answer : x.answer ≡ counts 0
  pub nothing : x.sent ≡ []

-- it is answered with the count 4, the ending X0 6Y 04 FF is sent, and the socket is closed; h is the run before it
pub record Cancels (h : List Record) (y : ℕ) {s : State} {b : ℕ} (x : Comes s b) : Type 0 where
  pub answer : x.answer ≡ counts 4
  pub ending : x.sent ≡ ((book_of h).address + 8) * 16 ∷ (0x60 + y) ∷ 0x04 ∷ 0xff ∷ []
  pub shut : seen_at (book_of (come x ∷ h)) y ≡ closed

-- In any run, with socket Y open by the book and the packet 8a 2Y begun, the FF that makes it whole cancels.
abbrev pub ACancelIsNeverRefused : Type 0
ACancelIsNeverRefused =
    (m : Meaning) (h : List Record) (s : State) → Run m h s →
    (y : ℕ) → IsSocket y → (p : List ℕ) (n : ℕ) → seen_at (book_of h) y ≡ working p n →
    (book_of h).standing ≡ inside ((0x80 + (book_of h).address) ∷ (0x20 + y) ∷ []) → (x : Comes s 0xff) → Cancels h y x

-- In any run, with socket Y open by the book and no packet begun, of the bytes 8a 2Y FF the first two are silent, which leaves
-- the address as it was, and the third cancels.
pub record CancelledBy (h : List Record) (y : ℕ) {s : State} {b₁ b₂ b₃ : ℕ}
    (x₁ : Comes s b₁) (x₂ : Comes x₁.after b₂) (x₃ : Comes x₂.after b₃) : Type 0 where
  pub first : Silent x₁
  pub second : Silent x₂
  pub address : (book_of (come x₂ ∷ come x₁ ∷ h)).address ≡ (book_of h).address
  pub third : Cancels (come x₂ ∷ come x₁ ∷ h) y x₃

abbrev pub AWholeCancelIsNeverRefused : Type 0
AWholeCancelIsNeverRefused =
    (m : Meaning) (h : List Record) (s : State) → Run m h s →
    (y : ℕ) → IsSocket y → (p : List ℕ) (n : ℕ) → seen_at (book_of h) y ≡ working p n → (book_of h).standing ≡ between →
    (x₁ : Comes s (0x80 + (book_of h).address)) (x₂ : Comes x₁.after (0x20 + y)) (x₃ : Comes x₂.after 0xff) →
    CancelledBy h y x₁ x₂ x₃

-- An acknowledged command. A call sends an ending of socket y, or makes a clearing whole; k is the book before it.
abbrev pub EndingAmong : ℕ → ℕ → List (List ℕ) → Type 0
EndingAmong a y [] = ⊥
EndingAmong a y (q ∷ qs) = (said_of a y q ≡ ends) ⊎ EndingAmong a y qs

abbrev pub ClearedBy : ℕ → Option (List ℕ) → Type 0
ClearedBy a None = ⊥
ClearedBy a (Some p) = clearing a p ≡ true

abbrev pub Clearing : Book → Call → Type 0
Clearing k (Byte b) = ClearedBy k.address (made_whole k.standing b)
Clearing k Tick = ⊥
Clearing k Open = ⊥

pub record Over (k : Book) (y : ℕ) (e : Entry) : Type 0 where
  pub taken : accepted e.call e.room ≡ true
  pub how : EndingAmong (before_replies k e.call).address y (cut e.sent) ⊎ Clearing k e.call

-- some call of `later`, which came behind the run h, does so; the newest stands first
abbrev pub OverIn : ℕ → List Record → List Record → Type 0
OverIn y h [] = ⊥
OverIn y h (r ∷ later) = Over (book_of (later ++ h)) y r.fed ⊎ OverIn y h later

-- accepted ticks
abbrev pub counted : Call → ℕ → ℕ
counted (Byte b) room = 0
counted Tick room = if accepted Tick room then 1 else 0
counted Open room = 0

abbrev pub ticks_in : List Record → ℕ
ticks_in [] = 0
ticks_in (r ∷ later) = ticks_in later + counted r.fed.call r.fed.room

-- In any run, a command that is open by the book is over at the latest with the 1,000th tick that is accepted from then on: its
-- ending was sent, or the line was cleared or the address set anew.
abbrev pub EveryAcknowledgedCommandIsEnded : Type 0
EveryAcknowledgedCommandIsEnded =
    (m : Meaning) (h later : List Record) (s : State) → Run m (later ++ h) s →
    (y : ℕ) → IsSocket y → (p : List ℕ) (n : ℕ) → seen_at (book_of h) y ≡ working p n →
    1000 ≤ ticks_in later → OverIn y h later

-- In any run, what a call sends is whole packets, at most two of them.
abbrev pub WhatIsSentIsWholePackets : Type 0
WhatIsSentIsWholePackets =
    (m : Meaning) (h : List Record) (s : State) → Run m h s →
    (r : Record) (s' : State) → Step s r s' → WholePackets 2 r.fed.sent
