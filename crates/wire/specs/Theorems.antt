-- What framing means for whole lines of bytes.
use Rattle.std.specs.Prelude.{◌≡◌, ◌≢◌, ℕ, true, false, List, [], ◌∷◌, ◌++◌, length, map, Some, None, Ok, Err}
use Rattle.wire.specs.declared.faults.FramingFault.{FramingFault}
use Rattle.wire.specs.declared.faults.FramingFault.TheVariants.{NoHeader, NoBody, Overlong}
use Rattle.wire.specs.Framing.{Held, none, begun, skipping, held_after, Event, event}
use Rattle.wire.specs.Packets.{is_header, no_end, is_begun, is_packet}

-- what bytes in a row make of what stands before them, and tell
abbrev pub held_after_all : Held → List ℕ → Held
held_after_all h [] = h
held_after_all h (b ∷ bs) = held_after_all (held_after h b) bs

abbrev pub events : Held → List ℕ → List Event
events h [] = []
events h (b ∷ bs) = event h b ∷ events (held_after h b) bs

-- nothing for each of the bytes but the last, and the event e for that
abbrev pub at_last : Event → List ℕ → List Event
at_last e [] = []
at_last e (b ∷ []) = e ∷ []
at_last e (b ∷ c ∷ bs) = Ok None ∷ at_last e (c ∷ bs)

-- the bytes of any packet, with no packet begun, tell nothing until the last, then that packet, and leave none begun
pub record Framed (p : List ℕ) : Type 0 where
  pub left : held_after_all none p ≡ none
  pub told : events none p ≡ at_last (Ok (Some p)) p

abbrev pub EveryPacketIsFramed : Type 0
EveryPacketIsFramed = (p : List ℕ) → is_packet p ≡ true → Framed p

-- after any bytes, the next FF finds the line again
abbrev pub TheLineIsFoundAgain : Type 0
TheLineIsFoundAgain = (h : Held) (bs : List ℕ) → held_after_all h (bs ++ 0xff ∷ []) ≡ none

-- The faults.

-- the bytes that lead to each, where no packet is begun before them
pub data LeadsTo : FramingFault → List ℕ → Type 0 where
  -- one that is no header
  no_header : (b : ℕ) → is_header b ≡ false → LeadsTo NoHeader (b ∷ [])
  -- a header, and FF behind it
  no_body : (h : ℕ) → is_header h ≡ true → LeadsTo NoBody (h ∷ 0xff ∷ [])
  -- a header and 14 bytes that are not FF, and a sixteenth that is not FF either
  overlong : (bs : List ℕ) (b : ℕ) → is_begun bs ≡ true → length bs ≡ 15 → b ≢ 0xff → LeadsTo Overlong (bs ++ b ∷ [])

-- what stands then: no packet is begun; or the rest is skipped
abbrev pub left_by : FramingFault → Held
left_by NoHeader = none
left_by NoBody = none
left_by Overlong = skipping

-- such bytes tell nothing until the last, then the fault
pub record Faulty (e : FramingFault) (bs : List ℕ) : Type 0 where
  pub left : held_after_all none bs ≡ left_by e
  pub told : events none bs ≡ at_last (Err e) bs

-- the bytes of a fault stand last, behind others that leave no packet begun
pub record EndsFaulty (e : FramingFault) (bs : List ℕ) : Type 0 where
  pub before : List ℕ
  pub bytes : List ℕ
  pub are : bs ≡ before ++ bytes
  pub idle : held_after_all none before ≡ none
  pub lead : LeadsTo e bytes

-- just these bytes lead to the faults: all that lead there do, and where a byte is at fault, such bytes end with it
pub record EveryFaultHasItsBytes : Type 0 where
  pub all : (e : FramingFault) (bs : List ℕ) → LeadsTo e bs → Faulty e bs
  pub only : (e : FramingFault) (bs : List ℕ) (b : ℕ) → event (held_after_all none bs) b ≡ Err e → EndsFaulty e (bs ++ b ∷ [])

-- nothing for each of the bytes
abbrev pub nothing_for : List ℕ → List Event
nothing_for bs = map (λ b. Ok None) bs

-- after a fault the line is found again
pub record FoundAfterFaults : Type 0 where
  -- with no packet begun, the next header begins one
  pub header : (h : ℕ) → is_header h ≡ true → held_after none h ≡ begun (h ∷ [])
  -- while the rest is skipped, nothing is told of any byte, and nothing but FF ends it
  pub rest : (bs : List ℕ) → no_end bs ≡ true →
      (held_after_all skipping bs ≡ skipping) × (events skipping bs ≡ nothing_for bs)
  pub end : (held_after skipping 0xff ≡ none) × (event skipping 0xff ≡ Ok None)
  -- so the next packet is framed: right behind a fault that leaves none begun, and behind the rest and its FF
  pub next : (e : FramingFault) (bs p : List ℕ) → left_by e ≡ none → LeadsTo e bs → is_packet p ≡ true →
      events none (bs ++ p) ≡ at_last (Err e) bs ++ at_last (Ok (Some p)) p
  pub behind : (bs rest p : List ℕ) → LeadsTo Overlong bs → no_end rest ≡ true → is_packet p ≡ true →
      events none (bs ++ (rest ++ 0xff ∷ []) ++ p)
      ≡ at_last (Err Overlong) bs ++ nothing_for (rest ++ 0xff ∷ []) ++ at_last (Ok (Some p)) p
