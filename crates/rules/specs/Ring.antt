-- The rules of the ring: what becomes of a whole packet p at an end with address a, 0 for none yet.
use Rattle.std.specs.Prelude.{◌≡◌, ◌≢◌, ◌↔◌, ℕ, suc, ◌+◌, ◌-◌, ◌/◌, ◌%◌, ◌≤◌, Bool, true, false, if◌then◌else◌, not, ◌&&◌, ◌||◌, List, [], ◌∷◌, length, Some, None, Option, ◌==◌, nat_le, slice_index, slice_index_or}
use Rattle.head.specs.Cases.{first_case}
use Rattle.rules.specs.declared.ring.Rule.{Rule}
use Rattle.rules.specs.declared.ring.Rule.TheVariants.{TakenOff, AddressSet, ClearedForAll, SentOn, Cleared, Cancelled, Requested}
use Rattle.wire.specs.Packets.{is_packet, body_of}

-- the rules by number; what is for this end is one rule, the fifth
abbrev pub rule_number : Rule → ℕ
rule_number TakenOff = 1
rule_number (AddressSet w) = 2
rule_number ClearedForAll = 3
rule_number SentOn = 4
rule_number Cleared = 5
rule_number (Cancelled y) = 5
rule_number Requested = 5

-- The header: bits 6 to 4 are the sender, bit 3 marks broadcast, bits 2 to 0 are the receiver.

abbrev pub header : List ℕ → ℕ
header p = slice_index p 0

abbrev pub sender : List ℕ → ℕ
sender p = header p / 16 % 8

abbrev pub is_broadcast : List ℕ → Bool
is_broadcast p = header p / 8 % 2 == 1

abbrev pub receiver : List ℕ → ℕ
receiver p = header p % 8

-- Which rule a packet meets.

-- the bytes cs stand in bs from place i on
abbrev pub stand_at : ℕ → List ℕ → List ℕ → Bool
stand_at i bs [] = true
stand_at i bs (c ∷ cs) = slice_index bs i == c && stand_at (suc i) bs cs

-- the bytes bs are just cs
abbrev pub are : List ℕ → List ℕ → Bool
are bs cs = length bs == length cs && stand_at 0 bs cs

abbrev pub from_here : ℕ → List ℕ → Bool
from_here a p = not (a == 0) && sender p == a

-- 88 30 0w FF, w from 1 to 7
abbrev pub offers_address : List ℕ → Bool
offers_address p =
    let w = slice_index p 2 in
    are p (0x88 ∷ 0x30 ∷ w ∷ 0xff ∷ []) && nat_le 1 w && nat_le w 7

-- the address w that it sets
abbrev pub address_set : List ℕ → Option ℕ
address_set p = if offers_address p then Some (slice_index p 2) else None

abbrev pub clears_all : List ℕ → Bool
clears_all p = are p (0x88 ∷ 0x01 ∷ 0x00 ∷ 0x01 ∷ 0xff ∷ [])

abbrev pub not_for_here : ℕ → List ℕ → Bool
not_for_here a p = a == 0 || not (header p == 0x80 + a)

-- a body for this end: 01 00 01 clears, 2Y alone cancels, and the rows read any other
abbrev pub for_this_end : List ℕ → Rule
for_this_end body =
    let y = slice_index_or body 0 0 in
    first_case (
    (are body (0x01 ∷ 0x00 ∷ 0x01 ∷ []), Cleared)
    ∷ (are body (y ∷ []) && nat_le 0x20 y && nat_le y 0x2f, Cancelled (y - 0x20))
    ∷ []
    ) Requested

-- the first rule that fits
abbrev pub rule_of : ℕ → List ℕ → Rule
rule_of a p =
    first_case (
    (from_here a p, TakenOff)
    ∷ (offers_address p, AddressSet (slice_index p 2))
    ∷ (clears_all p, ClearedForAll)
    ∷ (not_for_here a p, SentOn)
    ∷ []
    ) (for_this_end (body_of p))

-- an address that is set is 1 to 7, and a socket that is cancelled 0 to 15
abbrev pub Bounded : Rule → Type 0
Bounded TakenOff = Unit {0}
Bounded (AddressSet w) = (1 ≤ w) × (w ≤ 7)
Bounded ClearedForAll = Unit {0}
Bounded SentOn = Unit {0}
Bounded Cleared = Unit {0}
Bounded (Cancelled y) = y ≤ 15
Bounded Requested = Unit {0}

-- Each rule by itself.

-- rule n fits the packet, whatever the others say
pub data RuleFits (a : ℕ) (p : List ℕ) : ℕ → Type 0 where
  -- it is from this end
  from_this_end : 1 ≤ a → sender p ≡ a → RuleFits a p 1
  -- 88 30 0w FF, w from 1 to 7
  sets_an_address : (w : ℕ) → 1 ≤ w → w ≤ 7 → p ≡ 0x88 ∷ 0x30 ∷ w ∷ 0xff ∷ [] → RuleFits a p 2
  -- 88 01 00 01 FF
  clears_every_end : p ≡ 0x88 ∷ 0x01 ∷ 0x00 ∷ 0x01 ∷ 0xff ∷ [] → RuleFits a p 3
  -- this end has no address, or the header is not 80 + a
  without_address : a ≡ 0 → RuleFits a p 4
  with_other_header : header p ≢ 0x80 + a → RuleFits a p 4
  -- it is for this end
  with_this_header : 1 ≤ a → header p ≡ 0x80 + a → RuleFits a p 5

-- what a rule tells of its packet: the address that is set; whether its body clears, cancels, and which socket
abbrev pub Tells : List ℕ → Rule → Type 0
Tells p TakenOff = Unit {0}
Tells p (AddressSet w) = p ≡ 0x88 ∷ 0x30 ∷ w ∷ 0xff ∷ []
Tells p ClearedForAll = Unit {0}
Tells p SentOn = Unit {0}
Tells p Cleared = body_of p ≡ 0x01 ∷ 0x00 ∷ 0x01 ∷ []
Tells p (Cancelled y) = (y ≤ 15) × (body_of p ≡ (0x20 + y) ∷ [])
Tells p Requested = (body_of p ≢ 0x01 ∷ 0x00 ∷ 0x01 ∷ []) × ((y : ℕ) → y ≤ 15 → body_of p ≢ (0x20 + y) ∷ [])

-- the packet meets the rule: it fits, and no other that fits has a smaller number
pub record Meets (a : ℕ) (p : List ℕ) (r : Rule) : Type 0 where
  pub fits : RuleFits a p (rule_number r)
  pub first : (n : ℕ) → RuleFits a p n → rule_number r ≤ n
  pub tells : Tells p r

-- every packet meets just one rule
abbrev pub EachPacketMeetsOneRule : Type 0
EachPacketMeetsOneRule = (a : ℕ) (p : List ℕ) (r : Rule) → Meets a p r ↔ (r ≡ rule_of a p)

-- What becomes of a packet by its sender and receiver.

-- neither of the two broadcasts that every end obeys
abbrev pub Plain : ℕ → List ℕ → Type 0
Plain a p = (RuleFits a p 2 → ⊥) × (RuleFits a p 3 → ⊥)

pub record Becomes (a : ℕ) (p : List ℕ) : Type 0 where
  -- what is from this end is taken off, broadcast or not
  pub from_this_end : 1 ≤ a → sender p ≡ a → rule_of a p ≡ TakenOff
  -- what another end sends, to whomever, is sent on
  pub from_another : sender p ≢ a → sender p ≢ 0 → rule_of a p ≡ SentOn
  -- what is for another is sent on
  pub for_another : sender p ≢ a → is_broadcast p ≡ false → receiver p ≢ a → rule_of a p ≡ SentOn
  -- with no address, everything but the two broadcasts is sent on
  pub with_no_address : a ≡ 0 → Plain a p → rule_of a p ≡ SentOn
  -- so is every other broadcast, with an address too
  pub other_broadcast : sender p ≢ a → is_broadcast p ≡ true → Plain a p → rule_of a p ≡ SentOn
  -- what nobody but the joystick, with address 0, sends to this end is for it
  pub for_this_end : 1 ≤ a → sender p ≡ 0 → is_broadcast p ≡ false → receiver p ≡ a → rule_number (rule_of a p) ≡ 5

-- at any address, of any whole packet
abbrev pub WhatBecomesOfPackets : Type 0
WhatBecomesOfPackets = (a : ℕ) (p : List ℕ) → a ≤ 7 → is_packet p ≡ true → Becomes a p
