-- Packets tried, byte by byte at an end, and what the written rules make of them: the orders that the head is given, the
-- faults that are told, and the bytes that are sent.
use Rattle.std.specs.Prelude.{◌≡◌, ℕ, true, List, [], ◌∷◌, ◌++◌, pos, neg_ℤ, Some, None, Option}
use Rattle.end.specs.declared.faults.Cause.{Cause}
use Rattle.end.specs.Deeds.{Deed, nothing, clears, cancels, starts, displaces, ticks, sockets_after, both_idle}
use Rattle.end.specs.Faults.{cause_code}
use Rattle.end.specs.Sockets.{both_closed}
use Rattle.end.specs.States.{State}
use Rattle.end.specs.Steps.{heard_in}
use Rattle.fault.specs.declared.code.FaultCode.{FaultCode}
use Rattle.fault.specs.declared.code.Layer.TheVariants as layer
use Rattle.fault.specs.Faults.{fault_code}
use Rattle.head.specs.declared.order.Order.{Order}
use Rattle.head.specs.declared.order.Paces.{Paces}
use Rattle.head.specs.declared.setting.Setting.TheVariants.{Power, Zoom, ZoomDrive, Freeze, Mute, Pan, Tilt, PanDrive, TiltDrive}
use Rattle.head.specs.declared.target.Target.{Target}
use Rattle.head.specs.Meaning.{Meaning}
use Rattle.head.specs.Orders.{parts}
use Rattle.head.specs.Settings.{about}
use Rattle.rows.specs.Orders.{to, paces}
use Rattle.wire.specs.Framing.{none, held_after}

-- a head with pan and tilt and first values: power is on, and freeze off. No tick comes between the bytes, so that no
-- setting changes.
abbrev new_head : Meaning
new_head = record { setting = λ s. (about s).first; pantilt = true; slots = both_idle }

-- an end with this address, no packet begun and both sockets closed
abbrev at_address : ℕ → State
at_address a = record { head = new_head; address = a; held = none; sockets = both_closed }

abbrev state_after_byte : State → ℕ → State
state_after_byte s b =
    let o = heard_in s b in
    record { head = s.head; address = o.address; held = held_after s.held b; sockets = sockets_after o.deed s.sockets }

abbrev state_after_bytes : State → List ℕ → State
state_after_bytes s [] = s
state_after_bytes s (b ∷ bs) = state_after_bytes (state_after_byte s b) bs

-- an order that is given: the slot, the targets and the paces
pub record OrderGiven : Type 0 where
  pub slot : ℕ
  pub targets : List Target
  pub paces : Paces

-- what comes of bytes
pub record Effects : Type 0 where
  pub orders : List OrderGiven
  pub faults : List FaultCode
  pub sent : List ℕ

abbrev order_given : ℕ → Order → List OrderGiven
order_given y o = record { slot = y; targets = parts o.targets; paces = o.paces } ∷ []

abbrev orders_in : Deed → List OrderGiven
orders_in nothing = []
orders_in clears = []
orders_in (cancels y) = []
orders_in (starts y o) = order_given y o
orders_in (displaces y o) = order_given y o
orders_in (ticks e) = []

abbrev codes_of : Option Cause → List FaultCode
codes_of None = []
codes_of (Some f) = cause_code f ∷ []

abbrev effects : State → List ℕ → Effects
effects s [] = record { orders = []; faults = []; sent = [] }
effects s (b ∷ bs) =
    let o = heard_in s b in
    let e = effects (state_after_byte s b) bs in
    record { orders = orders_in o.deed ++ e.orders; faults = codes_of o.fault ++ e.faults; sent = o.sent ++ e.sent }

-- packets that come one behind the other at an end with this address, with what comes of each, and the address then
pub record Exchange : Type 0 where
  pub address : ℕ
  pub packets : List (List ℕ × Effects)
  pub leaves : ℕ

abbrev effects_of : State → List (List ℕ × Effects) → List Effects
effects_of s [] = []
effects_of s (p ∷ ps) = effects s p.0 ∷ effects_of (state_after_bytes s p.0) ps

abbrev effects_told : List (List ℕ × Effects) → List Effects
effects_told [] = []
effects_told (p ∷ ps) = p.1 ∷ effects_told ps

abbrev state_after_packets : State → List (List ℕ × Effects) → State
state_after_packets s [] = s
state_after_packets s (p ∷ ps) = state_after_packets (state_after_bytes s p.0) ps

-- The table.

-- an order for a slot; a fault; nothing but what is sent
abbrev gives : ℕ → List Target → Paces → List ℕ → Effects
gives y ts ps sent = record { orders = record { slot = y; targets = ts; paces = ps } ∷ []; faults = []; sent = sent }

abbrev faulty : FaultCode → List ℕ → Effects
faulty f sent = record { orders = []; faults = f ∷ []; sent = sent }

abbrev only_sends : List ℕ → Effects
only_sends sent = record { orders = []; faults = []; sent = sent }

-- acknowledgements in sockets 1 and 2, and the error of a packet that cannot be read
abbrev pub ack_1 : List ℕ
ack_1 = 0x90 ∷ 0x41 ∷ 0xff ∷ []

abbrev pub ack_2 : List ℕ
ack_2 = 0x90 ∷ 0x42 ∷ 0xff ∷ []

abbrev syntax : List ℕ
syntax = 0x90 ∷ 0x60 ∷ 0x02 ∷ 0xff ∷ []

-- zoom to four digits
abbrev zoom_to : ℕ → ℕ → ℕ → ℕ → List ℕ
zoom_to p q r s = 0x81 ∷ 0x01 ∷ 0x04 ∷ 0x47 ∷ p ∷ q ∷ r ∷ s ∷ 0xff ∷ []

abbrev pub zoom : List ℕ
zoom = zoom_to 1 0 0 0

abbrev pub mute : List ℕ
mute = 0x81 ∷ 0x01 ∷ 0x04 ∷ 0x75 ∷ 0x02 ∷ 0xff ∷ []

abbrev pub zoom_stop : List ℕ
zoom_stop = 0x81 ∷ 0x01 ∷ 0x04 ∷ 0x07 ∷ 0x00 ∷ 0xff ∷ []

-- the address w is asked for
abbrev pub address_to : ℕ → List ℕ
address_to w = 0x88 ∷ 0x30 ∷ w ∷ 0xff ∷ []

-- pan and tilt at paces 24 and 20, to the pan of four digits and the tilt 0500, with other bytes behind
abbrev pan_to : ℕ → ℕ → ℕ → ℕ → List ℕ → List ℕ
pan_to a b c d rest = 0x81 ∷ 0x01 ∷ 0x06 ∷ 0x02 ∷ 0x18 ∷ 0x14 ∷ a ∷ b ∷ c ∷ d ∷ 0x00 ∷ 0x05 ∷ 0x00 ∷ 0x00 ∷ rest

-- zoom 4,096 at this pace, in slot 1
abbrev zoom_given : ℕ → Effects
zoom_given pace = gives 1 (to Zoom (pos 4096) ∷ to ZoomDrive (pos 0) ∷ []) (paces pace 0 0) ack_1

abbrev one_packet : List ℕ → Effects → Exchange
one_packet p e = record { address = 1; packets = (p, e) ∷ []; leaves = 1 }

abbrev at_one : List (List ℕ × Effects) → Exchange
at_one ps = record { address = 1; packets = ps; leaves = 1 }

abbrev leaving : ℕ → List (List ℕ × Effects) → ℕ → Exchange
leaving a ps w = record { address = a; packets = ps; leaves = w }

-- pan -5,120 with tilt 1,280
abbrev pan_given : Effects
pan_given =
    gives 1 (to Pan (neg_ℤ (pos 5120)) ∷ to Tilt (pos 1280) ∷ to PanDrive (pos 0) ∷ to TiltDrive (pos 0) ∷ [])
    (paces 0 24 20) ack_1

-- at the address that was set, an inquiry is answered: zoom, with 7 as sender
abbrev asked_at_seven : List (List ℕ × Effects)
asked_at_seven =
    (address_to 7, only_sends (address_to 8))
    ∷ (0x87 ∷ 0x09 ∷ 0x04 ∷ 0x47 ∷ 0xff ∷ [], only_sends (0xf0 ∷ 0x50 ∷ 0 ∷ 0 ∷ 0 ∷ 0 ∷ 0xff ∷ []))
    ∷ []

-- a zoom and a mute take both sockets, and a third command is refused
abbrev third_refused : List (List ℕ × Effects)
third_refused =
    (zoom, zoom_given 4)
    ∷ (mute, gives 2 (to Mute (pos 2) ∷ []) (paces 0 0 0) ack_2)
    ∷ (mute, only_sends (0x90 ∷ 0x60 ∷ 0x03 ∷ 0xff ∷ []))
    ∷ []

-- a zoom stop displaces the zoom in socket 1, tells so, and is in socket 2
abbrev zoom_displaced : List (List ℕ × Effects)
zoom_displaced =
    (zoom, zoom_given 4)
    ∷ (zoom_stop, gives 2 (to ZoomDrive (pos 0) ∷ []) (paces 0 0 0) (0x90 ∷ 0x61 ∷ 0x04 ∷ 0xff ∷ 0x90 ∷ 0x42 ∷ 0xff ∷ []))
    ∷ []

-- a cancel of the zoom, and once more
abbrev cancelled_twice : List (List ℕ × Effects)
cancelled_twice =
    (zoom, zoom_given 4)
    ∷ (0x81 ∷ 0x21 ∷ 0xff ∷ [], only_sends (0x90 ∷ 0x61 ∷ 0x04 ∷ 0xff ∷ []))
    ∷ (0x81 ∷ 0x21 ∷ 0xff ∷ [], only_sends (0x90 ∷ 0x61 ∷ 0x05 ∷ 0xff ∷ []))
    ∷ []

abbrev pub exchanges : List Exchange
exchanges =
    -- zoom 1000 without a speed is 4,096 at lens pace 4; with speed 2 it is 4,096 at pace 3
    one_packet zoom (zoom_given 4)
    ∷ one_packet (0x81 ∷ 0x01 ∷ 0x04 ∷ 0x47 ∷ 0x02 ∷ 0x01 ∷ 0x00 ∷ 0x00 ∷ 0x00 ∷ 0xff ∷ []) (zoom_given 3)
    -- zoom 4000 is admitted, and 4001 is not
    ∷ one_packet (zoom_to 4 0 0 0) (gives 1 (to Zoom (pos 16384) ∷ to ZoomDrive (pos 0) ∷ []) (paces 4 0 0) ack_1)
    ∷ one_packet (zoom_to 4 0 0 1) (faulty (fault_code 7 layer.Row 4) syntax)
    -- pan -5,120 is admitted, and a pan one below is not
    ∷ one_packet (pan_to 0x0e 0x0c 0 0 (0xff ∷ [])) pan_given
    ∷ one_packet (pan_to 0x0e 0x0b 0x0f 0x0f (0xff ∷ [])) (faulty (fault_code 7 layer.Row 4) syntax)
    -- sixteen bytes that end in FF are whole, here of a row that has fewer operands; with another last byte they are too
    -- long, which is not answered
    ∷ one_packet (pan_to 0x0e 0x0c 0 0 (0x00 ∷ 0xff ∷ [])) (faulty (fault_code 7 layer.Row 4) syntax)
    ∷ one_packet (pan_to 0x0e 0x0c 0 0 (0x00 ∷ 0x00 ∷ [])) (faulty (fault_code 4 layer.Framing 15) [])
    -- address 7 is set, and the next end is offered 8; 8 is no address, and is sent on
    ∷ leaving 1 ((address_to 7, only_sends (address_to 8)) ∷ []) 7
    ∷ leaving 1 ((address_to 8, only_sends (address_to 8)) ∷ []) 1
    ∷ leaving 0 ((address_to 7, only_sends (address_to 8)) ∷ []) 7
    ∷ leaving 0 ((address_to 8, only_sends (address_to 8)) ∷ []) 0
    ∷ leaving 0 asked_at_seven 7
    ∷ at_one third_refused
    ∷ at_one zoom_displaced
    ∷ at_one cancelled_twice
    ∷ []

abbrev AllAsTold : List Exchange → Type 0
AllAsTold [] = Unit {0}
AllAsTold (x ∷ xs) =
    (effects_of (at_address x.address) x.packets ≡ effects_told x.packets)
    × ((state_after_packets (at_address x.address) x.packets).address ≡ x.leaves)
    × AllAsTold xs

pub record TriedExchangesHold : Type 0 where
  pub power_on : new_head.setting Power ≡ pos 2
  pub freeze_off : new_head.setting Freeze ≡ pos 3
  pub as_told : AllAsTold exchanges
