-- Runs that the book was tried on, and what the law does not let pass: the definitions held to their word.
use Rattle.std.specs.Prelude.{◌≡◌, ℕ, List, [], ◌∷◌, ◌++◌, Some}
use Rattle.end.specs.declared.call.Call.TheVariants.{Byte, Tick, Open}
use Rattle.end.specs.Book.{Entry, Seen, closed, working, book_fed}
use Rattle.end.specs.Exchanges.{ack_1, ack_2, address_to, mute, zoom, zoom_stop}
use Rattle.end.specs.Law.{SlotAgrees, WholePackets, InOrder, InTime}
use Rattle.end.specs.Records.{entry}
use Rattle.head.specs.declared.order.Order.{Order}
use Rattle.head.specs.Meaning.{idle, busy}
use Rattle.rows.specs.Requests.{read_as}

-- The book.

-- the bytes of a packet, each with a buffer of 16; only the last sends
abbrev bytes_in : List ℕ → List ℕ → List Entry
bytes_in [] sent = []
bytes_in (b ∷ []) sent = entry (Byte b) 16 sent ∷ []
bytes_in (b ∷ c ∷ bs) sent = bytes_in (c ∷ bs) sent ++ entry (Byte b) 16 [] ∷ []

-- what a run is made of, the oldest first
pub data Part : Type 0 where
  comes : List ℕ → List ℕ → Part
  ticks : List ℕ → Part
  -- a tick with a buffer under 16 bytes
  short_tick : Part
  asks : Part

abbrev entries : Part → List Entry
entries (comes p sent) = bytes_in p sent
entries (ticks sent) = entry Tick 16 sent ∷ []
entries short_tick = entry Tick 15 [] ∷ []
entries asks = entry Open 0 [] ∷ []

abbrev run_of : List Part → List Entry → List Entry
run_of [] h = h
run_of (x ∷ xs) h = run_of xs (entries x ++ h)

-- a run, and the address and the sockets that the book then has
pub record Reading : Type 0 where
  pub parts : List Part
  pub address : ℕ
  pub one : Seen
  pub two : Seen

abbrev reading : List Part → ℕ → Seen → Seen → Reading
reading ps a x y = record { parts = ps; address = a; one = x; two = y }

-- address 1 is set, and a zoom is acknowledged in socket 1
abbrev with_zoom_open : List Part → List Part
with_zoom_open ps = comes (address_to 1) (address_to 2) ∷ comes zoom ack_1 ∷ ps

-- a clear with this header
abbrev clear_at : ℕ → List ℕ
clear_at header = header ∷ 0x01 ∷ 0x00 ∷ 0x01 ∷ 0xff ∷ []

abbrev other_errors : List Part
other_errors =
    comes mute (0x90 ∷ 0x60 ∷ 0x03 ∷ 0xff ∷ [])
    ∷ comes mute (0x90 ∷ 0x61 ∷ 0x05 ∷ 0xff ∷ [])
    ∷ comes mute (0x90 ∷ 0x60 ∷ 0x41 ∷ 0xff ∷ [])
    ∷ []

abbrev said_by_others : List Part
said_by_others = comes (clear_at 0x82) (clear_at 0x82) ∷ comes (0xa0 ∷ 0x51 ∷ 0xff ∷ []) (0xa0 ∷ 0x51 ∷ 0xff ∷ []) ∷ []

abbrev pub readings : List Reading
readings =
    reading [] 0 closed closed
    ∷ reading (with_zoom_open []) 1 (working zoom 0) closed
    -- only accepted ticks count, and asking is nothing to the book
    ∷ reading (with_zoom_open (ticks [] ∷ short_tick ∷ asks ∷ ticks [] ∷ [])) 1 (working zoom 2) closed
    -- the three endings close their socket, and not the other
    ∷ reading (with_zoom_open (comes mute ack_2 ∷ ticks (0x90 ∷ 0x52 ∷ 0xff ∷ []) ∷ [])) 1 (working zoom 1) closed
    ∷ reading (with_zoom_open (comes mute ack_2 ∷ ticks (0x90 ∷ 0x61 ∷ 0x41 ∷ 0xff ∷ []) ∷ [])) 1 closed (working mute 1)
    ∷ reading (with_zoom_open (comes (0x81 ∷ 0x21 ∷ 0xff ∷ []) (0x90 ∷ 0x61 ∷ 0x04 ∷ 0xff ∷ []) ∷ [])) 1 closed closed
    -- an ending and an acknowledgement, read in turn
    ∷ reading (with_zoom_open (comes zoom_stop (0x90 ∷ 0x61 ∷ 0x04 ∷ 0xff ∷ ack_2) ∷ [])) 1 closed (working zoom_stop 0)
    -- the counts rise before the packets of a tick are read
    ∷ reading (with_zoom_open (ticks (0x90 ∷ 0x51 ∷ 0xff ∷ 0x90 ∷ 0x42 ∷ 0xff ∷ []) ∷ [])) 1 closed (working zoom 0)
    -- errors that are no endings
    ∷ reading (with_zoom_open other_errors) 1 (working zoom 0) closed
    -- the three clearings close both, whatever is sent
    ∷ reading (with_zoom_open (comes (clear_at 0x81) (0x90 ∷ 0x50 ∷ 0xff ∷ []) ∷ [])) 1 closed closed
    ∷ reading (with_zoom_open (comes (clear_at 0x88) (clear_at 0x88) ∷ [])) 1 closed closed
    ∷ reading (with_zoom_open (comes (address_to 1) (address_to 2) ∷ [])) 1 closed closed
    -- a clear for another address is none, nor is what another camera says
    ∷ reading (with_zoom_open said_by_others) 1 (working zoom 0) closed
    -- the packets sent are read by the address that was just set
    ∷ reading (comes (address_to 1) (address_to 2) ∷ comes (address_to 2) (0xa0 ∷ 0x41 ∷ 0xff ∷ []) ∷ [])
    2 (working (address_to 2) 0) closed
    ∷ reading (comes (address_to 1) (address_to 2) ∷ comes (address_to 2) ack_1 ∷ []) 2 closed closed
    -- with no address there are no own packets
    ∷ reading (comes zoom (0x80 ∷ 0x41 ∷ 0xff ∷ []) ∷ []) 0 closed closed
    -- a packet that is too long is no packet, and the one behind it is read
    ∷ reading
    (with_zoom_open (comes (0x81 ∷ 0 ∷ 0 ∷ 0 ∷ 0 ∷ 0 ∷ 0 ∷ 0 ∷ 0 ∷ 0 ∷ 0 ∷ 0 ∷ 0 ∷ 0 ∷ 0 ∷ 0 ∷ 0xff ∷ []) ack_2 ∷ []))
    1 (working zoom 0) (working zoom 0)
    ∷ []

abbrev books : List Reading → List (ℕ × Seen × Seen)
books [] = []
books (r ∷ rs) = let k = book_fed (run_of r.parts []) in (k.address, k.one, k.two) ∷ books rs

abbrev books_wanted : List Reading → List (ℕ × Seen × Seen)
books_wanted [] = []
books_wanted (r ∷ rs) = (r.address, r.one, r.two) ∷ books_wanted rs

abbrev pub TheBookReadsRuns : Type 0
TheBookReadsRuns = books readings ≡ books_wanted readings

-- The law.

-- what it does not let pass
pub record TheLawExcludes : Type 0 where
  pub no_end : WholePackets 2 (ack_1 ++ 0x90 ∷ 0x52 ∷ []) → ⊥
  pub no_body : WholePackets 2 (0x90 ∷ 0xff ∷ []) → ⊥
  pub three_packets : WholePackets 2 (ack_1 ++ ack_2 ++ ack_1) → ⊥
  pub second_acknowledgement : InOrder 1 1 zoom (ack_1 ∷ []) (working zoom 0) → ⊥
  pub ending_of_none : InOrder 1 1 zoom ((0x90 ∷ 0x51 ∷ 0xff ∷ []) ∷ []) closed → ⊥
  pub ending_twice :
      InOrder 1 1 zoom ((0x90 ∷ 0x61 ∷ 0x04 ∷ 0xff ∷ []) ∷ (0x90 ∷ 0x51 ∷ 0xff ∷ []) ∷ []) (working zoom 0) → ⊥
  pub thousand_ticks : InTime (working zoom 1000) → ⊥
  pub open_with_no_order : SlotAgrees (working zoom 0) idle → ⊥
  pub order_with_none_open : (o : Order) (n : ℕ) → SlotAgrees closed (busy o n) → ⊥
  -- a mute in the slot of a zoom
  pub another_order : (o : Order) (n : ℕ) → read_as mute ≡ Some o → SlotAgrees (working zoom 0) (busy o n) → ⊥
