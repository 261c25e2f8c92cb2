-- Every packet is framed, and every FF finds the line again.
use Rattle.std.proofs.Common.{◌≡◌, ℕ, ◌+◌, ◌≤◌, true, List, [], ◌∷◌, ◌++◌, length, Some, Ok, refl, append_assoc, arith, length-append}
use Rattle.std.proofs.lemmas.Grind.{common_steps}
use Rattle.wire.specs.Framing.{Held, none, begun, skipping, held_after}
use Rattle.wire.specs.Packets.{closes}
use Rattle.wire.proofs.Forms.{packet_some}
use Rattle.wire.specs.Theorems.{held_after_all, events, at_last, EveryPacketIsFramed, TheLineIsFoundAgain}

-- from the front of a packet on, its rest
record Rest (front rest : List ℕ) : Type 0 where
  left : held_after_all (begun front) rest ≡ none
  told : events (begun front) rest ≡ at_last (Ok (Some (front ++ rest))) rest

rests : (front rest : List ℕ) → closes rest ≡ true → 1 ≤ length front → 3 ≤ length front + length rest → length front + length rest ≤ 16 → Rest front rest
rests front [] c s l m = cc
rests front (b ∷ []) c s l m = record { left = grind (arith, common_steps); told = grind (arith, common_steps) }
rests front (b ∷ d ∷ rest) c s l m =
    let n : length (front ++ b ∷ []) ≡ length front + 1 = simp length-append in
    let q : closes (d ∷ rest) ≡ true = grind (arith, common_steps) in
    let r = rests (front ++ b ∷ []) (d ∷ rest) q (omega arith) (omega arith) (omega arith) in
    let a : (front ++ b ∷ []) ++ d ∷ rest ≡ front ++ b ∷ d ∷ rest = append_assoc front (b ∷ []) (d ∷ rest) in
    record { left = grind (arith, common_steps, r.left); told = grind (arith, common_steps, r.told, a) }

pub every_packet_is_framed : EveryPacketIsFramed
every_packet_is_framed [] h = cc
every_packet_is_framed (b ∷ []) h = absurd (omega (arith, packet_some (b ∷ []) h))
every_packet_is_framed (b ∷ d ∷ bs) h =
    let c : closes (d ∷ bs) ≡ true = grind (arith, common_steps) in
    let l = packet_some (b ∷ d ∷ bs) h in
    let m : 1 + length (d ∷ bs) ≤ 16 = grind (arith, common_steps) in
    let r = rests (b ∷ []) (d ∷ bs) c (omega arith) (omega arith) m in
    record { left = grind (arith, common_steps, r.left); told = grind (arith, common_steps, r.told) }

ended : (h : Held) → held_after h 0xff ≡ none
ended none = refl
ended (begun bs) = refl
ended skipping = refl

pub the_line_is_found_again : TheLineIsFoundAgain
the_line_is_found_again h [] = ended h
the_line_is_found_again h (b ∷ bs) = the_line_is_found_again (held_after h b) bs
