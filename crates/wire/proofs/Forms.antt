-- What is known of the bytes of a packet, begun or whole.
use Rattle.std.proofs.Common.{◌≡◌, ◌≢◌, ℕ, ◌≤◌, true, List, [], ◌∷◌, ◌++◌, length, refl, arith, length-append}
use Rattle.std.proofs.lemmas.Grind.{common_steps}
use Rattle.wire.specs.declared.framer.State.{State}
use Rattle.wire.specs.declared.framer.State.TheVariants.{Begun}
use Rattle.wire.specs.States.{sound}
use Rattle.wire.specs.Packets.{no_end, is_begun, closes, is_packet}

no_end_more : (bs : List ℕ) (b : ℕ) → no_end bs ≡ true → b ≢ 0xff → no_end (bs ++ b ∷ []) ≡ true
no_end_more [] b h e = grind (arith, common_steps)
no_end_more (c ∷ bs) b h e = grind (arith, common_steps, no_end_more bs b)

-- one byte more of a packet that is begun
is_begun_more : (bs : List ℕ) (b : ℕ) → is_begun bs ≡ true → b ≢ 0xff → is_begun (bs ++ b ∷ []) ≡ true
is_begun_more [] b h e = cc
is_begun_more (c ∷ bs) b h e = grind (arith, common_steps, no_end_more bs b)

is_begun_some : (bs : List ℕ) → is_begun bs ≡ true → 1 ≤ length bs
is_begun_some [] h = cc
is_begun_some (c ∷ bs) h = omega arith

closes_last : (bs : List ℕ) → no_end bs ≡ true → closes (bs ++ 0xff ∷ []) ≡ true
closes_last [] h = refl
closes_last (b ∷ []) h = h
closes_last (b ∷ c ∷ bs) h = grind (arith, common_steps, closes_last (c ∷ bs))

-- FF makes it whole
whole : (bs : List ℕ) → is_begun bs ≡ true → 2 ≤ length bs → length bs ≤ 15 → is_packet (bs ++ 0xff ∷ []) ≡ true
whole [] h l m = cc
whole (c ∷ bs) h l m = grind (arith, common_steps, length-append, closes_last bs)

pub packet_some : (p : List ℕ) → is_packet p ≡ true → 3 ≤ length p
packet_some [] h = cc
packet_some (c ∷ bs) h = grind (arith, common_steps)

-- a framer that has begun a packet takes one byte more
pub begun_more : (s : State) (bs : List ℕ) (b : ℕ) → s ≡ Begun bs → sound s ≡ true → length bs ≢ 15 → b ≢ 0xff → sound (Begun (bs ++ b ∷ [])) ≡ true
begun_more s bs b i h l e =
    let k = rw i at h in grind (arith, common_steps, length-append, is_begun_more bs b, k)

-- or FF, and the packet is whole
pub begun_whole : (s : State) (bs : List ℕ) (b : ℕ) → s ≡ Begun bs → sound s ≡ true → length bs ≢ 1 → b ≡ 0xff → is_packet (bs ++ b ∷ []) ≡ true
begun_whole s bs b i h l e =
    let k = rw i at h in rw e (grind (arith, common_steps, is_begun_some bs, whole bs, k))
