-- What a packet is.
use Rattle.std.specs.Prelude.{ℕ, ◌-◌, Bool, true, false, not, ◌&&◌, List, [], ◌∷◌, length, take, drop, ◌==◌, nat_le}

-- from 80 to FE
abbrev pub is_header : ℕ → Bool
is_header b = nat_le 0x80 b && nat_le b 0xfe

-- no FF
abbrev pub no_end : List ℕ → Bool
no_end [] = true
no_end (b ∷ bs) = not (b == 0xff) && no_end bs

-- a packet that is begun: a header, and behind it no FF
abbrev pub is_begun : List ℕ → Bool
is_begun [] = false
is_begun (h ∷ bs) = is_header h && no_end bs

-- FF stands last, and only there
abbrev pub closes : List ℕ → Bool
closes [] = false
closes (b ∷ []) = b == 0xff
closes (b ∷ c ∷ bs) = not (b == 0xff) && closes (c ∷ bs)

-- 3 to 16 bytes: a header, a body of 1 to 14 bytes, and FF, which stands only last
abbrev pub is_packet : List ℕ → Bool
is_packet [] = false
is_packet (h ∷ bs) = is_header h && closes bs && nat_le 2 (length bs) && nat_le (length bs) 15

-- what stands between the header and the last FF
abbrev pub body_of : List ℕ → List ℕ
body_of p = take (length p - 2) (drop 1 p)
