-- How long a tick may be.
use Rattle.std.specs.Prelude.{ℕ, Bool, ◌&&◌, nat_le}

-- from a millisecond to a minute
abbrev pub is_length : ℕ → Bool
is_length n = nat_le 1 n && nat_le n 60000
