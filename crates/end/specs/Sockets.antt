-- The two sockets of an end. A socket is closed, or open with the order that its command was read as.
use Rattle.std.specs.Prelude.{ℕ, Bool, true, false, if◌then◌else◌, not, ◌||◌, Some, None, Option, ◌==◌}
use Rattle.head.specs.declared.order.Order.{Order}
use Rattle.rules.specs.Modes.{powers_on}
use Rattle.end.specs.declared.socket.Sockets.{Sockets}
use Rattle.end.specs.declared.socket.Which.{Which}
use Rattle.end.specs.declared.socket.Which.TheVariants.{One, Two}

abbrev pub is_open : Option Order → Bool
is_open None = false
is_open (Some o) = true

-- the socket's order switches power on
abbrev pub powering : Option Order → Bool
powering None = false
powering (Some o) = powers_on o

-- the number of a socket, and the socket with a number
abbrev pub socket_number : Which → ℕ
socket_number One = 1
socket_number Two = 2

abbrev pub socket_numbered : ℕ → Option Which
socket_numbered y = if y == 1 then Some One else (if y == 2 then Some Two else None)

abbrev pub both_closed : Sockets
both_closed = record { one = None; two = None }

-- socket y; a number other than 1 and 2 is as good as closed
abbrev pub socket_at : Sockets → ℕ → Option Order
socket_at k y = if y == 1 then k.one else (if y == 2 then k.two else None)

-- with x as socket y
abbrev pub with_socket : Sockets → ℕ → Option Order → Sockets
with_socket k y x = record { one = if y == 1 then x else k.one; two = if y == 2 then x else k.two }

-- whether a command finds room: a socket is closed
abbrev pub finds_room : Sockets → Bool
finds_room k = not (is_open k.one) || not (is_open k.two)

-- the socket that a command gets: 1 if it is closed, else 2
abbrev pub free : Sockets → ℕ
free k = if is_open k.one then 2 else 1

abbrev pub powering_in : Sockets → Bool
powering_in k = powering k.one || powering k.two
