-- An end and its head, as the rules speak of them.
use Rattle.std.specs.Prelude.{◌≡◌, ℕ, true}
use Rattle.end.specs.declared.end.End.{End}
use Rattle.end.specs.declared.socket.Sockets.{Sockets}
use Rattle.head.specs.declared.setting.Setting.{Setting}
use Rattle.head.specs.declared.traits.Head.{Ghosts as HeadGhosts}
use Rattle.head.specs.declared.traits.Look.{Ghosts as LookGhosts}
use Rattle.head.specs.Meaning as head
use Rattle.head.specs.Settings.{in_range}
use Rattle.wire.specs.Framing.{Held}

pub record State : Type 0 where
  -- what the head means: settings, pan and tilt, slots
  pub head : head.Meaning
  -- 1 to 7, or 0 while none is set
  pub address : ℕ
  -- what stands between bytes
  pub held : Held
  pub sockets : Sockets

-- every setting of the head is in its range, as of every head
pub record InRange (s : State) : Type 0 where
  pub each : (t : Setting) → in_range t (s.head.setting t) ≡ true

-- a head by the ghost members of its traits
abbrev pub meaning : {H : Type 0} → LookGhosts H → (H → head.Slots) → H → head.Meaning
meaning l slots x = head.view l.setting l.pantilt slots x

-- No model of End: its value would need a code, and for the settings, a function, the check finds none (`Coded (Setting → ℤ)`).
abbrev pub state : {H : Type 0} {h : HeadGhosts H} {l : LookGhosts H} → End H h l → State
state {h = h} {l = l} e =
    record { head = meaning l h.slots e.head; address = e.address; held = e.framer; sockets = e.sockets }
