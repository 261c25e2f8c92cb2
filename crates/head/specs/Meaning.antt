-- What a head means: its settings, whether it has pan and tilt, and its two slots;
-- and what looking, starting, ticking and dropping do to that.
use Rattle.std.specs.Prelude.{◌≡◌, ℕ, ◌-◌, ◌<◌, ◌≤◌, Bool, false, if◌then◌else◌, not, ◌&&◌, ◌||◌, ◌⊎◌, ℤ, pos, ◌≤ℤ◌}
use Rattle.std.specs.Prelude.{◌<ℤ◌, is_some, Some, None, Ok, Err, Option, Result, ◌==◌, nat_lt, [], ◌∷◌}
use Rattle.std.specs.Borrow.{Bor}
use Rattle.std.specs.Option.{option_map}
use Rattle.head.specs.declared.order.Order.{Order}
use Rattle.head.specs.declared.outcome.Ending.{Ending}
use Rattle.head.specs.declared.outcome.Ending.TheVariants.{Done, Jammed}
use Rattle.head.specs.declared.outcome.Endings.{Endings}
use Rattle.head.specs.declared.outcome.Refusal.{Refusal}
use Rattle.head.specs.declared.outcome.Refusal.TheVariants.{NoSuchSlot, SlotBusy, OutOfRange, NoPanTilt, SettingInUse}
use Rattle.head.specs.declared.setting.Axis.{Axis}
use Rattle.head.specs.declared.setting.Setting.{Setting}
use Rattle.head.specs.Settings.{about, position, drive}
use Rattle.head.specs.Cases.{first_case}
use Rattle.head.specs.Orders.{parts, wants, all_in_range, any_pan_tilt, shares}

-- A slot is idle, or holds an order with ticks left.
pub data Slot : Type 0 where
  idle : Slot
  busy : Order → ℕ → Slot

pub record Slots : Type 0 where
  pub one : Slot
  pub two : Slot

pub record Meaning : Type 0 where
  pub setting : Setting → ℤ
  pub pantilt : Bool
  pub slots : Slots

-- a head as its meaning, by the ghost members of its traits
abbrev pub view : {S : Type 0} → (S → Setting → ℤ) → (S → Bool) → (S → Slots) → S → Meaning
view f p g x = record { setting = f x; pantilt = p x; slots = g x }

-- slot y; a number other than 1 and 2 is no slot, and so never busy
abbrev pub at : Slots → ℕ → Slot
at s y = if y == 1 then s.one else (if y == 2 then s.two else idle)

-- with b in slot y
abbrev pub put : Slots → ℕ → Slot → Slots
put s y b = record { one = if y == 1 then b else s.one; two = if y == 2 then b else s.two }

abbrev pub left_of : Slot → ℕ
left_of idle = 0
left_of (busy o n) = n

abbrev pub order_in : Slot → Option Order
order_in idle = None
order_in (busy o n) = Some o

-- a slot with work has 1 to 1000 ticks left
abbrev pub Timed : Slot → Type 0
Timed idle = Unit {0}
Timed (busy o n) = (1 ≤ n) × (n ≤ 1000)

-- Start.

-- the numbers of the reasons to turn an order down
abbrev pub refusal_number : Refusal → ℕ
refusal_number NoSuchSlot = 1
refusal_number SlotBusy = 2
refusal_number OutOfRange = 3
refusal_number NoPanTilt = 4
refusal_number SettingInUse = 5

-- the number of the reason, and 0 for an order that was taken
abbrev pub reason_given : Result (Unit {0}) Refusal → ℕ
reason_given (Ok u) = 0
reason_given (Err e) = refusal_number e

abbrev pub in_use : Option Order → Order → Bool
in_use None o = false
in_use (Some p) o = shares (parts o.targets) (parts p.targets)

-- the number of the first reason to turn order o down for slot y, by pan and tilt and the orders in the slots;
-- 0 for none
abbrev pub reason : Bool → Option Order → Option Order → ℕ → Order → ℕ
reason pantilt one two y o =
    first_case (
    (not (y == 1 || y == 2), 1)
    ∷ (is_some (if y == 1 then one else two), 2)
    ∷ (not (all_in_range (parts o.targets)), 3)
    ∷ (not pantilt && any_pan_tilt (parts o.targets), 4)
    ∷ (in_use (if y == 1 then two else one) o, 5)
    ∷ []
    ) 0

-- an order that is lent, where there is one
abbrev pub lent : Option (Bor Order) → Option Order
lent x = option_map (λ o. o.now) x

abbrev pub refusal : Meaning → ℕ → Order → ℕ
refusal m y o = reason m.pantilt (order_in m.slots.one) (order_in m.slots.two) y o

-- settings, pan and tilt as before
pub record Kept (m m' : Meaning) : Type 0 where
  pub setting : (s : Setting) → m'.setting s ≡ m.setting s
  pub pantilt : m'.pantilt ≡ m.pantilt

-- slot y holds the order, with ticks left that the head chooses
pub record Holds (m : Meaning) (y : ℕ) (o : Order) (m' : Meaning) : Type 0 where
  pub ticks : ℕ
  pub some : 1 ≤ ticks
  pub few : ticks ≤ 1000
  pub held : m'.slots ≡ put m.slots y (busy o ticks)

-- the order is turned down with the first reason that fits, and the head is as before; or its slot holds it
pub record Started (m : Meaning) (y : ℕ) (o : Order) (answer : ℕ) (m' : Meaning) : Type 0 where
  pub first_reason : answer ≡ refusal m y o
  pub kept : Kept m m'
  pub refused : 1 ≤ answer → m'.slots ≡ m.slots
  pub taken : answer ≡ 0 → Holds m y o m'

-- Drop.

-- slot y is idle and all else is as before; a number that is no slot changes nothing
pub record Dropped (m : Meaning) (y : ℕ) (m' : Meaning) : Type 0 where
  pub kept : Kept m m'
  pub now_idle : m'.slots ≡ put m.slots y idle

-- Tick.

-- what a tick leaves in a slot
abbrev pub rest : Slot → Slot
rest idle = idle
rest (busy o n) = if nat_lt 1 n then busy o (n - 1) else idle

-- a slot over a tick that tells e of it: one tick fewer, or idle and told after the last
abbrev pub SlotTicked : Slot → Option Ending → Slot → Type 0
SlotTicked idle None b = b ≡ idle
SlotTicked idle (Some e) b = ⊥
SlotTicked (busy o n) None b = (1 < n) × (b ≡ busy o (n - 1))
SlotTicked (busy o n) (Some e) b = (n ≡ 1) × (b ≡ idle)

-- w lies between v and t
abbrev pub Between : ℤ → ℤ → ℤ → Type 0
Between v w t = ((v ≤ℤ w) × (w ≤ℤ t)) ⊎ ((t ≤ℤ w) × (w ≤ℤ v))

-- a named setting from v to w, where its order wants t and fared as e: a position lies between, another stands, and
-- done is the target
abbrev pub Pulled : Option Axis → Option Ending → ℤ → ℤ → ℤ → Type 0
Pulled (Some a) None v t w = Between v w t
Pulled (Some a) (Some Done) v t w = w ≡ t
Pulled (Some a) (Some Jammed) v t w = Between v w t
Pulled None None v t w = w ≡ v
Pulled None (Some Done) v t w = w ≡ t
Pulled None (Some Jammed) v t w = w ≡ v

-- a position from v to w that follows the sign of its drive d
pub record Driven (d v w : ℤ) : Type 0 where
  pub rises : pos 0 <ℤ d → v ≤ℤ w
  pub falls : d <ℤ pos 0 → w ≤ℤ v
  pub stands : d ≡ pos 0 → w ≡ v

-- the value that a slot's order wants for a setting, if it names it
abbrev pub wanted : Slot → Setting → Option ℤ
wanted idle s = None
wanted (busy o n) s = wants (parts o.targets) s

-- no setting is named by the orders of both slots
abbrev pub Apart : Slot → Slot → Type 0
Apart a b = (s : Setting) → (is_some (wanted a s) && is_some (wanted b s)) ≡ false

-- no order names the setting
pub record Unnamed (m : Meaning) (s : Setting) : Type 0 where
  pub by_one : wanted m.slots.one s ≡ None
  pub by_two : wanted m.slots.two s ≡ None

-- A tick that tells the endings e. It says nothing of a setting that no order names and that is free to move by itself.
pub record TickedBut (free : Setting → Type 0) (m : Meaning) (e : Endings) (m' : Meaning) : Type 0 where
  pub pantilt : m'.pantilt ≡ m.pantilt
  pub one : SlotTicked m.slots.one e.one m'.slots.one
  pub two : SlotTicked m.slots.two e.two m'.slots.two
  pub by_one : (s : Setting) (t : ℤ) → wanted m.slots.one s ≡ Some t
      → Pulled (about s).axis e.one (m.setting s) t (m'.setting s)
  pub by_two : (s : Setting) (t : ℤ) → wanted m.slots.two s ≡ Some t
      → Pulled (about s).axis e.two (m.setting s) t (m'.setting s)
  pub driven : (a : Axis) → (free (position a) → ⊥) → Unnamed m (position a)
      → Driven (m.setting (drive a)) (m.setting (position a)) (m'.setting (position a))
  pub stands : (s : Setting) → (free s → ⊥) → Unnamed m s → (about s).axis ≡ None → m'.setting s ≡ m.setting s

-- the settings that may move by themselves at a tick that begins as m: none
abbrev pub free_at : Meaning → Setting → Type 0
free_at m s = ⊥

-- what every head's tick does
abbrev pub Ticked : Meaning → Endings → Meaning → Type 0
Ticked m e m' = TickedBut (free_at m) m e m'

-- a tick that leaves no setting free, whatever other heads may do
abbrev pub Strict : Meaning → Endings → Meaning → Type 0
Strict m e m' = TickedBut (λ s. ⊥) m e m'

-- What a head's relations between its own values come to, for a head whose traits have the members f, p and g.

abbrev pub StartMeans : {S : Type 0} → (S → Setting → ℤ) → (S → Bool) → (S → Slots)
    → (S → ℕ → Order → Result (Unit {0}) Refusal → S → Type 0) → Type 0
StartMeans {S = S} f p g started =
    (x : S) (y : ℕ) (o : Order) (r : Result (Unit {0}) Refusal) (x' : S) → started x y o r x'
    → Started (view f p g x) y o (reason_given r) (view f p g x')

abbrev pub TickMeans : {S : Type 0} → (S → Setting → ℤ) → (S → Bool) → (S → Slots) → (S → Endings → S → Type 0) → Type 0
TickMeans {S = S} f p g ticked =
    (x : S) (e : Endings) (x' : S) → ticked x e x' → Ticked (view f p g x) e (view f p g x')

abbrev pub DropMeans : {S : Type 0} → (S → Setting → ℤ) → (S → Bool) → (S → Slots) → (S → ℕ → S → Type 0) → Type 0
DropMeans {S = S} f p g dropped =
    (x : S) (y : ℕ) (x' : S) → dropped x y x' → Dropped (view f p g x) y (view f p g x')
