-- The wild head as what a head means, and what a tick asks of one setting.
use Rattle.std.specs.Prelude.{◌≡◌, ℕ, true, ℤ, Some, None, Option}
use Rattle.head.specs.declared.outcome.Ending.{Ending}
use Rattle.head.specs.declared.outcome.Endings.{Endings}
use Rattle.head.specs.declared.setting.Axis.{Axis}
use Rattle.head.specs.declared.setting.Setting.{Setting}
use Rattle.head.specs.Settings.{about, in_range, drive}
use Rattle.head.specs.Meaning.{Meaning, Pulled, Driven, wanted, Unnamed}
use Rattle.head.specs.Values.{value_of}
use Rattle.head.specs.Works.{slots_of}
use Rattle.wild.specs.declared.wild.Wild.{Wild}

-- the number that its dice lie at
abbrev pub dice_of : Wild → ℕ
dice_of h = h.dice

abbrev pub wild_meaning : Wild → Meaning
wild_meaning h = record { setting = value_of h.settings; pantilt = h.pan_tilt; slots = slots_of h.works }

-- where an order that fared as e takes a setting from v: nowhere if it wants nothing of it, and else where every
-- head's may
abbrev pub Leads : Option ℤ → Option Axis → Option Ending → ℤ → Option ℤ → Type 0
Leads None x e v r = r ≡ None
Leads (Some t) x e v None = ⊥
Leads (Some t) x e v (Some w) = Pulled x e v t w

-- a setting that no order names, from f to w: a position follows its drive, another stands
pub record Alone (f : Setting → ℤ) (s : Setting) (w : ℤ) : Type 0 where
  pub ranged : in_range s w ≡ true
  pub driven : (a : Axis) → (about s).axis ≡ Some a → Driven (f (drive a)) (f s) w
  pub stands : (about s).axis ≡ None → w ≡ f s

-- what every head's tick that tells e asks of one setting, which it takes to w
pub record Goes (m : Meaning) (e : Endings) (s : Setting) (w : ℤ) : Type 0 where
  pub ranged : in_range s w ≡ true
  pub by_one : (t : ℤ) → wanted m.slots.one s ≡ Some t → Pulled (about s).axis e.one (m.setting s) t w
  pub by_two : (t : ℤ) → wanted m.slots.two s ≡ Some t → Pulled (about s).axis e.two (m.setting s) t w
  pub driven : (a : Axis) → Unnamed m s → (about s).axis ≡ Some a → Driven (m.setting (drive a)) (m.setting s) w
  pub stands : Unnamed m s → (about s).axis ≡ None → w ≡ m.setting s
