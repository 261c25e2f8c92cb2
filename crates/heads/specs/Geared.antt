-- Our heads as what heads mean, and what moves them.
use Rattle.std.specs.Prelude.{◌≡◌, ◌≢◌, ◌≤◌, ℕ, false, Result, OnOk, OnErr}
use Rattle.head.specs.declared.order.Order.{Order}
use Rattle.head.specs.declared.outcome.Endings.{Endings}
use Rattle.head.specs.declared.outcome.Refusal.{Refusal}
use Rattle.head.specs.Meaning.{Meaning, busy, put, reason_given, Started, Ticked, Dropped}
use Rattle.heads.specs.declared.gear.Gear.{Ghosts}
use Rattle.heads.specs.declared.geared.Geared.{Geared}
use Rattle.heads.specs.declared.motion.Motion.{Motion}
use Rattle.heads.specs.declared.motion.Motion.TheVariants.{Stepwise}
use Rattle.heads.specs.declared.rig.Rig.{Rig}
use Rattle.heads.specs.Exact.{TickedExactly}
use Rattle.heads.specs.Punctual.{is_jammed}
use Rattle.heads.specs.Rigs.{rig_meaning}

abbrev pub gear_of : {G : Type 0} {g : Ghosts G} → Geared G g → G
gear_of h = h.gear

abbrev pub rig_of : {G : Type 0} {g : Ghosts G} → Geared G g → Rig
rig_of h = h.rig

abbrev pub geared_meaning : {G : Type 0} {g : Ghosts G} → Geared G g → Meaning
geared_meaning {g = g} h = rig_meaning g.PAN_TILT h.rig

-- What a call does to such a head, which is what it means and more: the gear stays, nothing is left to choose, and where
-- nothing is done the head is the same.

pub record GearStarts {G : Type 0} {g : Ghosts G} (n : ℕ) (x : Geared G g) (y : ℕ) (o : Order)
    (r : Result (Unit {0}) Refusal) (z : Geared G g) : Type 0 where
  pub started : Started (geared_meaning x) y o (reason_given r) (geared_meaning z)
  -- the order has n ticks left
  pub ticks : OnOk r ((geared_meaning z).slots ≡ put (geared_meaning x).slots y (busy o n))
  -- which are not many
  pub few : OnOk r (n ≤ 640)
  pub gear : gear_of z ≡ gear_of x
  pub refused : OnErr r (rig_of z ≡ rig_of x)

pub record GearTicks {G : Type 0} {g : Ghosts G} (motion : Motion) (x : Geared G g) (e : Endings)
    (z : Geared G g) : Type 0 where
  pub ticked : Ticked (geared_meaning x) e (geared_meaning z)
  pub exact : TickedExactly motion (geared_meaning x) e (geared_meaning z)
  -- a head that moves by steps, and is not stalled, never jams
  pub arrives : motion ≡ Stepwise → (is_jammed e.one ≡ false) × (is_jammed e.two ≡ false)
  pub gear : gear_of z ≡ gear_of x

pub record GearDrops {G : Type 0} {g : Ghosts G} (x : Geared G g) (y : ℕ) (z : Geared G g) : Type 0 where
  pub dropped : Dropped (geared_meaning x) y (geared_meaning z)
  pub gear : gear_of z ≡ gear_of x
  pub no_slot : y ≢ 1 → y ≢ 2 → rig_of z ≡ rig_of x
