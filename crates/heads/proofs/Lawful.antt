-- A tick of our heads is one of every head.
use Rattle.std.proofs.Common.{◌≡◌, ℕ, Bool, true, false, cond, ◌&&◌, ltb, ℤ, pos, negsuc, ◌+ℤ◌, ◌*ℤ◌, ◌≤ℤ◌, ◌<ℤ◌, Some, None, Option, sym, refl, ap, ◌∙◌, subst, arith}
use lib.Signed.{le_z}
use Rattle.std.proofs.lemmas.Int.{ints, clamps}
use Rattle.std.proofs.lemmas.Bool.{and_parts, ltb-true, ltb-false}
use Rattle.std.specs.Int.{int_min, int_max}
use Rattle.head.specs.declared.order.Order.{Order}
use Rattle.head.specs.declared.outcome.Ending.{Ending}
use Rattle.head.specs.declared.outcome.Ending.TheVariants.{Done, Jammed}
use Rattle.head.specs.declared.outcome.Endings.{Endings}
use Rattle.head.specs.declared.setting.Axis.{Axis}
use Rattle.head.specs.declared.setting.Axis.TheVariants.{Zoom, Focus, Pan, Tilt}
use Rattle.head.specs.declared.setting.Setting.{Setting}
use Rattle.head.specs.Settings.{about, in_range, position, drive}
use Rattle.head.specs.Orders.{parts, wants}
use Rattle.head.specs.Meaning.{Slot, idle, busy, Timed, rest, SlotTicked, Pulled, Driven, Meaning, wanted, Apart, Strict}
use Rattle.head.proofs.Apart.{other_none}
use Rattle.head.proofs.Options.{no_some}
use Rattle.head.proofs.Tables.{position_is, axis_is}
use Rattle.heads.specs.declared.motion.Motion.{Motion}
use Rattle.heads.specs.declared.motion.Motion.TheVariants.{AtOnce, Stepwise, Stalled}
use Rattle.heads.specs.Motion.{moved, driven, unit, held_to_range}
use Rattle.heads.specs.Exact.{is_at, there, arrived, ending_told, pulled_to, pulled, unnamed, or_value, value_after, TickedExactly}
use Rattle.heads.specs.Rigs.{arrives, foretold}
use Rattle.heads.proofs.Axes.{each_of}
use Rattle.heads.proofs.Moves.{moved_between}

-- Drives.

held_follows : (low high v d x : ℤ) → (le_z low v && le_z v high) ≡ true → (pos 0 <ℤ d → pos 0 ≤ℤ x) → (d <ℤ pos 0 → x ≤ℤ pos 0) → (d ≡ pos 0 → x ≡ pos 0)
    → Driven d v (int_min (int_max (v +ℤ x) low) high)
held_follows low high v d x h up down still =
    let (l, r) = and_parts (le_z low v) (le_z v high) h in
    record {
      rises = λ p. let u = up p in omega (arith, ints, clamps);
      falls = λ p. let u = down p in omega (arith, ints, clamps);
      stands = λ p. let u = still p in omega (arith, ints, clamps);
    }

held_driven : (a : Axis) (v d : ℤ) → in_range (position a) v ≡ true → Driven d v (held_to_range (about (position a)).range (v +ℤ pos (unit a) *ℤ d))
unfolding in_range
held_driven Zoom v d h = held_follows (pos 0) (pos 16384) v d (pos 128 *ℤ d) h (λ p. omega (arith, ints)) (λ p. omega (arith, ints)) (λ p. omega (arith, ints))
held_driven Focus v d h = held_follows (pos 0) (pos 65535) v d (pos 128 *ℤ d) h (λ p. omega (arith, ints)) (λ p. omega (arith, ints)) (λ p. omega (arith, ints))
held_driven Pan v d h = held_follows (negsuc 5119) (pos 5120) v d (pos 16 *ℤ d) h (λ p. omega (arith, ints)) (λ p. omega (arith, ints)) (λ p. omega (arith, ints))
held_driven Tilt v d h = held_follows (negsuc 1279) (pos 1280) v d (pos 16 *ℤ d) h (λ p. omega (arith, ints)) (λ p. omega (arith, ints)) (λ p. omega (arith, ints))

-- a drive moves a position as its sign says
pub driven_lawful : (m : Motion) (a : Axis) (v d : ℤ) → in_range (position a) v ≡ true → Driven d v (driven m a v d)
driven_lawful AtOnce a v d h = held_driven a v d h
driven_lawful Stepwise a v d h = held_driven a v d h
driven_lawful Stalled a v d h = record { rises = λ p. omega (arith, ints); falls = λ p. omega (arith, ints); stands = λ p. refl }

-- Endings.

is_there : (v t : ℤ) → is_at v (Some t) ≡ true → v ≡ t
is_there v t h = let (p, q) = and_parts (le_z v t) (le_z t v) h in omega (arith, ints)

-- an order that is done has its positions at their targets
done_arrived : (late all : Bool) → Some Done ≡ cond late None (Some (cond all Done Jammed)) → all ≡ true
done_arrived true all e = cc
done_arrived false true e = refl
done_arrived false false e = cc

-- a slot over a tick
slot_ticked : (b : Slot) (f : Setting → ℤ) → Timed b → SlotTicked b (ending_told b f) (rest b)
slot_ticked idle f t = refl
slot_ticked (busy o n) f t = by (ltb 1 n) refl
  where
    by : (late : Bool) → ltb 1 n ≡ late → SlotTicked (busy o n) (ending_told (busy o n) f) (rest (busy o n))
    by true e = simp e (ltb-true 1 n e, refl)
    by false e = simp e (omega (arith, t.0, ltb-false 1 n e), refl)

-- Named settings.

-- a named setting of a slot's order goes where every head's may
pulled_lawful : (m : Motion) (o : Order) (n : ℕ) (x : Option Axis) (e : Option Ending) (f f' : Setting → ℤ) (s : Setting) (t : ℤ) → (about s).axis ≡ x
    → wants (parts o.targets) s ≡ Some t → e ≡ ending_told (busy o n) f' → f' s ≡ pulled_to m o.paces x e (f s) t → Pulled x e (f s) t (f' s)
pulled_lawful m o n (Some a) None f f' s t i w g v = rw v (moved_between m o.paces a (f s) t)
pulled_lawful m o n (Some a) (Some Jammed) f f' s t i w g v = rw v (moved_between m o.paces a (f s) t)
pulled_lawful m o n (Some a) (Some Done) f f' s t i w g v =
    let h = each_of (there o f') (done_arrived (ltb 1 n) (arrived o f') g) a in
    let k = subst (λ (z : Setting). is_at (f' z) (wants (parts o.targets) z) ≡ true) (position_is s a i) h in
    is_there (f' s) t (simp w at k)
pulled_lawful m o n None None f f' s t i w g v = v
pulled_lawful m o n None (Some Jammed) f f' s t i w g v = v
pulled_lawful m o n None (Some Done) f f' s t i w g v = v

-- where the order names the setting, and is the first that does
pulled_first : (m : Motion) (o : Order) (n : ℕ) (e : Option Ending) (s : Setting) (v t r : ℤ) → wants (parts o.targets) s ≡ Some t
    → or_value (pulled m (busy o n) e s v) r ≡ pulled_to m o.paces (about s).axis e v t
pulled_first m o n e s v t r w = simp w

not_pulled : (m : Motion) (b : Slot) (e : Option Ending) (s : Setting) (v r : ℤ) → wanted b s ≡ None → or_value (pulled m b e s v) r ≡ r
not_pulled m idle e s v r w = refl
not_pulled m (busy o n) e s v r w = simp w

-- where b is the slot whose order names the setting and r is what the others say
slot_lawful : (m : Motion) (b : Slot) (e : Option Ending) (f f' : Setting → ℤ) (s : Setting) (t r : ℤ) → wanted b s ≡ Some t → e ≡ ending_told b f'
    → f' s ≡ or_value (pulled m b e s (f s)) r → Pulled (about s).axis e (f s) t (f' s)
slot_lawful m idle e f f' s t r w g v = no_some w
slot_lawful m (busy o n) e f f' s t r w g v = pulled_lawful m o n (about s).axis e f f' s t refl w g (v ∙ pulled_first m o n e s (f s) t r w)

pub strict : (motion : Motion) (m m' : Meaning) (e : Endings) → ((s : Setting) → in_range s (m.setting s) ≡ true) → Timed m.slots.one → Timed m.slots.two
    → Apart m.slots.one m.slots.two → TickedExactly motion m e m' → Strict m e m'
strict motion m m' e ranged t₁ t₂ apart ran = record {
  pantilt = ran.pantilt;
  one = simp (ran.told_one, ran.one) (slot_ticked m.slots.one m'.setting t₁);
  two = simp (ran.told_two, ran.two) (slot_ticked m.slots.two m'.setting t₂);
  by_one = λ s t w. slot_lawful motion m.slots.one e.one m.setting m'.setting s t
      (or_value (pulled motion m.slots.two e.two s (m.setting s)) (unnamed motion (about s).axis m.setting s)) w ran.told_one (ran.setting s);
  by_two = λ s t w.
      let n = other_none (wanted m.slots.one s) (wanted m.slots.two s) t (apart s) w in
      let r = or_value (pulled motion m.slots.two e.two s (m.setting s)) (unnamed motion (about s).axis m.setting s) in
      slot_lawful motion m.slots.two e.two m.setting m'.setting s t (unnamed motion (about s).axis m.setting s) w ran.told_two
      (ran.setting s ∙ not_pulled motion m.slots.one e.one s (m.setting s) r n);
  driven = λ a free u.
      let s = position a in
      let f = m.setting in
      let g = ran.setting s ∙ not_pulled motion m.slots.one e.one s (f s) (or_value (pulled motion m.slots.two e.two s (f s)) (unnamed motion (about s).axis f s)) u.by_one
      ∙ not_pulled motion m.slots.two e.two s (f s) (unnamed motion (about s).axis f s) u.by_two
      ∙ ap (λ (x : Option Axis). unnamed motion x f s) (axis_is a) in
      subst (λ (w : ℤ). Driven (f (drive a)) (f s) w) (sym g) (driven_lawful motion a (f s) (f (drive a)) (ranged s));
  stands = λ s free u i.
      let f = m.setting in
      ran.setting s ∙ not_pulled motion m.slots.one e.one s (f s) (or_value (pulled motion m.slots.two e.two s (f s)) (unnamed motion (about s).axis f s)) u.by_one
      ∙ not_pulled motion m.slots.two e.two s (f s) (unnamed motion (about s).axis f s) u.by_two
      ∙ ap (λ (x : Option Axis). unnamed motion x f s) i;
}

-- Positions that an order names.

-- a tick takes each from f to f' as the motion has it
abbrev pub Moved : Motion → Slot → (Setting → ℤ) → (Setting → ℤ) → Type 0
Moved m idle f f' = Unit {0}
Moved m (busy o n) f f' = (a : Axis) (t : ℤ) → wants (parts o.targets) (position a) ≡ Some t → f' (position a) ≡ moved m o.paces a (f (position a)) t

moved_by : (m : Motion) (b : Slot) (e : Option Ending) (f f' : Setting → ℤ)
    → ((a : Axis) (t : ℤ) → wanted b (position a) ≡ Some t → (r : ℤ) × (f' (position a) ≡ or_value (pulled m b e (position a) (f (position a))) r)) → Moved m b f f'
moved_by m idle e f f' h = tt
moved_by m (busy o n) e f f' h = λ a t w.
    let (r, g) = h a t w in
    g ∙ pulled_first m o n e (position a) (f (position a)) t r w ∙ ap (λ (x : Option Axis). pulled_to m o.paces x e (f (position a)) t) (axis_is a)

-- both slots of a tick that gives each setting its next value
module _ (motion : Motion) (m m' : Meaning) (e : Endings) (apart : Apart m.slots.one m.slots.two) (is : (s : Setting) → m'.setting s ≡ value_after motion m.slots e m.setting s) where
  pub moved_one : Moved motion m.slots.one m.setting m'.setting
  moved_one = moved_by motion m.slots.one e.one m.setting m'.setting (λ a t w. (_, is (position a)))

  pub moved_two : Moved motion m.slots.two m.setting m'.setting
  moved_two = moved_by motion m.slots.two e.two m.setting m'.setting (λ a t w.
      let s = position a in
      let n = other_none (wanted m.slots.one s) (wanted m.slots.two s) t (apart s) w in
      (_, is s ∙ not_pulled motion m.slots.one e.one s (m.setting s) (or_value (pulled motion m.slots.two e.two s (m.setting s)) (unnamed motion (about s).axis m.setting s)) n))

-- What the code foretells.

reaches_there : (m : Motion) (o : Order) (n : ℕ) (f f' : Setting → ℤ) (a : Axis) → Moved m (busy o n) f f' → arrives m o f a ≡ there o f' a
reaches_there m o n f f' a h = by (wants (parts o.targets) (position a)) refl
  where
    by : (w : Option ℤ) → wants (parts o.targets) (position a) ≡ w → arrives m o f a ≡ there o f' a
    by None e = simp e
    by (Some t) e = simp (e, h a t e)

-- the ending that the code foretells is the one that the positions after the tick tell
pub foretold_is : (m : Motion) (b : Slot) (f f' : Setting → ℤ) → Moved m b f f' → foretold m b f ≡ ending_told b f'
foretold_is m idle f f' h = refl
foretold_is m (busy o n) f f' h =
    simp (reaches_there m o n f f' Zoom h, reaches_there m o n f f' Focus h, reaches_there m o n f f' Pan h, reaches_there m o n f f' Tilt h)
