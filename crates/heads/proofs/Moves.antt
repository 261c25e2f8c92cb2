-- Where a tick of our heads takes a setting: in range, and as every head's tick may.
use Rattle.std.proofs.Common.{◌≡◌, ℕ, true, ◌&&◌, ℤ, pos, negsuc, ◌+ℤ◌, ◌*ℤ◌, ◌≤ℤ◌, Some, None, Option, sym, refl, subst, inl, inr, arith}
use lib.Signed.{le_z, lt_z}
use Rattle.std.proofs.lemmas.Int.{ints, clamps}
use Rattle.std.proofs.lemmas.Bool.{and_from, cases_Bool, cond_both}
use Rattle.std.specs.Int.{int_min, int_max}
use Rattle.head.specs.declared.order.Paces.{Paces}
use Rattle.head.specs.declared.outcome.Ending.{Ending}
use Rattle.head.specs.declared.outcome.Endings.{Endings}
use Rattle.head.specs.declared.setting.Axis.{Axis}
use Rattle.head.specs.declared.setting.Axis.TheVariants.{Zoom, Focus, Pan, Tilt}
use Rattle.head.specs.declared.setting.Setting.{Setting}
use Rattle.head.specs.Settings.{about, in_range, position, drive}
use Rattle.head.specs.Orders.{parts, wants}
use Rattle.head.specs.Meaning.{Between}
use Rattle.head.proofs.Bounds.{between_in_range}
use Rattle.head.proofs.Tables.{position_is}
use Rattle.head.proofs.Wants.{wants_in_range}
use Rattle.head.specs.declared.work.Work.{Work}
use Rattle.heads.specs.declared.motion.Motion.{Motion}
use Rattle.heads.specs.declared.motion.Motion.TheVariants.{AtOnce, Stepwise, Stalled}
use Rattle.heads.specs.Motion.{unit, step, toward, moved, held_to_range, driven}
use Rattle.head.specs.Work.{slot_of}
use Rattle.heads.specs.Exact.{is_done, pulled_to, pulled, unnamed, or_value, value_after}

-- an order moves a position to somewhere between where it was and its target
pub toward_between : (n : ℕ) (v t : ℤ) → Between v (toward n v t) t
toward_between n v t =
    elim (cases_Bool (lt_z v t)) [
      | inl e ↦ inl (omega (arith, ints, clamps), omega (arith, ints, clamps))
      | inr e ↦ inr (omega (arith, ints, clamps), omega (arith, ints, clamps))
    ]

between_ends : (v t : ℤ) → Between v t t × Between v v t
between_ends v t =
    elim (cases_Bool (lt_z v t)) [
      | inl e ↦ (inl (omega (arith, ints), omega (arith, ints)), inl (omega (arith, ints), omega (arith, ints)))
      | inr e ↦ (inr (omega (arith, ints), omega (arith, ints)), inr (omega (arith, ints), omega (arith, ints)))
    ]

pub moved_between : (m : Motion) (p : Paces) (a : Axis) (v t : ℤ) → Between v (moved m p a v t) t
moved_between AtOnce p a v t = (between_ends v t).0
moved_between Stepwise p a v t = toward_between (step p a) v t
moved_between Stalled p a v t = (between_ends v t).1

held_in_span : (low high w : ℤ) → low ≤ℤ high → (le_z low (int_min (int_max w low) high) && le_z (int_min (int_max w low) high) high) ≡ true
held_in_span low high w h =
    and_from (le_z low (int_min (int_max w low) high)) (le_z (int_min (int_max w low) high) high) (sym (omega (arith, ints, clamps))) (sym (omega (arith, ints, clamps)))

held_in_range : (a : Axis) (w : ℤ) → in_range (position a) (held_to_range (about (position a)).range w) ≡ true
unfolding in_range
held_in_range Zoom w = held_in_span (pos 0) (pos 16384) w (omega (arith, ints))
held_in_range Focus w = held_in_span (pos 0) (pos 65535) w (omega (arith, ints))
held_in_range Pan w = held_in_span (negsuc 5119) (pos 5120) w (omega (arith, ints))
held_in_range Tilt w = held_in_span (negsuc 1279) (pos 1280) w (omega (arith, ints))

-- a drive holds a position to its range
pub driven_in_range : (m : Motion) (a : Axis) (v d : ℤ) → in_range (position a) v ≡ true → in_range (position a) (driven m a v d) ≡ true
driven_in_range AtOnce a v d h = held_in_range a (v +ℤ pos (unit a) *ℤ d)
driven_in_range Stepwise a v d h = held_in_range a (v +ℤ pos (unit a) *ℤ d)
driven_in_range Stalled a v d h = h

-- in range at a position, for the setting that it is
at_position : (s : Setting) (a : Axis) (v : ℤ) → (about s).axis ≡ Some a → in_range (position a) v ≡ true → in_range s v ≡ true
at_position s a v e h = subst (λ (z : Setting). in_range z v ≡ true) (position_is s a e) h

of_position : (s : Setting) (a : Axis) (v : ℤ) → (about s).axis ≡ Some a → in_range s v ≡ true → in_range (position a) v ≡ true
of_position s a v e h = subst (λ (z : Setting). in_range z v ≡ true) (sym (position_is s a e)) h

pulled_to_in_range : (m : Motion) (p : Paces) (s : Setting) (x : Option Axis) (e : Option Ending) (v t : ℤ) → (about s).axis ≡ x → in_range s v ≡ true → in_range s t ≡ true → in_range s (pulled_to m p x e v t) ≡ true
pulled_to_in_range m p s (Some a) e v t i h g =
    at_position s a (moved m p a v t) i (between_in_range a v (moved m p a v t) t (of_position s a v i h) (of_position s a t i g) (moved_between m p a v t))
pulled_to_in_range m p s None e v t i h g = cond_both (is_done e) t v (λ w. in_range s w ≡ true) (λ _. g) (λ _. h)

unnamed_in_range : (m : Motion) (f : Setting → ℤ) (s : Setting) (x : Option Axis) → (about s).axis ≡ x → in_range s (f s) ≡ true → in_range s (unnamed m x f s) ≡ true
unnamed_in_range m f s None i h = h
unnamed_in_range m f s (Some a) i h = at_position s a (driven m a (f s) (f (drive a))) i (driven_in_range m a (f s) (f (drive a)) (of_position s a (f s) i h))

-- what is pulled or else stays in range
pulled_in_range : (m : Motion) (j : Option Work) (e : Option Ending) (s : Setting) (v r : ℤ) → in_range s v ≡ true → in_range s r ≡ true → in_range s (or_value (pulled m (slot_of j) e s v) r) ≡ true
pulled_in_range m None e s v r h g = g
pulled_in_range m (Some j) e s v r h g =
    by (wants (parts j.order.targets) s) refl
  where
    by : (w : Option ℤ) → wants (parts j.order.targets) s ≡ w → in_range s (or_value (pulled m (slot_of (Some j)) e s v) r) ≡ true
    by None i = simp i g
    by (Some t) i = simp i (pulled_to_in_range m j.order.paces s (about s).axis e v t refl h (wants_in_range (parts j.order.targets) s t j.fits i))

pub next_in_range : (m : Motion) (one two : Option Work) (e : Endings) (f : Setting → ℤ) (s : Setting) → in_range s (f s) ≡ true
    → in_range s (value_after m (record { one = slot_of one; two = slot_of two }) e f s) ≡ true
next_in_range m one two e f s h =
    pulled_in_range m one e.one s (f s) (or_value (pulled m (slot_of two) e.two s (f s)) (unnamed m (about s).axis f s)) h
    (pulled_in_range m two e.two s (f s) (unnamed m (about s).axis f s) h (unnamed_in_range m f s (about s).axis refl h))
