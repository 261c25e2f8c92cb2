-- A tick with no order at work: positions move by their drives, and all else stands.
use Rattle.std.proofs.Common.{◌≡◌, Bool, true, false, ℤ, pos, is_some, Some, None, Option, refl, ap, ◌∙◌, sym, inl, inr, arith}
use Rattle.std.proofs.lemmas.Bool.{cases_Bool}
use Rattle.head.specs.declared.setting.Axis.{Axis}
use Rattle.head.specs.declared.setting.Axis.TheVariants.{Zoom, Focus, Pan, Tilt}
use Rattle.head.specs.declared.setting.Setting.{Setting}
use Rattle.head.specs.Meaning.{Slot, Slots, idle, rest}
use Rattle.head.specs.Settings.{about, same, position, drive, in_range}
use Rattle.head.specs.Values.{value_of}
use Rattle.head.proofs.Tables.{same_is}
use Rattle.head.specs.declared.work.Work.{Work}
use Rattle.heads.specs.declared.motion.Motion.{Motion}
use Rattle.heads.specs.declared.rig.Rig.{Rig}
use Rattle.head.specs.Work.{slot_of}
use Rattle.heads.specs.Exact.{ending_told, unnamed, TickedExactly}
use Rattle.heads.specs.Rigs.{rig_meaning, drifted, MovesOnly}
use Rattle.heads.proofs.Lawful.{driven_lawful}

-- with a drive of 0 nothing moves
pub stands : (m : Motion) (a : Axis) (f : Setting → ℤ) (s : Setting) → in_range (position a) (f (position a)) ≡ true → f (drive a) ≡ pos 0 → f s ≡ drifted m a f s
stands m a f s h d =
    let e = (driven_lawful m a (f (position a)) (f (drive a)) h).stands d in
    elim (cases_Bool (same s (position a))) [
      | inl b ↦ ap f (same_is s (position a) b) ∙ sym e ∙ sym (simp b refl)
      | inr b ↦ simp b
    ]

drifted_same : (m : Motion) (a : Axis) (f g : Setting → ℤ) → ((s : Setting) → f s ≡ g s) → (s : Setting) → drifted m a f s ≡ drifted m a g s
drifted_same m a f g h s = simp (h s, h (position a), h (drive a))

abbrev all_four : Motion → (Setting → ℤ) → Setting → ℤ
all_four m f = drifted m Tilt (drifted m Pan (drifted m Focus (drifted m Zoom f)))

by_axis : (m : Motion) (f : Setting → ℤ) (s : Setting) → all_four m f s ≡ unnamed m (about s).axis f s
by_axis m f s = grind arith

-- the four axes in turn
pub drifts : (m : Motion) (f z o p t : Setting → ℤ) → ((s : Setting) → z s ≡ drifted m Zoom f s) → ((s : Setting) → o s ≡ drifted m Focus z s)
    → ((s : Setting) → p s ≡ drifted m Pan o s) → ((s : Setting) → t s ≡ drifted m Tilt p s) → (s : Setting) → t s ≡ unnamed m (about s).axis f s
drifts m f z o p t hz ho hp ht s =
    let io : (s : Setting) → o s ≡ drifted m Focus (drifted m Zoom f) s = λ s. ho s ∙ drifted_same m Focus z (drifted m Zoom f) hz s in
    let ip : (s : Setting) → p s ≡ drifted m Pan (drifted m Focus (drifted m Zoom f)) s = λ s. hp s ∙ drifted_same m Pan o (drifted m Focus (drifted m Zoom f)) io s in
    ht s ∙ drifted_same m Tilt p (drifted m Pan (drifted m Focus (drifted m Zoom f))) ip s ∙ by_axis m f s

-- an axis of a rig that has moved nothing but settings before
pub same_drifting : (r r' : Rig) (a : Axis) (g h : Setting → ℤ) (r'' : Rig) → MovesOnly r g r' → MovesOnly r' (drifted r'.motion a h) r''
    → MovesOnly r (drifted r.motion a h) r''
same_drifting r r' a g h r'' m n = record {
  values = λ s. n.values s ∙ simp m.motion refl;
  motion = n.motion ∙ m.motion;
  slots = n.slots ∙ m.slots;
}

idle_slot : (j : Option Work) → is_some j ≡ false → slot_of j ≡ idle
idle_slot None h = refl
idle_slot (Some j) h = cc

pub idle_ran : (r r' : Rig) (p : Bool) → is_some r.works.one ≡ false → is_some r.works.two ≡ false
    → MovesOnly r (λ s. unnamed r.motion (about s).axis (value_of r.settings) s) r'
    → TickedExactly r.motion (rig_meaning p r) (record { one = None; two = None }) (rig_meaning p r')
idle_ran r r' p h k moved =
    let one = idle_slot r.works.one h in
    let two = idle_slot r.works.two k in
    record {
      pantilt = refl;
      one = ap (λ (b : Slots). b.one) moved.slots ∙ one ∙ sym (ap rest one);
      two = ap (λ (b : Slots). b.two) moved.slots ∙ two ∙ sym (ap rest two);
      told_one = sym (ap (λ (x : Slot). ending_told x (value_of r'.settings)) one);
      told_two = sym (ap (λ (x : Slot). ending_told x (value_of r'.settings)) two);
      setting = λ s. moved.values s ∙ sym (simp (one, two) refl);
    }
