-- What a tick writes, one setting after the other.
use Rattle.std.proofs.Common.{◌≡◌, ◌≤◌, Bool, true, false, cond, ◌&&◌, List, [], ◌∷◌, ◌++◌, ℕ, ◌+◌, length, take, ◌-◌, get_or, ℤ, Some, None, Option, refl, ap, ◌∙◌, sym, subst, is_some, inl, inr, arith, is_none}
use Rattle.std.proofs.lemmas.Bool.{and_parts, and_right, cases_Bool, or_parts}
use Rattle.std.proofs.Math.Seq.{take-length}
use Rattle.std.proofs.lemmas.List.{take_more}
use Rattle.std.specs.List.{list_any}
use Rattle.std.specs.Option.{option_map, option_map_or}
use Rattle.head.specs.declared.outcome.Ending.{Ending}
use Rattle.head.specs.declared.outcome.Endings.{Endings}
use Rattle.head.specs.declared.setting.Axis.{Axis}
use Rattle.head.specs.declared.setting.Axis.TheVariants.{Zoom, Focus, Pan, Tilt}
use Rattle.head.specs.declared.setting.Setting.{Setting}
use Rattle.head.specs.declared.setting.Setting.TheVariants as setting
use Rattle.head.specs.declared.target.Target.{Target}
use Rattle.head.specs.Meaning.{Slot, idle, busy, Slots, wanted, Apart}
use Rattle.head.specs.Orders.{parts, wants, all_in_range}
use Rattle.head.specs.Settings.{about, same, position, in_range}
use Rattle.head.proofs.Tables.{same_is}
use Rattle.head.specs.declared.work.Work.{Work}
use Rattle.heads.specs.declared.motion.Motion.{Motion}
use Rattle.heads.specs.declared.rig.Rig.{Rig}
use Rattle.head.specs.Work.{slot_of}
use Rattle.heads.specs.Exact.{is_done, pulled, unnamed, or_value, value_after}
use Rattle.head.specs.Works.{slots_of}
use Rattle.heads.specs.Rigs.{target_given, set_when_done, or, taken_by_orders, followed, MovesOnly}

same_sym : (s z : Setting) → same s z ≡ same z s
same_sym s z = grind (arith, same_is s z, same_is z s)

-- the first target's setting gets it, unless it is a position, and another is as the rest has it
pub given_more : (t : Target) (ts : List Target) (s : Setting) (v : ℤ) →
    target_given (about s).axis (wants (t ∷ ts) s) v ≡ cond (is_none (about t.setting).axis && same s t.setting) t.value (target_given (about s).axis (wants ts s) v)
given_more t ts s v =
    elim (cases_Bool (same t.setting s)) [
      | inl e ↦
          let i = same_is t.setting s e in
          subst (λ (z : Setting). target_given (about z).axis (wants (t ∷ ts) z) v ≡ cond (is_none (about t.setting).axis && same z t.setting) t.value (target_given (about z).axis (wants ts z) v)) i (by (about t.setting).axis)
      | inr e ↦ simp (e, same_sym s t.setting, and_right (is_none (about t.setting).axis) false refl)
    ]
  where
    by : (x : Option Axis) → target_given x (wants (t ∷ ts) t.setting) v ≡ cond (is_none x && same t.setting t.setting) t.value (target_given x (wants ts t.setting) v)
    by None = grind arith
    by (Some a) = refl

-- the four positions, each where it goes
abbrev positions : (Setting → ℤ) → (Setting → ℤ) → Setting → ℤ
positions f g s =
    cond (same s (position Tilt)) (g s) (cond (same s (position Pan)) (g s) (cond (same s (position Focus)) (g s) (cond (same s (position Zoom)) (g s) (f s))))

moves_all : (f g : Setting → ℤ) (s : Setting) → positions f g s ≡ cond (is_some (about s).axis) (g s) (f s)
moves_all f g s = grind arith

-- a slot's order that is done gives another setting its target
closes : (b : Slot) (e : Option Ending) (s : Setting) (v : ℤ) → (about s).axis ≡ None → set_when_done b e s v ≡ cond (is_done e) (or_value (wanted b s) v) v
closes idle e s v i = grind arith
closes (busy o n) e s v i = simp i

stays : (b : Slot) (e : Option Ending) (s : Setting) (a : Axis) (v : ℤ) → (about s).axis ≡ Some a → set_when_done b e s v ≡ v
stays idle e s a v i = refl
stays (busy o n) e s a v i = simp i (grind arith)

pulls : (m : Motion) (b : Slot) (e : Option Ending) (s : Setting) (v : ℤ) → (about s).axis ≡ None → pulled m b e s v ≡ option_map (λ t. cond (is_done e) t v) (wanted b s)
pulls m idle e s v i = refl
pulls m (busy o n) e s v i = by (wants (parts o.targets) s) refl
  where
    by : (w : Option ℤ) → wants (parts o.targets) s ≡ w → pulled m (busy o n) e s v ≡ option_map (λ t. cond (is_done e) t v) (wants (parts o.targets) s)
    by None k = simp k
    by (Some t) k = simp (k, i)

-- where not both name a setting
in_turn : (d h : Bool) (x y : Option ℤ) (v : ℤ) → (is_some x && is_some y) ≡ false
    → cond h (or_value y (cond d (or_value x v) v)) (cond d (or_value x v) v) ≡ or_value (option_map (λ t. cond d t v) x) (or_value (option_map (λ t. cond h t v) y) v)
in_turn d h None None v k = grind arith
in_turn d h (Some t) None v k = grind arith
in_turn d h None (Some u) v k = grind arith
in_turn d h (Some t) (Some u) v k = cc

-- what an order says of a setting is its next value
pub ordered_next : (m : Motion) (b : Slots) (e : Endings) (f : Setting → ℤ) (s : Setting) (t : ℤ) → taken_by_orders m b e (f s) s ≡ Some t → value_after m b e f s ≡ t
ordered_next m b e f s t h = by (pulled m b.one e.one s (f s)) (pulled m b.two e.two s (f s)) h
  where
    by : (x y : Option ℤ) → or x y ≡ Some t → or_value x (or_value y (unnamed m (about s).axis f s)) ≡ t
    by None None k = cc
    by None (Some u) k = cc
    by (Some u) y k = cc

-- positions moved, and then the targets of each order that is done
pub advanced_is : (m : Motion) (b : Slots) (e : Endings) (f : Setting → ℤ) (s : Setting) → Apart b.one b.two
    → set_when_done b.two e.two s (set_when_done b.one e.one s (cond (is_some (about s).axis) (value_after m b e f s) (f s))) ≡ value_after m b e f s
advanced_is m b e f s apart = by (about s).axis refl
  where
    g : Setting → ℤ
    g = value_after m b e f

    by : (x : Option Axis) → (about s).axis ≡ x → set_when_done b.two e.two s (set_when_done b.one e.one s (cond (is_some x) (g s) (f s))) ≡ g s
    by None i =
        ap (set_when_done b.two e.two s) (closes b.one e.one s (f s) i) ∙ closes b.two e.two s (cond (is_done e.one) (or_value (wanted b.one s) (f s)) (f s)) i
        ∙ in_turn (is_done e.one) (is_done e.two) (wanted b.one s) (wanted b.two s) (f s) (apart s)
        ∙ sym (simp (pulls m b.one e.one s (f s) i, pulls m b.two e.two s (f s) i, i))
    by (Some a) i = ap (set_when_done b.two e.two s) (stays b.one e.one s a (g s) i) ∙ stays b.two e.two s a (g s) i

-- targets of which none is of a position want none
none_wanted : (ts : List Target) (s : Setting) (a : Axis) → list_any (λ t. is_some (about t.setting).axis) ts ≡ false → (about s).axis ≡ Some a → wants ts s ≡ None
none_wanted [] s a h i = refl
none_wanted (t ∷ ts) s a h i =
    let (n, r) = or_parts (is_some (about t.setting).axis) (list_any (λ t. is_some (about t.setting).axis) ts) h in
    elim (cases_Bool (same t.setting s)) [
      | inl e ↦ let k = sym (ap (λ (z : Setting). is_some (about z).axis) (same_is t.setting s e) ∙ ap is_some i) ∙ n in cc
      | inr e ↦ simp e (none_wanted ts s a r i)
    ]

-- whether a slot's order names a position
abbrev pub moving : Option Work → Bool
moving j = option_map_or (λ j. list_any (λ t. is_some (about t.setting).axis) (parts j.order.targets)) j false

none_pulled : (m : Motion) (j : Option Work) (e : Option Ending) (s : Setting) (a : Axis) (v : ℤ) → moving j ≡ false → (about s).axis ≡ Some a → pulled m (slot_of j) e s v ≡ None
none_pulled m None e s a v h i = refl
none_pulled m (Some j) e s a v h i = simp (none_wanted (parts j.order.targets) s a h i)

-- where no order names a position, each goes as its drive has it
pub drift_only : (r : Rig) (e : Endings) (f : Setting → ℤ) (s : Setting) → moving r.works.one ≡ false → moving r.works.two ≡ false
    → unnamed r.motion (about s).axis f s ≡ cond (is_some (about s).axis) (value_after r.motion (slots_of r.works) e f s) (f s)
drift_only r e f s h k = by (about s).axis refl
  where
    by : (x : Option Axis) → (about s).axis ≡ x → unnamed r.motion (about s).axis f s ≡ cond (is_some (about s).axis) (value_after r.motion (slots_of r.works) e f s) (f s)
    by None i = simp i
    by (Some a) i = simp (none_pulled r.motion r.works.one e.one s a (f s) h i, none_pulled r.motion r.works.two e.two s a (f s) k i, i) refl

-- the last target's setting gets it first, unless it is a position
given_push : (ts : List Target) (t : Target) (s : Setting) (v : ℤ) →
    target_given (about s).axis (wants (ts ++ t ∷ []) s) v ≡ target_given (about s).axis (wants ts s) (cond (is_none (about t.setting).axis && same s t.setting) t.value v)
given_push [] t s v =
    given_more t [] s v ∙ ap (cond (is_none (about t.setting).axis && same s t.setting) t.value) (by (about s).axis v)
    ∙ sym (by (about s).axis (cond (is_none (about t.setting).axis && same s t.setting) t.value v))
  where
    by : (x : Option Axis) (w : ℤ) → target_given x None w ≡ w
    by None w = refl
    by (Some a) w = refl
given_push (u ∷ us) t s v =
    given_more u (us ++ t ∷ []) s v ∙ ap (cond (is_none (about u.setting).axis && same s u.setting) u.value) (given_push us t s v)
    ∙ sym (given_more u us s (cond (is_none (about t.setting).axis && same s t.setting) t.value v))

in_range_push : (ts : List Target) (t : Target) → all_in_range (ts ++ t ∷ []) ≡ true → (all_in_range ts ≡ true) × (in_range t.setting t.value ≡ true)
in_range_push [] t h = (refl, (and_parts (in_range t.setting t.value) true h).0)
in_range_push (u ∷ us) t h =
    let p = and_parts (in_range u.setting u.value) (all_in_range (us ++ t ∷ [])) h in
    let q = in_range_push us t p.1 in
    (grind (arith, p.0, q.0), q.1)

-- the same of a list that has a last target
last_apart : (ts : List Target) (d : Target) → 1 ≤ length ts → ts ≡ take (length ts - 1) ts ++ get_or ts (length ts - 1) d ∷ []
last_apart ts d l =
    let e : length ts - 1 + 1 ≡ length ts = omega arith in
    sym (ap (λ (n : ℕ). take n ts) e ∙ take-length ts) ∙ take_more ts (length ts - 1) d (omega arith)

pub given_last : (ts : List Target) (d : Target) (s : Setting) (v : ℤ) → 1 ≤ length ts →
    target_given (about s).axis (wants ts s) v
    ≡ target_given (about s).axis (wants (take (length ts - 1) ts) s) (cond (is_none (about (get_or ts (length ts - 1) d).setting).axis && same s (get_or ts (length ts - 1) d).setting) (get_or ts (length ts - 1) d).value v)
given_last ts d s v l =
    ap (λ (us : List Target). target_given (about s).axis (wants us s) v) (last_apart ts d l) ∙ given_push (take (length ts - 1) ts) (get_or ts (length ts - 1) d) s v

pub in_range_last : (ts : List Target) (d : Target) → 1 ≤ length ts → all_in_range ts ≡ true
    → (all_in_range (take (length ts - 1) ts) ≡ true) × (in_range (get_or ts (length ts - 1) d).setting (get_or ts (length ts - 1) d).value ≡ true)
in_range_last ts d l h =
    in_range_push (take (length ts - 1) ts) (get_or ts (length ts - 1) d) (ap all_in_range (sym (last_apart ts d l)) ∙ h)

-- An axis after the other.

abbrev one_by_one : Motion → Slots → Endings → (Setting → ℤ) → Setting → ℤ
one_by_one m b e f = followed m b e Tilt (followed m b e Pan (followed m b e Focus (followed m b e Zoom f)))

-- an axis reads nothing that those before it wrote
apart_axes : (m : Motion) (b : Slots) (e : Endings) (f : Setting → ℤ) (s : Setting) → one_by_one m b e f s ≡ positions f (value_after m b e f) s
apart_axes m b e f setting.Zoom = refl
apart_axes m b e f setting.Focus = refl
apart_axes m b e f setting.Pan = refl
apart_axes m b e f setting.Tilt = refl
apart_axes m b e f s = refl

followed_same : (m : Motion) (b : Slots) (e : Endings) (a : Axis) (f g : Setting → ℤ) → ((s : Setting) → f s ≡ g s) → (s : Setting) → followed m b e a f s ≡ followed m b e a g s
followed_same m b e a f g h s =
    let k : f ≡ g = λ i s. h s i in
    ap (λ (k : Setting → ℤ). followed m b e a k s) k

pub follows : (m : Motion) (b : Slots) (e : Endings) (f z o p t : Setting → ℤ) → ((s : Setting) → z s ≡ followed m b e Zoom f s)
    → ((s : Setting) → o s ≡ followed m b e Focus z s) → ((s : Setting) → p s ≡ followed m b e Pan o s) → ((s : Setting) → t s ≡ followed m b e Tilt p s)
    → (s : Setting) → t s ≡ cond (is_some (about s).axis) (value_after m b e f s) (f s)
follows m b e f z o p t hz ho hp ht s =
    let io : (s : Setting) → o s ≡ followed m b e Focus (followed m b e Zoom f) s = λ s. ho s ∙ followed_same m b e Focus z (followed m b e Zoom f) hz s in
    let ip : (s : Setting) → p s ≡ followed m b e Pan (followed m b e Focus (followed m b e Zoom f)) s =
    λ s. hp s ∙ followed_same m b e Pan o (followed m b e Focus (followed m b e Zoom f)) io s in
    ht s ∙ followed_same m b e Tilt p (followed m b e Pan (followed m b e Focus (followed m b e Zoom f))) ip s ∙ apart_axes m b e f s ∙ moves_all f (value_after m b e f) s

-- an axis of a rig that has moved nothing but settings before
pub same_following : (r r' : Rig) (e : Endings) (a : Axis) (g h : Setting → ℤ) (r'' : Rig) → MovesOnly r g r'
    → MovesOnly r' (followed r'.motion (slots_of r'.works) e a h) r'' → MovesOnly r (followed r.motion (slots_of r.works) e a h) r''
same_following r r' e a g h r'' m n = record {
  values = λ s. n.values s ∙ ap (λ (k : Motion). followed k (slots_of r'.works) e a h s) m.motion ∙ ap (λ (b : Slots). followed r.motion b e a h s) m.slots;
  motion = n.motion ∙ m.motion;
  slots = n.slots ∙ m.slots;
}
