-- Going once over targets that name no setting twice finds what asking for each axis finds.
use Rattle.std.proofs.Common.{◌≡◌, ℕ, max, Bool, true, false, not, ◌&&◌, List, [], ◌∷◌, ℤ, Some, None, Option, sym, refl, ap, ◌∙◌, subst, is_some, arith}
use Rattle.std.proofs.lemmas.Bool.{and_parts, or_parts}
use Rattle.std.proofs.Math.Bool.{and_comm, and_assoc}
use Rattle.std.specs.List.{list_all, list_any, fold}
use Rattle.std.specs.Option.{option_map_or}
use Rattle.head.specs.declared.setting.Axis.{Axis}
use Rattle.head.specs.declared.setting.Axis.TheVariants.{Zoom, Focus, Pan, Tilt}
use Rattle.head.specs.declared.setting.Setting.{Setting}
use Rattle.head.specs.declared.target.Target.{Target}
use Rattle.head.specs.Orders.{wants, names, different}
use Rattle.head.specs.Settings.{about, same, position, axes}
use Rattle.head.proofs.Tables.{same_is, position_is, axis_is}

not_named : (w : Option ℤ) → not (is_some w) ≡ true → w ≡ None
not_named None h = refl
not_named (Some v) h = cc

-- what p makes of a target, and z if that is of no axis
abbrev pub of_target : {A : Type 0} → A → (Axis → Option ℤ → A) → Target → A
of_target z p t = option_map_or (λ a. p a (Some t.value)) (about t.setting).axis z

abbrev of_axes : {A : Type 0} → (A → A → A) → (Axis → Option ℤ → A) → List Target → A → A
of_axes op p ts x = op (p Zoom (wants ts (position Zoom))) (op (p Focus (wants ts (position Focus))) (op (p Pan (wants ts (position Pan))) (op (p Tilt (wants ts (position Tilt))) x)))

-- for an operation whose order is free
module _ {A : Type 0} (op : A → A → A) (z : A) (unit : (x : A) → op z x ≡ x) (comm : (x y : A) → op x y ≡ op y x)
    (assoc : (x y w : A) → op (op x y) w ≡ op x (op y w)) (p : Axis → Option ℤ → A) (none : (a : Axis) → p a None ≡ z) where
  deeper : (x v y : A) → op x (op v y) ≡ op v (op x y)
  deeper x v y = sym (assoc x v y) ∙ ap (λ u. op u y) (comm x v) ∙ assoc v x y

  none_of : (ts : List Target) (a : Axis) (x : A) → wants ts (position a) ≡ None → op (p a (wants ts (position a))) x ≡ x
  none_of ts a x h = simp (h, none a) (unit x)

  -- a target of a position that no other names
  first_at : (a : Axis) (v : ℤ) (ts : List Target) (x : A) → wants ts (position a) ≡ None
      → of_axes op p ts (op (p a (Some v)) x) ≡ of_axes op p (record { setting = position a; value = v } ∷ ts) x
  first_at a v ts x h = by a h
    where
      q : Axis → A
      q b = p b (wants ts (position b))

      y : Axis → A
      y b = p b (Some v)

      by : (b : Axis) → wants ts (position b) ≡ None → of_axes op p ts (op (p b (Some v)) x) ≡ of_axes op p (record { setting = position b; value = v } ∷ ts) x
      by Zoom i =
          none_of ts Zoom (op (q Focus) (op (q Pan) (op (q Tilt) (op (y Zoom) x)))) i ∙ ap (λ u. op (q Focus) (op (q Pan) u)) (deeper (q Tilt) (y Zoom) x)
          ∙ ap (op (q Focus)) (deeper (q Pan) (y Zoom) (op (q Tilt) x)) ∙ deeper (q Focus) (y Zoom) (op (q Pan) (op (q Tilt) x))
      by Focus i =
          ap (op (q Zoom)) (none_of ts Focus (op (q Pan) (op (q Tilt) (op (y Focus) x))) i ∙ ap (op (q Pan)) (deeper (q Tilt) (y Focus) x) ∙ deeper (q Pan) (y Focus) (op (q Tilt) x))
      by Pan i = ap (λ u. op (q Zoom) (op (q Focus) u)) (none_of ts Pan (op (q Tilt) (op (y Pan) x)) i ∙ deeper (q Tilt) (y Pan) x)
      by Tilt i = ap (λ u. op (q Zoom) (op (q Focus) (op (q Pan) u))) (none_of ts Tilt (op (y Tilt) x) i)

  not_at : (s : Setting) (a : Axis) → (about s).axis ≡ None → same s (position a) ≡ false
  not_at s a h = grind (arith, same_is s (position a), axis_is a)

  first : (t : Target) (ts : List Target) (x : A) → wants ts t.setting ≡ None → of_axes op p ts (op (of_target z p t) x) ≡ of_axes op p (t ∷ ts) x
  first t ts x h = by (about t.setting).axis refl
    where
      by : (w : Option Axis) → (about t.setting).axis ≡ w → of_axes op p ts (op (of_target z p t) x) ≡ of_axes op p (t ∷ ts) x
      by None i = simp (i, unit x, not_at t.setting Zoom i, not_at t.setting Focus i, not_at t.setting Pan i, not_at t.setting Tilt i)
      by (Some a) i =
          let k = position_is t.setting a i in
          simp i (subst (λ (s : Setting). of_axes op p ts (op (p a (Some t.value)) x) ≡ of_axes op p (record { setting = s; value = t.value } ∷ ts) x) k (first_at a t.value ts x (rw k h)))

  pub folded : (ts : List Target) (x : A) → different ts ≡ true → fold (λ u t. op u (of_target z p t)) x ts ≡ of_axes op p ts x
  folded [] x h = simp (none Zoom, none Focus, none Pan, none Tilt, unit x)
  folded (t ∷ ts) x h =
      let (n, d) = and_parts (not (names ts t.setting)) (different ts) h in
      folded ts (op x (of_target z p t)) d ∙ ap (of_axes op p ts) (comm x (of_target z p t)) ∙ first t ts x (not_named (wants ts t.setting) n)

  -- what is of no axis adds nothing
  pub unnamed : (ts : List Target) (x : A) → list_any (λ t. is_some (about t.setting).axis) ts ≡ false → fold (λ u t. op u (of_target z p t)) x ts ≡ x
  unnamed [] x h = refl
  unnamed (t ∷ ts) x h =
      let (n, r) = or_parts (is_some (about t.setting).axis) (list_any (λ t. is_some (about t.setting).axis) ts) h in
      unnamed ts (op x (of_target z p t)) r ∙ comm x (of_target z p t) ∙ by (about t.setting).axis refl n
    where
      by : (w : Option Axis) → (about t.setting).axis ≡ w → is_some (about t.setting).axis ≡ false → op (of_target z p t) x ≡ x
      by None i n = simp i (unit x)
      by (Some a) i n = let h = simp i at n in cc

pub most_of : (p : Axis → Option ℤ → ℕ) (none : (a : Axis) → p a None ≡ 0) (ts : List Target) (x : ℕ) → different ts ≡ true
    → fold (λ m t. max m (of_target 0 p t)) x ts ≡ of_axes max p ts x
most_of p none ts x h = folded max 0 (λ a. omega arith) (λ a b. omega arith) (λ a b c. omega arith) p none ts x h

in_turn : (p : Target → Bool) (x : Bool) (ts : List Target) → (x && list_all p ts) ≡ fold (λ b t. b && p t) x ts
in_turn p x [] = and_comm x true
in_turn p x (t ∷ ts) = sym (and_assoc x (p t) (list_all p ts)) ∙ in_turn p (x && p t) ts

pub all_of : (p : Axis → Option ℤ → Bool) (none : (a : Axis) → p a None ≡ true) (ts : List Target) → different ts ≡ true
    → list_all (of_target true p) ts ≡ list_all (λ a. p a (wants ts (position a))) axes
all_of p none ts h = in_turn (of_target true p) true ts ∙ folded (λ x y. x && y) true (λ x. refl) and_comm and_assoc p none ts true h

pub most_of_none : (p : Axis → Option ℤ → ℕ) (none : (a : Axis) → p a None ≡ 0) (ts : List Target) (x : ℕ) → different ts ≡ true
    → list_any (λ t. is_some (about t.setting).axis) ts ≡ false → of_axes max p ts x ≡ x
most_of_none p none ts x d h =
    sym (most_of p none ts x d) ∙ unnamed max 0 (λ a. omega arith) (λ a b. omega arith) (λ a b c. omega arith) p none ts x h

pub all_of_none : (p : Axis → Option ℤ → Bool) (none : (a : Axis) → p a None ≡ true) (ts : List Target) → different ts ≡ true
    → list_any (λ t. is_some (about t.setting).axis) ts ≡ false → list_all (λ a. p a (wants ts (position a))) axes ≡ true
all_of_none p none ts d h =
    sym (all_of p none ts d) ∙ in_turn (of_target true p) true ts ∙ unnamed (λ x y. x && y) true (λ x. refl) and_comm and_assoc p none ts true h
