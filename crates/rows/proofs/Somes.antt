-- Where something is made only of something.
use Rattle.std.proofs.Common.{◌≡◌, Bool, true, false, cond, IfSome, Some, None, Option, refl, subst}
use Rattle.head.proofs.Options.{no_some}
use Rattle.std.specs.Option.{option_and_then}

pub when_some : {A : Type 0} (b : Bool) (x : Option A) {y : A} → cond b x None ≡ Some y → (b ≡ true) × (x ≡ Some y)
when_some true x e = (refl, e)
when_some false x e = no_some e

pub bound : {A B : Type 0} (x : Option A) (f : A → Option B) {b : B} → option_and_then f x ≡ Some b → (a : A) × (x ≡ Some a) × (f a ≡ Some b)
bound None f e = no_some e
bound (Some a) f e = (a, refl, e)

-- What holds of whatever is made.

pub Each : {A : Type 0} → (A → Type 0) → Option A → Type 0
Each P x = IfSome x P

module _ {B : Type 0} (P : B → Type 0) where
  pub each_some : (b : B) → P b → Each P (Some b)
  unfolding Each
  each_some b h = h

  pub each_none : Each P None
  unfolding Each
  each_none = tt

  pub each_when : (b : Bool) (x : Option B) → Each P x → Each P (cond b x None)
  unfolding Each
  each_when true x h = h
  each_when false x h = tt

  pub each_bound : {A : Type 0} (x : Option A) (f : A → Option B) → ((a : A) → Each P (f a)) → Each P (option_and_then f x)
  unfolding Each
  each_bound None f h = tt
  each_bound (Some a) f h = h a

  -- and so of what is known to be made
  pub of_each : (x : Option B) (b : B) → Each P x → x ≡ Some b → P b
  unfolding Each
  of_each x b h e = subst (λ (y : Option B). IfSome y P) e h
