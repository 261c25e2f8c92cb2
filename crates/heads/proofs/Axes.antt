-- What holds of each axis, of the four together, and of their list.
use Rattle.std.proofs.Common.{◌≡◌, Bool, true, false, ◌&&◌}
use Rattle.std.proofs.lemmas.Bool.{and_parts, and_from}
use Rattle.std.proofs.Math.Bool.{and_assoc}
use Rattle.std.specs.List.{list_all}
use Rattle.head.specs.declared.setting.Axis.{Axis}
use Rattle.head.specs.declared.setting.Axis.TheVariants.{Zoom, Focus, Pan, Tilt}
use Rattle.head.specs.Settings.{axes}

grouped : (z f p t : Bool) → (z && (f && (p && (t && true)))) ≡ (z && f && p && t)
grouped z f p true = simp and_assoc
grouped z f p false = simp and_assoc

pub all_four : (p : Axis → Bool) → list_all p axes ≡ (p Zoom && p Focus && p Pan && p Tilt)
all_four p = grouped (p Zoom) (p Focus) (p Pan) (p Tilt)

pub each_of : (p : Axis → Bool) → (p Zoom && p Focus && p Pan && p Tilt) ≡ true → (a : Axis) → p a ≡ true
each_of p h a =
    let (x, t) = and_parts (p Zoom && p Focus && p Pan) (p Tilt) h in
    let (y, n) = and_parts (p Zoom && p Focus) (p Pan) x in
    let (z, f) = and_parts (p Zoom) (p Focus) y in
    elim a as (λ (b : Axis). p b ≡ true) [ Zoom ↦ z | Focus ↦ f | Pan ↦ n | Tilt ↦ t ]

pub all_of : (p : Axis → Bool) → ((a : Axis) → p a ≡ true) → (p Zoom && p Focus && p Pan && p Tilt) ≡ true
all_of p h =
    and_from (p Zoom && p Focus && p Pan) (p Tilt) (and_from (p Zoom && p Focus) (p Pan) (and_from (p Zoom) (p Focus) (h Zoom) (h Focus)) (h Pan)) (h Tilt)
