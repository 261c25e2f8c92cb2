-- Heads of one make or another; and which of ours a head is.
use Rattle.std.specs.Prelude.{ℕ, Bool, true, false, if◌then◌else◌, List, [], ◌∷◌, Ok, Err, Result, codes}
use Rattle.std.specs.Str.{bytes_eq}
use Rattle.head.specs.Cases.{first_case}
use Rattle.heads.specs.declared.any.HeadKind.{HeadKind}
use Rattle.heads.specs.declared.any.HeadKind.TheVariants.{Block, Dome, StalledDome}
use Rattle.heads.specs.declared.any.NoSuchHead.{NoSuchHead}
use Rattle.heads.specs.declared.any.OneOf.{OneOf}
use Rattle.heads.specs.declared.any.OneOf.TheVariants.{First, Second}
use Rattle.heads.specs.declared.dome.Turning.{Turning}
use Rattle.heads.specs.declared.gear.Gear.{Ghosts as GearGhosts}
use Rattle.heads.specs.declared.geared.Geared.{Geared}

-- the head that a word names
abbrev pub head_named : List ℕ → Result HeadKind NoSuchHead
head_named w =
    first_case (
    (bytes_eq w (codes "block"), Ok Block)
    ∷ (bytes_eq w (codes "dome"), Ok Dome)
    ∷ (bytes_eq w (codes "stalled"), Ok StalledDome)
    ∷ []
    ) (Err (record {}))

-- whether heads of that kind have pan and tilt
abbrev pub can_turn : HeadKind → Bool
can_turn Block = false
can_turn Dome = true
can_turn StalledDome = true

-- what a head of either make is
abbrev pub of_either : {A B C : Type 0} → (A → C) → (B → C) → OneOf A B → C
of_either f g (First a) = f a
of_either f g (Second b) = g b

-- two heads of one make, related as heads of that make
abbrev pub Alike : {A B : Type 0} → (A → A → Type 0) → (B → B → Type 0) → OneOf A B → OneOf A B → Type 0
Alike p q (First a) (First a') = p a a'
Alike p q (First a) (Second b') = ⊥
Alike p q (Second b) (First a') = ⊥
Alike p q (Second b) (Second b') = q b b'

-- whichever head it is: a block, or a dome that is stalled or not
abbrev pub kind_of : {A : Type 0} {g : GearGhosts Turning} → OneOf A (Geared Turning g) → HeadKind
kind_of (First block) = Block
kind_of (Second dome) = if dome.gear.stalled then StalledDome else Dome
