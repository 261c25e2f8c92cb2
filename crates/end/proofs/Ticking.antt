-- What a tick leaves of the tie between book, end and head, and which settings it may change.
use Rattle.std.proofs.Common.{◌≡◌, ℕ, zero, suc, ◌+◌, ◌-◌, ◌≤◌, true, false, eqb, ◌⊎◌, List, [], ◌∷◌, ◌++◌, ℤ, pos, negsuc, Some, None, Option, sym, refl, ◌∙◌, subst, inl, inr, arith}
use Rattle.end.specs.declared.socket.Sockets.{Sockets}
use Rattle.end.specs.Book.{Seen, closed, working, one_tick_older}
use Rattle.end.specs.Deeds.{settled}
use Rattle.end.specs.Law.{open_by, names_by, Named, IsDriven}
use Rattle.end.specs.Outcomes.{own_header, ended}
use Rattle.end.specs.States.{State}
use Rattle.end.proofs.Spoken.{read_none}
use Rattle.end.proofs.Tied.{Tied, rests, works, After, after_read, after_owns}
use Rattle.head.specs.declared.order.Order.{Order}
use Rattle.head.specs.declared.outcome.Ending.{Ending}
use Rattle.head.specs.declared.outcome.Ending.TheVariants.{Done, Jammed}
use Rattle.head.specs.declared.outcome.Endings.{Endings}
use Rattle.head.specs.declared.setting.Axis.{Axis}
use Rattle.head.specs.declared.setting.Setting.{Setting}
use Rattle.head.specs.Meaning.{Meaning, Slot, Slots, SlotTicked, Ticked, wanted, Unnamed}
use Rattle.head.specs.Orders.{parts, wants}
use Rattle.head.specs.Settings.{about, drive}
use Rattle.head.proofs.Tables.{position_is}
use Rattle.rows.specs.Requests.{read_as}
use Rattle.rules.specs.declared.reply.Problem.TheVariants.{NotExecutable}
use Rattle.rules.specs.declared.reply.Reply.TheVariants.{Completion, Error}

-- One socket.

abbrev closes : Option Ending → Seen → Seen
closes None l = l
closes (Some e) l = closed

ticked : {l : Seen} {x : Option Order} {c : Slot} (e : Option Ending) (c' : Slot) → Tied l x c → SlotTicked c e c' → Tied (closes e (one_tick_older l)) (settled e x) c'
ticked None c' rests t = rw t rests
ticked (Some e) c' rests t = elim t [ ]
ticked None c' (works {n = n} {m = m} r low high) t = rw t.1 (works {n = n + 1} {m = m - 1} r (omega (arith, t.0)) (omega (arith, t.0)))
ticked (Some e) c' (works r low high) t = rw t.1 rests

-- an ending is told only of an open socket
abbrev FromOpen : Option Ending → Seen → Type 0
FromOpen None l = Unit {0}
FromOpen (Some e) l = open_by l ≡ true

from_open : {l : Seen} {x : Option Order} {c : Slot} (e : Option Ending) (c' : Slot) → Tied l x c → SlotTicked c e c' → FromOpen e (one_tick_older l)
from_open None c' t s = tt
from_open (Some e) c' rests s = elim s [ ]
from_open (Some e) c' (works r low high) s = refl

still_open : (l : Seen) → open_by (one_tick_older l) ≡ open_by l
still_open closed = refl
still_open (working p n) = refl

-- Both, by what is told of them.
module _ (a : ℕ) (p sent : List ℕ) (f : Setting → ℤ) (s' : State) (low : a ≤ 7) (l₁ l₂ : Seen) (awake : (open_by l₁ ≡ true) ⊎ (open_by l₂ ≡ true) → eqb a 0 ≡ false) where
  told : (e₁ e₂ : Option Ending) (k' : Sockets) (c' : Slots) → s'.sockets ≡ k' → s'.head.slots ≡ c' → ((t : Setting) → s'.head.setting t ≡ f t) →
      sent ≡ ended (own_header a) 1 e₁ ++ ended (own_header a) 2 e₂ → FromOpen e₁ l₁ → FromOpen e₂ l₂ →
      Tied (closes e₁ l₁) k'.one c'.one → Tied (closes e₂ l₂) k'.two c'.two → After a p l₁ l₂ sent f s'
  told None None k' c' h c g e o₁ o₂ t₁ t₂ =
      after_read a p sent f s' k' c' h c g [] l₁ l₂ e (read_none a 1 p l₁) (read_none a 2 p l₂) t₁ t₂
  told None (Some Done) k' c' h c g e o₁ o₂ t₁ t₂ = after_owns a p sent f s' k' c' h c g (Completion 2 ∷ []) l₁ l₂ low (awake (inr o₂)) e (tt, tt) (o₂, tt) t₁ t₂
  told None (Some Jammed) k' c' h c g e o₁ o₂ t₁ t₂ = after_owns a p sent f s' k' c' h c g (Error 2 NotExecutable ∷ []) l₁ l₂ low (awake (inr o₂)) e (tt, tt) (o₂, tt) t₁ t₂
  told (Some Done) None k' c' h c g e o₁ o₂ t₁ t₂ = after_owns a p sent f s' k' c' h c g (Completion 1 ∷ []) l₁ l₂ low (awake (inl o₁)) e (o₁, tt) (tt, tt) t₁ t₂
  told (Some Done) (Some Done) k' c' h c g e o₁ o₂ t₁ t₂ =
      after_owns a p sent f s' k' c' h c g (Completion 1 ∷ Completion 2 ∷ []) l₁ l₂ low (awake (inl o₁)) e (o₁, (tt, tt)) (tt, (o₂, tt)) t₁ t₂
  told (Some Done) (Some Jammed) k' c' h c g e o₁ o₂ t₁ t₂ =
      after_owns a p sent f s' k' c' h c g (Completion 1 ∷ Error 2 NotExecutable ∷ []) l₁ l₂ low (awake (inl o₁)) e (o₁, (tt, tt)) (tt, (o₂, tt)) t₁ t₂
  told (Some Jammed) None k' c' h c g e o₁ o₂ t₁ t₂ = after_owns a p sent f s' k' c' h c g (Error 1 NotExecutable ∷ []) l₁ l₂ low (awake (inl o₁)) e (o₁, tt) (tt, tt) t₁ t₂
  told (Some Jammed) (Some Done) k' c' h c g e o₁ o₂ t₁ t₂ =
      after_owns a p sent f s' k' c' h c g (Error 1 NotExecutable ∷ Completion 2 ∷ []) l₁ l₂ low (awake (inl o₁)) e (o₁, (tt, tt)) (tt, (o₂, tt)) t₁ t₂
  told (Some Jammed) (Some Jammed) k' c' h c g e o₁ o₂ t₁ t₂ =
      after_owns a p sent f s' k' c' h c g (Error 1 NotExecutable ∷ Error 2 NotExecutable ∷ []) l₁ l₂ low (awake (inl o₁)) e (o₁, (tt, tt)) (tt, (o₂, tt)) t₁ t₂

pub tied_after_tick : {l₁ l₂ : Seen} {x₁ x₂ : Option Order} {c₁ c₂ : Slot} (a : ℕ) (p sent : List ℕ) (s' : State) (e : Endings) → a ≤ 7 →
    ((open_by l₁ ≡ true) ⊎ (open_by l₂ ≡ true) → eqb a 0 ≡ false) → Tied l₁ x₁ c₁ → Tied l₂ x₂ c₂ →
    SlotTicked c₁ e.one s'.head.slots.one → SlotTicked c₂ e.two s'.head.slots.two →
    s'.sockets ≡ record { one = settled e.one x₁; two = settled e.two x₂ } →
    sent ≡ ended (own_header a) 1 e.one ++ ended (own_header a) 2 e.two → After a p (one_tick_older l₁) (one_tick_older l₂) sent s'.head.setting s'
tied_after_tick {l₁} {l₂} {x₁} {x₂} a p sent s' e low awake t₁ t₂ d₁ d₂ k says =
    told a p sent s'.head.setting s' low (one_tick_older l₁) (one_tick_older l₂)
    (λ w. awake (elim w [ inl o ↦ inl (sym (still_open l₁) ∙ o) | inr o ↦ inr (sym (still_open l₂) ∙ o) ])) e.one e.two
    (record { one = settled e.one x₁; two = settled e.two x₂ }) s'.head.slots k refl (λ t. refl) says
    (from_open e.one s'.head.slots.one t₁ d₁) (from_open e.two s'.head.slots.two t₂ d₂)
    (ticked e.one s'.head.slots.one t₁ d₁) (ticked e.two s'.head.slots.two t₂ d₂)

-- Settings.

named_by : (x : Option Order) (o : Order) → x ≡ Some o → (t : Setting) (v : Option ℤ) → wants (parts o.targets) t ≡ v → (wants (parts o.targets) t ≡ None) ⊎ (names_by x t ≡ true)
named_by x o r t None e = inl e
named_by x o r t (Some v) e = inr (rw (r, e) refl)

-- a slot that names a setting is of an open command that does
named : {l : Seen} {x : Option Order} {c : Slot} (t : Setting) → Tied l x c → (wanted c t ≡ None) ⊎ Named l t
named t rests = inl refl
named t (works {p = p} {o = o} r low high) = named_by (read_as p) o r t (wants (parts o.targets) t) refl

zero_or_not : (v : ℤ) → (v ≡ pos 0) ⊎ (v ≡ pos 0 → ⊥)
zero_or_not (pos zero) = inl refl
zero_or_not (pos (suc n)) = inr (λ e. cc)
zero_or_not (negsuc n) = inr (λ e. cc)

module _ (m m' : Meaning) (e : Endings) (d : Ticked m e m') (t : Setting) (by : Unnamed m t) where
  by_axis : (x : Option Axis) → (about t).axis ≡ x → (m'.setting t ≡ m.setting t) ⊎ IsDriven m t
  by_axis None h = inl (d.stands t (λ z. z) by h)
  by_axis (Some x) h =
      let q = position_is t x h in
      elim (zero_or_not (m.setting (drive x))) [
        | inl z ↦ inl (subst (λ (s : Setting). m'.setting s ≡ m.setting s) q ((d.driven x (λ w. w) (subst (λ (s : Setting). Unnamed m s) (sym q) by)).stands z))
        | inr n ↦ inr (record { axis = x; is = q; moves = n })
      ]

pub changed : {l₁ l₂ : Seen} {x₁ x₂ : Option Order} (m m' : Meaning) (e : Endings) (t : Setting) → Ticked m e m' →
    Tied l₁ x₁ m.slots.one → Tied l₂ x₂ m.slots.two → (m'.setting t ≡ m.setting t) ⊎ (Named l₁ t ⊎ Named l₂ t ⊎ IsDriven m t)
changed m m' e t d t₁ t₂ = elim (named t t₁) [
  | inl n₁ ↦ elim (named t t₂) [
    | inl n₂ ↦ elim (by_axis m m' e d t (record { by_one = n₁; by_two = n₂ }) (about t).axis refl) [ inl s ↦ inl s | inr v ↦ inr (inr (inr v)) ]
    | inr c₂ ↦ inr (inr (inl c₂))
  ]
  | inr c₁ ↦ inr (inl c₁)
]
