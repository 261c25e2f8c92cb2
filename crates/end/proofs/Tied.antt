-- A socket by the book, by the end and by the head: what is kept from call to call.
use Rattle.std.proofs.Common.{◌≡◌, ℕ, ◌+◌, ◌≤◌, false, eqb, List, ℤ, Some, None, Option, sym, refl, arith}
use Rattle.end.specs.declared.socket.Sockets.{Sockets}
use Rattle.end.specs.Book.{Seen, closed, working, cut, seen_after_replies}
use Rattle.end.specs.Law.{open_by, SlotAgrees, InOrder, InTime}
use Rattle.end.specs.Sockets.{is_open}
use Rattle.end.specs.States.{State}
use Rattle.end.proofs.Spoken.{Read, owns, spoken, AllDue, read_owns}
use Rattle.head.specs.declared.order.Order.{Order}
use Rattle.head.specs.declared.setting.Setting.{Setting}
use Rattle.head.specs.Meaning.{Slot, Slots, idle, busy}
use Rattle.rows.specs.Requests.{read_as}
use Rattle.rules.specs.declared.reply.Reply.{Reply}

pub data Tied : Seen → Option Order → Slot → Type 0 where
  rests : Tied closed None idle
  works : {p : List ℕ} {n m : ℕ} {o : Order} → read_as p ≡ Some o → 1 ≤ m → n + m ≤ 1000 → Tied (working p n) (Some o) (busy o m)

-- What the law says of it.

pub tied_open : {l : Seen} {x : Option Order} {c : Slot} → Tied l x c → is_open x ≡ open_by l
tied_open rests = refl
tied_open (works r low high) = refl

pub tied_holds : {l : Seen} {x : Option Order} {c : Slot} → Tied l x c → SlotAgrees l c
tied_holds rests = record { whether = refl; which = refl }
tied_holds (works r low high) = record { whether = refl; which = sym r }

pub tied_in_time : {l : Seen} {x : Option Order} {c : Slot} → Tied l x c → InTime l
tied_in_time rests = tt
tied_in_time (works r low high) = omega arith

-- Both sockets after the sent packets of an end with address a were read; p is the last whole packet.
pub record After (a : ℕ) (p : List ℕ) (l₁ l₂ : Seen) (sent : List ℕ) (f : Setting → ℤ) (s' : State) : Type 0 where
  pub one : Tied (seen_after_replies a 1 p (cut sent) l₁) s'.sockets.one s'.head.slots.one
  pub two : Tied (seen_after_replies a 2 p (cut sent) l₂) s'.sockets.two s'.head.slots.two
  pub order_one : InOrder a 1 p (cut sent) l₁
  pub order_two : InOrder a 2 p (cut sent) l₂
  pub settings : (t : Setting) → s'.head.setting t ≡ f t

module _ (a : ℕ) (p sent : List ℕ) (f : Setting → ℤ) (s' : State) (k' : Sockets) (c' : Slots) (stand : s'.sockets ≡ k') (slots : s'.head.slots ≡ c') (settings : (t : Setting) → s'.head.setting t ≡ f t) where
  -- by what is read in the bytes that they are
  pub after_read : (bytes : List ℕ) (l₁ l₂ : Seen) {l₁' l₂' : Seen} → sent ≡ bytes → Read a 1 p bytes l₁ l₁' → Read a 2 p bytes l₂ l₂' → Tied l₁' k'.one c'.one → Tied l₂' k'.two c'.two →
      After a p l₁ l₂ sent f s'
  after_read bytes l₁ l₂ e r₁ r₂ t₁ t₂ = record {
    one = rw (e, r₁.line, stand, slots) t₁;
    two = rw (e, r₂.line, stand, slots) t₂;
    order_one = rw e r₁.order;
    order_two = rw e r₂.order;
    settings = settings;
  }

  pub after_owns : (rs : List Reply) (l₁ l₂ : Seen) → a ≤ 7 → eqb a 0 ≡ false → sent ≡ owns a rs → AllDue p 1 rs l₁ → AllDue p 2 rs l₂ →
      Tied (spoken p 1 rs l₁) k'.one c'.one → Tied (spoken p 2 rs l₂) k'.two c'.two → After a p l₁ l₂ sent f s'
  after_owns rs l₁ l₂ low has e d₁ d₂ t₁ t₂ = after_read (owns a rs) l₁ l₂ e (read_owns a low has 1 p rs l₁ d₁) (read_owns a low has 2 p rs l₂ d₂) t₁ t₂
