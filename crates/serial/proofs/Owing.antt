-- Two reads owe together what one does.
use Rattle.std.proofs.Common.{◌≡◌, ℕ, ◌+◌, ◌-◌, ◌*◌, ◌/◌, ◌≤◌, sym, ap, ◌∙◌, arith, rules}
use Rattle.std.proofs.Math.Nat.{div-mul-le_self, lt-div-mul-add, div-eq_of_lt-le}
use Rattle.std.proofs.lemmas.Nat.{le-div}
use Rattle.serial.specs.declared.ticks.Ticks.{Ticks}
use Rattle.serial.specs.Theorems.{ReadsOweTogether}
use Rattle.serial.specs.Ticks.{due, owed, paid_at}

-- whole parts of n in what is left of b, behind the whole parts in a
more_later : (a b n : ℕ) → 1 ≤ n → a ≤ b → a / n ≤ b / n
more_later a b n some le = let in_a = div-mul-le_self a n in le-div (a / n) b n some (omega arith)

left_over : (a b n : ℕ) → 1 ≤ n → a ≤ b → (b - a / n * n) / n ≡ b / n - a / n
left_over a b n some le =
    let k = a / n in
    let m = b / n in
    let in_a = div-mul-le_self a n in
    let in_b = div-mul-le_self b n in
    let past = lt-div-mul-add {a = b} {b = n} some in
    let few : k ≤ m = more_later a b n some le in
    let split : m ≡ k + (m - k) = omega arith in
    let parts = ap (λ (x : ℕ). x * n) split in
    div-eq_of_lt-le n (omega arith) (omega arith)

-- with no jump of the clock, what is due is owed, and paid
due_is_owed : (t : Ticks) (now : ℕ) → due t now ≤ 50 → owed t now ≡ due t now
due_is_owed t now few = search rules

due_is_paid : (t : Ticks) (now : ℕ) → t.paid ≤ now → due t now ≤ 50 →
    paid_at t now ≡ record { length = t.length; paid = t.paid + due t now * t.length }
due_is_paid t now forth few = search rules

module _ (t : Ticks) (first second : ℕ) (some : 1 ≤ t.length) (forth : t.paid ≤ first) (later : first ≤ second) (few : due t second ≤ 50) where
  abbrev then : Ticks
  then = record { length = t.length; paid = t.paid + due t first * t.length }

  at_first : due t first ≤ due t second
  at_first = more_later (first - t.paid) (second - t.paid) t.length some (omega arith)

  is_then : paid_at t first ≡ then
  is_then = let more = at_first in due_is_paid t first forth (omega arith)

  due_then : due then second ≡ due t second - due t first
  due_then =
      let left : second - (t.paid + due t first * t.length) ≡ (second - t.paid) - due t first * t.length = omega arith in
      ap (λ (x : ℕ). x / t.length) left ∙ left_over (first - t.paid) (second - t.paid) t.length some (omega arith)

  then_before : then.paid ≤ second
  then_before = let in_first = div-mul-le_self (first - t.paid) t.length in omega arith

  few_then : due then second ≤ 50
  few_then = let e = due_then in omega arith

  ticks : owed t first + owed (paid_at t first) second ≡ owed t second
  ticks =
      let more = at_first in
      let e = due_then in
      let one : owed t first ≡ due t first = due_is_owed t first (omega arith) in
      let two : owed (paid_at t first) second ≡ due then second = ap (λ (x : Ticks). owed x second) is_then ∙ due_is_owed then second few_then in
      let both : owed t second ≡ due t second = due_is_owed t second few in
      omega arith

  time : paid_at (paid_at t first) second ≡ paid_at t second
  time =
      let more = at_first in
      let e = due_then in
      let split : due t second ≡ due t first + due then second = omega arith in
      let parts = ap (λ (x : ℕ). x * t.length) split in
      let sum : then.paid + due then second * t.length ≡ t.paid + due t second * t.length = omega arith in
      ap (λ (x : Ticks). paid_at x second) is_then
      ∙ due_is_paid then second then_before few_then
      ∙ ap (λ (n : ℕ). let x : Ticks = record { length = t.length; paid = n } in x) sum
      ∙ sym (due_is_paid t second (omega arith) few)

pub reads_owe_together : ReadsOweTogether
reads_owe_together = record { ticks = ticks; time = time }
