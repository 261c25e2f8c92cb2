use Rattle.std.proofs.Common.{◌≡◌, ℕ, ℤ, pos, negsuc, ◌+ℤ◌, ◌-ℤ◌, ◌≤ℤ◌, arith, w32, to_z, of_z}
use Rattle.std.proofs.lemmas.Int.{ints, clamps}
use Rattle.std.specs.Int.{int_min, int_max, saturate_to_bits}
use Rattle.heads.specs.Motion.{toward}
use Rattle.heads.proofs.motion.toward.Goals as goal

low_end : (z : ℤ) → z ≤ℤ pos 2147483647 → saturate_to_bits 31 z ≡ int_max (negsuc 2147483647) z
low_end (pos n) h = omega (arith, ints, clamps)
low_end (negsuc n) h = omega (arith, ints, clamps)

high_end : (z : ℤ) → negsuc 2147483647 ≤ℤ z → saturate_to_bits 31 z ≡ int_min z (pos 2147483647)
high_end (pos n) h = omega (arith, ints, clamps)
high_end (negsuc n) h = omega (arith, ints, clamps)

-- ends beyond what the type holds are beyond the target too
clamped : (n : ℕ) (v t : ℤ) → negsuc 2147483647 ≤ℤ v → v ≤ℤ pos 2147483647 → negsuc 2147483647 ≤ℤ t → t ≤ℤ pos 2147483647
    → int_max (saturate_to_bits 31 (v -ℤ pos n)) (int_min t (saturate_to_bits 31 (v +ℤ pos n))) ≡ toward n v t
clamped n v t a b p q =
    let l = low_end (v -ℤ pos n) (omega (arith, ints)) in
    let h = high_end (v +ℤ pos n) (omega (arith, ints)) in
    omega (arith, ints, clamps)

abbrev back : ℤ → ℤ
back z = to_z w32 (of_z w32 z)

pub returns : goal.returns
returns c =
    let v : back c.args.from ≡ c.args.from = omega (arith, ints) in
    let t : back c.args.to ≡ c.args.to = omega (arith, ints) in
    let n : back c.from-step.result ≡ pos c.args.step = omega (arith, ints) in
    let l : back c.saturating_sub.result ≡ c.saturating_sub.result = omega (arith, ints) in
    let h : back c.saturating_add.result ≡ c.saturating_add.result = omega (arith, ints) in
    let r : back c.clamp.result ≡ c.clamp.result = omega (arith, ints) in
    let m = clamped c.args.step c.args.from c.args.to (omega (arith, ints)) (omega (arith, ints)) (omega (arith, ints)) (omega (arith, ints)) in
    cc (c.clamp.ensures.value, c.saturating_sub.ensures, c.saturating_add.ensures)
