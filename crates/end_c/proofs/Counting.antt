-- Calls that tell a count and write a buffer.
use Rattle.std.proofs.Common.{◌≡◌, ℕ, ◌+◌, ◌*◌, ◌%◌, ◌^◌, ◌<◌, ◌≤◌, ◌≢◌, List, ◌∷◌, ◌++◌, take, drop, length, Ok, Err, Result, add_assoc, sym, ap, ◌∙◌, refl}
use Rattle.std.proofs.lemmas.List.{length-take-le, take-append-drop}
use Rattle.end.specs.declared.faults.Fault.{Fault}
use Rattle.end.specs.declared.call.Call.TheVariants.{Byte, Tick, Open}
use Rattle.end.specs.Faults.{answered, count_told}
use Rattle.end_c.specs.Asked.{call_of}
use Rattle.std.proofs.lemmas.Bool.{cond-true, cond-false, lt-ltb, le-ltb, ne_eqb}
use Rattle.wire.specs.Line.{over}
use Rattle.end.specs.Records.{Record}
use Rattle.end_c.specs.Sums.{told, buffer_after, sum_of}
use Rattle.std.specs.Prelude.{slice_index}
use Rattle.std.proofs.Math.Nat.{mod-add-mod}

pub told_is : (r : Result ℕ Fault) → count_told r ≡ told (answered r)
told_is (Ok n) = refl
told_is (Err f) = refl

-- n bytes in front are new, and the others are as they were
pub over_front : (n : ℕ) (old new : List ℕ) → n ≤ length new → drop n new ≡ drop n old → new ≡ over (take n new) old
over_front n old new within e =
    sym (take-append-drop n new) ∙ ap (λ (l : List ℕ). take n new ++ l) (e ∙ ap (λ (m : ℕ). drop m old) (sym (length-take-le n new within)))

-- a sum of three that is wrapped at each step
pub wrapped_once : (a b c : ℕ) → ((a % 2 ^ 64 + b) % 2 ^ 64 + c) % 2 ^ 64 ≡ (a + b + c) % 2 ^ 64
wrapped_once a b c =
    mod-add-mod (a % 2 ^ 64 + b) (2 ^ 64) c
    ∙ ap (λ (n : ℕ). n % 2 ^ 64) (add_assoc (a % 2 ^ 64) b c)
    ∙ mod-add-mod a (2 ^ 64) (b + c)
    ∙ ap (λ (n : ℕ). n % 2 ^ 64) (sym (add_assoc a b c))

pub summed : {s count byte : ℕ} {buffer : List ℕ} (r : Record) (h : List Record) →
    s ≡ sum_of h → count ≡ told r.answer → byte ≡ slice_index buffer 1 → buffer ≡ buffer_after (r ∷ h) →
    ((s * 31 % 2 ^ 64 + count) % 2 ^ 64 + byte) % 2 ^ 64 ≡ sum_of (r ∷ h)
summed {s = s} {count = count} {byte = byte} r h e f g b =
    wrapped_once (s * 31) count byte
    ∙ ap (λ (n : ℕ). (n * 31 + count + byte) % 2 ^ 64) e
    ∙ ap (λ (n : ℕ). (sum_of h * 31 + n + byte) % 2 ^ 64) f
    ∙ ap (λ (n : ℕ). (sum_of h * 31 + told r.answer + n) % 2 ^ 64) (g ∙ ap (λ (l : List ℕ). slice_index l 1) b)

-- What a number asks for.

pub asks_for_byte : (n : ℕ) → n % 512 < 256 → call_of n ≡ Byte (n % 512)
asks_for_byte n lt = cond-true _ (Byte (n % 512)) _ (lt-ltb (n % 512) 256 lt)

pub asks_which_are_open : (n : ℕ) → 256 ≤ n % 512 → n % 512 ≢ 256 → call_of n ≡ Open
asks_which_are_open n ge ne = cond-false _ _ _ (le-ltb (n % 512) 256 ge) ∙ cond-false _ Tick Open (ne_eqb (n % 512) 256 ne)
