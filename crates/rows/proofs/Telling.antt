-- The digits of an answer are the values that it tells.
use Rattle.std.proofs.Common.{◌≡◌, ℕ, ◌+◌, ◌-◌, ◌*◌, ◌/◌, ◌%◌, ◌<◌, ◌≤◌, Bool, true, false, cond, List, [], ◌∷◌, ◌++◌, length, take, map, ℤ, pos, negsuc, ◌≤ℤ◌, IfSome, Some, None, Option, sym, refl, ap, ◌∙◌, subst, arith}
use Rattle.std.proofs.lemmas.Bool.{lt-ltb, le-ltb}
use Rattle.std.proofs.lemmas.Int.{ints}
use Rattle.head.specs.declared.setting.Setting.{Setting}
use Rattle.head.specs.declared.setting.Setting.TheVariants.{Pan, Tilt}
use Rattle.head.specs.Settings.{in_range}
use Rattle.rows.specs.declared.inquiry.Form.{Form}
use Rattle.rows.specs.declared.inquiry.Form.TheVariants.{Digit, Level, Number, PanTilt}
use Rattle.rows.specs.declared.inquiry.Inquiry.{Inquiry}
use Rattle.rows.specs.Answers.{answer_body, answer_packet, answer_looked}
use Rattle.wire.specs.Line.{over, over_if_room, count_if_room}
use Rattle.head.specs.declared.traits.Look.{Ghosts}
use Rattle.std.proofs.lemmas.List.{take_at, length_push}
use Rattle.std.specs.Prelude.{nat_le, drop}
use Rattle.rows.specs.Digits.{from_digit, from_level, from_digits, signed, bits, digits}
use Rattle.rows.specs.Forms.{form_of, settings_told, CanTell}
use Rattle.rows.specs.Told.{one_value, values_in, TellsTruly}
use Rattle.rows.proofs.AnswerBytes.{few_bits}
use Rattle.rows.proofs.Fitting.{in_form, tilt_in_form}
use Rattle.wire.specs.Packets.{body_of}

one_of : (n : ℕ) → n < 16 → from_digit n ≡ Some n
one_of n few = simp (lt-ltb n 16 few)

two_of : (p q : ℕ) → p < 16 → q < 16 → from_level (0 ∷ 0 ∷ p ∷ q ∷ []) ≡ Some (p * 16 + q)
two_of p q few less = simp (lt-ltb p 16 few, lt-ltb q 16 less)

four_of : (p q r s : ℕ) → p < 16 → q < 16 → r < 16 → s < 16 → from_digits (p ∷ q ∷ r ∷ s ∷ []) ≡ Some (p * 4096 + q * 256 + r * 16 + s)
four_of p q r s a b c d = simp (lt-ltb p 16 a, lt-ltb q 16 b, lt-ltb r 16 c, lt-ltb s 16 d)

sum_of_digits : (n : ℕ) → n < 65536 → n / 4096 * 4096 + n / 256 % 16 * 256 + n / 16 % 16 * 16 + n % 16 ≡ n
sum_of_digits n few = omega arith

all_digits : (n : ℕ) → n < 65536 → from_digits (digits n) ≡ Some n
all_digits n few =
    four_of (n / 4096) (n / 256 % 16) (n / 16 % 16) (n % 16) (omega arith) (omega arith) (omega arith) (omega arith) ∙ ap Some (sum_of_digits n few)

bits_are : (n : ℕ) → n < 65536 → bits (pos n) ≡ n
bits_are n few = omega arith

-- sixteen bits and back
signed_bits : (v : ℤ) → CanTell PanTilt v → signed (bits v) ≡ v
signed_bits (pos n) h =
    let few : n < 0x8000 = omega (arith, ints) in
    let e : n % 0x10000 ≡ n = omega arith in
    ap signed e ∙ simp (lt-ltb n 0x8000 few)
signed_bits (negsuc n) h =
    let few : n < 0x8000 = omega (arith, ints) in
    let e : 0xffff - n % 0x10000 ≡ 0xffff - n = omega arith in
    let high : 0x8000 ≤ 0xffff - n = omega arith in
    let back : 0xffff - (0xffff - n) ≡ n = omega arith in
    ap signed e ∙ simp (le-ltb (0xffff - n) 0x8000 high, back)

-- a value that is no less than 0
tells_number : (v : ℤ) (n : ℕ) → pos 0 ≤ℤ v → v ≤ℤ pos n → n < 0x10000 → (bits v ≤ n) × (pos (bits v) ≡ v)
tells_number (pos m) n l h few =
    let less : m ≤ n = omega (arith, ints) in
    let e : m % 0x10000 ≡ m = omega arith in
    (omega arith, ap pos e)
tells_number (negsuc m) n l h few = absurd (omega (arith, ints))

body_is : (h : ℕ) (t : List ℕ) → body_of (h ∷ (t ++ 0xff ∷ [])) ≡ t
body_is h t = take_at t (0xff ∷ []) (length (h ∷ (t ++ 0xff ∷ [])) - 2) (let l = length_push t 0xff in omega arith)

module _ (f : Setting → ℤ) where
  one_told : (s : Setting) (n : Option ℕ) → n ≡ Some (bits (f s)) → pos (bits (f s)) ≡ f s → one_value n ≡ Some (f s ∷ [])
  one_told s n e g = ap one_value e ∙ ap (λ (v : ℤ). Some (v ∷ [])) g

  digit_told : (s : Setting) → CanTell Digit (f s) → one_value (from_digit (bits (f s) % 16)) ≡ Some (f s ∷ [])
  digit_told s h =
      let (few, is) = tells_number (f s) 15 h.low h.high (omega arith) in
      let same : bits (f s) % 16 ≡ bits (f s) = omega arith in
      one_told s _ (one_of (bits (f s) % 16) (omega arith) ∙ ap Some same) is

  level_told : (s : Setting) → CanTell Level (f s) → one_value (from_level (0 ∷ 0 ∷ bits (f s) / 16 % 16 ∷ bits (f s) % 16 ∷ [])) ≡ Some (f s ∷ [])
  level_told s h =
      let (few, is) = tells_number (f s) 255 h.low h.high (omega arith) in
      let same : bits (f s) / 16 % 16 * 16 + bits (f s) % 16 ≡ bits (f s) = omega arith in
      one_told s _ (two_of (bits (f s) / 16 % 16) (bits (f s) % 16) (omega arith) (omega arith) ∙ ap Some same) is

  number_told : (s : Setting) → CanTell Number (f s) → one_value (from_digits (digits (bits (f s)))) ≡ Some (f s ∷ [])
  number_told s h =
      let (few, is) = tells_number (f s) 65535 h.low h.high (omega arith) in
      one_told s _ (all_digits (bits (f s)) (omega arith)) is

  pan_tilt_told : CanTell PanTilt (f Pan) → CanTell PanTilt (f Tilt) → values_in PanTilt (answer_body PanTilt f Pan true) ≡ Some (f Pan ∷ f Tilt ∷ [])
  pan_tilt_told h g = simp (all_digits (bits (f Pan)) (few_bits (f Pan)), all_digits (bits (f Tilt)) (few_bits (f Tilt)), signed_bits (f Pan) h, signed_bits (f Tilt) g)

  error_told : (form : Form) (s : Setting) (pantilt : Bool) → form ≡ PanTilt → pantilt ≡ false → answer_body form f s pantilt ≡ 0x60 ∷ 0x41 ∷ []
  error_told Digit s pantilt e g = cc
  error_told Level s pantilt e g = cc
  error_told Number s pantilt e g = cc
  error_told PanTilt s pantilt e g = simp g

  -- the digits of an answer, where every value is in range
  module _ (ranged : (s : Setting) → in_range s (f s) ≡ true) where
    body_told : (form : Form) (s : Setting) (pantilt : Bool) → form_of s ≡ Some form → (form ≡ PanTilt → pantilt ≡ true)
        → values_in form (answer_body form f s pantilt) ≡ Some (map f (settings_told form s))
    body_told Digit s pantilt e h = digit_told s (in_form s Digit (f s) e (ranged s))
    body_told Level s pantilt e h = level_told s (in_form s Level (f s) e (ranged s))
    body_told Number s pantilt e h = number_told s (in_form s Number (f s) e (ranged s))
    body_told PanTilt s pantilt e h =
        simp (h refl) (pan_tilt_told (in_form Pan PanTilt (f Pan) refl (ranged Pan)) (tilt_in_form (f Tilt) (ranged Tilt)))

    pub truly_told : (header : ℕ) (q : Inquiry) (pantilt : Bool) → TellsTruly header q f pantilt (answer_packet header q f pantilt)
    truly_told header q pantilt =
        record {
          without = λ e g. ap (λ (x : List ℕ). header ∷ (x ++ 0xff ∷ [])) (error_told q.form q.setting pantilt e g);
          values = λ h.
              ap (values_in q.form) (body_is header (answer_body q.form f q.setting pantilt)) ∙ body_told q.form q.setting pantilt q.fits h;
        }

-- What stands in the buffer, where it has room.

module _ (P : List ℕ → Type 0) (bytes out : List ℕ) (h : P bytes) where
  in_front : (b : Bool) → IfSome (cond b (Some (length bytes)) None) (λ n. P (take n (cond b (over bytes out) out)))
  in_front true = subst P (sym (take_at bytes (drop (length bytes) out) (length bytes) refl)) h
  in_front false = tt

  in_buffer : (r : Option ℕ) (new : List ℕ) → r ≡ count_if_room bytes out → new ≡ over_if_room bytes out → IfSome r (λ n. P (take n new))
  in_buffer r new e g =
      subst (λ (x : Option ℕ). IfSome x (λ n. P (take n new))) (sym e)
      (subst (λ (x : List ℕ). IfSome (count_if_room bytes out) (λ n. P (take n x))) (sym g) (in_front (nat_le (length bytes) (length out))))

pub answered : {L : Type 0} (look : Ghosts L) (x : L) (header : ℕ) (q : Inquiry) (out : List ℕ) (r : Option ℕ) (new : List ℕ)
    → ((s : Setting) → in_range s (look.setting x s) ≡ true) → r ≡ count_if_room (answer_looked look x header q) out → new ≡ over_if_room (answer_looked look x header q) out
    → IfSome r (λ n. TellsTruly header q (look.setting x) (look.pantilt x) (take n new))
answered look x header q out r new ranged e g =
    in_buffer (TellsTruly header q (look.setting x) (look.pantilt x)) (answer_looked look x header q) out (truly_told (look.setting x) ranged header q (look.pantilt x)) r new e g
