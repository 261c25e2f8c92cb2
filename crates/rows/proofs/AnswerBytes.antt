-- The answer to an inquiry, as bytes.
use Rattle.std.proofs.Common.{◌≡◌, ℕ, pos, negsuc, ◌/◌, ◌%◌, ◌≤◌, ◌<◌, Bool, true, false, eqb, List, [], ◌++◌, length, ℤ, refl, arith}
use Rattle.std.proofs.lemmas.Bool.{ne_eqb}
use Rattle.head.specs.declared.setting.Setting.{Setting}
use Rattle.head.specs.declared.setting.Setting.TheVariants.{Pan, Tilt}
use Rattle.rows.specs.declared.inquiry.Form.{Form}
use Rattle.rows.specs.declared.inquiry.Form.TheVariants.{Digit, Level, Number, PanTilt}
use Rattle.rows.specs.declared.inquiry.Inquiry.{Inquiry}
use Rattle.rows.specs.Answers.{answer_body}
use Rattle.rows.specs.Digits.{bits, digits}
use Rattle.wire.specs.Packets.{no_end}

-- Digits are no FF.

pub few_bits : (v : ℤ) → bits v < 65536
few_bits (pos n) = omega arith
few_bits (negsuc n) = omega arith

plain : (b : ℕ) → b < 16 → eqb b 0xff ≡ false
plain b few = ne_eqb b 0xff (λ e. omega arith)

no_end_digits : (v : ℤ) (rest : List ℕ) → no_end rest ≡ true → no_end (digits (bits v) ++ rest) ≡ true
no_end_digits v rest h =
    let n = bits v in
    let few : n < 65536 = few_bits v in
    simp (plain (n / 4096) (omega arith), plain (n / 256 % 16) (omega arith), plain (n / 16 % 16) (omega arith), plain (n % 16) (omega arith), h)

-- as many bytes as a packet has room for between header and FF
pub record IsShort (bytes : List ℕ) : Type 0 where
  pub some : 1 ≤ length bytes
  pub few : length bytes ≤ 14

module _ (f : Setting → ℤ) where
  pan_tilt_no_end : (pantilt : Bool) → no_end (answer_body PanTilt f Pan pantilt) ≡ true
  pan_tilt_no_end true = no_end_digits (f Pan) (digits (bits (f Tilt))) (no_end_digits (f Tilt) [] refl)
  pan_tilt_no_end false = refl

  body_no_end : (form : Form) (s : Setting) (pantilt : Bool) → no_end (answer_body form f s pantilt) ≡ true
  body_no_end Digit s pantilt = simp (plain (bits (f s) % 16) (omega arith))
  body_no_end Level s pantilt = simp (plain (bits (f s) / 16 % 16) (omega arith), plain (bits (f s) % 16) (omega arith))
  body_no_end Number s pantilt = no_end_digits (f s) [] refl
  body_no_end PanTilt s pantilt = pan_tilt_no_end pantilt

  pan_tilt_short : (pantilt : Bool) → IsShort (answer_body PanTilt f Pan pantilt)
  pan_tilt_short true = record { some = omega arith; few = omega arith }
  pan_tilt_short false = record { some = omega arith; few = omega arith }

  body_short : (form : Form) (s : Setting) (pantilt : Bool) → IsShort (answer_body form f s pantilt)
  body_short Digit s pantilt = record { some = omega arith; few = omega arith }
  body_short Level s pantilt = record { some = omega arith; few = omega arith }
  body_short Number s pantilt = record { some = omega arith; few = omega arith }
  body_short PanTilt s pantilt = pan_tilt_short pantilt

-- the body of the answer to an inquiry has no FF, whatever the settings are
pub answer_no_end : (q : Inquiry) (f : Setting → ℤ) (pantilt : Bool) → no_end (answer_body q.form f q.setting pantilt) ≡ true
answer_no_end q f pantilt = body_no_end f q.form q.setting pantilt

-- and it has 1 to 14 bytes
pub answer_short : (q : Inquiry) (f : Setting → ℤ) (pantilt : Bool) → IsShort (answer_body q.form f q.setting pantilt)
answer_short q f pantilt = body_short f q.form q.setting pantilt
