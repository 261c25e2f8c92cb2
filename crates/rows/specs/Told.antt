-- Answers read back, by the rules that read a command's digits: an answer tells the values that are looked at.
use Rattle.std.specs.Prelude.{◌≡◌, ℕ, Bool, true, false, if◌then◌else◌, ◌&&◌, List, [], ◌∷◌, length, map, ℤ, pos, Some, None, Option, ◌==◌, slice_index}
use Rattle.std.specs.Option.{option_and_then, option_map}
use Rattle.head.specs.declared.setting.Setting.{Setting}
use Rattle.rows.specs.declared.inquiry.Form.{Form}
use Rattle.rows.specs.declared.inquiry.Form.TheVariants.{Digit, Level, Number, PanTilt}
use Rattle.rows.specs.declared.inquiry.Inquiry.{Inquiry}
use Rattle.rows.specs.Digits.{from_digit, from_level, from_digits, signed}
use Rattle.rows.specs.Forms.{settings_told}
use Rattle.rows.specs.Reading.{four}
use Rattle.wire.specs.Packets.{body_of}

-- how many bytes the digits of an answer are, with the 00 00 of two digits
abbrev pub digit_count : Form → ℕ
digit_count Digit = 1
digit_count Level = 4
digit_count Number = 4
digit_count PanTilt = 8

abbrev pub one_value : Option ℕ → Option (List ℤ)
one_value n = option_map (λ v. pos v ∷ []) n

-- the values of so many digits: a number, or pan and tilt in two's complement
abbrev pub digits_tell : Form → List ℕ → Option (List ℤ)
digits_tell Digit ds = one_value (from_digit (slice_index ds 0))
digits_tell Level ds = one_value (from_level ds)
digits_tell Number ds = one_value (from_digits ds)
digits_tell PanTilt ds =
    option_and_then (λ x. option_map (λ y. signed x ∷ signed y ∷ []) (from_digits (four 4 ds)))
    (from_digits (four 0 ds))

-- the values that the body of an answer tells, 50 and its digits
abbrev pub values_in : Form → List ℕ → Option (List ℤ)
values_in form [] = None
values_in form (t ∷ ds) = if t == 0x50 && length ds == digit_count form then digits_tell form ds else None

-- packet p answers inquiry q to what has these values, and pan and tilt or not
pub record TellsTruly (header : ℕ) (q : Inquiry) (f : Setting → ℤ) (pantilt : Bool) (p : List ℕ) : Type 0 where
  -- error 41, where pan and tilt are asked for and there are none
  pub without : q.form ≡ PanTilt → pantilt ≡ false → p ≡ header ∷ 0x60 ∷ 0x41 ∷ 0xff ∷ []
  -- otherwise the values of what is asked for
  pub values : (q.form ≡ PanTilt → pantilt ≡ true) →
      values_in q.form (body_of p) ≡ Some (map f (settings_told q.form q.setting))
