-- The answers to inquiries, where f has the values that are looked at.
use Rattle.std.specs.Prelude.{ℕ, ◌/◌, ◌%◌, Bool, if◌then◌else◌, List, [], ◌∷◌, ◌++◌, ℤ}
use Rattle.head.specs.declared.setting.Setting.{Setting}
use Rattle.head.specs.declared.setting.Setting.TheVariants.{Pan, Tilt}
use Rattle.head.specs.declared.traits.Look.{Ghosts}
use Rattle.rows.specs.declared.inquiry.Form.{Form}
use Rattle.rows.specs.declared.inquiry.Form.TheVariants.{Digit, Level, Number, PanTilt}
use Rattle.rows.specs.declared.inquiry.Inquiry.{Inquiry}
use Rattle.rows.specs.Digits.{bits, digits}

abbrev pub looked_digits : (Setting → ℤ) → Setting → List ℕ
looked_digits f s = digits (bits (f s))

-- what stands behind the header: the value, or error 41 where pan and tilt are asked for and there are none
abbrev pub answer_body : Form → (Setting → ℤ) → Setting → Bool → List ℕ
answer_body Digit f s pantilt = 0x50 ∷ bits (f s) % 16 ∷ []
answer_body Level f s pantilt = 0x50 ∷ 0 ∷ 0 ∷ bits (f s) / 16 % 16 ∷ bits (f s) % 16 ∷ []
answer_body Number f s pantilt = 0x50 ∷ looked_digits f s
answer_body PanTilt f s pantilt =
    if pantilt then 0x50 ∷ (looked_digits f Pan ++ looked_digits f Tilt)
    else 0x60 ∷ 0x41 ∷ []

-- the packet: header, answer, FF
abbrev pub answer_in : ℕ → Form → Setting → (Setting → ℤ) → Bool → List ℕ
answer_in header form s f pantilt = header ∷ (answer_body form f s pantilt ++ 0xff ∷ [])

abbrev pub answer_packet : ℕ → Inquiry → (Setting → ℤ) → Bool → List ℕ
answer_packet header q f pantilt = answer_in header q.form q.setting f pantilt

-- the packet that answers for what can be looked at
abbrev pub answer_looked : {L : Type 0} → Ghosts L → L → ℕ → Inquiry → List ℕ
answer_looked look x header q = answer_packet header q (look.setting x) (look.pantilt x)

-- the same of pan and tilt, which one inquiry asks for
abbrev pub pan_tilt_looked : {L : Type 0} → Ghosts L → L → ℕ → List ℕ
pan_tilt_looked look x header = answer_in header PanTilt Pan (look.setting x) (look.pantilt x)
