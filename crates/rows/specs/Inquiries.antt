-- Inquiries, the rows of them, and what an inquiry is read as.
use Rattle.std.specs.Prelude.{◌≡◌, ℕ, if◌then◌else◌, List, [], ◌∷◌, length, Some, None, Option, Result, refl, ◌==◌}
use Rattle.head.specs.declared.setting.Setting.{Setting}
use Rattle.head.specs.declared.setting.Setting.TheVariants.{Power, Zoom, Focus, Identity, Pan}
use Rattle.rows.specs.declared.codes.Codes.TheVariants.{One, Modes, Levels}
use Rattle.rows.specs.declared.faults.RowFault.{RowFault}
use Rattle.rows.specs.declared.inquiries.NoOperands.{NoOperands}
use Rattle.rows.specs.declared.inquiry.Form.{Form}
use Rattle.rows.specs.declared.inquiry.Inquiry.{Inquiry}
use Rattle.rows.specs.declared.table.TableRow.{TableRow}
use Rattle.rows.specs.Forms.{form_of}
use Rattle.rows.specs.Rows.{row, row_has, row_reads}
use Rattle.rows.specs.Search.{found}

abbrev pub with_form : (s : Setting) → (x : Option Form) → form_of s ≡ x → Option Inquiry
with_form s (Some f) e = Some (record { setting = s; form = f; fits = e })
with_form s None e = None

-- the inquiry for a setting, if it can be asked for
abbrev pub inquiry_of : Setting → Option Inquiry
inquiry_of s = with_form s (form_of s) refl

-- an inquiry has no operands
abbrev pub inquiry_asked : NoOperands → Setting → List ℕ → Option Inquiry
inquiry_asked f s os = if length os == 0 then inquiry_of s else None

abbrev no_operands : NoOperands
no_operands = record {}

abbrev pub inquiries : List (TableRow NoOperands)
inquiries =
    row 0x04 (One 0x00 Power) no_operands
    ∷ row 0x04 (One 0x47 Zoom) no_operands
    ∷ row 0x04 (One 0x48 Focus) no_operands
    ∷ row 0x04 (One 0x22 Identity) no_operands
    ∷ row 0x04 Modes no_operands
    ∷ row 0x04 Levels no_operands
    ∷ row 0x06 (One 0x12 Pan) no_operands
    ∷ []

-- what an inquiry is read as, behind its first byte, with its row's place; shut, since the table is long
unfoldable pub read_inquiry : List ℕ → Result (ℕ × Inquiry) RowFault
read_inquiry body = found row_has (row_reads inquiry_asked) inquiries body
