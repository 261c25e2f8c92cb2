-- Rows as both tables have them: a category, codes, and a form of operands.
use Rattle.std.specs.Prelude.{ℕ, Bool, ◌&&◌, List, is_some, Option, ◌==◌}
use Rattle.head.specs.declared.setting.Setting.{Setting}
use Rattle.rows.specs.declared.codes.Codes.{Codes}
use Rattle.rows.specs.declared.table.TableRow.{TableRow}
use Rattle.rows.specs.Codes.{setting_of}
use Rattle.std.specs.Option.{option_and_then}

abbrev pub row : {F : Type 0} → ℕ → Codes → F → TableRow F
row k cs f = record { category = k; codes = cs; form = f }

abbrev pub row_has : {F : Type 0} → TableRow F → ℕ → ℕ → Bool
row_has r k c = k == r.category && is_some (setting_of r.codes c)

-- where a form makes such things of operands, with a setting
abbrev pub row_reads : {F M : Type 0} → (F → Setting → List ℕ → Option M) →
    TableRow F → ℕ → List ℕ → Option M
row_reads reads r c os = option_and_then (λ s. reads r.form s os) (setting_of r.codes c)
