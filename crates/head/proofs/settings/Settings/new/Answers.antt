use Rattle.std.proofs.Common.{◌≡◌, true, List, ℤ, pos, get_or, refl, sym, ap, ◌∙◌, subst, rules}
use Rattle.head.specs.declared.setting.Setting.{Setting}
use Rattle.head.specs.declared.setting.Setting.TheVariants.{Power}
use Rattle.head.specs.Settings.{about, all, number, in_range, value_in}
use Rattle.head.proofs.Tables.{in_place, below, each}
use Rattle.head.proofs.settings.Settings.new.Goals as goal

-- the values that are made of the table have at each setting's number its first value
abbrev Firsts : List ℤ → Type 0
Firsts vs = (s : Setting) → value_in vs s ≡ (about (get_or all (number s) Power)).first

first_at : (vs : List ℤ) → Firsts vs → (s : Setting) → value_in vs s ≡ (about s).first
first_at vs h s = h s ∙ ap (λ (x : Setting). (about x).first) (in_place s)

in_range_at : (vs : List ℤ) → Firsts vs → (s : Setting) → in_range s (value_in vs s) ≡ true
unfolding in_range
in_range_at vs h s = subst (λ (v : ℤ). in_range s v ≡ true) (sym (first_at vs h s)) (each (λ z. in_range z (about z).first) refl s)

pub invariant_of-result : goal.invariant_of-result
invariant_of-result c = record {
  ranged = in_range_at c.map.result (λ s. let (p, q, called) = c.map.ensures.items.at (number s) Power (pos 0) (below s) in search rules);
}
