use Rattle.std.proofs.Common.{◌≡◌, true, sym, ◌∙◌, arith, w32, SFits, rules}
use Rattle.std.proofs.lemmas.Int.{ints}
use Rattle.head.specs.declared.setting.Range.TheVariants.{Span}
use Rattle.head.specs.Settings.{about, position, in_range}
use Rattle.wild.proofs.Ways.{Ends, ends, spanned}
use Rattle.wild.proofs.wild.Wild.drive_end.Goals as goal

span : (c : goal.In-Span) → (about (position c.args.axis)).range ≡ Span c.in-Span.low c.in-Span.high
span c = simp c.position-2.ensures at (sym c.range.ensures ∙ c.in-Span.is)

around : (c : goal.In-Span) → Ends c.in-Span.low c.in-Span.high c.get-from.result
around c =
    let a = c.args.axis in
    let h : in_range (position a) c.get-from.result ≡ true = rw (c.get-from.ensures, c.position.ensures) (c.args.self.now.settings.ranged (position a)) in
    ends a c.in-Span.low c.in-Span.high c.get-from.result (span c) h

pub driven_to-requires-clause-above : goal.driven_to-requires-clause-above
driven_to-requires-clause-above c = let e = around c in omega (arith, ints)

pub driven_to-requires-clause-under : goal.driven_to-requires-clause-under
driven_to-requires-clause-under c = let e = around c in omega (arith, ints)

pub returns-in-Span-clause-ranged : goal.returns-in-Span-clause-ranged
returns-in-Span-clause-ranged c =
    let a = c.args.axis in
    let r : (about (position a)).range ≡ Span c.in-Span.low c.in-Span.high = simp c.position-2.ensures at (sym c.range.ensures ∙ c.in-Span.is) in
    let h : in_range (position a) c.get-from.result ≡ true = rw (c.get-from.ensures, c.position.ensures) (c.args.self.now.settings.ranged (position a)) in
    let e = ends a c.in-Span.low c.in-Span.high c.get-from.result r h in
    let f : SFits w32 c.driven_to.result = search rules in
    spanned a c.in-Span.low c.in-Span.high _ r (omega (arith, ints)) (omega (arith, ints))
