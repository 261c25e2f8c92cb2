use Rattle.std.proofs.Common.{Err, ◌∙◌, sym, ap, arith}
use Rattle.std.proofs.lemmas.List.{get_or_default}
use Rattle.std.specs.List.{list_any}
use Rattle.std.specs.Option.{ok_or}
use Rattle.rows.specs.Admitted.{covers, admits}
use Rattle.rows.specs.Search.{fault_of}
use Rattle.rows.proofs.Firsts.{found, missed}
use Rattle.rows.proofs.find.search.Goals as goal

pub returns-in-Some : goal.returns-in-Some
returns-in-Some g c =
    let f = admits g.R.Row c.args.body.now in
    let rows = c.args.rows.now in
    let i = c.loop-i.i in
    let row = c.index-rows-i.result in
    ap (λ o. ok_or o (fault_of (list_any (covers g.R.Row c.args.body.now) rows)))
    (found f rows i c.in-Some.meaning (omega arith)
    (λ d. ap f (get_or_default rows i d row (omega arith) ∙ sym c.index-rows-i.is) ∙ simp (sym c.if-covers.ensures) (sym c.in-Some.ensures)) c.loop-i.invariant.1)

pub returns : goal.returns
returns g c =
    let rows = c.args.rows.now in
    ap Err c.fault.ensures
    ∙ ap (λ o. ok_or o (fault_of (list_any (covers g.R.Row c.args.body.now) rows))) (missed (admits g.R.Row c.args.body.now) rows (λ k d l. c.loop-i.invariant.1 k d (omega arith)))
