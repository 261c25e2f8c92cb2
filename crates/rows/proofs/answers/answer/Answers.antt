use Rattle.rows.proofs.Telling.{answered}
use Rattle.rows.proofs.answers.answer.Goals as goal

pub returns-clause-values : goal.returns-clause-values
returns-clause-values g c =
    answered g.L.Look c.args.from.now c.args.header c.args.inquiry c.args.out.now c.put.result c.put.new.out
    (g.met.L.Look.ranged c.args.from.now) c.put.ensures.count c.put.ensures.sent
