use Rattle.std.proofs.Common.{◌+◌, length, sym, ◌∙◌, add_assoc}
use Rattle.end_c.proofs.Logging.{same_past}
use Rattle.end_c.proofs.log.put.Goals as goal

pub returns-clause-untouched : goal.returns-clause-untouched
returns-clause-untouched c =
    rw (sym (add_assoc c.args.count (length c.args.answer.now) (length c.args.sent.now)))
    (c.append-2.ensures.untouched ∙ same_past (c.args.count + length c.args.answer.now) (length c.args.sent.now) _ _ c.append.ensures.untouched)
