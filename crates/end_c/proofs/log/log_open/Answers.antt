use Rattle.std.proofs.Common.{ℕ, List, ◌++◌, [], length, take, refl, ap, ◌∙◌}
use Rattle.end_c.specs.Logs.{appended}
use Rattle.end_c.proofs.log.log_open.Goals as goal

pub returns-clause-logged : goal.returns-clause-logged
returns-clause-logged g c = record {
  made = _;
  call = record {
    call = refl;
    step = c.open.ensures.step;
    ranged = record { each = g.met.H.Look.ranged c.args.end.now.head };
    head = refl;
  };
  log = c.put.ensures.logged ∙ ap (λ (bytes : List ℕ). appended (length c.args.log.now) (take c.args.count c.args.log.now) (bytes ++ [])) c.open_bytes.ensures;
}
