use Rattle.rows.proofs.Asking.{some_inquiry}
use Rattle.rows.proofs.inquiry.Inquiry.of.Goals as goal

pub returns : goal.returns
returns c = some_inquiry c.args.setting c.in_ok-form.form _
