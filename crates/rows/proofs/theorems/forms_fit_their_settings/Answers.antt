use Rattle.rows.proofs.Fitting.{forms_fit}
use Rattle.rows.proofs.theorems.forms_fit_their_settings.Goals as goal

pub returns : goal.returns
returns c = forms_fit
