-- Each exchange is computed.
use Rattle.std.proofs.Common.{refl}
use Rattle.head.specs.Settings.{in_range}
use Rattle.rows.specs.Commands.{read_command}
use Rattle.rows.specs.Inquiries.{read_inquiry}
use Rattle.rows.specs.Reading.{ranged}
use Rattle.end.proofs.tried.tried_exchanges_hold.Goals as goal

pub returns : goal.returns
unfolding in_range read_command read_inquiry ranged
returns c = record { power_on = refl; freeze_off = refl; as_told = (refl, refl, (refl, refl, (refl, refl, (refl, refl, (refl, refl, (refl, refl, (refl, refl, (refl, refl, (refl, refl, (refl, refl, (refl, refl, (refl, refl, (refl, refl, (refl, refl, (refl, refl, (refl, refl, tt)))))))))))))))) }
