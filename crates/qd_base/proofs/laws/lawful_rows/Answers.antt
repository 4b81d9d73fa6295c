use Rattle.qd_base.proofs.Lawful.{fitting_rows}
use Rattle.qd_base.proofs.laws.lawful_rows.Goals as goal

pub returns : goal.returns
returns c = record { law = fitting_rows }
