use Rattle.qd_base.proofs.Lawful.{sound_schemas}
use Rattle.qd_base.proofs.laws.lawful_schemas.Goals as goal

pub returns : goal.returns
returns c = record { law = sound_schemas }
