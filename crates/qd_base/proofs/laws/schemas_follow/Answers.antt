use Rattle.qd_base.proofs.Tables.{schemas_of-replay, schemas_of-step}
use Rattle.qd_base.proofs.laws.schemas_follow.Goals as goal

pub returns : goal.returns
returns c = record { law = record { change = schemas_of-step; history = schemas_of-replay } }
