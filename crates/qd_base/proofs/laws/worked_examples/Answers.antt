use Rattle.std.proofs.Common.{refl}
use Rattle.qd_base.proofs.laws.worked_examples.Goals as goal

pub returns : goal.returns
returns c = record { law = record { late = refl; equal_times = refl; keys = refl; any_case = refl; added = refl; keys_set = refl; keys_met = refl; keys_dropped = refl } }
