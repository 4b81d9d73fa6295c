use Rattle.std.proofs.Common.{refl}
use Rattle.qd_merge.proofs.laws.worked_examples.Goals as goal

pub returns : goal.returns
returns c = record { law = record { first = refl; behind = refl; late = refl; next = refl; past_shown = refl; early = refl; edge = refl; same_time = refl; same_time_keyed = refl } }
