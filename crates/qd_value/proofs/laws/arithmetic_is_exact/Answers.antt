use Rattle.qd_value.proofs.Chains.{arithmetic-is-exact}
use Rattle.qd_value.proofs.laws.arithmetic_is_exact.Goals as goal

pub returns : goal.returns
returns c = record { law = arithmetic-is-exact }
