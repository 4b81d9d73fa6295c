use Rattle.std.proofs.Common.{inl, inr}
use Rattle.std.proofs.lemmas.Result.{IfOk-weaker}
use Rattle.qd_vectors.proofs.merging.samples.key_columns.Goals as goal

pub returns-then-keyed : goal.returns-then-keyed
returns-then-keyed c = record { keys = IfOk-weaker c.moment_and_name.result _ _ (λ ks there. inr there) c.moment_and_name.ensures.moment }

pub returns : goal.returns
returns c = record { keys = inl c.new.ensures.empty }
