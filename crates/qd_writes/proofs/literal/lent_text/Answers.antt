use Rattle.std.proofs.Common.{ℕ, ◌<◌, subst}
use Rattle.std.proofs.lemmas.List.{get_or_default}
use Rattle.qd_writes.proofs.TableLemmas.{byte_low}
use Rattle.qd_writes.proofs.literal.lent_text.Goals as goal

pub returns-clause-fit : goal.returns-clause-fit
returns-clause-fit c = λ k d lt. subst (λ (b : ℕ). b < 256) (get_or_default c.args.text.now k 0 d lt) (byte_low _ (c.type_inv.text k))
