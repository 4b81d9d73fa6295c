use Rattle.qd_memory.proofs.HandlesLemmas.{handles_applied}
use Rattle.qd_memory.proofs.back.ListBackBackend.apply.Goals as goal

pub returns-clause-handled : goal.returns-clause-handled
returns-clause-handled c = handles_applied c.args.self.now c.apply_all.new.self 0 c.apply_all.result c.is_within.ensures c.apply_all.ensures.ok c.apply_all.ensures.reply c.apply_all.ensures.err
