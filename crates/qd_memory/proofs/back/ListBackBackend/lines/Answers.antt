use Rattle.qd_memory.proofs.HandlesLemmas.{handles_written}
use Rattle.qd_memory.proofs.back.ListBackBackend.lines.Goals as goal

pub returns-clause-handled : goal.returns-clause-handled
returns-clause-handled c = handles_written c.args.self.now c.write.new.self c.args.now c.args.batch.now c.write.result c.write.ensures.ok c.write.ensures.err
