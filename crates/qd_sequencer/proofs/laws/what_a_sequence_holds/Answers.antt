use Rattle.qd_sequencer.proofs.SequenceLemmas.{sequence_holds}
use Rattle.qd_sequencer.proofs.laws.what_a_sequence_holds.Goals as goal

pub returns : goal.returns
returns c = sequence_holds
