use Rattle.qd_sequencer.proofs.SequenceLemmas.{others_leave_it}
use Rattle.qd_sequencer.proofs.laws.other_files_leave_the_sequence.Goals as goal

pub returns : goal.returns
returns c = others_leave_it
