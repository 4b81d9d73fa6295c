use Rattle.std.proofs.Common.{sym, ap, ◌∙◌}
use Rattle.qd_sequencer.specs.Sequences.{writer_of}
use Rattle.qd_sequencer.proofs.WriterLemmas.{found_none, found_there}
use Rattle.qd_sequencer.proofs.writers.writer_for.Goals as goal

pub returns-in-Some-place_of : goal.returns-in-Some-place_of
returns-in-Some-place_of c = record { chosen = found_there c.in-Some.wal c.args.writers.now c.in-Some-place_of.i c.args.n (record { wal = 0; segment = 0; end = 0 }) c.in-Some-place_of.ensures.place ∙ sym (ap (writer_of c.args.writers.now c.args.n) c.in-Some.is) }

pub returns-in-None-place_of : goal.returns-in-None-place_of
returns-in-None-place_of c = record { chosen = found_none c.in-Some.wal c.args.writers.now c.args.n c.in-None-place_of.ensures.place ∙ sym (ap (writer_of c.args.writers.now c.args.n) c.in-Some.is) }
