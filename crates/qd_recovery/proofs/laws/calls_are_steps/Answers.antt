use Rattle.std.proofs.Common.{refl}
use Rattle.qd_sequencer.specs.Sequences.{without_writer}
use Rattle.qd_store.proofs.Rounds.{merged_next}
use Rattle.qd_recovery.proofs.Clauses.{commits, leaves_all, leaves_sequence, unmoved, waits}
use Rattle.qd_recovery.proofs.laws.calls_are_steps.Goals as goal

pub returns : goal.returns
returns c = record {
  law = record {
    commits = commits;
    merges = λ h s upto d m. merged_next s h upto d m;
    waits = waits;
    publishes = λ h m result old new before after next_of told. record { next_of = next_of; told = told };
    moves = λ h result old new before after law stays n moved. unmoved h old new before after law (stays n moved);
    sweeps = λ h old new before after told. told;
    retires = λ h old new disk law holds same. leaves_sequence h old new disk law holds old.sequence refl same;
    ends = λ h writer old new disk law holds same. leaves_sequence h old new disk law holds (record old.sequence { writers = without_writer old.sequence.writers writer }) refl same;
    rests = λ h s disk law. leaves_all h s s disk law (λ g next d is. is) refl;
  };
}
