use Rattle.std.proofs.Common.{List, length, sym, subst, All}
use Rattle.qd_wal.specs.declared.writer.WalWriter.{WalWriter}
use Rattle.qd_sequencer.specs.Sequences.{AreKept, IsInFront, IsSequence, Sequence}
use Rattle.qd_sequencer.proofs.WriterLemmas.{kept_without, without_has}
use Rattle.qd_sequencer.proofs.sequencer.Sequencer.end_writer.Goals as goal

pub invariant_of-self : goal.invariant_of-self
invariant_of-self c = (c.self.invariant.0, subst (λ (ws : List WalWriter). AreKept (length c.self.inside.log.refs) ws) (sym c.forget.ensures.forgotten) (kept_without (length c.self.inside.log.refs) c.self.inside.writers.items c.args.writer c.self.invariant.1))

pub returns-clause-holds : goal.returns-clause-holds
returns-clause-holds c = λ h disk is.
    let inside = c.self.inside in
    let before : Sequence = record { refs = inside.log.refs; spare = inside.log.spare; pending = inside.log.pending; schemas = inside.schemas; writers = inside.writers.items } in
    let was : IsSequence before h disk = subst (λ (s : Sequence). IsSequence s h disk) (sym c.self.view_is) is in
    record {
      log = was.log;
      spelled = was.spelled;
      lawful = was.lawful;
      schemas = was.schemas;
      pending = was.pending;
      writers = subst (λ (ws : List WalWriter). All (λ (w : WalWriter). All (IsInFront w) inside.log.refs) ws) (sym c.forget.ensures.forgotten)
          (without_has (λ (w : WalWriter). All (IsInFront w) inside.log.refs) c.args.writer inside.writers.items was.writers);
    }
