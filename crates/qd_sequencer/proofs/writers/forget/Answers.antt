use Rattle.std.proofs.Common.{◌≡◌, None, Some, subst, ◌∙◌, ◌==◌, position, List}
use Rattle.qd_wal.specs.declared.writer.WalWriter.{WalWriter}
use Rattle.qd_sequencer.proofs.WriterLemmas.{forgotten_none, forgotten_there}
use Rattle.qd_sequencer.proofs.writers.forget.Goals as goal

pub returns-in-Some : goal.returns-in-Some
returns-in-Some c = record {
  forgotten = c.remove.ensures.items ∙ forgotten_there c.args.wal c.args.writers.now.items c.in-Some.i
      (subst (λ (l : List WalWriter). Some c.in-Some.i ≡ position (λ (x : WalWriter). x.wal == c.args.wal) l) c.as_slice.ensures.value c.in-Some.ensures.place);
}

pub returns-in-None : goal.returns-in-None
returns-in-None c = record {
  forgotten = forgotten_none c.args.wal c.args.writers.now.items
      (subst (λ (l : List WalWriter). None ≡ position (λ (x : WalWriter). x.wal == c.args.wal) l) c.as_slice.ensures.value c.in-None.ensures.place);
}
