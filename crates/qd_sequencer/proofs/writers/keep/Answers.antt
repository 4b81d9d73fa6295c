use Rattle.std.proofs.Common.{◌≡◌, None, Some, subst, ◌∙◌, ◌==◌, position, List}
use Rattle.qd_wal.specs.declared.writer.WalWriter.{WalWriter}
use Rattle.qd_sequencer.proofs.WriterLemmas.{kept_new, kept_there}
use Rattle.qd_sequencer.proofs.writers.keep.Goals as goal

pub returns-in-Some : goal.returns-in-Some
returns-in-Some c = record {
  kept = kept_there c.args.writer c.args.writers.now.items c.in-Some.i
      (subst (λ (l : List WalWriter). Some c.in-Some.i ≡ position (λ (x : WalWriter). x.wal == c.args.writer.wal) l) c.as_slice.ensures.value c.in-Some.ensures.place);
}

pub returns-in-None : goal.returns-in-None
returns-in-None c = record {
  kept = c.push.ensures.pushed ∙ kept_new c.args.writer c.args.writers.now.items
      (subst (λ (l : List WalWriter). None ≡ position (λ (x : WalWriter). x.wal == c.args.writer.wal) l) c.as_slice.ensures.value c.in-None.ensures.place);
}
