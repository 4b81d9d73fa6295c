use Rattle.std.proofs.Common.{◌≡◌, ◌+◌, ◌≤◌}
use Rattle.qd_score_model.specs.declared.view.Mode.TheVariants.{Writer}
use Rattle.qd_shared.specs.Passes.{view_of}
use Rattle.qd_calls.specs.declared.readers.TheConstants.{READERS}
use Rattle.qd_calls.proofs.readers.pin_all.Given as goal

abbrev pub invariant-loop-n : goal.invariant-loop-n
invariant-loop-n g l = record {
  table : l.writer.table ≡ l.shared;
  since : l.writer.table ≡ l.fn.writer.table;
  kind : (view_of l.writer).mode ≡ Writer;
  mode : (view_of l.writer).mode ≡ (view_of l.fn.writer).mode;
  room : READERS ≤ (view_of l.writer).room + l.n;
}
