use Rattle.std.proofs.Common.{◌≡◌}
use Rattle.qd_shared.specs.Passes.{view_of}
use Rattle.qd_calls.proofs.rounds.commit_backwards.Given as goal

abbrev pub invariant-loop-later : goal.invariant-loop-later
invariant-loop-later g l = record {
  table : l.pass.table ≡ l.fn.pass.table;
  mode : (view_of l.pass).mode ≡ (view_of l.fn.pass).mode;
  phase : (view_of l.pass).phase ≡ (view_of l.fn.pass).phase;
}
