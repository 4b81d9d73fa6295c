-- The version that was asked over last.
use Rattle.std.specs.Prelude.{◌≤◌, ℕ, List, length, map, None, Option}
use Rattle.qd_base.specs.declared.op.Entry.{Entry}
use Rattle.qd_scan.specs.Sources.{SourceView}
use Rattle.qd_store_backend.specs.Backs.{database_in}
use Rattle.qd_store_backend.specs.Kept.{AreOf}
use Rattle.qd_shared.specs.declared.snap.Snap.{Snap}
use Rattle.qd_shared.specs.Passes.{Pass, history_of, view_of}
use Rattle.qd_shared.specs.Snaps.{IsCopied, Notes}
use Rattle.qd_pass.specs.declared.memo.Memo.{Memo}

-- a version as a source of parts, over a history
abbrev pub source_over : Snap → Option (List Entry) → (faults damages : ℕ) → Option (ℕ × ℕ) → SourceView
source_over s history faults damages last = record {
  schemas = s.schemas;
  parts = map (λ t. t.parts) s.shape;
  database = database_in history s.n;
  faults = faults;
  damages = damages;
  last_damage = last;
}

-- what is kept of a version that a pass has noted
pub record IsMemoOf (p : Pass) (m : Memo) : Type 0 where
  pub noted : Notes p m.snap.n m.snap.shape
  pub within : m.snap.n ≤ length (view_of p).seen
  pub copied : IsCopied m.snap (history_of p)
  pub blocks : AreOf (source_over m.snap (history_of p) 0 0 None) m.kept.cache.entries
