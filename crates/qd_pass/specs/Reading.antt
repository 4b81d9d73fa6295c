-- A pinned version as a source of parts.
use Rattle.std.specs.Prelude.{◌≡◌, ◌≢◌, ℕ, ◌≤◌, length, None, Option}
use Rattle.qd_scan.specs.Sources.{SourceView}
use Rattle.qd_score_model.specs.declared.view.Phase.TheVariants.{Idle}
use Rattle.qd_score_model.specs.declared.view.Place.{Place}
use Rattle.qd_shared.specs.Passes.{Pass, faults_of, history_of, view_of}
use Rattle.qd_shared.specs.Snaps.{IsCopied, IsPinned, Notes}
use Rattle.qd_store_backend.specs.Kept.{AreOf}
use Rattle.qd_pass.specs.declared.memo.Memo.{Memo}
use Rattle.qd_pass.specs.Memos.{source_over}
use Rattle.qd_pass.specs.Passed.{GoesStill, IsCounted}

-- what contracts see of it
pub record Reading : Type 0 where
  -- the pass, as it was at the beginning, and as it is
  pub from : Pass
  pub pass : Pass
  pub pin : Place
  pub memo : Memo
  -- how often bytes were found damaged, and where the last time
  pub damages : ℕ
  pub last_damage : Option (ℕ × ℕ)

-- what the source shows: the tables behind the first transactions of those that its pass had seen at the beginning, where these are told
abbrev pub shown_of : Reading → SourceView
shown_of r = source_over r.memo.snap (history_of r.from) (faults_of r.pass) r.damages r.last_damage

-- what no read changes: the pass as it was at the beginning
abbrev pub fixed_of : Reading → Pass
fixed_of r = r.from

-- What such a source keeps: its pass goes on, and holds the pin; what was copied of the version is over what the pass had seen at the
-- beginning, and each kept block is the one that the source would give; no damage was found where the history is told.
pub record IsReading (r : Reading) : Type 0 where
  pub goes : GoesStill r.from r.pass
  pub counted : IsCounted r.pass
  pub pinned : IsPinned r.pass r.pin
  pub number : r.memo.snap.n ≡ r.pin.n
  pub within : r.memo.snap.n ≤ length (view_of r.from).seen
  pub noted : Notes r.pass r.memo.snap.n r.memo.snap.shape
  pub copied : IsCopied r.memo.snap (history_of r.from)
  pub blocks : AreOf (source_over r.memo.snap (history_of r.from) 0 0 None) r.memo.kept.cache.entries
  pub told : history_of r.from ≢ None → r.damages ≡ 0

-- the pin was let go
pub record IsEnded (r : Reading) (p : Pass) : Type 0 where
  pub still : GoesStill r.pass p
  pub idle : (view_of p).phase ≡ Idle
  pub counted : IsCounted p
  pub faults : faults_of p ≡ faults_of r.pass
  pub history : history_of p ≡ history_of r.pass
