-- The pass of a worker, and the main one that it was split off.
use Rattle.std.specs.Prelude.{◌≡◌, ℕ, ◌≤◌, List, [], Option, None, Some}
use Rattle.std.specs.List.Sorted.{IsPermutation}
use mathlib.Core.List.{IsPrefix}
use Rattle.atomic_table.specs.Seated.{TableId}
use Rattle.qd_score_model.specs.declared.view.Mode.TheVariants.{Keeper}
use Rattle.qd_score_model.specs.declared.view.Phase.TheVariants.{Idle}
use Rattle.qd_shared.specs.Passes.{Pass, faults_of, view_of}

-- A pass has gone on beside those of sessions: it has seen what it had seen, or more, and no number falls. It has added nothing.
pub record GoesBeside (old new : Pass) : Type 0 where
  pub table : new.table ≡ old.table
  pub origin : new.knows.origin ≡ old.knows.origin
  pub mode : (view_of new).mode ≡ (view_of old).mode
  pub phase : (view_of new).phase ≡ (view_of old).phase
  pub own : (view_of new).own ≡ (view_of old).own
  pub seen : IsPrefix (view_of old).seen (view_of new).seen
  pub known : (view_of old).known ≤ (view_of new).known
  pub faults : faults_of old ≤ faults_of new

-- what contracts see of a store that is kept by a pass: what that was when it came, and what it is
pub record House : Type 0 where
  pub came : Pass
  pub pass : Pass

-- what a worker is started with: a pass of its store that may neither write nor pin, and nothing is its own
pub record IsHelper (table : TableId) (p : Pass) : Type 0 where
  pub kind : (view_of p).mode ≡ Keeper
  pub its_table : p.table ≡ table
  pub idle : (view_of p).phase ≡ Idle
  pub new : (view_of p).own ≡ []

-- how many passes a worker keeps: one, where it was started
abbrev pub kept_by : Option Pass → ℕ
kept_by None = 0
kept_by (Some p) = 1

-- A main pass that a worker's was split off, or joined to, or that is as it was: it has seen what it had seen, or more, and its own
-- transactions are those that were.
pub record StaysMain (old new : Pass) : Type 0 where
  pub table : new.table ≡ old.table
  pub origin : new.knows.origin ≡ old.knows.origin
  pub mode : (view_of new).mode ≡ (view_of old).mode
  pub phase : (view_of new).phase ≡ (view_of old).phase
  pub own : IsPermutation (view_of old).own (view_of new).own
  pub seen : IsPrefix (view_of old).seen (view_of new).seen
  pub known : (view_of old).known ≤ (view_of new).known
