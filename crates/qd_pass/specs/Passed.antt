-- What a session over a shared store shows, and how its pass goes on.
use Rattle.std.specs.Prelude.{◌≡◌, ◌≢◌, ℕ, ◌≤◌, length, map, None, IfErr, IfSome, Result}
use mathlib.Core.List.{IsPrefix}
use Rattle.qd_score_model.specs.declared.view.Mode.TheVariants.{Keeper}
use Rattle.qd_score_model.specs.declared.view.Phase.TheVariants.{Idle}
use Rattle.qd_score_model.specs.declared.view.Refusal.{Refusal}
use Rattle.qd_session.specs.Looks.{PinnedRow, Shown}
use Rattle.qd_shared.specs.declared.rounds.RoundFault.{RoundFault}
use Rattle.qd_shared.specs.Passes.{Pass, faults_of, history_of, view_of}
use Rattle.qd_shared.specs.Rounds.{Applies, Passes}

-- a row that was found pinned
abbrev pub pinned_row : Refusal → PinnedRow
pinned_row r = record { row = r.row; word = r.word }

-- what a session shows of its pass
abbrev pub shown_by : Pass → Shown
shown_by p = record {
  history = history_of p;
  sequenced = length (view_of p).seen;
  known = (view_of p).known;
  own = (view_of p).own;
  faults = faults_of p;
  pinned = map pinned_row (view_of p).refused;
  pending = None;
}

-- the transactions that are told of a pass are as many as it has seen
abbrev pub IsCounted : Pass → Type 0
IsCounted p = IfSome (history_of p) (λ h. length (view_of p).seen ≡ length h)

-- A pass has gone on: it has seen what it had seen, or more, and no number falls. The transactions of its own are as they were.
pub record GoesOn (old new : Pass) : Type 0 where
  pub table : new.table ≡ old.table
  pub origin : new.knows.origin ≡ old.knows.origin
  pub mode : (view_of new).mode ≡ (view_of old).mode
  pub seen : IsPrefix (view_of old).seen (view_of new).seen
  pub known : (view_of old).known ≤ (view_of new).known
  pub faults : faults_of old ≤ faults_of new

-- the same, and it has added nothing
pub record GoesStill (old new : Pass) : Type 0 where
  pub goes : GoesOn old new
  pub own : (view_of new).own ≡ (view_of old).own

-- what holds of a session's pass between two requests
pub record IsReady (p : Pass) : Type 0 where
  pub idle : (view_of p).phase ≡ Idle
  pub kind : (view_of p).mode ≢ Keeper
  pub counted : IsCounted p

-- A pass has pinned a version of n transactions, no fewer than it knew, and knows that; it has added nothing.
pub record Pins (old new : Pass) (n : ℕ) : Type 0 where
  pub still : GoesStill old new
  pub counted : IsCounted new
  pub fresh : (view_of old).known ≤ n
  pub known : (view_of new).known ≡ n

-- A pass applies; where that succeeds, it goes on to remove what no version lists any more.
pub record Settles (result : Result ℕ RoundFault) (old new : Pass) : Type 0 where
  pub between : Pass
  pub applies : Applies result old between
  pub passes : Passes between new
  pub failed : IfErr result (λ f. new ≡ between)
