-- An apply: transactions behind the current version are merged, and shown by a version that takes its place. A purge: what no version
-- lists any more is removed.
use Rattle.std.specs.Prelude.{◌≡◌, ◌≢◌, ◌⊎◌, ℕ, ◌+◌, ◌-◌, ◌^◌, ◌<◌, ◌≤◌, List, [], length, Contains, None, IfSome, Result, Ok, Err}
use mathlib.Core.List.{IsPrefix}
use Rattle.qd_catalog.specs.Versions.{version_at}
use Rattle.qd_io.specs.Ends.{HasRisen}
use Rattle.qd_io.specs.declared.fault.IoFault.{IoFault}
use Rattle.qd_io.specs.declared.fault.IoFault.TheVariants as io
use Rattle.qd_score_model.specs.declared.view.Refusal.{Refusal}
use Rattle.qd_store_backend.specs.Backs.{current, n_in}
use Rattle.qd_shared.specs.declared.rounds.Begun.{Begun}
use Rattle.qd_shared.specs.declared.rounds.Begun.TheVariants as begun
use Rattle.qd_shared.specs.declared.rounds.RoundFault.{RoundFault}
use Rattle.qd_shared.specs.declared.rounds.RoundFault.TheVariants as fault
use Rattle.qd_shared.specs.Desks.{Desk, items_in}
use Rattle.qd_shared.specs.Passes.{Holds, Pass, faults_of, history_of, view_of}
use Rattle.qd_shared.specs.Publishing.{IsDraftFault, IsDraftOf, OnlyCalls}

-- the row of a desk's current version
abbrev pub current_row : Desk → ℕ
current_row d = d.owned.store.versions.versions.current

-- a row was found pinned in the last hold: its word counts at least one pin
abbrev pub IsRefused : List Refusal → ℕ → Type 0
IsRefused refused row = (word : ℕ) × Contains refused (record { row = row; word = word }) × (3 ≤ word)

-- each row but one was found pinned
abbrev pub AllPinned : List Refusal → Type 0
AllPinned refused = (current : ℕ) × ((row : ℕ) → row < 64 → row ≢ current → IsRefused refused row)

-- a row that isn't the current one holds no version, or was found pinned
abbrev pub IsThin : Desk → List Refusal → ℕ → Type 0
IsThin d refused row = row ≢ current_row d → (version_at d.owned.store.versions.versions row ≡ None) ⊎ IsRefused refused row

-- What an apply answers behind its last hold: how many transactions the current version shows, which are no fewer than it was to show;
-- or why: the volume failed, a file is damaged, which is never where the history is told, all rows are pinned, or there was no memory.
abbrev pub IsApplied : (least : ℕ) → Result ℕ RoundFault → Desk → Desk → List Refusal → Type 0
IsApplied least (Ok n) found left refused = (least ≤ n) × (n_in (current left.owned.store) ≡ n) × (n ≤ length (items_in left))
IsApplied least (Err fault.Vol) found left refused = HasRisen found.owned.storage.faults left.owned.storage.faults
IsApplied least (Err (fault.Damaged file at)) found left refused = found.history ≡ None
IsApplied least (Err fault.NoRow) found left refused = AllPinned refused
IsApplied least (Err fault.Memory) found left refused = Unit {0}

-- the same, as a pass knows it
abbrev pub IsAnswered : (least : ℕ) → Result ℕ RoundFault → Pass → Pass → Type 0
IsAnswered least (Ok n) old new = (least ≤ n) × ((view_of new).known ≡ n) × (n ≤ length (view_of new).seen)
IsAnswered least (Err fault.Vol) old new = HasRisen (faults_of old) (faults_of new)
IsAnswered least (Err (fault.Damaged file at)) old new = history_of new ≡ None
IsAnswered least (Err fault.NoRow) old new = AllPinned (view_of new).refused
IsAnswered least (Err fault.Memory) old new = Unit {0}

-- A pass has gone on by some holds, in which it has added nothing: it has seen what it had seen, or more, and no number falls.
pub record Passes (old new : Pass) : Type 0 where
  pub table : new.table ≡ old.table
  pub origin : new.knows.origin ≡ old.knows.origin
  pub mode : (view_of new).mode ≡ (view_of old).mode
  pub phase : (view_of new).phase ≡ (view_of old).phase
  pub room : (view_of new).room ≡ (view_of old).room
  pub own : (view_of new).own ≡ (view_of old).own
  pub seen : IsPrefix (view_of old).seen (view_of new).seen
  pub known : (view_of old).known ≤ (view_of new).known
  pub faults : faults_of old ≤ faults_of new
  pub count : IfSome (history_of new) (λ h. length (view_of new).seen ≡ length h)

-- A pass applies, in some holds. No transaction comes by that, and no fewer are shown. As many are shown in the end as there
-- were in the first of the holds, or more.
pub record Applies (result : Result ℕ RoundFault) (old new : Pass) : Type 0 where
  -- what the first hold found
  pub found : Desk
  pub before : IsPrefix (view_of old).seen (items_in found)
  pub passes : Passes old new
  pub answered : IsAnswered (length (items_in found)) result old new

-- ---- the first hold of an apply

-- What it begins with: all are shown; or some of those that aren't are drafted; or a fault.
abbrev pub IsBegun : Result Begun RoundFault → (found left : Desk) → Type 0
IsBegun (Ok (begun.Shown n)) found left = (n ≡ length (items_in found)) × (n_in (current found.owned.store) ≡ n)
IsBegun (Ok (begun.Drafted draft next)) found left = IsDraftOf found (length (items_in found)) draft × (next ≡ found.owned.store.versions.versions.next_block)
IsBegun (Err f) found left = IsDraftFault f found left

pub record BeginsRound (result : Result Begun RoundFault) (old new : Pass) : Type 0 where
  pub found : Desk
  pub left : Desk
  pub holds : Holds old new found left
  pub calls : OnlyCalls found left
  pub history : history_of new ≡ found.history
  pub passes : Passes old new
  pub begun : IsBegun result found left

-- ---- purges

-- Blocks were removed from the front of the queue, and each was counted, up to the greatest number of 64 bits, where the count stays.
pub record Removes (old new : Desk) : Type 0 where
  pub gone : ℕ
  pub queue : length old.owned.store.versions.versions.retired ≡ gone + length new.owned.store.versions.versions.retired
  pub counted : (new.removed ≡ old.removed + gone) ⊎ (new.removed ≡ 2 ^ 64 - 1)

-- how a purge ended: no block is queued, and so many were removed; or the volume failed, or there was no memory
abbrev pub IsPurged : Result ℕ IoFault → Desk → Desk → Type 0
IsPurged (Ok count) old new = (new.owned.store.versions.versions.retired ≡ []) × (count ≡ new.removed - old.removed)
IsPurged (Err io.Failed) old new = HasRisen old.owned.storage.faults new.owned.storage.faults
IsPurged (Err io.Memory) old new = Unit {0}

-- A pass removes what no version lists, in one hold: each version but the current one is let go that nobody has pinned, and then blocks
-- are removed from the front of the queue.
pub record Purges (result : Result ℕ IoFault) (old new : Pass) : Type 0 where
  pub found : Desk
  pub let_go : Desk
  pub left : Desk
  pub holds : Holds old new found left
  pub items : items_in left ≡ items_in found
  pub shown : current left.owned.store ≡ current found.owned.store
  pub passes : Passes old new
  pub thin : (row : ℕ) → row < 64 → IsThin left (view_of new).refused row
  pub before : let_go.removed ≡ found.removed
  pub removes : Removes let_go left
  pub purged : IsPurged result let_go left
