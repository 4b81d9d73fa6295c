-- What the calls on versions leave of a desk, and what is known of a merge. No public clause cites this module.
use Rattle.std.specs.Prelude.{◌≡◌, ℕ, ◌<◌, ◌≤◌, List, length, Option, None, Some, Ok, IfSome}
use Rattle.qd_base.specs.declared.op.Entry.{Entry}
use Rattle.qd_base.specs.Replay.{first}
use Rattle.qd_block.specs.Blocks.{Block}
use Rattle.qd_catalog.specs.declared.version.Version as catalog
use Rattle.qd_catalog.specs.Versions.{IsListed, written_of}
use Rattle.qd_durable.specs.declared.fault.LogFault.{LogFault}
use Rattle.qd_durable.specs.declared.fault.LogFault.TheVariants as log
use Rattle.qd_io.specs.Ends.{HasRisen}
use Rattle.qd_score_model.specs.Machine.{version_at}
use Rattle.qd_store.specs.declared.fault.PublishFault.{PublishFault}
use Rattle.qd_store.specs.declared.fault.PublishFault.TheVariants as publish
use Rattle.qd_store.specs.Drafts.{Drafted, IsDraftOver, IsDraftedFrom, IsMerged, IsMergedInto, IsMergedOver, IsNextOf, Merging, between}
use Rattle.qd_store_backend.specs.Backs.{current, n_in}
use Rattle.qd_shared.specs.declared.rounds.RoundFault.{RoundFault}
use Rattle.qd_shared.specs.declared.rounds.RoundFault.TheVariants as fault
use Rattle.qd_shared.specs.Desks.{Desk}
use Rattle.qd_shared.specs.Passes.{Pass, history_of, view_of}

-- all but the versions is as it was, and no fault is forgotten
pub record IsRest (old new : Desk) : Type 0 where
  pub sequence : new.owned.store.sequence ≡ old.owned.store.sequence
  pub limits : new.owned.store.limits ≡ old.owned.store.limits
  pub history : new.history ≡ old.history
  pub faults : old.owned.storage.faults ≤ new.owned.storage.faults

-- there are 64 rows of versions, and rows of tables were written to each block that a live version lists
pub record HasRows (d : Desk) : Type 0 where
  pub rows : length d.owned.store.versions.versions.versions ≡ 64
  pub written : (b : ℕ) → IsListed d.owned.store.versions.versions b → 0 < written_of d.owned.store.versions.versions b

-- the fault of a draft, and that of a publication into the current version, as those of a round
abbrev pub drafts_fault : LogFault → RoundFault
drafts_fault log.Vol = fault.Vol
drafts_fault (log.Damaged file at) = fault.Damaged file at
drafts_fault log.Memory = fault.Memory

abbrev pub publishes_fault : PublishFault → RoundFault
publishes_fault (publish.Moved n) = fault.NoRow
publishes_fault publish.NoRow = fault.NoRow
publishes_fault publish.Vol = fault.Vol
publishes_fault (publish.Damaged file at) = fault.Damaged file at
publishes_fault publish.Memory = fault.Memory

-- ---- drafts and merges

-- why there is no draft: the volume failed, a file is damaged, which is never where the history is told, or there was no memory
abbrev pub IsDraftFault : RoundFault → Desk → Desk → Type 0
IsDraftFault fault.Vol old new = HasRisen old.owned.storage.faults new.owned.storage.faults
IsDraftFault (fault.Damaged file at) old new = old.history ≡ None
IsDraftFault fault.NoRow old new = ⊥
IsDraftFault fault.Memory old new = Unit {0}

-- a desk of which only the volume was called
pub record OnlyCalls (old new : Desk) : Type 0 where
  pub store : new.owned.store ≡ old.owned.store
  pub history : new.history ≡ old.history
  pub removed : new.removed ≡ old.removed
  pub faults : old.owned.storage.faults ≤ new.owned.storage.faults

-- A round of the transactions behind the current version is drafted: one more is shown then at least, and no more than a number.
pub record IsDraftOf (d : Desk) (most : ℕ) (draft : Drafted) : Type 0 where
  pub over : IsDraftOver d.owned.store.versions.versions draft
  pub more : n_in (current d.owned.store) < draft.plan.upto
  pub within : draft.plan.upto ≤ most
  pub told : IfSome d.history (λ h. (upto : ℕ) × IsDraftedFrom (Ok draft) d.owned.store h upto)

-- A merge is of transactions behind the current version.
pub record IsNext (d : Desk) (m : Merging) : Type 0 where
  pub over : IsMergedOver d.owned.store.versions.versions m
  pub told : IfSome d.history (λ h. IsNextOf d.owned.store h m)

-- ---- between two holds

-- what is known of a merge into a version: of which transactions it is, with new blocks from a number on
pub record IsOf (next : ℕ) (history : Option (List Entry)) (x : catalog.Version) (m : Merging) : Type 0 where
  pub into : IsMergedInto next x m
  pub told : IfSome history (λ h. (contents : ℕ → Block) × IsMerged next x (between h x.n m.upto) contents (first h x.n) m)

-- A pass knows a merge: it is of transactions that it has seen, into a version that it has noted.
pub record IsRound (p : Pass) (m : Merging) (next : ℕ) : Type 0 where
  pub row : ℕ
  pub into : catalog.Version
  pub noted : version_at (view_of p).noted row ≡ Some (record { n = into.n; shape = into.shape })
  pub is : IsOf next (history_of p) into m
  pub count : IfSome (history_of p) (λ h. length (view_of p).seen ≡ length h)
  pub within : m.upto ≤ length (view_of p).seen
  pub more : m.base < m.upto

-- A merge is of transactions behind the current version, where that is still the one of its base.
abbrev pub IsNextAt : Desk → Merging → ℕ → Type 0
IsNextAt d m next = (x : catalog.Version) → current d.owned.store ≡ Some x → x.n ≡ m.base → IsOf next d.history x m
