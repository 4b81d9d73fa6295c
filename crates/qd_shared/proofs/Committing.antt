-- A hold in which a transaction is committed.
use Rattle.std.proofs.Common.{◌≡◌, ◌≢◌, ℕ, ◌≤◌, List, [], map, Option, Result, Ok, Err, sym, ap, ap₂, ◌∙◌, subst, arith, append-nil}
use mathlib.Core.List.{IsPrefix}
use Rattle.atomic_table.specs.Seated.{TableId}
use Rattle.qd_base.specs.declared.limits.Limits.{Limits}
use Rattle.qd_manifest.specs.Spelling.{blocks_of}
use Rattle.qd_score_model.specs.declared.view.Mode.TheVariants.{Keeper}
use Rattle.qd_score_model.specs.Machine.{AllPresent}
use Rattle.qd_score_model.proofs.Lists.{prefix_trans}
use Rattle.qd_sequencer.specs.declared.fault.CommitFault.{CommitFault}
use Rattle.qd_sequencer.specs.declared.fault.CommitFault.TheVariants as commit
use Rattle.qd_sequencer.specs.declared.fault.Committed.{Committed}
use Rattle.qd_sequencer.specs.Faults.{CountsFault}
use Rattle.qd_sequencer.specs.Sequences.{IsAsBefore, Sequence}
use Rattle.qd_store.specs.Arriving.{IsPlaced}
use Rattle.qd_versions.specs.Stores as versions
use Rattle.qd_shared.specs.Commits.{Asked, Commits, CommitsTo}
use Rattle.qd_shared.specs.Desks.{Desk, book_of, items_in, place_in, version_of, versions_in}
use Rattle.qd_shared.specs.Holding.{Along, Begins, Gives, Grows, MayEnd}
use Rattle.qd_shared.specs.Passes.{Holds, Knowing, history_of}
use Rattle.qd_shared.proofs.Held.{at_table, holds}
use Rattle.qd_shared.proofs.Items.{committed_grow, committed_told}

-- no fault is forgotten
pub faults_rise : (result : Result Committed CommitFault) (before now : ℕ) → CountsFault before now result → before ≤ now
faults_rise (Ok done) before now counted = omega (arith, counted)
faults_rise (Err (commit.Refused code place)) before now counted = omega (arith, counted)
faults_rise (Err commit.Full) before now counted = omega (arith, counted)
faults_rise (Err commit.Vol) before now counted = counted.0
faults_rise (Err commit.Memory) before now counted = omega (arith, counted)

module _ (asked : Asked) (result : Result Committed CommitFault) (found left : Desk) (c : CommitsTo asked result found left) where
  pub committed : Grows found left
  committed = record {
    items = committed_grow result found.owned.store.sequence.refs left.owned.store.sequence.refs found.history left.history (asked.Own found.owned.store.sequence.schemas) c.counted.count c.places c.told;
    stays = ap₂ (λ limits told. record { limits = limits; told = told }) c.limits (committed_told result found.history left.history (asked.Own found.owned.store.sequence.schemas) c.told);
    rise = faults_rise result found.owned.storage.faults left.owned.storage.faults c.faults;
  }

  -- versions are as they were
  same_place : place_in left ≡ place_in found
  same_place = ap (λ (v : versions.Store). place_in (record found { owned = record found.owned { store = record found.owned.store { versions = v } } })) c.versions

  same_versions : versions_in left ≡ versions_in found
  same_versions = ap (λ (v : versions.Store). map version_of v.versions.versions) c.versions

  same_present : (book_of left).present ≡ (book_of found).present
  same_present = ap (λ (v : versions.Store). map (λ (e : ℕ × ℕ). e.0) v.versions.written) c.versions

  -- the lock may be given back
  pub may_end_committed : (now : Knowing) → now.view.mode ≢ Keeper → MayEnd now found → MayEnd now left
  may_end_committed now kind (h, held, may) =
      let rise = committed.rise in
      let faults = may.faults in (
        h,
        held,
        record {
          history = prefix_trans h.history (items_in found) (items_in left) may.history committed.items;
          keeper = λ m. absurd (kind m);
          faults = omega (arith, rise, faults);
          removed = subst (λ (n : ℕ). h.removed ≤ n) (sym c.removed) may.removed;
          versions = same_versions ∙ may.versions;
          current = same_place ∙ may.current;
          greatest = may.greatest;
          present = subst (λ (l : List ℕ). AllPresent blocks_of h.versions l) (sym same_present) may.present;
        },
      )

  pub commits : (table table' : TableId) (k now then : Knowing) → Begins k found → Along k now found → table' ≡ table → MayEnd now left → Gives now then left → (Holds (at_table table k) (at_table table' then) found left → history_of (at_table table' then) ≡ left.history) → Commits asked result (at_table table k) (at_table table' then)
  commits table table' k now then b a same may gave told = record { found = found; left = left; holds = holds table table' k now then found left b a committed same may gave; history = told (holds table table' k now then found left b a committed same may gave); commits = c }

-- the transactions that there were are there behind a commit, and where none is committed
pub placed_places : (limits : Limits) (old new : Sequence) (writer : Option ℕ) → IsPlaced limits old new writer → IsPrefix old.refs new.refs
placed_places limits old new writer placed = (_, sym placed.refs)

pub same_places : (old new : Sequence) → IsAsBefore old new → IsPrefix old.refs new.refs
same_places old new same = ([], append-nil old.refs ∙ sym same.refs)
