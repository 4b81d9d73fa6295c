-- What the calls of a store say gives their steps.
use Rattle.std.proofs.Common.{◌≡◌, ℕ, ◌≤◌, List, ◌++◌, length, drop, Some, Result, Ok, Err, IfOk, OnOk, refl, sym, ◌∙◌, ap, subst, arith}
use Rattle.std.proofs.lemmas.List.{take-append-le}
use Rattle.qd_base.specs.declared.op.Entry.{Entry}
use Rattle.qd_base.specs.Database.{Database}
use Rattle.qd_base.specs.Replay as replay
use Rattle.qd_base.specs.Replay.{first}
use Rattle.qd_block.specs.Blocks.{Block}
use Rattle.qd_catalog.specs.declared.version.Version as catalog
use Rattle.qd_catalog.specs.Versions.{version_at}
use Rattle.qd_sequencer.specs.declared.fault.CommitFault.{CommitFault}
use Rattle.qd_sequencer.specs.declared.fault.Committed.{Committed}
use Rattle.qd_sequencer.specs.Sequences.{Sequence}
use Rattle.qd_txnfile.specs.Versions.{Version}
use Rattle.qd_versions.specs.Stores as versions
use Rattle.qd_volume.specs.Disk.{Disk}
use Rattle.qd_store.specs.Arriving.{IsBehind}
use Rattle.qd_store.specs.Calls.{Commits}
use Rattle.qd_store.specs.Drafts.{IsMerged, IsNextOf, Merging, between}
use Rattle.qd_store.specs.Faults.{IsSettled}
use Rattle.qd_store.specs.Stores.{Book, IsStore}
use Rattle.qd_recovery.specs.Calls.{Acknowledges, Asked, Call, Fails, LeavesAll, Says, Step}
use Rattle.qd_recovery.specs.Laws.{IsCommitOf}

pub commits : (h : List Entry) (asked : Asked) (result : Result Committed CommitFault) (old new : Book) (before after : Disk) → Commits result old new (Says old.sequence.schemas asked) before after
    → OnOk result (IsBehind old.sequence.schemas new.sequence.schemas (Says old.sequence.schemas asked)) → IfOk result (λ done. done.n ≡ length new.sequence.refs) → IsSettled result new.sequence
    → (call : Call) × IsCommitOf asked result call × Step h call old new before after
commits h asked (Ok done) old new before after told said count settled =
    (Acknowledges asked done said.0, (said.0, refl), record { told = told; own = said.1; number = count; settled = settled })
commits h asked (Err fault) old new before after told said count settled = (Fails asked fault, refl, record { told = told; settled = settled })

-- ---- merges

pub waits : (h more : List Entry) (s t : Book) (m : Merging) → IsNextOf s h m → m.upto ≤ length h → t.versions ≡ s.versions → IsNextOf t (h ++ more) m
waits h more s t m (x, contents, current, is) within same =
    let P : versions.Store → Type 0 = λ v. (y : catalog.Version) × (blocks : ℕ → Block) × (version_at v.versions v.versions.current ≡ Some y) × IsMerged v.versions.next_block y (between (h ++ more) y.n m.upto) blocks (first (h ++ more) y.n) m in
    let low : x.n ≤ length h = omega (arith, within, is.upto) in
    let next : between (h ++ more) x.n m.upto ≡ between h x.n m.upto = ap (λ (l : List Entry). drop x.n l) (take-append-le m.upto h more within) in
    let db : first (h ++ more) x.n ≡ first h x.n = ap (λ (l : List Entry). replay.after l) (take-append-le x.n h more low) in
    subst P (sym same) (
      x,
      contents,
      current,
      subst (λ (es : List Entry). IsMerged s.versions.versions.next_block x es contents (first (h ++ more) x.n) m) (sym next)
          (subst (λ (d : Database). IsMerged s.versions.versions.next_block x (between h x.n m.upto) contents d m) (sym db) is),
    )

-- ---- calls that leave the volume

module _ (h : List Entry) (old new : Book) (disk : Disk) (law : versions.IsStore old.versions) (holds : (g : List Entry) (next : Version) (d : Disk) → IsStore old g next d → IsStore new g next d) where
  pub leaves_all : new.sequence.pending ≡ old.sequence.pending → LeavesAll old new disk disk
  leaves_all same = record { law = law; holds = holds; pending = same; volume = refl }

  pub leaves_sequence : (s : Sequence) → s.pending ≡ old.sequence.pending → new.sequence ≡ s → LeavesAll old new disk disk
  leaves_sequence s same is = leaves_all (ap (λ (q : Sequence). q.pending) is ∙ same)

-- a merge isn't published, and nothing changes
pub unmoved : (h : List Entry) (old new : Book) (before after : Disk) → versions.IsStore old.versions → (after ≡ before) × (new ≡ old) → LeavesAll old new before after
unmoved h old new before after law (volume, same) = record {
  law = law;
  holds = λ g next disk is. subst (λ (s : Book). IsStore s g next disk) (sym same) is;
  pending = ap (λ (s : Book). s.sequence.pending) same;
  volume = volume;
}
