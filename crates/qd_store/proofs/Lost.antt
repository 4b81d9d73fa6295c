-- Damage of blocks that were to grow: where it is told, and that a store has none.
use Rattle.std.proofs.Common.{◌≡◌, ℕ, List, All, Option, Some, None, Result, Err, IfSome, refl, sym, subst}
use Rattle.std.proofs.lemmas.List.Elements.{All-contains}
use Rattle.qd_base.specs.declared.op.Entry.{Entry}
use Rattle.qd_base.specs.declared.part.Part.{Part}
use Rattle.qd_base.specs.Replay.{first}
use Rattle.qd_block.specs.Blocks.{IsWhole}
use Rattle.qd_catalog.specs.Versions.{Versions}
use Rattle.qd_column_files.specs.Files.{HoldsBlock}
use Rattle.qd_column_files.proofs.Below.{reads_left}
use Rattle.qd_io.specs.declared.fault.IoFault.TheVariants as io
use Rattle.qd_manifest.specs.declared.shape.TableParts.{TableParts}
use Rattle.qd_manifest.specs.Spelling.{blocks_of}
use Rattle.qd_txnfile.specs.Versions.{Version}
use Rattle.qd_versions.specs.declared.fault.PublishFault as root
use Rattle.qd_versions.specs.declared.fault.PublishFault.TheVariants as rooted
use Rattle.qd_versions.specs.declared.published.GrownBlock.{GrownBlock}
use Rattle.qd_versions.specs.Publishing.{IsGrownLost, IsLostWhere}
use Rattle.qd_volume.specs.Disk.{Disk, reads_of}
use Rattle.qd_store.specs.declared.fault.PublishFault.{PublishFault}
use Rattle.qd_store.specs.declared.fault.PublishFault.TheVariants as publish
use Rattle.qd_store.specs.Faults.{IsUndamaged, root_fault}
use Rattle.qd_store.specs.Prefixes.{IsShown}
use Rattle.qd_store.specs.Stores.{Book, IsStore}
use Rattle.qd_store.proofs.Opened.{in_shape}
use Rattle.qd_store.proofs.PartsRead.{got, part_fits}

-- the fault of a publication from which one of a store comes
damage_of : (cause : root.PublishFault) (answer : PublishFault) (file at : ℕ) → answer ≡ root_fault cause → answer ≡ publish.Damaged file at → cause ≡ rooted.Damaged file at
damage_of rooted.NoRow answer file at is same = cc
damage_of rooted.Vol answer file at is same = cc
damage_of (rooted.Damaged other place) answer file at is same = cc
damage_of rooted.Memory answer file at is same = cc
damage_of (rooted.Unremoved io.Failed) answer file at is same = cc
damage_of (rooted.Unremoved io.Memory) answer file at is same = cc

module _ {T : Type 0} (result : Result T PublishFault) (answer : PublishFault) (cause : root.PublishFault) (failed : result ≡ Err answer) (is : answer ≡ root_fault cause) where
  pub same_damage : (file at : ℕ) → result ≡ Err (publish.Damaged file at) → cause ≡ rooted.Damaged file at
  same_damage file at damaged = damage_of cause answer file at is (one failed damaged)
    where
      one : result ≡ Err answer → result ≡ Err (publish.Damaged file at) → answer ≡ publish.Damaged file at
      one a b = cc

  pub lost_damaged : (v : Versions) (grown : List GrownBlock) (o : Option Disk) → IfSome o (λ disk. IsLostWhere cause v grown (reads_of disk))
      → IfSome o (λ disk. (file at : ℕ) → result ≡ Err (publish.Damaged file at) → IsGrownLost v grown file at (reads_of disk))
  lost_damaged v grown None lost = tt
  lost_damaged v grown (Some disk) lost = λ file at damaged. subst (λ (c : root.PublishFault). IsLostWhere c v grown (reads_of disk)) (same_damage file at damaged) lost

-- ---- a store has none

none_lost : (s : Book) (h : List Entry) (next : Version) (disk : Disk) (grown : List GrownBlock) (file at : ℕ) → IsStore s h next disk → IsGrownLost s.versions.versions grown file at (reads_of disk) → ⊥
none_lost s h next disk grown file at is lost =
    let version = lost.there.version in
    let shown : IsShown h version.n version.shape disk = is.versions.live s.versions.versions.current version lost.there.live in
    let in_tables = got version.shape lost.g.table lost.t lost.there.its_table in
    let in_parts = got lost.t.parts lost.g.part lost.p lost.there.its_part in
    lost.none (shown.blocks lost.p.block)
    (All-contains (λ (b : ℕ). HoldsBlock b (shown.blocks b) (reads_of disk)) (blocks_of version.shape) lost.p.block (shown.held (reads_of disk) (reads_left disk)) (in_shape version.shape lost.t lost.p in_tables in_parts))
    (part_fits shown.blocks version.shape (first h version.n) shown.stands lost.g.table lost.g.part lost.t lost.p lost.there.its_table lost.there.its_part)
    (All-contains (λ (q : Part). IsWhole (shown.blocks q.block)) lost.t.parts lost.p
    (All-contains (λ (u : TableParts). All (λ (q : Part). IsWhole (shown.blocks q.block)) u.parts) version.shape lost.t shown.stands.whole in_tables) in_parts)

-- so no publication of it says so
pub undamaged : (T : Type 0) (s : Book) (h : List Entry) (next : Version) (disk : Disk) (grown : List GrownBlock) → IsStore s h next disk → (cause : root.PublishFault) (answer : PublishFault) → answer ≡ root_fault cause
    → IsLostWhere cause s.versions.versions grown (reads_of disk) → IsUndamaged {T = T} (Err answer)
undamaged T s h next disk grown is cause answer from lost = by answer refl
  where
    by : (a : PublishFault) → a ≡ answer → IsUndamaged {T = T} (Err a)
    by (publish.Moved n) e = tt
    by publish.NoRow e = tt
    by publish.Vol e = tt
    by (publish.Damaged file at) e =
        none_lost s h next disk grown file at is
        (subst (λ (c : root.PublishFault). IsLostWhere c s.versions.versions grown (reads_of disk)) (damage_of cause answer file at from (sym e)) lost)
    by publish.Memory e = tt
