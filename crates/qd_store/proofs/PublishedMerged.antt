-- What the publication of a merge makes of a volume that may be told.
use Rattle.std.proofs.Common.{◌≡◌, ℕ, ◌+◌, ◌<◌, ◌≤◌, nat_eq, true, List, [], length, map, take, drop, All, Contains, IfSome, Option, Some, None, is_some, Result, Ok, Err, sym, ◌∙◌, ap, subst, arith, length-drop}
use Rattle.std.specs.List.{fold, IsDistinct}
use Rattle.std.specs.Prelude.{unwrap_or}
use Rattle.std.proofs.lemmas.List.{length-take, take-append-drop, take-take}
use Rattle.std.proofs.lemmas.List.Sums.{fold-append}
use Rattle.qd_base.specs.declared.op.Entry.{Entry}
use Rattle.qd_base.specs.Database.{Database}
use Rattle.qd_base.specs.Replay.{commit, first, replay}
use Rattle.qd_block.specs.Blocks.{Block}
use Rattle.qd_catalog.specs.declared.version.Version as catalog
use Rattle.qd_catalog.specs.Versions.{Versions, current_n, lists, n_of, version_at}
use Rattle.qd_apply.specs.Laws.{GoesOnFrom, MergingStands}
use Rattle.qd_apply.specs.Next.{versions_blocks}
use Rattle.qd_apply.specs.Stands.{StandsFor}
use Rattle.qd_durable.specs.Moments.{Told}
use Rattle.qd_durable.proofs.Writes.{told_map}
use Rattle.qd_manifest.specs.Spelling.{blocks_of}
use Rattle.qd_txnfile.specs.Versions.{Version}
use Rattle.qd_versions.specs.declared.fault.PublishFault as root
use Rattle.qd_versions.specs.declared.published.GrownBlock.{GrownBlock}
use Rattle.qd_versions.specs.declared.published.NewBlock.{NewBlock}
use Rattle.qd_versions.specs.Publishing.{IsGrownLost, IsLostWhere, MayGrow, MayPublish, grown_blocks}
use Rattle.qd_versions.specs.Stores.{manifest_in, stored}
use Rattle.qd_volume.specs.Disk.{Disk, reads_of}
use Rattle.qd_store.specs.declared.fault.PublishFault.{PublishFault}
use Rattle.qd_store.specs.declared.fault.PublishFault.TheVariants as publish
use Rattle.qd_store.specs.Calls.{IsPublished, Publishes, StandsNext}
use Rattle.qd_store.specs.Drafts.{between, IsMerged, IsMergedOver, IsNextOf, Merging}
use Rattle.qd_store.specs.Faults.{IsUndamaged, root_fault}
use Rattle.qd_store.specs.Grown.{growth_of}
use Rattle.qd_store.specs.Merges.{next_version, PublishesMerged}
use Rattle.qd_store.specs.Stores.{Book, IsStore}
use Rattle.qd_store.proofs.Lost.{lost_damaged, undamaged}
use Rattle.qd_store.proofs.MergedVersion.{apart_over, grows_over, may_over, newer, new_made, old_goes_on, stands_after}

-- ---- a merge of a history's next transactions

-- one version stands in a row
one_version : (o : Option catalog.Version) (x y : catalog.Version) → o ≡ Some x → o ≡ Some y → x ≡ y
one_version o x y a b = cc

-- the transactions up to one number, and those behind it up to another
replay_on : (h : List Entry) (n upto : ℕ) → n ≤ upto → replay (first h n) (between h n upto) ≡ first h upto
replay_on h n upto le =
    let front = take upto h in
    ap (λ (l : List Entry). fold commit (fold commit [] l) (drop n front)) (sym (take-take n upto h le))
    ∙ sym (fold-append commit [] (take n front) (drop n front))
    ∙ ap (λ (l : List Entry). fold commit [] l) (take-append-drop n front)

-- so many there are
upto_within : (h : List Entry) (n upto : ℕ) → upto ≡ n + length (between h n upto) → 0 < length (between h n upto) → upto ≤ length h
upto_within h n upto e some = omega (arith, e, some, length-drop n (take upto h), length-take upto h)

module _ (law : MergingStands) (old : Book) (h : List Entry) (m : Merging) where
  pub stands_next : IsNextOf old h m → StandsNext old h m.upto m.shape m.blocks m.grown
  stands_next (x, contents, at, is) =
      let next = old.versions.versions.next_block in
      let es = between h x.n m.upto in
      let db = first h x.n in
      let more = newer law next x es contents db m is in
      record {
        few = upto_within h x.n m.upto is.upto is.follows.some;
        contents = versions_blocks contents is.written is.split (manifest_in next x.shape) es;
        stands = subst (λ (d : Database). StandsFor (versions_blocks contents is.written is.split (manifest_in next x.shape) es) m.shape d) (replay_on h x.n m.upto (omega (arith, more))) (stands_after law next x es contents db m is);
        kept = λ y held there other b listed in_shape low. by x contents at is held b in_shape low y (one_version (version_at old.versions.versions old.versions.versions.current) y x there at) other listed;
        made = new_made law next x es contents db m is;
      }
    where
      by : (x : catalog.Version) (contents : ℕ → Block) → version_at old.versions.versions old.versions.versions.current ≡ Some x
          → (is : IsMerged old.versions.versions.next_block x (between h x.n m.upto) contents (first h x.n) m)
          → (held : ℕ → Block) (b : ℕ) → Contains (blocks_of m.shape) b → b < old.versions.versions.next_block
          → (y : catalog.Version) → y ≡ x → StandsFor held y.shape (first h y.n) → lists (Some y) b ≡ true
          → GoesOnFrom y.shape held (map growth_of m.grown) (versions_blocks contents is.written is.split (manifest_in old.versions.versions.next_block x.shape) (between h x.n m.upto)) b
      by x contents at is held b in_shape low y same =
          subst (λ (z : catalog.Version). StandsFor held z.shape (first h z.n) → lists (Some z) b ≡ true
          → GoesOnFrom z.shape held (map growth_of m.grown) (versions_blocks contents is.written is.split (manifest_in old.versions.versions.next_block x.shape) (between h x.n m.upto)) b) (sym same)
          (λ other listed. old_goes_on law old.versions.versions.next_block x (between h x.n m.upto) contents (first h x.n) m is held other b listed in_shape low)

-- ---- a volume that may be told

-- a publication of the next version is one of the merge
module _ {T E : Type 0} (law : MergingStands) (result : Result T E) (answer : Result T PublishFault) (old new : Book) (m : Merging) (before after : Disk)
    (behind : (h : List Entry) (last v : Version) → IsPublished result new h last v after → IsPublished answer new h last v after) (whole : (h : List Entry) (last : Version) → IsStore old h last before → IsUndamaged answer) where
  pub publishes_merged : Publishes result old new m.upto m.shape m.blocks m.grown (next_version old m) before after → PublishesMerged answer old new m before after
  publishes_merged p = record {
    any_moment = λ h last is next. p.any_moment h last is (stands_next law old h m next);
    behind = λ h last is next. behind h last (next_version old m) (p.behind h last is (stands_next law old h m next));
    pending = λ h last is. p.pending h last is;
    whole = whole;
  }

module _ (T : Type 0) (law : MergingStands) (old new : Book) (m : Merging) where
  pub told_published : (before after : Option Disk) (row : T) → Told before after (Publishes {T = T} {E = root.PublishFault} (Ok row) old new m.upto m.shape m.blocks m.grown (next_version old m))
      → Told before after (PublishesMerged {T = T} (Ok row) old new m)
  told_published before after row told =
      told_map (Publishes {T = T} {E = root.PublishFault} (Ok row) old new m.upto m.shape m.blocks m.grown (next_version old m)) (PublishesMerged {T = T} (Ok row) old new m) before after
      (λ a b p. publishes_merged law (Ok row) (Ok row) old new m a b (λ h last v is. is) (λ h last is. tt) p) told

  pub told_failed : (before after : Option Disk) (fault : root.PublishFault) (answer : PublishFault) → answer ≡ root_fault fault → IfSome before (λ disk. IsLostWhere fault old.versions.versions m.grown (reads_of disk))
      → Told before after (Publishes {T = T} {E = root.PublishFault} (Err fault) old new m.upto m.shape m.blocks m.grown (next_version old m)) → Told before after (PublishesMerged {T = T} (Err answer) old new m)
  told_failed None after fault answer from lost told = told
  told_failed (Some disk) after fault answer from lost (now, is, p) =
      (now, is, publishes_merged law (Err fault) (Err answer) old new m disk now (λ h last v held. held) (λ h last store. undamaged T old h last disk m.grown store fault answer from lost) p)

-- ---- what is lent by a store, and by a merge

-- the number of the current version, as it is read
pub current_number : (v : Versions) (row : ℕ) (o : Option ℕ) (n : ℕ) → row ≡ v.current → is_some (version_at v row) ≡ true → o ≡ n_of (version_at v row)
    → n ≡ unwrap_or o 0 → current_n v ≡ Some n
current_number v row o n at live of is = subst (λ (r : ℕ). n_of (version_at v r) ≡ Some n) at (by (version_at v row) live of)
  where
    by : (p : Option catalog.Version) → is_some p ≡ true → o ≡ n_of p → n_of p ≡ Some n
    by None live of = cc
    by (Some x) live of = ap Some (sym (is ∙ ap (λ (q : Option ℕ). unwrap_or q 0) of))

module _ (given m : Merging) (list : List NewBlock) (grown : List GrownBlock) (m_is : m ≡ given) (list_is : list ≡ m.blocks) (grown_is : grown ≡ m.grown) where
  module _ (law : MergingStands) (outside inside : Book) (is : inside ≡ outside) (over : current_n outside.versions.versions ≡ Some given.base → IsMergedOver outside.versions.versions given)
      (here : current_n inside.versions.versions ≡ Some m.base) where
    merged_inside : IsMergedOver outside.versions.versions m
    merged_inside =
        let there : current_n outside.versions.versions ≡ Some m.base = subst (λ (s : Book). current_n s.versions.versions ≡ Some m.base) is here in
        subst (λ (k : Merging). IsMergedOver outside.versions.versions k) (sym m_is) (over (subst (λ (k : Merging). current_n outside.versions.versions ≡ Some k.base) m_is there))

    pub may_inside : MayPublish outside.versions.versions m.upto m.shape (length list)
    may_inside = subst (λ (l : List NewBlock). MayPublish outside.versions.versions m.upto m.shape (length l)) (sym list_is) (may_over law outside.versions.versions m merged_inside)

    pub grows_inside : All (MayGrow outside.versions.versions) grown
    grows_inside = subst (All (MayGrow outside.versions.versions)) (sym grown_is) (grows_over law outside.versions.versions m merged_inside)

    pub apart_inside : IsDistinct nat_eq (grown_blocks outside.versions.versions grown)
    apart_inside = subst (λ (l : List GrownBlock). IsDistinct nat_eq (grown_blocks outside.versions.versions l)) (sym grown_is) (apart_over law outside.versions.versions m merged_inside)

  module _ (old : Book) (before : Option Disk) where
    lost_inside : (fault : root.PublishFault) → IfSome before (λ disk. IsLostWhere fault old.versions.versions grown (reads_of disk)) → IfSome before (λ disk. IsLostWhere fault old.versions.versions m.grown (reads_of disk))
    lost_inside fault lost = subst (λ (g : List GrownBlock). IfSome before (λ disk. IsLostWhere fault old.versions.versions g (reads_of disk))) grown_is lost

    -- where it found damage
    pub damaged_inside : {T : Type 0} (result : Result T PublishFault) (fault : root.PublishFault) (answer : PublishFault) → result ≡ Err answer → answer ≡ root_fault fault
        → IfSome before (λ disk. IsLostWhere fault old.versions.versions grown (reads_of disk))
        → IfSome before (λ disk. (file at : ℕ) → result ≡ Err (publish.Damaged file at) → IsGrownLost old.versions.versions given.grown file at (reads_of disk))
    damaged_inside result fault answer failed from lost =
        subst (λ (k : Merging). IfSome before (λ disk. (file at : ℕ) → result ≡ Err (publish.Damaged file at) → IsGrownLost old.versions.versions k.grown file at (reads_of disk))) m_is
        (lost_damaged result answer fault failed from old.versions.versions m.grown before (lost_inside fault lost))

  module _ (T : Type 0) (law : MergingStands) (old new : Book) (before after : Option Disk) where
    abbrev ToldFor : Result T root.PublishFault → Type 0
    ToldFor result = Told before after (Publishes result old new m.upto m.shape list grown (stored m.upto (old.versions.versions.next_block + length list) m.shape))

    of_merge : (result : Result T root.PublishFault) → ToldFor result → Told before after (Publishes result old new m.upto m.shape m.blocks m.grown (next_version old m))
    of_merge result told =
        subst (λ (l : List NewBlock). Told before after (Publishes result old new m.upto m.shape l m.grown (stored m.upto (old.versions.versions.next_block + length l) m.shape))) list_is
        (subst (λ (g : List GrownBlock). Told before after (Publishes result old new m.upto m.shape list g (stored m.upto (old.versions.versions.next_block + length list) m.shape))) grown_is told)

    pub published_inside : (row : T) → ToldFor (Ok row) → Told before after (PublishesMerged {T = T} (Ok row) old new given)
    published_inside row told =
        subst (λ (k : Merging). Told before after (PublishesMerged {T = T} (Ok row) old new k)) m_is (told_published T law old new m before after row (of_merge (Ok row) told))

    pub failed_inside : (fault : root.PublishFault) (answer : PublishFault) → answer ≡ root_fault fault → IfSome before (λ disk. IsLostWhere fault old.versions.versions grown (reads_of disk))
        → ToldFor (Err fault) → Told before after (PublishesMerged {T = T} (Err answer) old new given)
    failed_inside fault answer from lost told =
        subst (λ (k : Merging). Told before after (PublishesMerged {T = T} (Err answer) old new k)) m_is
        (told_failed T law old new m before after fault answer from (lost_inside old before fault lost) (of_merge (Err fault) told))
