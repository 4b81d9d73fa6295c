-- Drafts of the transactions behind the current version.
use Rattle.std.proofs.Common.{◌≡◌, ℕ, ◌+◌, ◌*◌, ◌^◌, ◌<◌, ◌≤◌, List, [], ◌∷◌, length, map, take, All, Option, Some, None, IfSome, Result, Ok, Err, refl, sym, ap, ap₂, subst, ◌∙◌, arith, Vec}
use Rattle.std.specs.declared.alloc.Global.{Global}
use Rattle.std.proofs.lemmas.List.{length-drop, length-map, length-take}
use Rattle.std.proofs.lemmas.List.Elements.{All-weaker}
use Rattle.qd_base.specs.declared.op.Entry.{Entry}
use Rattle.qd_base.specs.declared.part.Part.{Part}
use Rattle.qd_base.specs.declared.schema.Schema.{Schema}
use Rattle.qd_base.specs.Database.{StoredTable}
use Rattle.qd_base.specs.Lawful.{LawfulFrom}
use Rattle.qd_base.specs.Replay.{first, replay}
use Rattle.qd_catalog.specs.declared.version.Version.{Version}
use Rattle.qd_catalog.specs.Versions.{version_at, written_of, Versions}
use Rattle.qd_column_format.specs.Laws.{OneColumnIsSpelled}
use Rattle.qd_column_files.specs.Laws.{OneBlockIsHeld}
use Rattle.qd_apply.specs.Drafts.{Drafting, Planning}
use Rattle.qd_apply.specs.Laws.{CountsParts, RowsAreFew}
use Rattle.qd_apply.specs.declared.olds.Late.{Late}
use Rattle.qd_apply.specs.declared.olds.OldPart.{OldPart}
use Rattle.qd_apply.specs.Olds.{all_late}
use Rattle.qd_apply.specs.Plans.{with_batch}
use Rattle.qd_apply.specs.Stands.{StandsFor}
use Rattle.qd_durable.specs.declared.fault.LogFault.{LogFault}
use Rattle.qd_durable.specs.declared.fault.LogFault.TheVariants as fault
use Rattle.qd_manifest.specs.declared.shape.TableParts.{TableParts}
use Rattle.qd_manifest.specs.declared.shape.TheConstants.{BLOCKS_PER_TRANSACTION}
use Rattle.qd_txnfile.specs.Versions as root
use Rattle.qd_versions.specs.Stores as versions
use Rattle.qd_volume.specs.Disk.{Disk, Image, reads_of}
use Rattle.qd_store.specs.Damage.{IsDamagedOver, IsDraftDamage, LosesBlock}
use Rattle.qd_store.specs.Drafting.{AreArrived, ArePartsRead, AreRead, HasArrived, IsArrived, IsArrivedFrom}
use Rattle.qd_store.specs.Drafts.{Drafted, IsDraftOver, IsDraftedFrom, between, plan_of, round_of}
use Rattle.qd_store.specs.Grown.{rows_written}
use Rattle.qd_store.specs.Prefixes.{IsShown}
use Rattle.qd_store.specs.Stores.{Book, IsStore}
use Rattle.qd_store.proofs.Arrived.{shown_now}
use Rattle.qd_store.proofs.Between.{replay_between}
use Rattle.qd_store.proofs.OldsRead.{none_lost, reads_are, same_cause}
use Rattle.qd_store.proofs.Fills.{drafted}
use Rattle.qd_store.proofs.FewRows.{rows_few}
use Rattle.qd_store.proofs.RoundLists.{between_round, round_few, round_keys, round_some}

-- what is planned of what has arrived
abbrev pub planning : Drafting → List (List ℕ) → ℕ → Planning
planning d written split = record {
  base = d.base;
  upto = d.upto;
  next_block = d.next_block;
  shape = d.shape;
  tables = map with_batch d.tables;
  written = written;
  split_rows = split;
}

-- the plan of what has arrived
planned : (written : List (List ℕ)) (split next : ℕ) (x : Version) (es : List Entry) (arrived : Drafting) (plan : Planning) → HasArrived next x es arrived
    → plan ≡ planning arrived written split → plan ≡ plan_of written split next x es
planned written split next x es arrived plan has is = is ∙ ap (λ (d : Drafting). planning d written split) has.draft

-- there is a count for each part
pub counts_parts : (s : Book) (upto : ℕ) (arrived : Drafting) → IsArrived s.versions.versions upto arrived → (written : List (List ℕ))
    → ((x : Version) → version_at s.versions.versions s.versions.versions.current ≡ Some x → written ≡ rows_written s.versions.versions x.shape) → CountsParts arrived.shape written
counts_parts s upto arrived (x, es, is) written rows =
    subst (λ (l : List TableParts). CountsParts l written) (sym (ap (λ (d : Drafting). d.shape) is.has.draft))
    (subst (CountsParts x.shape) (sym (rows x is.at)) (counts s.versions.versions x.shape))
  where
    counts : (v : Versions) (shape : List TableParts) → CountsParts shape (rows_written v shape)
    counts v [] = refl
    counts v (t ∷ ts) = ap₂ (λ (n : ℕ) (ns : List ℕ). n ∷ ns) (length-map t.parts (λ (p : Part). written_of v p.block)) (counts v ts)

-- ---- whatever the files hold

module _ (v : versions.Store) (law : versions.IsStore v) (written : List (List ℕ)) (split upto : ℕ) (arrived : Drafting) (is : IsArrived v.versions upto arrived) where
  module _ (plan : Planning) (plan_is : plan ≡ planning arrived written split) where
    pub drafted_over : (few : upto ≤ 2 ^ 30) (olds : List OldPart)
        → ((x : Version) → version_at v.versions v.versions.current ≡ Some x → written ≡ rows_written v.versions x.shape)
        → AreRead plan.written plan.split_rows plan.shape plan.tables olds → IsDraftOver v.versions (record { plan = plan; olds = olds })
    drafted_over few olds rows read =
        let x = is.0 in
        let es = is.1 in
        let arrives = is.2 in
        let next = v.versions.next_block in
        let most : x.n + length es ≤ upto = arrives.most in
        let so : plan ≡ plan_of written split next x es = planned written split next x es arrived plan arrives.has plan_is in
        let same : AreRead written split x.shape (plan_of written split next x es).tables olds = subst (λ (p : Planning). AreRead p.written p.split_rows p.shape p.tables olds) so read in (
          x,
          arrives.at,
          drafted written split next x es (record { plan = plan; olds = olds }) (law.current x arrives.at).sound arrives.has.lawful arrives.keys arrives.some (omega (arith, most, few)) so same,
          ap (λ (p : Planning). p.written) so ∙ rows x arrives.at,
        )

    -- it gives one transaction at least, and none behind the number asked for
    pub drafted_upto : (plan.base < plan.upto) × (plan.upto ≤ upto)
    drafted_upto =
        let arrives = is.2 in
        let some : 0 < length is.1 = arrives.some in
        let most : is.0.n + length is.1 ≤ upto = arrives.most in
        let so = planned written split v.versions.next_block is.0 is.1 arrived plan arrives.has plan_is in
        let base : plan.base ≡ is.0.n = ap (λ (p : Planning). p.base) so in
        let number : plan.upto ≡ is.0.n + length is.1 = ap (λ (p : Planning). p.upto) so in
        (omega (arith, some, base, number), omega (arith, most, number))

-- what a plan's merge reads, of an image
abbrev pub FilesRead : Result (Vec OldPart Global) LogFault → Planning → Image → Type 0
FilesRead result plan image = ArePartsRead result plan.split_rows (all_late 0 plan.written plan.split_rows plan.shape plan.tables) plan.shape image

-- ---- of a history

module _ (one : OneBlockIsHeld) (spelled : OneColumnIsSpelled) (s : Book) (law : versions.IsStore s.versions) (rows : RowsAreFew) (upto : ℕ) (h : List Entry) (next : root.Version) (disk : Disk) (is : IsStore s h next disk) where
  pub drafted_from : (few : upto ≤ 2 ^ 30) (written : List (List ℕ)) (split : ℕ) (arrived : Drafting) (plan : Planning)
      → IsArrivedFrom (Ok arrived) s h upto → plan ≡ planning arrived written split
      → (list : Vec OldPart Global)
      → FilesRead (Ok list) plan (reads_of disk)
      → IsDraftedFrom (Ok (record { plan = plan; olds = list.items })) s h upto
  drafted_from few written split arrived plan (x, at, has, more) plan_is list read =
      let shown : IsShown h x.n x.shape disk = shown_now s h next disk is x at in
      let all : List Entry = between h x.n upto in
      let es : List Entry = round_of all in
      let to : ℕ = x.n + length es in
      let some : 0 < length es = round_some all more in
      let fewer : length es ≤ length all = round_few all in
      let low : x.n ≤ length h = shown.few in
      let within : to ≤ length h = omega (arith, fewer, low, length-drop x.n (take upto h), length-take upto h) in
      let room : to ≤ 2 ^ 30 = omega (arith, few, more, fewer, length-drop x.n (take upto h), length-take upto h) in
      let so : plan ≡ plan_of written split s.versions.versions.next_block x es = planned written split s.versions.versions.next_block x es arrived plan has plan_is in
      let stands : StandsFor shown.blocks x.shape (first h x.n) = shown.stands in
      let tables : List StoredTable = (plan_of written split s.versions.versions.next_block x es).tables in
      let files : ArePartsRead (Ok list) split (all_late 0 written split x.shape tables) x.shape (reads_of disk) = subst (λ (p : Planning). FilesRead (Ok list) p (reads_of disk)) so read in
      let behind : replay (first h x.n) es ≡ first h to = ap (replay (first h x.n)) (sym (between_round h x.n upto)) ∙ replay_between h x.n to (omega arith) in (
        x,
        shown.blocks,
        at,
        record {
          follows = record {
            manifest = (law.current x at).sound;
            stands = stands;
            lawful = subst (λ (l : List Schema). LawfulFrom l es) stands.schemas has.lawful;
            keys = round_keys all;
            some = some;
            room = room;
            few = subst (All (λ (t : StoredTable). length t.rows < 2 ^ 64)) (sym behind)
                (All-weaker (λ (t : StoredTable). length t.rows ≤ to * BLOCKS_PER_TRANSACTION) (λ (t : StoredTable). length t.rows < 2 ^ 64)
                (λ t le. omega (arith, le, room)) (first h to) (rows_few rows h to is.sequence.lawful within));
          };
          written = written;
          split = split;
          plan = so;
          read = reads_are one spelled s h next disk is x at split written tables list files shown.blocks stands;
        },
      )

  -- where a part isn't read
  pub none_read : (cause : LogFault) (written : List (List ℕ)) (split : ℕ) (arrived : Drafting) (plan : Planning) → IsArrivedFrom (Ok arrived) s h upto → plan ≡ planning arrived written split
      → FilesRead (Err cause) plan (reads_of disk)
      → IsDraftedFrom (Err cause) s h upto
  none_read cause written split arrived plan (x, at, has, more) plan_is read =
      let es : List Entry = round_of (between h x.n upto) in
      let so : plan ≡ plan_of written split s.versions.versions.next_block x es = planned written split s.versions.versions.next_block x es arrived plan has plan_is in
      by cause (all_late 0 written split x.shape (plan_of written split s.versions.versions.next_block x es).tables) (subst (λ (p : Planning). FilesRead (Err cause) p (reads_of disk)) so read)
    where
      by : (cause : LogFault) (lates : List Late) → ArePartsRead (Err cause) split lates x.shape (reads_of disk) → IsDraftedFrom (Err cause) s h upto
      by (fault.Damaged file place) lates lost = none_lost one spelled s h next disk is x at split lates file place lost
      by fault.Vol lates lost = tt
      by fault.Memory lates lost = tt

-- the same of a volume that may tell nothing
module _ (one : OneBlockIsHeld) (spelled : OneColumnIsSpelled) (s : Book) (law : versions.IsStore s.versions) (rows : RowsAreFew) (upto : ℕ) (few : upto ≤ 2 ^ 30)
    (written : List (List ℕ)) (split : ℕ) (arrived : Drafting) (plan : Planning) (plan_is : plan ≡ planning arrived written split) where
  abbrev pub HasTold : Disk → Type 0
  HasTold disk = (h : List Entry) (next : root.Version) → IsStore s h next disk → IsArrivedFrom (Ok arrived) s h upto

  abbrev pub DraftsTold : Result Drafted LogFault → Disk → Type 0
  DraftsTold result disk = (h : List Entry) (next : root.Version) → IsStore s h next disk → IsDraftedFrom result s h upto

  pub drafted_told : (list : Vec OldPart Global) (o now : Option Disk) → now ≡ o → IfSome o HasTold → IfSome now (λ disk. FilesRead (Ok list) plan (reads_of disk))
      → IfSome o (DraftsTold (Ok (record { plan = plan; olds = list.items })))
  drafted_told list None now same has read = tt
  drafted_told list (Some disk) now same has read =
      let told : FilesRead (Ok list) plan (reads_of disk) = subst (λ (o : Option Disk). IfSome o (λ disk. FilesRead (Ok list) plan (reads_of disk))) same read in
      λ h next is. drafted_from one spelled s law rows upto h next disk is few written split arrived plan (has h next is) plan_is list told

  pub undrafted_told : (cause : LogFault) (o now : Option Disk) → now ≡ o → IfSome o HasTold → IfSome now (λ disk. FilesRead (Err cause) plan (reads_of disk)) → IfSome o (DraftsTold (Err cause))
  undrafted_told cause None now same has read = tt
  undrafted_told cause (Some disk) now same has read =
      let told : FilesRead (Err cause) plan (reads_of disk) = subst (λ (o : Option Disk). IfSome o (λ disk. FilesRead (Err cause) plan (reads_of disk))) same read in
      λ h next is. none_read one spelled s law rows upto h next disk is cause written split arrived plan (has h next is) plan_is told

-- ---- where a draft finds damage

module _ {T : Type 0} (result : Result T LogFault) (cause : LogFault) (failed : result ≡ Err cause) (s : Book) (upto : ℕ) where
  -- before it plans
  pub arrives_damaged : (o : Option Disk) → IfSome o (λ disk. AreArrived (Err cause) s upto (reads_of disk))
      → IfSome o (λ disk. (file at : ℕ) → result ≡ Err (fault.Damaged file at) → IsDraftDamage s upto (reads_of disk) file at)
  arrives_damaged None read = tt
  arrives_damaged (Some disk) read = λ file at damaged.
      subst (λ (f : LogFault). AreArrived (Err f) s upto (reads_of disk)) (same_cause result cause (fault.Damaged file at) failed damaged) read

  -- behind that
  module _ (written : List (List ℕ)) (arrived : Drafting) (plan : Planning) (plan_is : plan ≡ planning arrived written s.limits.split_rows)
      (rows : (x : Version) → version_at s.versions.versions s.versions.versions.current ≡ Some x → written ≡ rows_written s.versions.versions x.shape) where
    in_blocks : (image : Image) (file at : ℕ) → AreArrived (Ok arrived) s upto image → FilesRead (Err (fault.Damaged file at)) plan image → IsDraftDamage s upto image file at
    in_blocks image file at (x, es, current, round, has) loses =
        let split : ℕ = s.limits.split_rows in
        let next : ℕ = s.versions.versions.next_block in (
          x,
          current,
          IsDamagedOver.InBlocks es file at round has.lawful
              (subst (λ (w : List (List ℕ)). LosesBlock split (all_late 0 w split x.shape (plan_of w split next x es).tables) x.shape image file at) (rows x current)
              (subst (λ (p : Planning). FilesRead (Err (fault.Damaged file at)) p image) (planned written split next x es arrived plan has plan_is) loses)),
        )

    pub reads_damaged : (o now : Option Disk) → now ≡ o → IfSome o (λ disk. AreArrived (Ok arrived) s upto (reads_of disk))
        → IfSome now (λ disk. FilesRead (Err cause) plan (reads_of disk))
        → IfSome o (λ disk. (file at : ℕ) → result ≡ Err (fault.Damaged file at) → IsDraftDamage s upto (reads_of disk) file at)
    reads_damaged None now same has loses = tt
    reads_damaged (Some disk) now same has loses = λ file at damaged.
        in_blocks (reads_of disk) file at has
        (subst (λ (f : LogFault). FilesRead (Err f) plan (reads_of disk)) (same_cause result cause (fault.Damaged file at) failed damaged)
        (subst (λ (p : Option Disk). IfSome p (λ disk. FilesRead (Err cause) plan (reads_of disk))) same loses))
