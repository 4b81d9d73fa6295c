-- The transactions behind the current version, as they are taken into a draft.
use Rattle.std.proofs.Common.{◌≡◌, ℕ, ◌+◌, ◌<◌, ◌≤◌, List, [], length, take, Option, Some, None, IfOk, IfSome, Result, Ok, Err, unwrap_or, sym, ap, subst, ◌∙◌, arith}
use Rattle.std.specs.Prelude.{slice_range}
use Rattle.std.proofs.lemmas.List.Edits.{length-between}
use Rattle.std.proofs.lemmas.Result.{IfOk-weaker}
use Rattle.qd_base.specs.declared.op.Entry.{Entry}
use Rattle.qd_base.specs.declared.part.WalRef.{WalRef}
use Rattle.qd_base.specs.declared.schema.Schema.{Schema}
use Rattle.qd_base.specs.Database.{schemas_of}
use Rattle.qd_base.specs.Lawful.{LawfulFrom}
use Rattle.qd_base.specs.Schemas.{schemas_from}
use Rattle.qd_base.proofs.Tables.{schemas_of-replay}
use Rattle.qd_catalog.specs.declared.version.Version.{Version}
use Rattle.qd_catalog.specs.Versions.{Versions, n_of, version_at}
use Rattle.qd_apply.specs.Arrivals.{without_rows}
use Rattle.qd_apply.specs.Drafts.{Drafting}
use Rattle.qd_apply.proofs.ArrivalLemmas.{schemas_without}
use Rattle.qd_durable.specs.declared.fault.LogFault.{LogFault}
use Rattle.qd_durable.specs.declared.fault.LogFault.TheVariants as fault
use Rattle.qd_manifest.specs.declared.shape.TableParts.{TableParts}
use Rattle.qd_manifest.specs.Spelling.{schemas_in}
use Rattle.qd_sequencer.specs.Histories.{AreSpelled}
use Rattle.qd_sequencer.specs.Reading.{BreaksOff}
use Rattle.qd_txnfile.specs.Versions as root
use Rattle.qd_volume.specs.Disk.{Disk, Image, reads_of, file_of}
use Rattle.qd_volume.proofs.Sound.{image_of_reads, sound_file}
use Rattle.qd_wal.specs.Laws.{OneEntryIsRead}
use Rattle.qd_store.specs.Damage.{IsDamagedOver, IsRoundAt}
use Rattle.qd_store.specs.Drafting.{AreArrived, HasArrived, HasTaken, IsArrived, IsArrivedFrom, IsRoundTaken, IsSomeRound}
use Rattle.qd_store.specs.Drafts.{between, round_of}
use Rattle.qd_store.specs.Prefixes.{IsShown}
use Rattle.qd_store.specs.Stores.{Book, IsStore}
use Rattle.qd_store.proofs.Between.{lawful_between, no_break, round_one, spelled_between, spelled_long}

-- a draft over a version, in which nothing has arrived
abbrev pub begun : ℕ → Version → Drafting
begun next x = record { base = x.n; upto = x.n; next_block = next; shape = x.shape; tables = without_rows (schemas_in x.shape) }

-- what is taken into it has arrived behind the version
pub has_arrived : (next : ℕ) (x : Version) (es : List Entry) (draft d : Drafting) → draft ≡ begun next x → HasTaken draft d es → HasArrived next x es d
has_arrived next x es draft d is has =
    let taken : HasTaken (begun next x) d es = subst (λ (b : Drafting). HasTaken b d es) is has in
    record {
      lawful = subst (λ (s : List Schema). LawfulFrom s es) (schemas_without (schemas_in x.shape)) taken.lawful;
      draft = taken.taken;
    }

-- ---- of a history

module _ (s : Book) (h : List Entry) (next : root.Version) (disk : Disk) (is : IsStore s h next disk) (x : Version) (at : version_at s.versions.versions s.versions.versions.current ≡ Some x) where
  pub shown_now : IsShown h x.n x.shape disk
  shown_now = is.versions.live s.versions.versions.current x at

  schemas_now : schemas_in x.shape ≡ schemas_from [] (take x.n h)
  schemas_now = shown_now.stands.schemas ∙ schemas_of-replay [] (take x.n h)

  module _ (upto : ℕ) (more : x.n ≤ upto) where
    lawful_now : LawfulFrom (schemas_in x.shape) (between h x.n upto)
    lawful_now = subst (λ (l : List Schema). LawfulFrom l (between h x.n upto)) (sym schemas_now) (lawful_between h x.n upto is.sequence.lawful more)

    spelled_now : AreSpelled (slice_range s.sequence.refs x.n upto) (between h x.n upto) (reads_of disk)
    spelled_now = spelled_between x.n upto s.sequence.refs h (reads_of disk) (is.sequence.spelled (reads_of disk) (λ file. image_of_reads (file_of disk file) (sound_file disk file)))

    some_now : x.n < upto → upto ≤ length s.sequence.refs → 0 < length (between h x.n upto)
    some_now below few =
        let long = spelled_long (slice_range s.sequence.refs x.n upto) (between h x.n upto) (reads_of disk) spelled_now in
        omega (arith, below, long, length-between s.sequence.refs x.n upto few)

    pub arrived_from : OneEntryIsRead → (result : Result Drafting LogFault) (draft : Drafting) (refs : List WalRef)
        → draft ≡ begun s.versions.versions.next_block x → refs ≡ slice_range s.sequence.refs x.n upto → upto ≤ length s.sequence.refs → x.n < upto
        → IsRoundTaken result refs draft (reads_of disk) → IsArrivedFrom result s h upto
    arrived_from one (Ok d) draft refs begins are few below (es, round, has) =
        let there : IsRoundAt (slice_range s.sequence.refs x.n upto) es (reads_of disk) = subst (λ (l : List WalRef). IsRoundAt l es (reads_of disk)) are round in
        let same : es ≡ round_of (between h x.n upto) = round_one one (slice_range s.sequence.refs x.n upto) es (between h x.n upto) (reads_of disk) spelled_now there in (
          x,
          at,
          has_arrived s.versions.versions.next_block x (round_of (between h x.n upto)) draft d begins (subst (λ (l : List Entry). HasTaken draft d l) same has),
          some_now below few,
        )
    arrived_from one (Err (fault.Damaged file place)) draft refs begins are few below breaks =
        no_break one refs (between h x.n upto) (schemas_of draft.tables) (reads_of disk) file place
        (subst (λ (l : List WalRef). AreSpelled l (between h x.n upto) (reads_of disk)) (sym are) spelled_now)
        (subst (λ (l : List Schema). LawfulFrom l (between h x.n upto)) (sym (ap (λ (d : Drafting). schemas_of d.tables) begins ∙ schemas_without (schemas_in x.shape))) lawful_now)
        breaks
    arrived_from one (Err fault.Vol) draft refs begins are few below taken = tt
    arrived_from one (Err fault.Memory) draft refs begins are few below taken = tt

-- ---- of a book, whatever its volume tells

-- the number and the tables of the current version
module _ (v : Versions) (row : ℕ) (current : row ≡ v.current) (x : Version) (at : version_at v v.current ≡ Some x) where
  pub number_here : (o : Option ℕ) (n : ℕ) → o ≡ n_of (version_at v row) → n ≡ unwrap_or o 0 → n ≡ x.n
  number_here o n of is = is ∙ ap (λ (p : Option ℕ). unwrap_or p 0) (of ∙ ap (λ (r : ℕ). n_of (version_at v r)) current ∙ ap n_of at)

  pub tables_here : (tables : List TableParts) → ((y : Version) → version_at v row ≡ Some y → tables ≡ y.shape) → tables ≡ x.shape
  tables_here tables of = of x (ap (λ (r : ℕ). version_at v r) current ∙ at)

module _ (x : Version) (n : ℕ) (shape : List TableParts) (number : n ≡ x.n) (tables : shape ≡ x.shape) where
  module _ (next from : ℕ) (draft : Drafting) (numbered : from ≡ next)
      (is : draft ≡ record { base = n; upto = n; next_block = from; shape = shape; tables = without_rows (schemas_in shape) }) where
    begins : draft ≡ begun next x
    begins =
        is
        ∙ ap (λ (k : ℕ). let d : Drafting = record { base = k; upto = k; next_block = from; shape = shape; tables = without_rows (schemas_in shape) } in d) number
        ∙ ap (λ (k : ℕ). let d : Drafting = record { base = x.n; upto = x.n; next_block = k; shape = shape; tables = without_rows (schemas_in shape) } in d) numbered
        ∙ ap (λ (l : List TableParts). let d : Drafting = record { base = x.n; upto = x.n; next_block = next; shape = l; tables = without_rows (schemas_in l) } in d) tables

    module _ (result : Result Drafting LogFault) (list refs : List WalRef) (upto : ℕ) (listed : list ≡ refs) (few : upto ≤ length refs) (more : x.n < upto) where
      are : slice_range list n upto ≡ slice_range refs x.n upto
      are = ap (λ (l : List WalRef). slice_range l n upto) listed ∙ ap (λ (k : ℕ). slice_range refs k upto) number

      reaches : x.n + length (slice_range list n upto) ≡ upto
      reaches = omega (arith, ap length are, length-between refs x.n upto few, more)

      pub arrived_over : (v : Versions) → v.next_block ≡ next → version_at v v.current ≡ Some x
          → IfOk result (λ d. IsSomeRound (length (slice_range list n upto)) draft d) → IfOk result (λ d. IsArrived v upto d)
      arrived_over v block at taken =
          IfOk-weaker result (λ d. IsSomeRound (length (slice_range list n upto)) draft d) (λ d. IsArrived v upto d)
          (λ d (es, has, keys, some, within). (
            x,
            es,
            record {
              at = at;
              has = subst (λ (k : ℕ). HasArrived k x es d) (sym block) (has_arrived next x es draft d begins has);
              keys = keys;
              some = some;
              most = omega (arith, within, reaches);
            },
          )) taken

      pub arrived_told : (s : Book) → s.versions.versions.next_block ≡ next → s.sequence.refs ≡ refs
          → version_at s.versions.versions s.versions.versions.current ≡ Some x → OneEntryIsRead → (o : Option Disk)
          → IfSome o (λ disk. IsRoundTaken result (slice_range list n upto) draft (reads_of disk))
          → IfSome o (λ disk. (h : List Entry) (last : root.Version) → IsStore s h last disk → IsArrivedFrom result s h upto)
      arrived_told s block refs_same at one None taken = tt
      arrived_told s block refs_same at one (Some disk) taken = λ h last is.
          arrived_from s h last disk is x at upto (omega (arith, more)) one result draft (slice_range list n upto) (begins ∙ ap (λ (k : ℕ). begun k x) (sym block))
          (are ∙ ap (λ (l : List WalRef). slice_range l x.n upto) (sym refs_same)) (omega (arith, few, ap length refs_same)) more taken

      -- whatever the files hold
      module _ (s : Book) (block : s.versions.versions.next_block ≡ next) (refs_same : s.sequence.refs ≡ refs) (at : version_at s.versions.versions s.versions.versions.current ≡ Some x) where
        places : slice_range list n upto ≡ slice_range s.sequence.refs x.n upto
        places = are ∙ ap (λ (l : List WalRef). slice_range l x.n upto) (sym refs_same)

        schemas_here : schemas_of draft.tables ≡ schemas_in x.shape
        schemas_here = ap (λ (d : Drafting). schemas_of d.tables) begins ∙ schemas_without (schemas_in x.shape)

        read_here : (image : Image) (r : Result Drafting LogFault) → IsRoundTaken r (slice_range list n upto) draft image → AreArrived r s upto image
        read_here image (Ok d) (es, round, has) = (
          x,
          es,
          at,
          subst (λ (l : List WalRef). IsRoundAt l es image) places round,
          subst (λ (k : ℕ). HasArrived k x es d) (sym block) (has_arrived next x es draft d begins has),
        )
        read_here image (Err (fault.Damaged file place)) breaks = (
          x,
          at,
          IsDamagedOver.InEntries file place
              (subst (λ (l : List WalRef). BreaksOff l (schemas_in x.shape) image file place) places
              (subst (λ (l : List Schema). BreaksOff (slice_range list n upto) l image file place) schemas_here breaks)),
        )
        read_here image (Err fault.Vol) taken = tt
        read_here image (Err fault.Memory) taken = tt

        pub arrived_read : (o : Option Disk) → IfSome o (λ disk. IsRoundTaken result (slice_range list n upto) draft (reads_of disk)) → IfSome o (λ disk. AreArrived result s upto (reads_of disk))
        arrived_read None taken = tt
        arrived_read (Some disk) taken = read_here (reads_of disk) result taken
