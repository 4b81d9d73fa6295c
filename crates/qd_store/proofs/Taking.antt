-- Transactions that are taken into a draft, one behind another.
use Rattle.std.proofs.Common.{◌≡◌, ◌⊎◌, inl, inr, ℕ, suc, ◌+◌, ◌-◌, ◌<◌, ◌≤◌, true, false, true≢false, List, [], ◌∷◌, length, fold, take, drop, get_or, Option, None, Some, IfSome, IsSome, ◌↔◌, Result, Ok, Err, refl, sym, ap, subst, ◌∙◌, arith}
use Rattle.std.proofs.lemmas.List.{drop_all, drop_more, take_rest}
use Rattle.qd_base.specs.declared.limits.TheConstants.{MAX_BATCH_CELLS}
use Rattle.qd_base.specs.declared.op.Entry.{Entry}
use Rattle.qd_base.specs.declared.part.WalRef.{WalRef}
use Rattle.qd_base.specs.declared.schema.Schema.{Schema}
use Rattle.qd_base.specs.Database.{schemas_of}
use Rattle.qd_base.specs.Lawful.{AreLawful, LawfulFrom, SetsKeysAlone, cells_of}
use Rattle.qd_base.specs.Schemas.{schemas_step}
use Rattle.qd_apply.specs.Arrivals.{arrivals_from, arrives}
use Rattle.qd_apply.specs.Drafts.{Drafting}
use Rattle.qd_apply.proofs.ArrivalLemmas.{schemas_ops}
use Rattle.qd_durable.specs.declared.fault.LogFault.{LogFault}
use Rattle.qd_durable.specs.declared.fault.LogFault.TheVariants as fault
use Rattle.qd_durable.specs.Faults.{CountsVol}
use Rattle.qd_sequencer.specs.Reading.{BreaksOff}
use Rattle.qd_volume.specs.Disk.{Disk, Image, reads_of}
use Rattle.qd_wal.specs.Reading.{IsEntryRead, SpellsAt}
use Rattle.qd_wal.specs.Segments.{file_in}
use Rattle.qd_store.specs.Damage.{IsRoundAt}
use Rattle.qd_store.specs.Drafting.{AreBeforeKeys, AreSomeTaken, AreTaken, HasTaken, IsRoundTaken, IsSomeRound, IsTaken}
use Rattle.qd_store.specs.Drafts.{sets_keys_in}
use Rattle.qd_store.proofs.RoundLists.{before_ends, before_more, sets_none}

-- ---- one more is taken

takes_none : (d : Drafting) → HasTaken d d []
takes_none d = record {
  lawful = tt;
  taken = ap (λ (n : ℕ). let e : Drafting = record d { upto = n } in e) (omega arith);
}

-- the schemas behind one transaction
schemas_behind : (old mid : Drafting) (e : Entry) → HasTaken old mid (e ∷ []) → schemas_of mid.tables ≡ fold schemas_step (schemas_of old.tables) e.ops
schemas_behind old mid e one = ap (λ (d : Drafting). schemas_of d.tables) one.taken ∙ schemas_ops old.tables e.ops

-- what the rest takes, after one transaction, the whole takes
takes_more : (old mid new : Drafting) (e : Entry) (es : List Entry) → HasTaken old mid (e ∷ []) → HasTaken mid new es → HasTaken old new (e ∷ es)
takes_more old mid new e es one rest = record {
  lawful = (one.lawful.0, one.lawful.1, one.lawful.2, subst (λ (s : List Schema). LawfulFrom s es) (schemas_behind old mid e one) rest.lawful);
  taken = rest.taken
      ∙ ap (λ (d : Drafting). let n : Drafting = record d { upto = d.upto + length es; tables = arrivals_from d.tables es } in n) one.taken
      ∙ ap (λ (n : ℕ). let d : Drafting = record old { upto = n; tables = arrivals_from old.tables (e ∷ es) } in d) (omega arith);
}

pub taken_upto : (old new : Drafting) (e : Entry) → HasTaken old new (e ∷ []) → new.upto ≡ old.upto + 1
taken_upto old new e has = ap (λ (d : Drafting). d.upto) has.taken

-- the rest of a round behind its first transaction
pub some_round : (most all : ℕ) (old mid new : Drafting) (e : Entry) → HasTaken old mid (e ∷ []) → AreSomeTaken most mid new → most + 1 ≡ all → IsSomeRound all old new
some_round most all old mid new e one (es, has, keys, few) is = (e ∷ es, takes_more old mid new e es one has, keys, omega arith, omega (arith, few, is))

-- ---- one transaction, as it is judged

-- it is lawful over the schemas so far
abbrev pub IsLawfulNext : Drafting → Entry → Type 0
IsLawfulNext old e = AreLawful (schemas_of old.tables) e.ops × (cells_of e ≤ MAX_BATCH_CELLS) × SetsKeysAlone e.ops

module _ (at : WalRef) (old : Drafting) (e : Entry) (next : Option Drafting) (judged : IsSome next ↔ IsLawfulNext old e)
    (taken : IfSome next (λ d. d ≡ record old { upto = old.upto + 1; tables = fold arrives old.tables e.ops })) where
  pub one_taken : (new : Drafting) → next ≡ Some new → IsTaken (Ok new) at old e
  one_taken new is =
      let lawful : IsLawfulNext old e = judged.0 (subst (λ (o : Option Drafting). IsSome o) (sym is) refl) in record {
        lawful = (lawful.0, lawful.1, lawful.2, tt);
        taken = subst (λ (o : Option Drafting). IfSome o (λ d. d ≡ record old { upto = old.upto + 1; tables = fold arrives old.tables e.ops })) is taken;
      }

  pub none_taken : next ≡ None → (file : ℕ) → file ≡ file_in at → IsTaken (Err (fault.Damaged file at.start)) at old e
  none_taken none file is = (
    is,
    refl,
    λ lawful. true≢false (sym (subst (λ (o : Option Drafting). IsSome o) none (judged.1 (lawful.changes, lawful.cells, lawful.alone)))),
  )

-- ---- what is taken from a place on, is taken from the first one on

abbrev pub Goes : ℕ → Drafting → Drafting → Type 0
Goes i old mid = (most : ℕ) (new : Drafting) → AreSomeTaken most mid new → AreSomeTaken (i + most) old new

some_more : (most : ℕ) (old mid new : Drafting) (e : Entry) → HasTaken old mid (e ∷ []) → sets_keys_in e ≡ false → AreSomeTaken most mid new → AreSomeTaken (suc most) old new
some_more most old mid new e one none (es, has, keys, few) = (e ∷ es, takes_more old mid new e es one has, (sets_none e none, keys), omega (arith, few))

pub goes_more : (i : ℕ) (old mid next : Drafting) (e : Entry) → Goes i old mid → HasTaken mid next (e ∷ []) → sets_keys_in e ≡ false → Goes (i + 1) old next
goes_more i old mid next e goes one none most new some = subst (λ (n : ℕ). AreSomeTaken n old new) (omega arith) (goes (suc most) new (some_more most mid next new e one none some))

pub goes_end : (i n : ℕ) (old mid : Drafting) → Goes i old mid → i ≤ n → AreSomeTaken n old mid
goes_end i n old mid goes le =
    let some = goes 0 mid ([], takes_none mid, tt, omega arith) in
    (some.0, some.1, some.2, let few = some.3 in omega (arith, few, le))

-- the same of the places on a volume
pub record Leads (refs rest : List WalRef) (old mid : Drafting) (image : Image) : Type 0 where
  pub taken : (new : Drafting) → AreTaken (Ok new) rest mid image → AreTaken (Ok new) refs old image
  pub breaks : (file place : ℕ) → BreaksOff rest (schemas_of mid.tables) image file place → BreaksOff refs (schemas_of old.tables) image file place

-- one more that sets no keys
before_with : (refs : List WalRef) (at : WalRef) (e : Entry) (es : List Entry) (image : Image) → SpellsAt (image (file_in at)) at e → sets_keys_in e ≡ false → AreBeforeKeys refs es image → AreBeforeKeys (at ∷ refs) (e ∷ es) image
before_with refs at e es image spelled none is = record {
  read = e ∷ is.read;
  spelled = (spelled, is.spelled);
  before = ap (λ (l : List Entry). e ∷ l) is.before ∙ sym (before_more e is.read none);
  known = by is.known;
}
  where
    by : (length es < length is.read) ⊎ (length is.read ≡ length refs) → (length (e ∷ es) < length (e ∷ is.read)) ⊎ (length (e ∷ is.read) ≡ length (at ∷ refs))
    by (inl lt) = inl (omega (arith, lt))
    by (inr all) = inr (ap suc all)

-- the first one that sets keys
before_at : (refs : List WalRef) (at : WalRef) (e : Entry) (image : Image) → SpellsAt (image (file_in at)) at e → sets_keys_in e ≡ true → AreBeforeKeys (at ∷ refs) [] image
before_at refs at e image spelled sets = record {
  read = e ∷ [];
  spelled = (spelled, tt);
  before = sym (before_ends e [] sets);
  known = inl (omega arith);
}

-- all of them
before_all : (image : Image) → AreBeforeKeys [] [] image
before_all image = record { read = []; spelled = tt; before = refl; known = inr refl }

-- behind a transaction that is taken
good_behind : (refs : List WalRef) (at : WalRef) (e : Entry) (old mid : Drafting) (image : Image) (file place : ℕ) → SpellsAt (image (file_in at)) at e → HasTaken old mid (e ∷ [])
    → BreaksOff refs (schemas_of mid.tables) image file place → BreaksOff (at ∷ refs) (schemas_of old.tables) image file place
good_behind refs at e old mid image file place spelled has breaks =
    inr (
      e,
      record { spelled = spelled; lawful = record { changes = has.lawful.0; cells = has.lawful.1; alone = has.lawful.2 } },
      subst (λ (s : List Schema). BreaksOff refs s image file place) (schemas_behind old mid e has) breaks,
    )

leads_more : (refs more : List WalRef) (at : WalRef) (e : Entry) (old mid next : Drafting) (image : Image) → Leads refs (at ∷ more) old mid image
    → SpellsAt (image (file_in at)) at e → sets_keys_in e ≡ false → HasTaken mid next (e ∷ []) → Leads refs more old next image
leads_more refs more at e old mid next image leads spelled none has = record {
  taken = λ new taken. leads.taken new (e ∷ taken.0, before_with more at e taken.0 image spelled none taken.1, takes_more mid next new e taken.0 has taken.2);
  breaks = λ file place breaks. leads.breaks file place (good_behind more at e mid next image file place spelled has breaks);
}

-- ---- where one isn't taken

-- it isn't read
unread : (refs : List WalRef) (at : WalRef) (old : Drafting) (image : Image) (cause : LogFault) → IsEntryRead (Err cause) at (image (file_in at)) → AreTaken (Err cause) (at ∷ refs) old image
unread refs at old image (fault.Damaged file place) read = inl (inl read)
unread refs at old image fault.Vol read = tt
unread refs at old image fault.Memory read = tt

-- it isn't lawful
untaken : (refs : List WalRef) (at : WalRef) (e : Entry) (old : Drafting) (image : Image) (cause : LogFault) → SpellsAt (image (file_in at)) at e → IsTaken (Err cause) at old e → AreTaken (Err cause) (at ∷ refs) old image
untaken refs at e old image (fault.Damaged file place) spelled (segment, start, unlawful) = inl (inr (record { segment = segment; start = start; entry = e; spelled = spelled; unlawful = unlawful }))
untaken refs at e old image fault.Vol spelled taken = absurd taken
untaken refs at e old image fault.Memory spelled taken = tt

-- it raises no count then
pub untaken_counts : (T : Type 0) (at : WalRef) (old : Drafting) (e : Entry) (cause : LogFault) (before now : ℕ) → IsTaken (Err cause) at old e → now ≡ before → CountsVol {T = T} before now (Err cause)
untaken_counts T at old e (fault.Damaged file place) before now taken same = same
untaken_counts T at old e fault.Vol before now taken same = absurd taken
untaken_counts T at old e fault.Memory before now taken same = same

-- ---- of a volume that may tell nothing

module _ (refs : List WalRef) (old mid : Drafting) (i : ℕ) (o : Option Disk) (leads : (disk : Disk) → o ≡ Some disk → Leads refs (drop i refs) old mid (reads_of disk)) (d : WalRef) (lt : i < length refs) where
  abbrev at : WalRef
  at = get_or refs i d

  abbrev more : List WalRef
  more = drop (i + 1) refs

  leads_here : (disk : Disk) → o ≡ Some disk → Leads refs (at ∷ more) old mid (reads_of disk)
  leads_here disk is = subst (λ (l : List WalRef). Leads refs l old mid (reads_of disk)) (drop_more refs i d lt) (leads disk is)

  broken : (cause : LogFault) → IfSome o (λ disk. AreTaken (Err cause) (at ∷ more) mid (reads_of disk)) → IfSome o (λ disk. AreTaken (Err cause) refs old (reads_of disk))
  broken cause told = by o refl cause told
    where
      by : (p : Option Disk) → o ≡ p → (cause : LogFault) → IfSome p (λ disk. AreTaken (Err cause) (at ∷ more) mid (reads_of disk)) → IfSome p (λ disk. AreTaken (Err cause) refs old (reads_of disk))
      by None is cause told = tt
      by (Some disk) is (fault.Damaged file place) told = (leads_here disk is).breaks file place told
      by (Some disk) is fault.Vol told = tt
      by (Some disk) is fault.Memory told = tt

  -- what is read, now, is told of the volume as it was
  module _ (now : Option Disk) (same : now ≡ o) where
    pub read_broken : (cause : LogFault) → IfSome now (λ disk. IsEntryRead (Err cause) at (reads_of disk (file_in at))) → IfSome o (λ disk. AreTaken (Err cause) refs old (reads_of disk))
    read_broken cause told = broken cause (by o (subst (λ (p : Option Disk). IfSome p (λ disk. IsEntryRead (Err cause) at (reads_of disk (file_in at)))) same told))
      where
        by : (p : Option Disk) → IfSome p (λ disk. IsEntryRead (Err cause) at (reads_of disk (file_in at))) → IfSome p (λ disk. AreTaken (Err cause) (at ∷ more) mid (reads_of disk))
        by None told = tt
        by (Some disk) told = unread more at mid (reads_of disk) cause told

    module _ (e : Entry) (told : IfSome now (λ disk. IsEntryRead (Ok e) at (reads_of disk (file_in at)))) where
      is_there : IfSome o (λ disk. SpellsAt (reads_of disk (file_in at)) at e)
      is_there = subst (λ (p : Option Disk). IfSome p (λ disk. SpellsAt (reads_of disk (file_in at)) at e)) same told

      pub take_broken : (cause : LogFault) → IsTaken (Err cause) at mid e → IfSome o (λ disk. AreTaken (Err cause) refs old (reads_of disk))
      take_broken cause taken = broken cause (by o is_there)
        where
          by : (p : Option Disk) → IfSome p (λ disk. SpellsAt (reads_of disk (file_in at)) at e) → IfSome p (λ disk. AreTaken (Err cause) (at ∷ more) mid (reads_of disk))
          by None spelled = tt
          by (Some disk) spelled = untaken more at e mid (reads_of disk) cause spelled taken

      pub taken_ends : sets_keys_in e ≡ true → IfSome o (λ disk. AreTaken (Ok mid) refs old (reads_of disk))
      taken_ends sets = by o refl is_there
        where
          by : (p : Option Disk) → o ≡ p → IfSome p (λ disk. SpellsAt (reads_of disk (file_in at)) at e) → IfSome p (λ disk. AreTaken (Ok mid) refs old (reads_of disk))
          by None is spelled = tt
          by (Some disk) is spelled = (leads_here disk is).taken mid ([], before_at more at e (reads_of disk) spelled sets, takes_none mid)

      pub leads_next : (next : Drafting) → sets_keys_in e ≡ false → HasTaken mid next (e ∷ []) → (disk : Disk) → o ≡ Some disk → Leads refs more old next (reads_of disk)
      leads_next next none has disk is =
          leads_more refs more at e old mid next (reads_of disk) (leads_here disk is)
          (subst (λ (p : Option Disk). IfSome p (λ disk. SpellsAt (reads_of disk (file_in at)) at e)) is is_there) none has

module _ (refs : List WalRef) (old mid : Drafting) (i : ℕ) (o : Option Disk) (leads : (disk : Disk) → o ≡ Some disk → Leads refs (drop i refs) old mid (reads_of disk)) where
  pub taken_whole : length refs ≤ i → IfSome o (λ disk. AreTaken (Ok mid) refs old (reads_of disk))
  taken_whole le = by o refl
    where
      by : (p : Option Disk) → o ≡ p → IfSome p (λ disk. AreTaken (Ok mid) refs old (reads_of disk))
      by None is = tt
      by (Some disk) is =
          (subst (λ (l : List WalRef). Leads refs l old mid (reads_of disk)) (drop_all i refs le) (leads disk is)).taken mid ([], before_all (reads_of disk), takes_none mid)

-- ---- a round

pub first_of : (refs : List WalRef) (d : WalRef) → 0 < length refs → refs ≡ get_or refs 0 d ∷ take (length refs - 1) (drop 1 refs)
first_of [] d some = absurd (omega (arith, some))
first_of (r ∷ refs) d some = ap (λ (l : List WalRef). r ∷ l) (sym (take_rest (r ∷ refs) 1))

module _ (refs more : List WalRef) (at : WalRef) (are : refs ≡ at ∷ more) (old : Drafting) (now o : Option Disk) (same : now ≡ o) where
  abbrev pub RoundTold : Result Drafting LogFault → Type 0
  RoundTold result = IfSome o (λ disk. IsRoundTaken result refs old (reads_of disk))

  -- damage of its first transaction
  first_broken : (cause : LogFault) → IfSome o (λ disk. AreTaken (Err cause) (at ∷ more) old (reads_of disk)) → RoundTold (Err cause)
  first_broken cause told = by o cause told
    where
      by : (p : Option Disk) (cause : LogFault) → IfSome p (λ disk. AreTaken (Err cause) (at ∷ more) old (reads_of disk)) → IfSome p (λ disk. IsRoundTaken (Err cause) refs old (reads_of disk))
      by None cause told = tt
      by (Some disk) (fault.Damaged file place) told = subst (λ (l : List WalRef). BreaksOff l (schemas_of old.tables) (reads_of disk) file place) (sym are) told
      by (Some disk) fault.Vol told = tt
      by (Some disk) fault.Memory told = tt

  pub first_unread : (cause : LogFault) → IfSome o (λ disk. IsEntryRead (Err cause) at (reads_of disk (file_in at))) → RoundTold (Err cause)
  first_unread cause told = first_broken cause (by o told)
    where
      by : (p : Option Disk) → IfSome p (λ disk. IsEntryRead (Err cause) at (reads_of disk (file_in at))) → IfSome p (λ disk. AreTaken (Err cause) (at ∷ more) old (reads_of disk))
      by None told = tt
      by (Some disk) told = unread more at old (reads_of disk) cause told

  module _ (e : Entry) (told : IfSome o (λ disk. IsEntryRead (Ok e) at (reads_of disk (file_in at)))) where
    pub first_untaken : (cause : LogFault) → IsTaken (Err cause) at old e → RoundTold (Err cause)
    first_untaken cause taken = first_broken cause (by o told)
      where
        by : (p : Option Disk) → IfSome p (λ disk. SpellsAt (reads_of disk (file_in at)) at e) → IfSome p (λ disk. AreTaken (Err cause) (at ∷ more) old (reads_of disk))
        by None spelled = tt
        by (Some disk) spelled = untaken more at e old (reads_of disk) cause spelled taken

    -- what is taken behind the first one
    pub round_told : (mid : Drafting) (result : Result Drafting LogFault) → HasTaken old mid (e ∷ []) → IfSome now (λ disk. AreTaken result more mid (reads_of disk)) → RoundTold result
    round_told mid result has rest = by o told result (subst (λ (p : Option Disk). IfSome p (λ disk. AreTaken result more mid (reads_of disk))) same rest)
      where
        with_first : (es : List Entry) (image : Image) → SpellsAt (image (file_in at)) at e → AreBeforeKeys more es image → IsRoundAt (at ∷ more) (e ∷ es) image
        with_first es image spelled is = record {
          read = e ∷ is.read;
          spelled = (spelled, is.spelled);
          round = ap (λ (l : List Entry). e ∷ l) is.before;
          known = behind is.known;
        }
          where
            behind : (length es < length is.read) ⊎ (length is.read ≡ length more) → (length (e ∷ es) < length (e ∷ is.read)) ⊎ (length (e ∷ is.read) ≡ length (at ∷ more))
            behind (inl lt) = inl (omega (arith, lt))
            behind (inr all) = inr (ap suc all)

        by : (p : Option Disk) → IfSome p (λ disk. SpellsAt (reads_of disk (file_in at)) at e) → (result : Result Drafting LogFault) → IfSome p (λ disk. AreTaken result more mid (reads_of disk))
            → IfSome p (λ disk. IsRoundTaken result refs old (reads_of disk))
        by None spelled result taken = tt
        by (Some disk) spelled (Ok new) (es, before, rest) = (
          e ∷ es,
          subst (λ (l : List WalRef). IsRoundAt l (e ∷ es) (reads_of disk)) (sym are) (with_first es (reads_of disk) spelled before),
          takes_more old mid new e es has rest,
        )
        by (Some disk) spelled (Err (fault.Damaged file place)) breaks =
            subst (λ (l : List WalRef). BreaksOff l (schemas_of old.tables) (reads_of disk) file place) (sym are)
            (good_behind more at e old mid (reads_of disk) file place spelled has breaks)
        by (Some disk) spelled (Err fault.Vol) taken = tt
        by (Some disk) spelled (Err fault.Memory) taken = tt
