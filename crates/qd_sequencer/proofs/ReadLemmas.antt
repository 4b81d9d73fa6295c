-- The transactions behind a version, as they are read.
use Rattle.std.proofs.Common.{◌≡◌, inl, inr, ℕ, zero, suc, ◌+◌, ◌<◌, ◌≤◌, List, [], ◌∷◌, length, fold, take, drop, get_or, All, Option, None, Some, IfSome, Ok, Err, refl, sym, ap, ap₂, subst, ◌∙◌, arith}
use Rattle.std.proofs.lemmas.List.{drop_more, take-append-drop}
use Rattle.std.proofs.lemmas.List.Elements.{All-nil}
use Rattle.std.proofs.lemmas.List.Sums.{fold-append}
use Rattle.qd_base.specs.declared.op.Entry.{Entry}
use Rattle.qd_base.specs.declared.part.WalRef.{WalRef}
use Rattle.qd_base.specs.declared.schema.Schema.{Schema}
use Rattle.qd_base.specs.Lawful.{LawfulFrom}
use Rattle.qd_base.specs.Schemas.{schemas_from, schemas_step}
use Rattle.qd_volume.specs.Disk.{Disk, Image, reads_of, file_of}
use Rattle.qd_volume.proofs.Sound.{image_of_reads, sound_file}
use Rattle.qd_durable.specs.declared.fault.LogFault.{LogFault}
use Rattle.qd_durable.specs.declared.fault.LogFault.TheVariants as fault
use Rattle.qd_seq.specs.States.{Knows}
use Rattle.qd_wal.specs.declared.writer.WalWriter.{WalWriter}
use Rattle.qd_wal.specs.Segments.{file_in}
use Rattle.qd_wal.proofs.LawLemmas.{one_read}
use Rattle.qd_sequencer.specs.Histories.{AreSpelled, HasPending, IsLawfulOver}
use Rattle.qd_sequencer.specs.Sequences.{IsInFront, Sequence}
use Rattle.qd_sequencer.specs.Reading.{AreFollowed, AreRead, BreaksOff, IsGood, IsLogged, IsNextRead, IsTakenOver}

-- ---- one more is read

-- what the rest reads as, after a good transaction, the whole reads as
pub read_on : (at : WalRef) (more : List WalRef) (old mid new : List Schema) (image : Image) (e : Entry) (es : List Entry) → IsGood (image (file_in at)) at old e → mid ≡ fold schemas_step old e.ops → AreRead more mid new image es → AreRead (at ∷ more) old new image (e ∷ es)
read_on at more old mid new image e es good is read = record {
  spelled = (good.spelled, read.spelled);
  lawful = (good.lawful.changes, good.lawful.cells, good.lawful.alone, subst (λ (s : List Schema). LawfulFrom s es) is read.lawful);
  behind = read.behind ∙ ap (λ (s : List Schema). schemas_from s es) is;
}

pub breaks_on : (at : WalRef) (more : List WalRef) (old mid : List Schema) (image : Image) (file place : ℕ) (e : Entry) → IsGood (image (file_in at)) at old e → mid ≡ fold schemas_step old e.ops → BreaksOff more mid image file place → BreaksOff (at ∷ more) old image file place
breaks_on at more old mid image file place e good is breaks = inr (e, good, subst (λ (s : List Schema). BreaksOff more s image file place) is breaks)

-- What the references from one on make, all make.
pub record Leads (refs rest : List WalRef) (old mid : List Schema) (image : Image) : Type 0 where
  pub read : (new : List Schema) (es : List Entry) → AreRead rest mid new image es → (all : List Entry) × AreRead refs old new image all
  pub breaks : (file place : ℕ) → BreaksOff rest mid image file place → BreaksOff refs old image file place

pub leads_all : (refs : List WalRef) (old : List Schema) (image : Image) → Leads refs refs old old image
leads_all refs old image = record { read = λ new es read. (es, read); breaks = λ file place breaks. breaks }

pub leads_more : (refs more : List WalRef) (at : WalRef) (old mid next : List Schema) (image : Image) (e : Entry) → Leads refs (at ∷ more) old mid image → IsGood (image (file_in at)) at mid e → next ≡ fold schemas_step mid e.ops → Leads refs more old next image
leads_more refs more at old mid next image e leads good is = record {
  read = λ new es read. leads.read new (e ∷ es) (read_on at more mid next new image e es good is read);
  breaks = λ file place breaks. leads.breaks file place (breaks_on at more mid next image file place e good is breaks);
}

pub leads_end : (refs : List WalRef) (old mid : List Schema) (image : Image) → Leads refs [] old mid image → (all : List Entry) × AreRead refs old mid image all
leads_end refs old mid image leads = leads.read mid [] (record { spelled = tt; lawful = tt; behind = refl })

-- ---- against a history

-- what is spelled is one
spelled_one : (refs : List WalRef) (a b : List Entry) (image : Image) → AreSpelled refs a image → AreSpelled refs b image → a ≡ b
spelled_one [] [] [] image p q = refl
spelled_one [] [] (y ∷ b) image p q = absurd q
spelled_one [] (x ∷ a) b image p q = absurd p
spelled_one (r ∷ refs) [] b image p q = absurd p
spelled_one (r ∷ refs) (x ∷ a) [] image p q = absurd q
spelled_one (r ∷ refs) (x ∷ a) (y ∷ b) image p q = ap₂ (λ (e : Entry) (es : List Entry). e ∷ es) (one_read (image (file_in r)) r x y p.0 q.0) (spelled_one refs a b image p.1 q.1)

spelled_drop : (n : ℕ) (refs : List WalRef) (h : List Entry) (image : Image) → AreSpelled refs h image → AreSpelled (drop n refs) (drop n h) image
spelled_drop zero refs h image p = p
spelled_drop (suc n) [] [] image p = tt
spelled_drop (suc n) [] (e ∷ h) image p = absurd p
spelled_drop (suc n) (r ∷ refs) [] image p = absurd p
spelled_drop (suc n) (r ∷ refs) (e ∷ h) image p = spelled_drop n refs h image p.1

lawful_drop : (n : ℕ) (schemas : List Schema) (h : List Entry) → LawfulFrom schemas h → LawfulFrom (schemas_from schemas (take n h)) (drop n h)
lawful_drop zero schemas h p = p
lawful_drop (suc n) schemas [] p = tt
lawful_drop (suc n) schemas (e ∷ h) p = lawful_drop n (fold schemas_step schemas e.ops) h p.3

-- a lawful history that is spelled doesn't break off
pub no_break : (refs : List WalRef) (h : List Entry) (schemas : List Schema) (image : Image) (file place : ℕ) → AreSpelled refs h image → LawfulFrom schemas h → BreaksOff refs schemas image file place → ⊥
no_break [] [] schemas image file place p q breaks = breaks
no_break [] (e ∷ h) schemas image file place p q breaks = breaks
no_break (r ∷ refs) [] schemas image file place p q breaks = p
no_break (r ∷ refs) (e ∷ h) schemas image file place p q (inl (inl unread)) = unread.unspelled e p.0
no_break (r ∷ refs) (e ∷ h) schemas image file place p q (inl (inr bad)) =
    bad.unlawful (subst (λ (x : Entry). IsLawfulOver schemas x) (one_read (image (file_in r)) r e bad.entry p.0 bad.spelled) (record { changes = q.0; cells = q.1; alone = q.2 }))
no_break (r ∷ refs) (e ∷ h) schemas image file place p q (inr more) =
    no_break refs h (fold schemas_step schemas e.ops) image file place p.1 q.3
    (subst (λ (x : Entry). BreaksOff refs (fold schemas_step schemas x.ops) image file place) (sym (one_read (image (file_in r)) r e more.0 p.0 more.1.spelled)) more.2)

module _ (refs : List WalRef) (n : ℕ) (schemas : List Schema) (h : List Entry) (disk : Disk) (logged : IsLogged refs n schemas h disk) where
  spelled_reads : AreSpelled refs h (reads_of disk)
  spelled_reads = logged.spelled (reads_of disk) (λ file. image_of_reads (file_of disk file) (sound_file disk file))

  rest_lawful : LawfulFrom schemas (drop n h)
  rest_lawful = subst (λ (s : List Schema). LawfulFrom s (drop n h)) (sym logged.version) (lawful_drop n [] h logged.lawful)

  pub rest_holds : (file place : ℕ) → BreaksOff (drop n refs) schemas (reads_of disk) file place → ⊥
  rest_holds file place breaks = no_break (drop n refs) (drop n h) schemas (reads_of disk) file place (spelled_drop n refs h (reads_of disk) spelled_reads) rest_lawful breaks

  pub schemas_behind : (new : List Schema) (es : List Entry) → AreRead (drop n refs) schemas new (reads_of disk) es → new ≡ schemas_from [] h
  schemas_behind new es read =
      let same : es ≡ drop n h = spelled_one (drop n refs) es (drop n h) (reads_of disk) read.spelled (spelled_drop n refs h (reads_of disk) spelled_reads) in
      read.behind ∙ ap₂ (λ (s : List Schema) (x : List Entry). schemas_from s x) logged.version same
      ∙ sym (fold-append (λ (before : List Schema) (e : Entry). fold schemas_step before e.ops) [] (take n h) (drop n h))
      ∙ ap (schemas_from []) (take-append-drop n h)

-- ---- the sequencer that takes the log over

pub taken_over : (refs : List WalRef) (n : ℕ) (schemas new : List Schema) (s : Sequence) (disk : Disk) → s.refs ≡ refs → s.pending ≡ None → s.schemas ≡ new → s.writers ≡ [] → (es : List Entry) × AreRead (drop n refs) schemas new (reads_of disk) es → IsTakenOver (Ok s) refs n schemas disk
taken_over refs n schemas new s disk same clean is none read = (
  subst (λ (l : List Schema). (es : List Entry) × AreRead (drop n refs) schemas l (reads_of disk) es) (sym is) read,
  λ h logged. record {
    log = subst (λ (l : List WalRef). Knows l s.pending disk) (sym same) (subst (λ (p : Option WalRef). Knows refs p disk) (sym clean) logged.log);
    spelled = λ image now. subst (λ (l : List WalRef). AreSpelled l h image) (sym same) (logged.spelled image now);
    lawful = logged.lawful;
    schemas = is ∙ schemas_behind refs n schemas h disk logged new read.0 read.1;
    pending = subst (λ (p : Option WalRef). HasPending p h disk) (sym clean) tt;
    writers = subst (λ (ws : List WalWriter). All (λ (w : WalWriter). All (IsInFront w) s.refs) ws) (sym none) (All-nil (λ (w : WalWriter). All (IsInFront w) s.refs));
  },
)

pub not_taken : (T : Type 0) (refs : List WalRef) (n : ℕ) (schemas new : List Schema) (cause : LogFault) (disk : Disk) → AreFollowed {T = T} (Err cause) (drop n refs) schemas new (reads_of disk) → IsTakenOver (Err cause) refs n schemas disk
not_taken T refs n schemas new (fault.Damaged file place) disk breaks = (breaks, λ h logged. rest_holds refs n schemas h disk logged file place breaks)
not_taken T refs n schemas new fault.Vol disk breaks = tt
not_taken T refs n schemas new fault.Memory disk breaks = tt

-- ---- the same of a volume that may tell nothing

drop_whole : (refs : List WalRef) (i : ℕ) → length refs ≤ i → drop i refs ≡ []
drop_whole [] zero le = refl
drop_whole [] (suc i) le = refl
drop_whole (r ∷ refs) zero le = absurd (omega arith)
drop_whole (r ∷ refs) (suc i) le = drop_whole refs i (omega arith)

module _ (T : Type 0) (refs : List WalRef) (old mid : List Schema) (i : ℕ) where
  pub followed_broken : (d : WalRef) (next new : List Schema) (o now : Option Disk) (cause : LogFault) → i < length refs → now ≡ o → ((disk : Disk) → o ≡ Some disk → Leads refs (drop i refs) old mid (reads_of disk)) →
      IfSome now (λ disk. IsNextRead {T = T} (Err cause) (get_or refs i d) mid next (reads_of disk (file_in (get_or refs i d)))) → IfSome o (λ disk. AreFollowed {T = T} (Err cause) refs old new (reads_of disk))
  followed_broken d next new None now cause lt same leads told = tt
  followed_broken d next new (Some disk) now cause lt same leads told = by cause (subst (λ (o : Option Disk). IfSome o (λ disk. IsNextRead {T = T} (Err cause) (get_or refs i d) mid next (reads_of disk (file_in (get_or refs i d))))) same told)
    where
      by : (cause : LogFault) → IsNextRead {T = T} (Err cause) (get_or refs i d) mid next (reads_of disk (file_in (get_or refs i d))) → AreFollowed {T = T} (Err cause) refs old new (reads_of disk)
      by (fault.Damaged file place) broken = (leads disk refl).breaks file place (subst (λ (l : List WalRef). BreaksOff l mid (reads_of disk) file place) (sym (drop_more refs i d lt)) (inl broken))
      by fault.Vol broken = tt
      by fault.Memory broken = tt

  pub leads_next : (d : WalRef) (next : List Schema) (done : T) (now : Option Disk) (disk : Disk) → i < length refs → now ≡ Some disk → Leads refs (drop i refs) old mid (reads_of disk) →
      IfSome now (λ disk. IsNextRead {T = T} (Ok done) (get_or refs i d) mid next (reads_of disk (file_in (get_or refs i d)))) → Leads refs (drop (i + 1) refs) old next (reads_of disk)
  leads_next d next done now disk lt same leads told =
      let read : IsNextRead {T = T} (Ok done) (get_or refs i d) mid next (reads_of disk (file_in (get_or refs i d))) =
      subst (λ (o : Option Disk). IfSome o (λ disk. IsNextRead {T = T} (Ok done) (get_or refs i d) mid next (reads_of disk (file_in (get_or refs i d))))) same told in
      leads_more refs (drop (i + 1) refs) (get_or refs i d) old mid next (reads_of disk) read.0 (subst (λ (l : List WalRef). Leads refs l old mid (reads_of disk)) (drop_more refs i d lt) leads) read.1 read.2

  pub followed_whole : (done : T) (o : Option Disk) → length refs ≤ i → ((disk : Disk) → o ≡ Some disk → Leads refs (drop i refs) old mid (reads_of disk)) → IfSome o (λ disk. AreFollowed {T = T} (Ok done) refs old mid (reads_of disk))
  followed_whole done None le leads = tt
  followed_whole done (Some disk) le leads = leads_end refs old mid (reads_of disk) (subst (λ (l : List WalRef). Leads refs l old mid (reads_of disk)) (drop_whole refs i le) (leads disk refl))

module _ (T : Type 0) (refs rest : List WalRef) (n : ℕ) (schemas new : List Schema) (same : rest ≡ drop n refs) where
  pub not_taken_told : (cause : LogFault) (o : Option Disk) → IfSome o (λ disk. AreFollowed {T = T} (Err cause) rest schemas new (reads_of disk)) → IfSome o (IsTakenOver (Err cause) refs n schemas)
  not_taken_told cause None told = tt
  not_taken_told cause (Some disk) told = not_taken T refs n schemas new cause disk (subst (λ (l : List WalRef). AreFollowed {T = T} (Err cause) l schemas new (reads_of disk)) same told)

  pub taken_told : (done : T) (s : Sequence) (o : Option Disk) → s.refs ≡ refs → s.pending ≡ None → s.schemas ≡ new → s.writers ≡ [] → IfSome o (λ disk. AreFollowed {T = T} (Ok done) rest schemas new (reads_of disk)) → IfSome o (IsTakenOver (Ok s) refs n schemas)
  taken_told done s None refs_are clean schemas_are none told = tt
  taken_told done s (Some disk) refs_are clean schemas_are none told = taken_over refs n schemas new s disk refs_are clean schemas_are none (subst (λ (l : List WalRef). AreFollowed {T = T} (Ok done) l schemas new (reads_of disk)) same told)
