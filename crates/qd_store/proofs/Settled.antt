-- What a failed commit left is settled, and a commit behind that is one with it.
use Rattle.std.proofs.Common.{◌≡◌, ◌⊎◌, inl, inr, ℕ, List, fold, unwrap_or, Option, None, Some, Result, Ok, Err, IfErr, OnOk, refl, sym, subst}
use Rattle.qd_base.specs.declared.op.Entry.{Entry}
use Rattle.qd_base.specs.declared.part.WalRef.{WalRef}
use Rattle.qd_base.specs.declared.schema.Schema.{Schema}
use Rattle.qd_base.specs.Schemas.{schemas_step}
use Rattle.qd_durable.specs.Moments.{Told}
use Rattle.qd_durable.proofs.Moved.{leaves_both, leaves_still, leaves_weaker}
use Rattle.qd_durable.proofs.Writes.{told_both, told_map}
use Rattle.qd_wal_entry.specs.Spelling.{SpellsEntry}
use Rattle.qd_io.specs.declared.fault.IoFault.{IoFault}
use Rattle.qd_io.specs.declared.fault.IoFault.TheVariants as io
use Rattle.qd_lines.specs.declared.fault.LineFault.{LineFault}
use Rattle.qd_lines.specs.declared.fault.LineFault.TheVariants as lines
use Rattle.qd_prepare.specs.declared.prepare.Prepared.{Prepared}
use Rattle.qd_prepare.specs.Prepared.{IsPrepared}
use Rattle.qd_sequencer.specs.declared.fault.CommitFault.{CommitFault}
use Rattle.qd_sequencer.specs.declared.fault.CommitFault.TheVariants as commit
use Rattle.qd_sequencer.specs.Calls.{PendsAsBefore, PendsOwn, Settles}
use Rattle.qd_sequencer.specs.Faults.{fault_of, IsUnrefused}
use Rattle.qd_sequencer.specs.Histories as histories
use Rattle.qd_sequencer.specs.Histories.{IsLawfulOver}
use Rattle.qd_sequencer.specs.Sequences.{IsAsBefore, Sequence}
use Rattle.qd_txnfile.specs.Versions.{Version}
use Rattle.qd_versions.specs.Stores as versions
use Rattle.qd_volume.specs.Disk.{Disk, Image}
use Rattle.qd_writes.specs.declared.check.StmtFault.{StmtFault}
use Rattle.qd_writes.specs.declared.check.StmtFault.TheVariants as stmt
use Rattle.qd_store.specs.Calls.{Commits, IsCommitted, MayBe, MayShow, ShowsOneOf, Stands}
use Rattle.qd_store.specs.Faults.{line_fault, stmt_fault, IsSettled}
use Rattle.qd_store.specs.Laws.{StoresAreWhole}
use Rattle.qd_store.specs.Stores.{Book}
use Rattle.qd_store.proofs.Committing.{committed, settled_alone}

-- ---- what an image may show

-- what a crash may leave of a store before a call, and inside a commit
abbrev MayLeave : Book → Disk → List Entry → Version → Image → Type 0
MayLeave s disk h next = ShowsOneOf h (histories.IsPending s.sequence.pending disk) (MayShow s next)

abbrev MayLeaveOwn : (Entry → Type 0) → Book → Disk → List Entry → Version → Image → Type 0
MayLeaveOwn Own s disk h next = ShowsOneOf h (λ e. Own e ⊎ histories.IsPending s.sequence.pending disk e) (MayShow s next)

may_be : (h : List Entry) (P Q : Entry → Type 0) → ((e : Entry) → P e → Q e) → (other : List Entry) → MayBe h P other → MayBe h Q other
may_be h P Q weaker other (inl same) = inl same
may_be h P Q weaker other (inr (e, p, longer)) = inr (e, weaker e p, longer)

pub one_of_weaker : (h : List Entry) (P Q : Entry → Type 0) (V W : Version → Type 0) → ((e : Entry) → P e → Q e) → ((v : Version) → V v → W v)
    → (image : Image) → ShowsOneOf h P V image → ShowsOneOf h Q W image
one_of_weaker h P Q V W more other image shows = record {
  found = shows.found;
  finds = shows.finds;
  history = may_be h P Q more shows.found.history shows.history;
  version = other _ shows.version;
}

-- one's own transaction may be there too
with_own : (Own : Entry → Type 0) (s : Book) (disk : Disk) (h : List Entry) (next : Version) (image : Image)
    → MayLeave s disk h next image → MayLeaveOwn Own s disk h next image
with_own Own s disk h next image shows =
    one_of_weaker h (histories.IsPending s.sequence.pending disk) (λ e. Own e ⊎ histories.IsPending s.sequence.pending disk e) (MayShow s next) (MayShow s next)
    (λ e p. inr p) (λ v w. w) image shows

-- and none is, where nothing is one's own
none_own : (P : Type 0) → ⊥ ⊎ P → P
none_own P (inl none) = absurd none
none_own P (inr p) = p

without_own : (s : Book) (disk : Disk) (h : List Entry) (next : Version) (image : Image) → MayLeaveOwn (λ e. ⊥) s disk h next image → MayLeave s disk h next image
without_own s disk h next image shows =
    one_of_weaker h (λ e. ⊥ ⊎ histories.IsPending s.sequence.pending disk e) (histories.IsPending s.sequence.pending disk) (MayShow s next) (MayShow s next)
    (λ e p. none_own (histories.IsPending s.sequence.pending disk e) p) (λ v w. w) image shows

-- ---- a repair alone

settles : (old new : Book) (before after : Disk) → versions.IsStore old.versions → new.versions ≡ old.versions
    → Settles old.sequence new.sequence before after → Stands old new before after
settles old new before after law same repaired = record {
  any_moment = λ h next is.
      leaves_weaker (MayLeaveOwn (λ e. ⊥) old before h next) (MayLeave old before h next) before after (without_own old before h next) (failed.any_moment h next is);
  behind = λ h next is. failed.behind h next is;
  pending = λ h next is. by (failed.pending h next is);
}
  where
    failed : Commits {T = Unit {0}} {E = Unit {0}} (Err tt) old new (λ e. ⊥) before after
    failed =
        committed (Err tt) old new (λ e. ⊥) before after law same
        (settled_alone {T = Unit {0}} {E = Unit {0}} (λ e. ⊥) tt old.sequence new.sequence before after repaired)

    by : PendsOwn old.sequence.pending new.sequence.pending (λ e. ⊥) before after → PendsAsBefore old.sequence.pending new.sequence.pending before after
    by (inl as_before) = as_before
    by (inr none) = λ e p. absurd (none e p)

pub settles_told : (old inside new : Book) (before after : Option Disk) → old ≡ inside → versions.IsStore inside.versions → new.versions ≡ inside.versions
    → Told before after (Settles inside.sequence new.sequence) → Told before after (Stands old new)
settles_told old inside new before after is law same told =
    subst (λ (s : Book). Told before after (Stands s new)) (sym is)
    (told_map (Settles inside.sequence new.sequence) (Stands inside new) before after (λ a b s. settles inside new a b law same s) told)

-- ---- a call that does nothing

pub idle_told : StoresAreWhole → (s : Book) → versions.IsStore s.versions → (o : Option Disk) → Told o o (Stands s s)
idle_told law s sound None = refl
idle_told law s sound (Some disk) = (
  disk,
  refl,
  record {
    any_moment = λ h next is. leaves_still (MayLeave s disk h next) disk (law.shows s h next disk sound is);
    behind = λ h next is. is;
    pending = λ h next is e p. p;
  },
)

-- ---- what is pending behind a commit

-- behind the faults of a repair nothing is said
pub unsettled : (T : Type 0) (cause : IoFault) (s : Sequence) → IsSettled {T = T} (Err (fault_of cause)) s
unsettled T io.Failed s = tt
unsettled T io.Memory s = tt

-- a commit that is asked for only where there is room, and nothing is refused
pub settled_behind : {T : Type 0} (result : Result T CommitFault) (s : Sequence) (full : Type 0) → OnOk result (s.pending ≡ None) → IfErr result (IsUnrefused full) → (full → ⊥) → IsSettled result s
settled_behind (Ok done) s full clean causes room = clean
settled_behind (Err commit.Vol) s full clean causes room = tt
settled_behind (Err commit.Memory) s full clean causes room = tt
settled_behind (Err commit.Full) s full clean causes room = absurd (room causes)
settled_behind (Err (commit.Refused code place)) s full clean causes room = absurd causes

-- a batch, and a statement, that is refused where nothing is pending
pub settled_lines : (T : Type 0) (cause : LineFault) (s : Sequence) → s.pending ≡ None → IsSettled {T = T} (Err (line_fault cause)) s
settled_lines T (lines.Refused code line) s clean = clean
settled_lines T lines.Memory s clean = tt

pub settled_stmt : (T : Type 0) (cause : StmtFault) (s : Sequence) → s.pending ≡ None → IsSettled {T = T} (Err (stmt_fault cause)) s
settled_stmt T (stmt.Refused code place) s clean = clean
settled_stmt T stmt.Memory s clean = tt

-- ---- a commit that ends with it

module _ (T E : Type 0) (Own : Entry → Type 0) (fault : E) (old new : Book) where
  stands_alone : (before after : Disk) → Stands old new before after → Commits {T = T} {E = E} (Err fault) old new Own before after
  stands_alone before after stands = record {
    any_moment = λ h next is.
        leaves_weaker (MayLeave old before h next) (MayLeaveOwn Own old before h next) before after (with_own Own old before h next) (stands.any_moment h next is);
    behind = λ h next is. stands.behind h next is;
    pending = λ h next is. inl (stands.pending h next is);
  }

  pub alone_told : (before after : Option Disk) → Told before after (Stands old new) → Told before after (Commits {T = T} {E = E} (Err fault) old new Own)
  alone_told before after told = told_map (Stands old new) (Commits {T = T} {E = E} (Err fault) old new Own) before after stands_alone told

-- ---- a commit behind it

-- what holds of the transaction is what the call asks for
committed_weaker : {T E : Type 0} (result : Result T E) (new : Book) (h : List Entry) (next : Version) (P Q : Entry → Type 0) (after : Disk)
    → ((e : Entry) → P e → Q e) → IsCommitted result new h next P after → IsCommitted result new h next Q after
committed_weaker (Ok done) new h next P Q after weaker (e, p, stands) = (e, weaker e p, stands)
committed_weaker (Err fault) new h next P Q after weaker stands = stands

module _ {T E : Type 0} (result : Result T E) (P Q : Entry → Type 0) (weaker : (e : Entry) → P e → Q e) (old mid new : Book) (clean : mid.sequence.pending ≡ None)
    (same : mid.versions ≡ old.versions) where
  own_more : (a b : Disk) (e : Entry) → P e ⊎ histories.IsPending mid.sequence.pending b e → Q e ⊎ histories.IsPending old.sequence.pending a e
  own_more a b e (inl own) = inl (weaker e own)
  own_more a b e (inr pending) = absurd (subst (λ (o : Option WalRef). histories.IsPending o b e) clean pending)

  shows_too : (next v : Version) → MayShow mid next v → MayShow old next v
  shows_too next v shows = subst (λ (x : versions.Store). MayShow (record { sequence = old.sequence; versions = x; limits = old.limits }) next v) same shows

  left_too : (a b : Disk) (h : List Entry) (next : Version) (image : Image) → MayLeaveOwn P mid b h next image → MayLeaveOwn Q old a h next image
  left_too a b h next image shows =
      one_of_weaker h (λ e. P e ⊎ histories.IsPending mid.sequence.pending b e) (λ e. Q e ⊎ histories.IsPending old.sequence.pending a e)
      (MayShow mid next) (MayShow old next) (own_more a b) (shows_too next) image shows

  -- nothing was pending before it: what is left behind it is its own
  own_left : (b c : Disk) → PendsOwn mid.sequence.pending new.sequence.pending P b c → (e : Entry) → histories.IsPending new.sequence.pending c e → Q e
  own_left b c (inl as_before) e p = absurd (subst (λ (o : Option WalRef). histories.IsPending o b e) clean (as_before e p))
  own_left b c (inr own) e p = weaker e (own e p)

  stands_first : (a b c : Disk) → Stands old mid a b → Commits result mid new P b c → Commits result old new Q a c
  stands_first a b c stands commits = record {
    any_moment = λ h next is.
        leaves_both a b c (MayLeaveOwn Q old a h next)
        (leaves_weaker (MayLeave old a h next) (MayLeaveOwn Q old a h next) a b (with_own Q old a h next) (stands.any_moment h next is))
        (leaves_weaker (MayLeaveOwn P mid b h next) (MayLeaveOwn Q old a h next) b c (left_too a b h next) (commits.any_moment h next (stands.behind h next is)));
    behind = λ h next is. committed_weaker result new h next P Q c weaker (commits.behind h next (stands.behind h next is));
    pending = λ h next is. inr (own_left b c (commits.pending h next (stands.behind h next is)));
  }

  first_told : (before between after : Option Disk) → Told before between (Stands old mid) → Told between after (Commits result mid new P)
      → Told before after (Commits result old new Q)
  first_told before between after first second =
      told_both (Stands old mid) (Commits result mid new P) (Commits result old new Q) before between after stands_first first second

-- ---- a transaction that is ready

-- A commit of a transaction that was made ready over the schemas behind the repair commits what the call asks for.
module _ {T E : Type 0} (result : Result T E) (old mid new : Book) (before between after : Option Disk)
    (same : IsAsBefore old.sequence mid.sequence) (clean : mid.sequence.pending ≡ None) (versions_same : mid.versions ≡ old.versions)
    (stands : Told before between (Stands old mid)) (Own : List Schema → Entry → Type 0) (p : Prepared) (bytes : List ℕ) (bytes_are : bytes ≡ p.bytes)
    (told : (e : Entry) → SpellsEntry bytes e → IsLawfulOver mid.sequence.schemas e
    → unwrap_or p.schemas mid.sequence.schemas ≡ fold schemas_step mid.sequence.schemas e.ops → Told between after (Commits result mid new (λ x. x ≡ e))) where
  own_here : (e x : Entry) → Own mid.sequence.schemas e → x ≡ e → Own old.sequence.schemas x
  own_here e x own is = subst (Own old.sequence.schemas) (sym is) (subst (λ (l : List Schema). Own l e) same.schemas own)

  ready_here : (e : Entry) → Own mid.sequence.schemas e → IsPrepared mid.sequence.schemas e p → Told before after (Commits result old new (Own old.sequence.schemas))
  ready_here e own ready =
      first_told result (λ x. x ≡ e) (Own old.sequence.schemas) (λ x is. own_here e x own is) old mid new clean versions_same before between after stands
      (told e (subst (λ (l : List ℕ). SpellsEntry l e) (sym bytes_are) ready.bytes) (record { changes = ready.changes; cells = ready.cells; alone = ready.alone }) ready.left)

  pub ready_told : (schemas : List Schema) → schemas ≡ mid.sequence.schemas → (e : Entry) × Own schemas e × IsPrepared schemas e p
      → Told before after (Commits result old new (Own old.sequence.schemas))
  ready_told schemas are (e, own, ready) =
      ready_here e (subst (λ (l : List Schema). Own l e) are own) (subst (λ (l : List Schema). IsPrepared l e p) are ready)
