-- What a backend over a store does is what its rule allows.
use Rattle.std.proofs.Common.{◌≡◌, ℕ, zero, suc, ◌+◌, ◌-◌, ◌≤◌, ◌⊎◌, inl, inr, List, [], ◌∷◌, ◌++◌, length, take, Option, Some, None, IfSome, Result, Ok, Err, refl, sym, ap, ◌∙◌, subst, arith, append-nil}
use Rattle.std.specs.List.{range_with_len, slice_get}
use Rattle.std.specs.Result.{IfErr, IfOk}
use Rattle.std.proofs.lemmas.List.{take_all, take_at}
use Rattle.qd_base.specs.Codes.{number_of}
use Rattle.qd_base.specs.declared.code.Code.{Code}
use Rattle.qd_base.specs.declared.code.Code.TheVariants as code
use Rattle.qd_base.specs.declared.op.Entry.{Entry}
use Rattle.qd_base.specs.declared.request.Request.{Request}
use Rattle.qd_base.specs.declared.request.Request.TheVariants as request
use Rattle.qd_base.specs.declared.request.Reply.{Reply}
use Rattle.qd_base.specs.declared.request.Reply.TheVariants as reply
use Rattle.qd_base.specs.declared.schema.Schema.{Schema}
use Rattle.qd_base.specs.Database.{Database, schemas_of}
use Rattle.qd_base.specs.Replay.{after, first}
use Rattle.qd_base.proofs.Lists.{get-last}
use Rattle.qd_ilp.specs.Transaction.{start}
use Rattle.qd_ilp.specs.Whole.{IsReading, Reading}
use Rattle.qd_io.specs.Clocks.{Timeline}
use Rattle.qd_lines.specs.declared.fault.LineFault.TheVariants as lines
use Rattle.qd_lines.specs.Walks.{IsLineFault}
use Rattle.qd_meaning.specs.Write.{write}
use Rattle.qd_sequencer.specs.declared.fault.CommitFault.{CommitFault}
use Rattle.qd_sequencer.specs.declared.fault.CommitFault.TheVariants as commit
use Rattle.qd_sequencer.specs.declared.fault.Committed.{Committed}
use Rattle.qd_sequencer.specs.Faults.{CountsFault}
use Rattle.qd_session.specs.Allowed.{IsFullBatch, IsFullWrite, IsRefusalOver, IsRefusedBatch, IsRefusedWrite, SaysBatch, HasTransaction}
use Rattle.qd_session.specs.Alone.{AllowedAlone, LeavesOpen, MayLeave, MayPend, SaysOwn}
use Rattle.qd_session.specs.Asking.{asks_for}
use Rattle.qd_sql_ast.specs.Kinds.{IsWrite}
use Rattle.qd_session.specs.Legal.{Answers, Handles}
use Rattle.qd_session.specs.Looks.{Extends, Grows, look_at}
use Rattle.qd_store.specs.Arriving.{SaysLines, SaysStmt}
use Rattle.qd_store.specs.Faults.{Causes, IsFullFor, IsSettled}
use Rattle.qd_store.specs.Stores.{Book}
use Rattle.qd_sql_ast.specs.declared.tree.Stmt.{Stmt}
use Rattle.qd_versions.specs.Stores as versions
use Rattle.qd_store_backend.specs.Backs.{AreToldCount, AreToldSchemas, Back, CommitsTo, IsBack, IsLeftOf, IsTold, IsToldBehind, LeavesOwn, Parts, back_shown, current, n_in}
use Rattle.qd_store_backend.specs.Replies.{RepliesTo}
use Rattle.qd_store_backend.proofs.Leaving.{left_own, none_left, pends_by, told_at}
use Rattle.qd_store_backend.proofs.LineCodes.{says_code}
use Rattle.qd_base.specs.declared.limits.TheConstants.{MAX_TXNS}

-- ---- what is shown

-- the numbers from a on with one more
range_more : (a n : ℕ) → range_with_len a (suc n) ≡ range_with_len a n ++ (a + n) ∷ []
range_more a zero = ap (λ m. m ∷ []) (omega arith)
range_more a (suc n) = ap (λ l. a ∷ l) (range_more (a + 1) n ∙ ap (λ m. range_with_len (a + 1) n ++ m ∷ []) (omega arith))

-- the transactions since a beginning, with the next one
own_next : (before count count' n : ℕ) → before ≤ count → count' ≡ count + 1 → n ≡ count'
    → range_with_len (before + 1) (count' - before) ≡ range_with_len (before + 1) (count - before) ++ n ∷ []
own_next before count count' n since is number =
    ap (range_with_len (before + 1)) (let size : count' - before ≡ suc (count - before) = omega (arith, since, is) in size) ∙ range_more (before + 1) (count - before)
    ∙ ap (λ m. range_with_len (before + 1) (count - before) ++ m ∷ []) (omega (arith, since, is, number))

pub own_same : (before count count' : ℕ) → count' ≡ count → range_with_len (before + 1) (count' - before) ≡ range_with_len (before + 1) (count - before) ++ []
own_same before count count' is = ap (λ m. range_with_len (before + 1) (m - before)) is ∙ sym (append-nil (range_with_len (before + 1) (count - before)))

pub extends_same : (old new : Option (List Entry)) → new ≡ old → Extends old new
extends_same None new is = is
extends_same (Some h) new is = ([], is ∙ ap Some (sym (append-nil h)))

extends_behind : {E : Type 0} (Own : Entry → Type 0) (r : Result Committed E) (old new : Option (List Entry)) → IsToldBehind r old new Own → Extends old new
extends_behind Own (Ok done) None new told = told
extends_behind Own (Ok done) (Some h) new told = (told.0 ∷ [], told.2)
extends_behind Own (Err e) old new told = extends_same old new told

-- nothing but the volume's count of faults is changed
pub record IsQuiet (old new : Back) : Type 0 where
  pub count : length new.parts.owned.store.sequence.refs ≡ length old.parts.owned.store.sequence.refs
  pub shown : n_in (current new.parts.owned.store) ≡ n_in (current old.parts.owned.store)
  pub told : new.parts.history ≡ old.parts.history
  pub before : new.before ≡ old.before

pub quiet_grows : (old new : Back) → IsQuiet old new → old.parts.owned.storage.faults ≤ new.parts.owned.storage.faults → Grows (back_shown old) (back_shown new)
quiet_grows old new q faults = record {
  history = extends_same old.parts.history new.parts.history q.told;
  sequenced = let count = q.count in omega (arith, count);
  known = let shown = q.shown in omega (arith, shown);
  faults = faults;
}

pub quiet_own : (old new : Back) → IsQuiet old new → (back_shown new).own ≡ (back_shown old).own ++ []
quiet_own old new q = ap (λ b. range_with_len (b + 1) (length new.parts.owned.store.sequence.refs - b)) q.before ∙ own_same old.before _ _ q.count

-- ---- commits

-- A commit was asked for, and this came of it: what the calls of the store say.
pub record Committing {E : Type 0} (old new : Back) (done : Result Committed CommitFault) (given : Result Reply E) (Own : Entry → Type 0) (Refuses : Code → ℕ → Type 0) : Type 0 where
  pub before : new.before ≡ old.before
  pub kept : IsBack old
  pub commits : CommitsTo done old.parts new.parts Own
  pub count : IfOk done (λ d. d.n ≡ length new.parts.owned.store.sequence.refs)
  pub causes : IfErr done (Causes Refuses (IsFullFor old.parts.owned.store Own))
  pub counted : CountsFault old.parts.owned.storage.faults new.parts.owned.storage.faults done
  pub settled : IsSettled done new.parts.owned.store.sequence
  pub leaves : LeavesOwn old.parts.owned new.parts.owned Own
  pub left : IsLeftOf new.parts.history new.parts.owned new.left
  pub told : IfSome old.parts.history (IsTold old.parts.owned)
  pub told_now : IfSome new.parts.history (IsTold new.parts.owned)
  pub told_schemas : AreToldSchemas old.parts
  pub told_count : AreToldCount old.parts
  pub reply : RepliesTo done given

same_shown : (old new : Parts) → new.owned.store.versions ≡ old.owned.store.versions → n_in (current new.owned.store) ≡ n_in (current old.owned.store)
same_shown old new is = ap (λ (v : versions.Store). n_in (current (record { sequence = old.owned.store.sequence; versions = v; limits = old.owned.store.limits }))) is

quiet_failed : (old new : Back) (Own : Entry → Type 0) (e : CommitFault) → new.before ≡ old.before → CommitsTo {T = Committed} (Err e) old.parts new.parts Own → IsQuiet old new
quiet_failed old new Own e before commits = record { count = commits.count; shown = same_shown old.parts new.parts commits.versions; told = commits.told; before = before }

-- A transaction is the next one: it is the last of a told history.
pub next_told : (Own : Entry → Type 0) (P : Database → Entry → Type 0) (d : Committed) (n count : ℕ) (old new : Option (List Entry)) → IsToldBehind {T = Committed} {E = CommitFault} (Ok d) old new Own
    → IfSome old (λ h. count ≡ length h) → n ≡ count + 1 → IfSome old (λ h. (e : Entry) → Own e → P (after h) e) → IfSome new (λ h. HasTransaction h n (P (first h (n - 1))))
next_told Own P d n count None new told counted is says = subst (λ (o : Option (List Entry)). IfSome o (λ h. HasTransaction h n (P (first h (n - 1))))) (sym told) tt
next_told Own P d n count (Some h) new (e, own, is_new) counted is says =
    let before : n - 1 ≡ length h = omega (arith, counted, is) in
    let front : first (h ++ e ∷ []) (n - 1) ≡ after h = ap after (ap (λ m. take m (h ++ e ∷ [])) before ∙ take_at h (e ∷ []) (length h) refl) in
    let at : slice_get (h ++ e ∷ []) (n - 1) ≡ Some e = ap (slice_get (h ++ e ∷ [])) before ∙ get-last h e in
    subst (λ (o : Option (List Entry)). IfSome o (λ k. HasTransaction k n (P (first k (n - 1))))) (sym is_new) (e, at, subst (λ (db : Database). P db e) (sym front) (says e own))

done_answers : {E : Type 0} (old new : Back) (time : ℕ) (asked : Request) (d : Committed) (given : Result Reply E) (Own : Entry → Type 0) (Refuses : Code → ℕ → Type 0) → Committing old new (Ok d) given Own Refuses
    → ((clock clock' : Timeline) → clock.faults ≤ clock'.faults → AllowedAlone new.parts.history (look_at clock (back_shown old)) (look_at clock' (back_shown new)) time asked (reply.Done d.n))
    → Answers AllowedAlone (back_shown old) (back_shown new) time asked (reply.Done d.n)
done_answers old new time asked d given Own Refuses c allowed =
    let count = c.commits.count in let shown = same_shown old.parts new.parts c.commits.versions in let counted = c.counted in
    record {
      grows = record {
        history = extends_behind {E = CommitFault} Own (Ok d) old.parts.history new.parts.history c.commits.told;
        sequenced = omega (arith, count);
        known = omega (arith, shown);
        faults = omega (arith, counted);
      };
      allowed = allowed;
      own = ap (λ b. range_with_len (b + 1) (length new.parts.owned.store.sequence.refs - b)) c.before ∙ own_next old.before _ _ d.n c.kept.since count c.count;
    }

-- a reply to a refusal, over nothing changed
refused_answers : {E : Type 0} (old new : Back) (time : ℕ) (asked : Request) (e : CommitFault) (number place : ℕ) (given : Result Reply E) (Own : Entry → Type 0) (Refuses : Code → ℕ → Type 0)
    → Committing old new (Err e) given Own Refuses → old.parts.owned.storage.faults ≤ new.parts.owned.storage.faults
    → ((clock clock' : Timeline) → clock.faults ≤ clock'.faults → AllowedAlone new.parts.history (look_at clock (back_shown old)) (look_at clock' (back_shown new)) time asked (reply.Refused number place))
    → Answers AllowedAlone (back_shown old) (back_shown new) time asked (reply.Refused number place)
refused_answers old new time asked e number place given Own Refuses c faults allowed =
    let q = quiet_failed old new Own e c.before c.commits in
    record { grows = quiet_grows old new q faults; allowed = allowed; own = quiet_own old new q }

-- nothing is left behind a commit that settled what was
module _ {E : Type 0} (old new : Back) (done : Result Committed CommitFault) (given : Result Reply E) (Own : Entry → Type 0) (Refuses : Code → ℕ → Type 0) (c : Committing old new done given Own Refuses) where
  pub none_pends : (clock clock' : Timeline) (time : ℕ) (asked : Request) (r : Reply) → new.parts.owned.store.sequence.pending ≡ None → MayPend new.parts.history (look_at clock (back_shown old)) (look_at clock' (back_shown new)) time asked r
  none_pends clock clock' time asked r settled =
      pends_by new.parts.history (look_at clock (back_shown old)) (look_at clock' (back_shown new)) time asked r
      (λ h is e there. none_left h new.parts.owned new.left e (MayLeave h (look_at clock (back_shown old)) (look_at clock' (back_shown new)) time asked r e) (told_at (IsTold new.parts.owned) new.parts.history h is c.told_now) settled (subst (λ (o : Option (List Entry)). IsLeftOf o new.parts.owned new.left) is c.left) there)

  -- behind one that failed, what was before or its own transaction
  pub own_pends : (clock clock' : Timeline) (time : ℕ) (asked : Request) (number place : ℕ) → new.parts.history ≡ old.parts.history → LeavesOpen number
      → IfSome old.parts.history (λ h. (e : Entry) → Own e → SaysOwn h (length new.parts.owned.store.sequence.refs) time asked e)
      → MayPend new.parts.history (look_at clock (back_shown old)) (look_at clock' (back_shown new)) time asked (reply.Refused number place)
  own_pends clock clock' time asked number place same leaves says =
      pends_by new.parts.history (look_at clock (back_shown old)) (look_at clock' (back_shown new)) time asked (reply.Refused number place)
      (λ h is e there.
      let was : old.parts.history ≡ Some h = sym same ∙ is in
      by h e was
      (left_own Own h old.parts.owned new.parts.owned old.left new.left (told_at (IsTold old.parts.owned) old.parts.history h was c.told) h (told_at (IsTold new.parts.owned) new.parts.history h is c.told_now)
      (subst (λ (o : Option (List Entry)). IsLeftOf o old.parts.owned old.left) was c.kept.left) (subst (λ (o : Option (List Entry)). IsLeftOf o new.parts.owned new.left) is c.left) c.leaves e there))
    where
      by : (h : List Entry) (e : Entry) → old.parts.history ≡ Some h → (old.left ≡ Some e) ⊎ Own e → MayLeave h (look_at clock (back_shown old)) (look_at clock' (back_shown new)) time asked (reply.Refused number place) e
      by h e was (inl before) = inl before
      by h e was (inr own) = inr (leaves, told_at (λ (k : List Entry). (e : Entry) → Own e → SaysOwn k (length new.parts.owned.store.sequence.refs) time asked e) old.parts.history h was says e own)

-- the front that all transactions of a told history are
pub all_first : (h : List Entry) (count count' : ℕ) → count ≡ length h → count' ≡ count → first h count' ≡ after h
all_first h count count' is same = ap (first h) (same ∙ is) ∙ ap after (take_all (length h) h (omega arith))

-- ---- batches

pub batch_done : (schemas : List Schema) (time : ℕ) (batch : Reading) (text : List ℕ) → IsReading text batch → (o : Option (List Entry)) → IfSome o (λ h. schemas ≡ schemas_of (after h))
    → IfSome o (λ h. (e : Entry) → SaysLines schemas time batch e → SaysBatch (schemas_of (after h)) time text (Ok e))
batch_done schemas time batch text reads None are = tt
batch_done schemas time batch text reads (Some h) are = λ e own. (batch, reads, subst (λ (s : List Schema). SaysLines s time batch e) are own)

pub batch_refused : (schemas : List Schema) (time : ℕ) (batch : Reading) (text : List ℕ) → IsReading text batch → (o : Option (List Entry)) → IfSome o (λ h. schemas ≡ schemas_of (after h))
    → (count count' : ℕ) → IfSome o (λ h. count ≡ length h) → count' ≡ count → (c : Code) (line : ℕ) → IsLineFault schemas time batch (lines.Refused c line) → IsRefusedBatch o count' time text (number_of c) line
batch_refused schemas time batch text reads None are count count' counted same c line fault = says_code time (start schemas) 1 batch.lines batch.whole c line fault
batch_refused schemas time batch text reads (Some h) are count count' counted same c line fault =
    (c, refl, (batch, reads, subst (λ (s : List Schema). IsLineFault s time batch (lines.Refused c line)) (are ∙ ap schemas_of (sym (all_first h count count' counted same))) fault))

pub batch_full : (s : Book) (time : ℕ) (batch : Reading) (text : List ℕ) → IsReading text batch → (o : Option (List Entry)) → IfSome o (λ h. s.sequence.schemas ≡ schemas_of (after h))
    → (count' : ℕ) → IfSome o (λ h. length s.sequence.refs ≡ length h) → count' ≡ length s.sequence.refs → s.limits.max_txns ≡ MAX_TXNS → IsFullFor s (SaysLines s.sequence.schemas time batch)
    → IsFullBatch o count' time text (number_of code.Full) 0
batch_full s time batch text reads None are count' counted same usual full = (refl, refl, (let full = full.0 in omega (arith, full, usual, same)), tt)
batch_full s time batch text reads (Some h) are count' counted same usual full =
    (refl, refl, (let full = full.0 in omega (arith, full, usual, same)), (full.1, (batch, reads, subst (λ (l : List Schema). SaysLines l time batch full.1) (are ∙ ap schemas_of (sym (all_first h _ count' counted same))) full.2)))

lines_own : (schemas : List Schema) (time : ℕ) (batch : Reading) (text : List ℕ) → IsReading text batch → (o : Option (List Entry)) → IfSome o (λ h. schemas ≡ schemas_of (after h)) → (count count' : ℕ) → IfSome o (λ h. count ≡ length h) → count' ≡ count
    → IfSome o (λ h. (e : Entry) → SaysLines schemas time batch e → SaysOwn h count' time (request.Write text) e)
lines_own schemas time batch text reads None are count count' counted same = tt
lines_own schemas time batch text reads (Some h) are count count' counted same = λ e own. (batch, reads, subst (λ (s : List Schema). SaysLines s time batch e) (are ∙ ap schemas_of (sym (all_first h count count' counted same))) own)

pub lines_handled : {E : Type 0} (old new : Back) (time : ℕ) (batch : Reading) (done : Result Committed CommitFault) (given : Result Reply E)
    → Committing old new done given (SaysLines old.parts.owned.store.sequence.schemas time batch) (λ c line. IsLineFault old.parts.owned.store.sequence.schemas time batch (lines.Refused c line))
    → (text : List ℕ) → IsReading text batch → Handles AllowedAlone (back_shown old) (back_shown new) time (request.Write text) given
lines_handled old new time batch (Ok d) given c text reads =
    subst (Handles AllowedAlone (back_shown old) (back_shown new) time (request.Write text)) (sym c.reply)
    (done_answers old new time (request.Write text) d given _ _ c (λ clock clock' later. (
      (
        c.count,
        (let is = c.count in let more = c.commits.count in omega (arith, is, more)),
        next_told _ (λ db e. SaysBatch (schemas_of db) time text (Ok e)) d d.n _ old.parts.history new.parts.history c.commits.told c.told_count (c.count ∙ c.commits.count) (batch_done _ time batch text reads old.parts.history c.told_schemas),
      ),
      same_shown old.parts new.parts c.commits.versions,
      c.commits.count,
      none_pends old new (Ok d) given _ _ c clock clock' time (request.Write text) (reply.Done d.n) c.settled,
    )))
lines_handled old new time batch (Err (commit.Refused k line)) given c text reads =
    subst (Handles AllowedAlone (back_shown old) (back_shown new) time (request.Write text)) (sym c.reply)
    (refused_answers old new time (request.Write text) _ _ _ given _ _ c (let counted = c.counted in omega (arith, counted)) (λ clock clock' later. (
      inl (subst (λ (o : Option (List Entry)). IsRefusedBatch o (length new.parts.owned.store.sequence.refs) time text (number_of k) line) (sym c.commits.told)
          (batch_refused _ time batch text reads old.parts.history c.told_schemas _ _ c.told_count c.commits.count k line c.causes)),
      same_shown old.parts new.parts c.commits.versions,
      c.commits.count,
      none_pends old new (Err (commit.Refused k line)) given _ _ c clock clock' time (request.Write text) (reply.Refused (number_of k) line) c.settled,
    )))
lines_handled old new time batch (Err commit.Full) given c text reads =
    subst (Handles AllowedAlone (back_shown old) (back_shown new) time (request.Write text)) (sym c.reply)
    (refused_answers old new time (request.Write text) _ _ _ given _ _ c (let counted = c.counted in omega (arith, counted)) (λ clock clock' later. (
      inr (inl (subst (λ (o : Option (List Entry)). IsFullBatch o (length new.parts.owned.store.sequence.refs) time text (number_of code.Full) 0) (sym c.commits.told)
          (batch_full old.parts.owned.store time batch text reads old.parts.history c.told_schemas _ c.told_count c.commits.count c.kept.usual.max_txns c.causes))),
      same_shown old.parts new.parts c.commits.versions,
      c.commits.count,
      none_pends old new (Err commit.Full) given _ _ c clock clock' time (request.Write text) (reply.Refused (number_of code.Full) 0) c.settled,
    )))
lines_handled old new time batch (Err commit.Vol) given c text reads =
    subst (Handles AllowedAlone (back_shown old) (back_shown new) time (request.Write text)) (sym c.reply)
    (refused_answers old new time (request.Write text) _ _ _ given _ _ c c.counted.0 (λ clock clock' later.
    (inr (inr (inr (inr (refl, refl, c.counted.1)))), same_shown old.parts new.parts c.commits.versions, c.commits.count, own_pends old new (Err commit.Vol) given _ _ c clock clock' time (request.Write text) (number_of code.Volume) 0 c.commits.told (inl refl) (lines_own _ time batch text reads old.parts.history c.told_schemas _ _ c.told_count c.commits.count))))
lines_handled old new time batch (Err commit.Memory) (Ok r) c text reads = absurd c.reply
lines_handled old new time batch (Err commit.Memory) (Err e) c text reads =
    refused_answers old new time (request.Write text) commit.Memory (number_of code.Memory) 0 (Err e) _ _ c (let counted = c.counted in omega (arith, counted)) (λ clock clock' later.
    (inr (inr (inr (inl (refl, refl)))), same_shown old.parts new.parts c.commits.versions, c.commits.count, own_pends old new (Err commit.Memory) (Err e) _ _ c clock clock' time (request.Write text) (number_of code.Memory) 0 c.commits.told (inr refl) (lines_own _ time batch text reads old.parts.history c.told_schemas _ _ c.told_count c.commits.count)))

-- ---- statements that write

pub stmt_done : (schemas : List Schema) (s : Stmt) (o : Option (List Entry)) → IfSome o (λ h. schemas ≡ schemas_of (after h)) → IfSome o (λ h. (e : Entry) → SaysStmt schemas s e → write (schemas_of (after h)) s ≡ Ok e)
stmt_done schemas s None are = tt
stmt_done schemas s (Some h) are = λ e own. subst (λ (l : List Schema). write l s ≡ Ok e) are own

pub stmt_refused : (schemas : List Schema) (s : Stmt) (o : Option (List Entry)) → IfSome o (λ h. schemas ≡ schemas_of (after h)) → (count count' : ℕ) → IfSome o (λ h. count ≡ length h) → count' ≡ count
    → (c : Code) (place : ℕ) → write schemas s ≡ Err (record { code = c; place = place }) → IsRefusedWrite o count' s (number_of c) place
stmt_refused schemas s None are count count' counted same c place is = (schemas, (_, is, refl, refl))
stmt_refused schemas s (Some h) are count count' counted same c place is =
    subst (λ (l : List Schema). IsRefusalOver l s (number_of c) place) (are ∙ ap schemas_of (sym (all_first h count count' counted same))) (_, is, refl, refl)

pub stmt_full : (s : Book) (stmt : Stmt) (o : Option (List Entry)) → IfSome o (λ h. s.sequence.schemas ≡ schemas_of (after h))
    → (count' : ℕ) → IfSome o (λ h. length s.sequence.refs ≡ length h) → count' ≡ length s.sequence.refs → s.limits.max_txns ≡ MAX_TXNS → IsFullFor s (SaysStmt s.sequence.schemas stmt)
    → IsFullWrite o count' stmt (number_of code.Full) 0
stmt_full s stmt None are count' counted same usual full = (refl, refl, (let full = full.0 in omega (arith, full, usual, same)), tt)
stmt_full s stmt (Some h) are count' counted same usual full =
    (refl, refl, (let full = full.0 in omega (arith, full, usual, same)), (full.1, subst (λ (l : List Schema). write l stmt ≡ Ok full.1) (are ∙ ap schemas_of (sym (all_first h _ count' counted same))) full.2))

stmt_own : (schemas : List Schema) (s : Stmt) (text : List ℕ) → asks_for text ≡ Ok s → IsWrite s → (o : Option (List Entry)) → IfSome o (λ h. schemas ≡ schemas_of (after h)) → (count count' : ℕ) → IfSome o (λ h. count ≡ length h) → count' ≡ count
    → IfSome o (λ h. (e : Entry) → SaysStmt schemas s e → SaysOwn h count' 0 (request.Sql text) e)
stmt_own schemas s text asks writes None are count count' counted same = tt
stmt_own schemas s text asks writes (Some h) are count count' counted same = λ e own. (s, asks, writes, subst (λ (l : List Schema). write l s ≡ Ok e) (are ∙ ap schemas_of (sym (all_first h count count' counted same))) own)

pub stmt_handled : {E : Type 0} (old new : Back) (s : Stmt) (done : Result Committed CommitFault) (given : Result Reply E) → IsWrite s
    → Committing old new done given (SaysStmt old.parts.owned.store.sequence.schemas s) (λ c place. write old.parts.owned.store.sequence.schemas s ≡ Err (record { code = c; place = place }))
    → (text : List ℕ) → asks_for text ≡ Ok s → Handles AllowedAlone (back_shown old) (back_shown new) 0 (request.Sql text) given
stmt_handled old new s (Ok d) given writes c text asks =
    subst (Handles AllowedAlone (back_shown old) (back_shown new) 0 (request.Sql text)) (sym c.reply)
    (done_answers old new 0 (request.Sql text) d given _ _ c (λ clock clock' later. (
      (
        s,
        asks,
        writes,
        c.count,
        (let is = c.count in let more = c.commits.count in omega (arith, is, more)),
        next_told _ (λ db e. write (schemas_of db) s ≡ Ok e) d d.n _ old.parts.history new.parts.history c.commits.told c.told_count (c.count ∙ c.commits.count) (stmt_done _ s old.parts.history c.told_schemas),
      ),
      same_shown old.parts new.parts c.commits.versions,
      c.commits.count,
      none_pends old new (Ok d) given _ _ c clock clock' 0 (request.Sql text) (reply.Done d.n) c.settled,
    )))
stmt_handled old new s (Err (commit.Refused k place)) given writes c text asks =
    subst (Handles AllowedAlone (back_shown old) (back_shown new) 0 (request.Sql text)) (sym c.reply)
    (refused_answers old new 0 (request.Sql text) _ _ _ given _ _ c (let counted = c.counted in omega (arith, counted)) (λ clock clock' later. (
      inr (inl (
        s,
        asks,
        subst (λ (o : Option (List Entry)). IsRefusedWrite o (length new.parts.owned.store.sequence.refs) s (number_of k) place) (sym c.commits.told)
            (stmt_refused _ s old.parts.history c.told_schemas _ _ c.told_count c.commits.count k place c.causes),
      )),
      same_shown old.parts new.parts c.commits.versions,
      c.commits.count,
      none_pends old new (Err (commit.Refused k place)) given _ _ c clock clock' 0 (request.Sql text) (reply.Refused (number_of k) place) c.settled,
    )))
stmt_handled old new s (Err commit.Full) given writes c text asks =
    subst (Handles AllowedAlone (back_shown old) (back_shown new) 0 (request.Sql text)) (sym c.reply)
    (refused_answers old new 0 (request.Sql text) _ _ _ given _ _ c (let counted = c.counted in omega (arith, counted)) (λ clock clock' later. (
      inr (inr (inl (
        s,
        asks,
        writes,
        subst (λ (o : Option (List Entry)). IsFullWrite o (length new.parts.owned.store.sequence.refs) s (number_of code.Full) 0) (sym c.commits.told)
            (stmt_full old.parts.owned.store s old.parts.history c.told_schemas _ c.told_count c.commits.count c.kept.usual.max_txns c.causes),
      ))),
      same_shown old.parts new.parts c.commits.versions,
      c.commits.count,
      none_pends old new (Err commit.Full) given _ _ c clock clock' 0 (request.Sql text) (reply.Refused (number_of code.Full) 0) c.settled,
    )))
stmt_handled old new s (Err commit.Vol) given writes c text asks =
    subst (Handles AllowedAlone (back_shown old) (back_shown new) 0 (request.Sql text)) (sym c.reply)
    (refused_answers old new 0 (request.Sql text) _ _ _ given _ _ c c.counted.0 (λ clock clock' later.
    (inr (inr (inr (inr (refl, refl, c.counted.1)))), same_shown old.parts new.parts c.commits.versions, c.commits.count, own_pends old new (Err commit.Vol) given _ _ c clock clock' 0 (request.Sql text) (number_of code.Volume) 0 c.commits.told (inl refl) (stmt_own _ s text asks writes old.parts.history c.told_schemas _ _ c.told_count c.commits.count))))
stmt_handled old new s (Err commit.Memory) (Ok r) writes c text asks = absurd c.reply
stmt_handled old new s (Err commit.Memory) (Err e) writes c text asks =
    refused_answers old new 0 (request.Sql text) commit.Memory (number_of code.Memory) 0 (Err e) _ _ c (let counted = c.counted in omega (arith, counted)) (λ clock clock' later.
    (inr (inr (inr (inl (refl, refl)))), same_shown old.parts new.parts c.commits.versions, c.commits.count, own_pends old new (Err commit.Memory) (Err e) _ _ c clock clock' 0 (request.Sql text) (number_of code.Memory) 0 c.commits.told (inr refl) (stmt_own _ s text asks writes old.parts.history c.told_schemas _ _ c.told_count c.commits.count)))
