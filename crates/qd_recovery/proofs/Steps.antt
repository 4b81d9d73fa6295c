-- A store goes on by each call, and so by lists of them; and what may be pending behind them.
use Rattle.std.proofs.Common.{◌≡◌, ◌⊎◌, inl, inr, ℕ, List, [], ◌∷◌, ◌++◌, length, Option, None, Result, Ok, Err, refl, sym, subst, subst₂, arith}
use Rattle.std.proofs.lemmas.List.{append-nil, append_assoc, length-append}
use Rattle.std.proofs.lemmas.Slice.Zip.{AllZip-long}
use Rattle.qd_base.specs.declared.op.Entry.{Entry}
use Rattle.qd_base.specs.declared.part.WalRef.{WalRef}
use Rattle.qd_base.specs.declared.schema.Schema.{Schema}
use Rattle.qd_base.specs.Schemas.{schemas_from}
use Rattle.qd_ilp.specs.Transaction.{start}
use Rattle.qd_lines.specs.Laws.{OneAnswer}
use Rattle.qd_meaning.specs.Write.{write}
use Rattle.qd_sequencer.specs.declared.fault.CommitFault.{CommitFault}
use Rattle.qd_sequencer.specs.declared.fault.CommitFault.TheVariants as commit
use Rattle.qd_sequencer.specs.Calls.{PendsAsBefore, PendsOwn}
use Rattle.qd_sequencer.specs.Histories.{IsPending}
use Rattle.qd_txnfile.specs.Versions.{Version}
use Rattle.qd_volume.specs.Disk.{Disk, images_now, reads_of}
use Rattle.qd_wal.specs.Reading.{SpellsAt}
use Rattle.qd_wal.specs.Segments.{file_in}
use Rattle.qd_store.specs.declared.fault.PublishFault.{PublishFault}
use Rattle.qd_store.specs.Calls.{IsPublished}
use Rattle.qd_store.specs.Stores.{Book, IsStore}
use Rattle.qd_recovery.specs.Calls.{Acknowledges, AreNumbered, Asked, Call, Fails, IsFailed, IsNumbered, LeavesBehind, Lines, MayBeLeft, MayLeave, Publishes, Says, Statement, Stays, Step, Steps, Sweeps, acknowledged, acknowledged_by}
use Rattle.qd_recovery.specs.Runs.{Begins, Made, Opened}

-- an answer has one value
one_value : {T E : Type 0} (x y : Result T E) (a b : T) → x ≡ Ok a → y ≡ Ok b → x ≡ y → a ≡ b
one_value x y a b is_a is_b same = cc

-- what is asked for is one transaction
one_said : OneAnswer → (schemas : List Schema) (asked : Asked) (a b : Entry) → Says schemas asked a → Says schemas asked b → a ≡ b
one_said one schemas (Lines now batch) a b says_a says_b = one_value (Ok a) (Ok b) a b refl refl (one now (start schemas) 1 batch.lines batch.whole (Ok a) (Ok b) says_a says_b)
one_said one schemas (Statement stmt) a b says_a says_b = one_value (write schemas stmt) (write schemas stmt) a b says_a says_b refl

-- ---- the store

-- a call that acknowledges nothing
same_history : (s : Book) (h : List Entry) (next : Version) (disk : Disk) → IsStore s h next disk → IsStore s (h ++ []) next disk
same_history s h next disk is = subst (λ (l : List Entry). IsStore s l next disk) (sym (append-nil h)) is

-- some version stands beside a store
abbrev pub IsSomeStore : Book → List Entry → Disk → Type 0
IsSomeStore s h disk = (next : Version) × IsStore s h next disk

published : (result : Result ℕ PublishFault) (new : Book) (h : List Entry) (last v : Version) (after : Disk) → IsPublished result new h last v after → IsSomeStore new h after
published (Ok row) new h last v after is = (last, is last)
published (Err fault) new h last v after (inl is) = (last, is)
published (Err fault) new h last v after (inr is) = (v, is)

some_same : (s : Book) (h : List Entry) (disk : Disk) → IsSomeStore s h disk → IsSomeStore s (h ++ []) disk
some_same s h disk (next, is) = (next, same_history s h next disk is)

step_goes_on : OneAnswer → (h : List Entry) (call : Call) (old new : Book) (before after : Disk) (next : Version) → IsStore old h next before → Step h call old new before after → IsSomeStore new (h ++ acknowledged_by call) after
step_goes_on one h (Acknowledges asked done e) old new before after next is step =
    let behind = step.told.behind h next is in
    (next, subst (λ (x : Entry). IsStore new (h ++ x ∷ []) next after) (one_said one old.sequence.schemas asked behind.0 e behind.1 step.own) behind.2)
step_goes_on one h (Fails asked fault) old new before after next is step = (next, same_history new h next after (step.told.behind h next is))
step_goes_on one h (Publishes m result) old new before after next is step = some_same new h after (published result new h next _ after (step.told.behind h next is step.next_of))
step_goes_on one h Sweeps old new before after next is step = (next, same_history new h next after (step.behind h next is))
step_goes_on one h Stays old new before after next is step =
    (next, same_history new h next after (subst (λ (d : Disk). IsStore new h next d) (sym step.volume) (step.holds h next before is)))

pub steps_go_on : OneAnswer → (h : List Entry) (calls : List Call) (old new : Book) (before after : Disk) (next : Version) → IsStore old h next before → Steps h calls old new before after → IsSomeStore new (h ++ acknowledged calls) after
steps_go_on one h [] old new before after next is steps =
    (next, same_history new h next after (subst₂ (λ (s : Book) (d : Disk). IsStore s h next d) (sym steps.0) (sym steps.1) is))
steps_go_on one h (call ∷ calls) old new before after next is (mid, disk, step, steps) =
    let there = step_goes_on one h call old mid before disk next is step in
    subst (λ (l : List Entry). IsSomeStore new l after) (append_assoc h (acknowledged_by call) (acknowledged calls))
    (steps_go_on one (h ++ acknowledged_by call) calls mid new disk after there.0 there.1 steps)

-- ---- the numbers

-- what a volume reads is one of its images
abbrev pub ReadsAreAnImage : Type 0
ReadsAreAnImage = (disk : Disk) → images_now disk (reads_of disk)

-- a store has as many references as transactions
as_many : ReadsAreAnImage → (s : Book) (h : List Entry) (disk : Disk) → IsSomeStore s h disk → length h ≡ length s.sequence.refs
as_many reads s h disk (next, is) = AllZip-long (λ (ref : WalRef) (e : Entry). SpellsAt (reads_of disk (file_in ref)) ref e) s.sequence.refs h (is.sequence.spelled (reads_of disk) (reads disk))

step_numbered : ReadsAreAnImage → (h : List Entry) (call : Call) (old new : Book) (before after : Disk) → Step h call old new before after → IsSomeStore new (h ++ acknowledged_by call) after → IsNumbered h call
step_numbered reads h (Acknowledges asked done e) old new before after step there = omega (arith, step.number, as_many reads new (h ++ e ∷ []) after there, length-append h (e ∷ []))
step_numbered reads h (Fails asked fault) old new before after step there = tt
step_numbered reads h (Publishes m result) old new before after step there = tt
step_numbered reads h Sweeps old new before after step there = tt
step_numbered reads h Stays old new before after step there = tt

pub steps_numbered : OneAnswer → ReadsAreAnImage → (h : List Entry) (calls : List Call) (old new : Book) (before after : Disk) (next : Version) → IsStore old h next before → Steps h calls old new before after → AreNumbered h calls
steps_numbered one reads h [] old new before after next is steps = tt
steps_numbered one reads h (call ∷ calls) old new before after next is (mid, disk, step, steps) =
    let there = step_goes_on one h call old mid before disk next is step in
    (step_numbered reads h call old mid before disk step there, steps_numbered one reads (h ++ acknowledged_by call) calls mid new disk after there.0 there.1 steps)

-- ---- what is pending

-- each transaction that may be pending is one of which a fact holds
abbrev pub PendsOnly : Book → Disk → (Entry → Type 0) → Type 0
PendsOnly s disk Left = (e : Entry) → IsPending s.sequence.pending disk e → Left e

-- nothing is pending
pub none_pends : (s : Book) (disk : Disk) (Left : Entry → Type 0) → s.sequence.pending ≡ None → PendsOnly s disk Left
none_pends s disk Left none e pends = absurd (subst (λ (p : Option WalRef). IsPending p disk e) none pends)

-- what the schemas of a store say of it is said behind its history
pub said_behind : (s : Book) (h : List Entry) (next : Version) (disk : Disk) → IsStore s h next disk → (asked : Asked) (e : Entry) → Says s.sequence.schemas asked e → Says (schemas_from [] h) asked e
said_behind s h next disk is asked e says = subst (λ (l : List Schema). Says l asked e) is.sequence.schemas says

module _ (h : List Entry) (old new : Book) (before after : Disk) (next : Version) (is : IsStore old h next before) (Left : Entry → Type 0) (only : PendsOnly old before Left) where
  as_before : PendsAsBefore old.sequence.pending new.sequence.pending before after → PendsOnly new after Left
  as_before same e pends = only e (same e pends)

  or_own : (asked : Asked) → PendsOwn old.sequence.pending new.sequence.pending (Says old.sequence.schemas asked) before after → PendsOnly new after (λ x. Left x ⊎ Says (schemas_from [] h) asked x)
  or_own asked (inl same) e pends = inl (only e (same e pends))
  or_own asked (inr own) e pends = inr (said_behind old h next before is asked e (own e pends))

  -- a commit that failed
  failed : (asked : Asked) (fault : CommitFault) → IsFailed asked fault old new before after → PendsOnly new after (λ x. MayLeave fault (Left x ⊎ Says (schemas_from [] h) asked x))
  failed asked (commit.Refused code place) step = none_pends new after (λ x. ⊥) step.settled
  failed asked commit.Full step = none_pends new after (λ x. ⊥) step.settled
  failed asked commit.Vol step = or_own asked (step.told.pending h next is)
  failed asked commit.Memory step = or_own asked (step.told.pending h next is)

  pub step_leaves : (call : Call) → Step h call old new before after → PendsOnly new after (LeavesBehind h call Left)
  step_leaves (Acknowledges asked done e) step = none_pends new after (λ x. ⊥) step.settled
  step_leaves (Fails asked fault) step = failed asked fault step
  step_leaves (Publishes m result) step = as_before (step.told.pending h next is)
  step_leaves Sweeps step = as_before (step.pending h next is)
  step_leaves Stays step = λ e pends. only e (subst₂ (λ (p : Option WalRef) (d : Disk). IsPending p d e) step.pending step.volume pends)

pub steps_leave : OneAnswer → (h : List Entry) (calls : List Call) (old new : Book) (before after : Disk) (next : Version) (Left : Entry → Type 0) → IsStore old h next before → PendsOnly old before Left → Steps h calls old new before after → PendsOnly new after (MayBeLeft h calls Left)
steps_leave one h [] old new before after next Left is only steps = subst₂ (λ (s : Book) (d : Disk). PendsOnly s d Left) (sym steps.0) (sym steps.1) only
steps_leave one h (call ∷ calls) old new before after next Left is only (mid, disk, step, steps) =
    let there = step_goes_on one h call old mid before disk next is step in
    steps_leave one (h ++ acknowledged_by call) calls mid new disk after there.0 (LeavesBehind h call Left) there.1 (step_leaves h old mid before disk next is Left only call step) steps

-- ---- the beginning

pub begins_as : (h : List Entry) (s : Book) (before after : Disk) (next : Version) → Begins s before after h → IsStore s h next after
begins_as h s before after next (Made unmade creates none same) = subst (λ (l : List Entry). IsStore s l next after) (sym same) ((creates.created unmade).1 next)
begins_as h s before after next (Opened f whole finds opens none same) = subst (λ (l : List Entry). IsStore s l next after) (sym same) ((opens.found.1 whole f finds).stands next)

pub begins_clean : (h : List Entry) (s : Book) (before after : Disk) → Begins s before after h → s.sequence.pending ≡ None
begins_clean h s before after (Made unmade creates none same) = none
begins_clean h s before after (Opened f whole finds opens none same) = none
