-- A write through a pass is answered as the rule has it.
use Rattle.std.proofs.Common.{◌≡◌, ◌∙◌, inl, inr, ℕ, suc, ◌+◌, ◌-◌, ◌<◌, ◌≤◌, List, [], ◌∷◌, ◌++◌, length, Option, Some, None, IfSome, Result, Ok, Err, refl, sym, ap, subst, arith, append-nil, length-append}
use Rattle.qd_base.specs.Codes.{number_of}
use Rattle.qd_base.specs.declared.code.Code.TheVariants as code
use Rattle.qd_base.specs.declared.op.Entry.{Entry}
use Rattle.qd_base.specs.declared.request.Reply.{Reply}
use Rattle.qd_base.specs.declared.request.Reply.TheVariants as reply
use Rattle.qd_base.specs.declared.request.Request.{Request}
use Rattle.qd_base.specs.declared.request.Request.TheVariants as request
use Rattle.qd_base.specs.Database.{schemas_of}
use Rattle.qd_base.specs.Replay.{first}
use Rattle.qd_ilp.specs.Whole.{IsReading, Reading}
use Rattle.qd_io.specs.Clocks.{Timeline}
use Rattle.qd_io.specs.Ends.{HasRisen}
use Rattle.qd_meaning.specs.Write.{write}
use Rattle.qd_score_model.specs.Machine.{behind}
use Rattle.qd_score_model.proofs.Lists.{prefix_length}
use Rattle.qd_sequencer.specs.declared.fault.CommitFault.{CommitFault}
use Rattle.qd_sequencer.specs.declared.fault.CommitFault.TheVariants as commit
use Rattle.qd_sequencer.specs.declared.fault.Committed.{Committed}
use Rattle.qd_session.specs.Allowed.{HasTransaction, IsFullBatch, IsFullWrite, IsRefusedBatch, IsRefusedWrite, SaysBatch}
use Rattle.qd_session.specs.Asking.{asks_for}
use Rattle.qd_session.specs.Legal.{Answers, Handles}
use Rattle.qd_session.specs.Looks.{look_at}
use Rattle.qd_sql_ast.specs.declared.tree.Stmt.{Stmt}
use Rattle.qd_sql_ast.specs.Kinds.{IsWrite}
use Rattle.qd_versions.specs.Stores as versions
use Rattle.qd_store_backend.specs.Backs.{IsCountBehind, IsToldBehind, current, n_in}
use Rattle.qd_store_backend.specs.Replies.{RepliesTo}
use Rattle.qd_store_backend.proofs.Handled.{batch_done, batch_full, batch_refused, next_told, stmt_done, stmt_full, stmt_refused}
use Rattle.qd_shared.specs.Commits.{Asked, Commits, batch_at, statement}
use Rattle.qd_shared.specs.Desks.{items_in}
use Rattle.qd_shared.specs.Passes.{Pass, faults_of, history_of, view_of}
use Rattle.qd_shared.proofs.Items.{items_count}
use Rattle.qd_pass.specs.Passed.{GoesOn, GoesStill, IsCounted, shown_by}
use Rattle.qd_pass.specs.Shared.{AllowedShared}
use Rattle.qd_pass.proofs.Going.{counted_now, grows_shown, held_goes, still_answers}

-- a told history has as many transactions as there are
count_behind : (r : Result Committed CommitFault) (a b : ℕ) (o o' : Option (List Entry)) (Own : Entry → Type 0) → IsCountBehind r a b → IsToldBehind r o o' Own → IfSome o (λ h. a ≡ length h) → IfSome o' (λ h. b ≡ length h)
count_behind (Ok d) a b None o' Own count told is = subst (λ (x : Option (List Entry)). IfSome x (λ h. b ≡ length h)) (sym told) tt
count_behind (Ok d) a b (Some h) o' Own count (e, own, told) is = subst (λ (x : Option (List Entry)). IfSome x (λ g. b ≡ length g)) (sym told) (omega (arith, count, is, length-append h (e ∷ [])))
count_behind (Err e) a b o o' Own count told is = subst (λ (x : Option (List Entry)). IfSome x (λ h. b ≡ length h)) (sym told) (subst (λ (n : ℕ). IfSome o (λ h. n ≡ length h)) (sym count) is)

module _ (asked : Asked) (r : Result Committed CommitFault) (old new : Pass) (c : Commits asked r old new) where
  abbrev refs : ℕ
  refs = length c.found.owned.store.sequence.refs

  same_n : n_in (current c.found.owned.store) ≡ n_in (current c.left.owned.store)
  same_n = ap (λ (v : versions.Store). n_in (current (record { sequence = c.found.owned.store.sequence; versions = v; limits = c.found.owned.store.limits }))) (sym c.commits.versions)

  pub commits_goes : GoesOn old new
  commits_goes = held_goes old new c.found c.left c.holds (let same = same_n in omega (arith, same))

  -- as many as there are
  pub seen_now : length (view_of new).seen ≡ length c.left.owned.store.sequence.refs
  seen_now = ap length c.holds.seen ∙ items_count c.left.owned.store.sequence.refs c.left.history

  pub seen_before : length (view_of old).seen ≤ length c.found.owned.store.sequence.refs
  seen_before = let le = prefix_length (view_of old).seen (items_in c.found) c.holds.seen_before in let count = items_count c.found.owned.store.sequence.refs c.found.history in omega (arith, le, count)

  pub commits_counted : IsCounted new
  commits_counted =
      counted_now new c.left c.holds.seen c.history (by c.left.history
      (count_behind r (length c.found.owned.store.sequence.refs) (length c.left.owned.store.sequence.refs) c.found.history c.left.history (asked.Own c.found.owned.store.sequence.schemas) c.commits.count c.commits.told c.commits.counted.count))
    where
      by : (o : Option (List Entry)) → IfSome o (λ h. length c.left.owned.store.sequence.refs ≡ length h) → IfSome o (λ h. length (items_in c.left) ≡ length h)
      by None is = tt
      by (Some h) is = items_count c.left.owned.store.sequence.refs c.left.history ∙ is

  -- a fault of the volume in the hold is one in the request
  pub volume_fault : HasRisen c.found.owned.storage.faults c.left.owned.storage.faults → HasRisen (faults_of old) (faults_of new)
  volume_fault (inl less) = inl (let before = c.holds.faults_before in let now = c.holds.faults in omega (arith, before, now, less))
  volume_fault (inr last) = inr (let now = c.holds.faults in omega (arith, now, last))

-- nothing is committed
module _ (asked : Asked) (e : CommitFault) (old new : Pass) (c : Commits asked (Err e) old new) where
  pub refused_count : length (view_of new).seen ≡ length c.found.owned.store.sequence.refs
  refused_count = seen_now asked (Err e) old new c ∙ c.commits.count

  pub refused_history : history_of new ≡ c.found.history
  refused_history = c.history ∙ c.commits.told

  pub refused_still : GoesStill old new
  refused_still = record {
    goes = commits_goes asked (Err e) old new c;
    own = c.holds.own ∙ (ap (λ (n : ℕ). (view_of old).own ++ behind (length (items_in c.found)) n) none ∙ append-nil (view_of old).own);
  }
    where
      none : length (items_in c.left) - length (items_in c.found) ≡ 0
      none =
          let one = items_count c.found.owned.store.sequence.refs c.found.history in
          let two = items_count c.left.owned.store.sequence.refs c.left.history in
          let same = c.commits.count in
          omega (arith, one, two, same)

-- one is committed
module _ (asked : Asked) (d : Committed) (old new : Pass) (c : Commits asked (Ok d) old new) where
  pub done_number : d.n ≡ length (view_of new).seen
  done_number = c.commits.number ∙ sym (seen_now asked (Ok d) old new c)

  pub done_newer : length (view_of old).seen < d.n
  done_newer = let before = seen_before asked (Ok d) old new c in let number = c.commits.number in let count = c.commits.count in omega (arith, before, number, count)

  pub done_own : (view_of new).own ≡ (view_of old).own ++ d.n ∷ []
  done_own = c.holds.own ∙ (ap (λ (n : ℕ). (view_of old).own ++ behind (length (items_in c.found)) n) one ∙ ap (λ (n : ℕ). (view_of old).own ++ n ∷ []) number)
    where
      one : length (items_in c.left) - length (items_in c.found) ≡ 1
      one =
          let a = items_count c.found.owned.store.sequence.refs c.found.history in
          let b = items_count c.left.owned.store.sequence.refs c.left.history in
          let count = c.commits.count in
          omega (arith, a, b, count)

      number : suc (length (items_in c.found)) ≡ d.n
      number =
          let a = items_count c.found.owned.store.sequence.refs c.found.history in
          let is = c.commits.number in
          let count = c.commits.count in
          omega (arith, a, is, count)

  pub done_answers : (time : ℕ) (what : Request)
      → ((clock clock' : Timeline) → AllowedShared (history_of new) (look_at clock (shown_by old)) (look_at clock' (shown_by new)) time what (reply.Done d.n)) → Answers AllowedShared (shown_by old) (shown_by new) time what (reply.Done d.n)
  done_answers time what allowed = record { grows = grows_shown old new (commits_goes asked (Ok d) old new c); allowed = λ clock clock' later. allowed clock clock'; own = done_own }

-- ---- batches

pub batch_handled : {E : Type 0} (old new : Pass) (time : ℕ) (batch : Reading) (r : Result Committed CommitFault) (given : Result Reply E) → Commits (batch_at time batch) r old new → RepliesTo r given
    → (text : List ℕ) → IsReading text batch → Handles AllowedShared (shown_by old) (shown_by new) time (request.Write text) given
batch_handled old new time batch (Ok d) given c replies text reads =
    subst (Handles AllowedShared (shown_by old) (shown_by new) time (request.Write text)) (sym replies)
    (done_answers (batch_at time batch) d old new c time (request.Write text) (λ clock clock'. inl (
      done_number (batch_at time batch) d old new c,
      done_newer (batch_at time batch) d old new c,
      subst (λ (o : Option (List Entry)). IfSome o (λ h. HasTransaction h d.n (λ entry. SaysBatch (schemas_of (first h (d.n - 1))) time text (Ok entry)))) (sym c.history)
          (next_told _ (λ db e. SaysBatch (schemas_of db) time text (Ok e)) d d.n _ c.found.history c.left.history c.commits.told c.commits.counted.count (c.commits.number ∙ c.commits.count) (batch_done _ time batch text reads c.found.history c.commits.counted.schemas)),
    )))
batch_handled old new time batch (Err (commit.Refused k line)) given c replies text reads =
    subst (Handles AllowedShared (shown_by old) (shown_by new) time (request.Write text)) (sym replies)
    (still_answers old new time (request.Write text) (reply.Refused (number_of k) line) (refused_still (batch_at time batch) _ old new c) refl (λ clock clock'. inl (inl (
    subst (λ (o : Option (List Entry)). IsRefusedBatch o (length (view_of new).seen) time text (number_of k) line) (sym (refused_history (batch_at time batch) _ old new c))
    (batch_refused _ time batch text reads c.found.history c.commits.counted.schemas _ _ c.commits.counted.count (refused_count (batch_at time batch) _ old new c) k line c.commits.causes)
    ))))
batch_handled old new time batch (Err commit.Full) given c replies text reads =
    subst (Handles AllowedShared (shown_by old) (shown_by new) time (request.Write text)) (sym replies)
    (still_answers old new time (request.Write text) (reply.Refused (number_of code.Full) 0) (refused_still (batch_at time batch) _ old new c) refl (λ clock clock'. inl (inr (inl (
    subst (λ (o : Option (List Entry)). IsFullBatch o (length (view_of new).seen) time text (number_of code.Full) 0) (sym (refused_history (batch_at time batch) _ old new c))
    (batch_full c.found.owned.store time batch text reads c.found.history c.commits.counted.schemas _ c.commits.counted.count (refused_count (batch_at time batch) _ old new c) c.commits.kept.usual.max_txns c.commits.causes)
    )))))
batch_handled old new time batch (Err commit.Vol) given c replies text reads =
    subst (Handles AllowedShared (shown_by old) (shown_by new) time (request.Write text)) (sym replies)
    (still_answers old new time (request.Write text) (reply.Refused (number_of code.Volume) 0) (refused_still (batch_at time batch) _ old new c) refl (λ clock clock'. inl (inr (inr (inr (inr (refl, refl, volume_fault (batch_at time batch) _ old new c c.commits.faults.1)))))))
batch_handled old new time batch (Err commit.Memory) (Ok r) c replies text reads = absurd replies
batch_handled old new time batch (Err commit.Memory) (Err e) c replies text reads =
    still_answers old new time (request.Write text) (reply.Refused (number_of code.Memory) 0) (refused_still (batch_at time batch) _ old new c) refl (λ clock clock'. inl (inr (inr (inr (inl (refl, refl))))))

-- ---- statements that write

pub stmt_handled : {E : Type 0} (old new : Pass) (s : Stmt) (r : Result Committed CommitFault) (given : Result Reply E) → IsWrite s → Commits (statement s) r old new → RepliesTo r given
    → (text : List ℕ) → asks_for text ≡ Ok s → Handles AllowedShared (shown_by old) (shown_by new) 0 (request.Sql text) given
stmt_handled old new s (Ok d) given writes c replies text asks =
    subst (Handles AllowedShared (shown_by old) (shown_by new) 0 (request.Sql text)) (sym replies)
    (done_answers (statement s) d old new c 0 (request.Sql text) (λ clock clock'. inl (
      s,
      asks,
      writes,
      done_number (statement s) d old new c,
      done_newer (statement s) d old new c,
      subst (λ (o : Option (List Entry)). IfSome o (λ h. HasTransaction h d.n (λ entry. write (schemas_of (first h (d.n - 1))) s ≡ Ok entry))) (sym c.history)
          (next_told _ (λ db e. write (schemas_of db) s ≡ Ok e) d d.n _ c.found.history c.left.history c.commits.told c.commits.counted.count (c.commits.number ∙ c.commits.count) (stmt_done _ s c.found.history c.commits.counted.schemas)),
    )))
stmt_handled old new s (Err (commit.Refused k place)) given writes c replies text asks =
    subst (Handles AllowedShared (shown_by old) (shown_by new) 0 (request.Sql text)) (sym replies)
    (still_answers old new 0 (request.Sql text) (reply.Refused (number_of k) place) (refused_still (statement s) _ old new c) refl (λ clock clock'. inl (inr (inl (
      s,
      asks,
      subst (λ (o : Option (List Entry)). IsRefusedWrite o (length (view_of new).seen) s (number_of k) place) (sym (refused_history (statement s) _ old new c))
          (stmt_refused _ s c.found.history c.commits.counted.schemas _ _ c.commits.counted.count (refused_count (statement s) _ old new c) k place c.commits.causes),
    )))))
stmt_handled old new s (Err commit.Full) given writes c replies text asks =
    subst (Handles AllowedShared (shown_by old) (shown_by new) 0 (request.Sql text)) (sym replies)
    (still_answers old new 0 (request.Sql text) (reply.Refused (number_of code.Full) 0) (refused_still (statement s) _ old new c) refl (λ clock clock'. inl (inr (inr (inl (
      s,
      asks,
      writes,
      subst (λ (o : Option (List Entry)). IsFullWrite o (length (view_of new).seen) s (number_of code.Full) 0) (sym (refused_history (statement s) _ old new c))
          (stmt_full c.found.owned.store s c.found.history c.commits.counted.schemas _ c.commits.counted.count (refused_count (statement s) _ old new c) c.commits.kept.usual.max_txns c.commits.causes),
    ))))))
stmt_handled old new s (Err commit.Vol) given writes c replies text asks =
    subst (Handles AllowedShared (shown_by old) (shown_by new) 0 (request.Sql text)) (sym replies)
    (still_answers old new 0 (request.Sql text) (reply.Refused (number_of code.Volume) 0) (refused_still (statement s) _ old new c) refl (λ clock clock'. inl (inr (inr (inr (inr (refl, refl, volume_fault (statement s) _ old new c c.commits.faults.1)))))))
stmt_handled old new s (Err commit.Memory) (Ok r) writes c replies text asks = absurd replies
stmt_handled old new s (Err commit.Memory) (Err e) writes c replies text asks =
    still_answers old new 0 (request.Sql text) (reply.Refused (number_of code.Memory) 0) (refused_still (statement s) _ old new c) refl (λ clock clock'. inl (inr (inr (inr (inl (refl, refl))))))
