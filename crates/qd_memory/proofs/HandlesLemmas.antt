-- What the list does is what a backend of its rule may do.
use Rattle.std.proofs.Common.{◌≡◌, ℕ, ◌+◌, ◌-◌, ◌≤◌, inl, inr, suc, zero, List, [], ◌∷◌, ◌++◌, length, take, subst, refl, sym, ap, ◌∙◌, arith, Some, None, Option, Result, Ok, Err, append-nil}
use Rattle.std.specs.List.{range_with_len, slice_get}
use Rattle.std.specs.Result.{IfOk, OnErr, OnOk}
use Rattle.std.proofs.lemmas.List.{take_all, take_at, length_push}
use Rattle.qd_base.specs.Codes.{number_of}
use Rattle.qd_base.specs.declared.code.Code.{Code}
use Rattle.qd_base.specs.declared.op.Entry.{Entry}
use Rattle.qd_base.specs.declared.request.Request.{Request}
use Rattle.qd_base.specs.declared.request.Request.TheVariants as request
use Rattle.qd_base.specs.declared.request.Table.{Table}
use Rattle.qd_base.specs.declared.request.Reply.{Reply}
use Rattle.qd_base.specs.declared.request.Reply.TheVariants as reply
use Rattle.qd_base.specs.Database.{Database, schemas_of}
use Rattle.qd_base.specs.Replay.{after, first}
use Rattle.qd_base.proofs.Lists.{get-last}
use Rattle.qd_ilp.specs.Whole.{IsReading, Reading}
use Rattle.qd_session.specs.Looks.{Grows, look_at}
use Rattle.qd_session.specs.Legal.{Answers, GoesOn, Handles}
use Rattle.qd_session.specs.Timing.{want_of_memory}
use Rattle.qd_session.specs.Allowed.{SaysBatch}
use Rattle.qd_session.specs.Alone.{AllowedAlone}
use Rattle.qd_meaning.specs.declared.refusal.Refusal.{Refusal}
use Rattle.qd_meaning.specs.Answer.{answer}
use Rattle.qd_meaning.specs.Write.{write}
use Rattle.qd_session.specs.Asking.{asks_for}
use Rattle.qd_sql_ast.specs.Kinds.{IsQuestion, IsWrite}
use Rattle.qd_sql_ast.specs.declared.tree.Stmt.{Stmt}
use Rattle.qd_sql_ast.specs.declared.tree.Stmt.TheVariants as is
use Rattle.qd_sql.specs.declared.stmt.SqlFault.{SqlFault}
use Rattle.qd_sql.specs.declared.stmt.SqlFault.TheVariants as fault
use Rattle.qd_memory.specs.Listed.{CarriesOut, Listed, Writes, WritesStmt, all_applied, answered, listed_shown, with_entry}
use Rattle.qd_session.proofs.AloneLemmas.{alone-wants}

-- the numbers from a on with one more
range_more : (a n : ℕ) → range_with_len a (suc n) ≡ range_with_len a n ++ (a + n) ∷ []
range_more a zero = ap (λ m. m ∷ []) (omega arith)
range_more a (suc n) = ap (λ l. a ∷ l) (range_more (a + 1) n ∙ ap (λ m. range_with_len (a + 1) n ++ m ∷ []) (omega arith))

own_more : (history : List Entry) (entry : Entry) (n : ℕ) → n ≡ length history + 1 → range_with_len 1 (length (history ++ entry ∷ [])) ≡ range_with_len 1 (length history) ++ n ∷ []
own_more history entry n is =
    let size : length (history ++ entry ∷ []) ≡ suc (length history) = length_push history entry ∙ omega arith in
    ap (range_with_len 1) size ∙ range_more 1 (length history) ∙ ap (λ m. range_with_len 1 (length history) ++ m ∷ []) (omega arith)

grows_still : (l : Listed) → Grows (listed_shown l) (listed_shown l)
grows_still l = record { history = ([], ap Some (sym (append-nil l.history))); sequenced = omega arith; known = omega arith; faults = omega arith }

-- no memory is found, and nothing is changed
pub answers_want : (l : Listed) (time : ℕ) (asked : Request) → GoesOn (asked ∷ []) → Answers AllowedAlone (listed_shown l) (listed_shown l) time asked want_of_memory
answers_want l time asked on = record {
  grows = grows_still l;
  allowed = λ clock clock' later. alone-wants (Some l.history) (look_at clock (listed_shown l)) (look_at clock' (listed_shown l)) time asked on (record { sequenced = refl; known = refl; clock_faults = later; volume_faults = refl; pinned = refl; pending = refl });
  own = sym (append-nil (range_with_len 1 (length l.history)));
}

wants : (old new : Listed) (time : ℕ) (asked : Request) → GoesOn (asked ∷ []) → new ≡ old → Answers AllowedAlone (listed_shown old) (listed_shown new) time asked want_of_memory
wants old new time asked on e = subst (λ (l : Listed). Answers AllowedAlone (listed_shown old) (listed_shown l) time asked want_of_memory) (sym e) (answers_want old time asked on)

-- a batch that is the next transaction
answers_done : (old : Listed) (time : ℕ) (text : List ℕ) (n : ℕ) (entry : Entry) → SaysBatch (schemas_of (after old.history)) time text (Ok entry) → n ≡ length old.history + 1
    → Answers AllowedAlone (listed_shown old) (listed_shown (with_entry old entry)) time (request.Write text) (reply.Done n)
answers_done old time text n entry says is =
    let before : n - 1 ≡ length old.history = omega arith in
    let front : first (old.history ++ entry ∷ []) (n - 1) ≡ after old.history = ap after (ap (λ m. take m (old.history ++ entry ∷ [])) before ∙ take_at old.history (entry ∷ []) (length old.history) refl) in
    let at : slice_get (old.history ++ entry ∷ []) (n - 1) ≡ Some entry = ap (slice_get (old.history ++ entry ∷ [])) before ∙ get-last old.history entry in
    let longer : length (old.history ++ entry ∷ []) ≡ length old.history + 1 = length_push old.history entry in
    record {
      grows = record { history = (entry ∷ [], refl); sequenced = omega (arith, longer); known = omega arith; faults = omega arith };
      allowed = λ clock clock' later. ((is ∙ sym longer, omega (arith, is), (entry, at, subst (λ (db : Database). SaysBatch (schemas_of db) time text (Ok entry)) (sym front) says)), refl, longer, λ e left. absurd (cc (left)));
      own = own_more old.history entry n is;
    }

-- a batch that is refused
answers_refused : (old : Listed) (time : ℕ) (text : List ℕ) (number line : ℕ) (c : Code) → number ≡ number_of c → SaysBatch (schemas_of (after old.history)) time text (Err (c, line))
    → Answers AllowedAlone (listed_shown old) (listed_shown old) time (request.Write text) (reply.Refused number line)
answers_refused old time text number line c is says =
    let all : first old.history (length old.history) ≡ after old.history = ap after (take_all (length old.history) old.history (omega arith)) in
    record {
      grows = grows_still old;
      allowed = λ clock clock' later. (inl (c, is, subst (λ (db : Database). SaysBatch (schemas_of db) time text (Err (c, line))) (sym all) says), refl, refl, λ e left. absurd (cc (left)));
      own = sym (append-nil (range_with_len 1 (length old.history)));
    }

pub handles_written : {E : Type 0} (old new : Listed) (time : ℕ) (reading : Reading) (result : Result Reply E) → IfOk result (λ given. Writes old new time reading given) → OnErr result (new ≡ old)
    → (text : List ℕ) → IsReading text reading → Handles AllowedAlone (listed_shown old) (listed_shown new) time (request.Write text) result
handles_written old new time reading (Err e) ok err text reads = wants old new time (request.Write text) tt err
handles_written old new time reading (Ok (reply.Done n)) ok err text reads =
    subst (λ (l : Listed). Answers AllowedAlone (listed_shown old) (listed_shown l) time (request.Write text) (reply.Done n)) (sym ok.3) (answers_done old time text n ok.0 (reading, reads, ok.1) ok.2)
handles_written old new time reading (Ok (reply.Refused number line)) ok err text reads =
    subst (λ (l : Listed). Answers AllowedAlone (listed_shown old) (listed_shown l) time (request.Write text) (reply.Refused number line)) (sym ok.3)
    (answers_refused old time text number line ok.0 ok.1 (reading, reads, ok.2))
handles_written old new time reading (Ok (reply.Rows n table)) ok err text reads = absurd ok
handles_written old new time reading (Ok (reply.Applied n)) ok err text reads = absurd ok
handles_written old new time reading (Ok (reply.QueryRefused n number place)) ok err text reads = absurd ok
handles_written old new time reading (Ok (reply.Damaged file at)) ok err text reads = absurd ok
handles_written old new time reading (Ok reply.Bye) ok err text reads = absurd ok

-- a statement that asks is answered over what is applied
answers_question : (l : Listed) (time : ℕ) (text : List ℕ) (s : Stmt) (a : Result Table Refusal) → l.applied ≤ length l.history → asks_for text ≡ Ok s → IsQuestion s → answer (first l.history l.applied) s ≡ a
    → Answers AllowedAlone (listed_shown l) (listed_shown l) time (request.Sql text) (answered l.applied a)
answers_question l time text s (Ok table) within asks question is = record {
  grows = grows_still l;
  allowed = λ clock clock' later. ((s, asks, question, (omega arith, omega arith), within, is), (refl, refl), refl, λ e left. absurd (cc (left)));
  own = sym (append-nil (range_with_len 1 (length l.history)));
}
answers_question l time text s (Err r) within asks question is = record {
  grows = grows_still l;
  allowed = λ clock clock' later. ((s, asks, question, (omega arith, omega arith), within, (r, is, refl, refl)), (refl, refl), refl, λ e left. absurd (cc (left)));
  own = sym (append-nil (range_with_len 1 (length l.history)));
}

-- a statement that is the next transaction
answers_written : (old : Listed) (time : ℕ) (text : List ℕ) (s : Stmt) (n : ℕ) (entry : Entry) → asks_for text ≡ Ok s → IsWrite s → write (schemas_of (after old.history)) s ≡ Ok entry → n ≡ length old.history + 1
    → Answers AllowedAlone (listed_shown old) (listed_shown (with_entry old entry)) time (request.Sql text) (reply.Done n)
answers_written old time text s n entry asks writes says is =
    let before : n - 1 ≡ length old.history = omega arith in
    let front : first (old.history ++ entry ∷ []) (n - 1) ≡ after old.history = ap after (ap (λ m. take m (old.history ++ entry ∷ [])) before ∙ take_at old.history (entry ∷ []) (length old.history) refl) in
    let at : slice_get (old.history ++ entry ∷ []) (n - 1) ≡ Some entry = ap (slice_get (old.history ++ entry ∷ [])) before ∙ get-last old.history entry in
    let longer : length (old.history ++ entry ∷ []) ≡ length old.history + 1 = length_push old.history entry in
    record {
      grows = record { history = (entry ∷ [], refl); sequenced = omega (arith, longer); known = omega arith; faults = omega arith };
      allowed =
          λ clock clock' later. ((s, asks, writes, is ∙ sym longer, omega (arith, is), (entry, at, subst (λ (db : Database). write (schemas_of db) s ≡ Ok entry) (sym front) says)), refl, longer, λ e left. absurd (cc (left)));
      own = own_more old.history entry n is;
    }

-- a statement that is refused
answers_unwritten : (old : Listed) (time : ℕ) (text : List ℕ) (s : Stmt) (number place : ℕ) (r : Refusal) → asks_for text ≡ Ok s → write (schemas_of (after old.history)) s ≡ Err r → number ≡ number_of r.code → place ≡ r.place
    → Answers AllowedAlone (listed_shown old) (listed_shown old) time (request.Sql text) (reply.Refused number place)
answers_unwritten old time text s number place r asks says is at =
    let all : first old.history (length old.history) ≡ after old.history = ap after (take_all (length old.history) old.history (omega arith)) in
    record {
      grows = grows_still old;
      allowed = λ clock clock' later. (inr (inl (s, asks, (r, subst (λ (db : Database). write (schemas_of db) s ≡ Err r) (sym all) says, is, at))), refl, refl, λ e left. absurd (cc (left)));
      own = sym (append-nil (range_with_len 1 (length old.history)));
    }

answers_stmt : (old new : Listed) (time : ℕ) (text : List ℕ) (s : Stmt) (given : Reply) → asks_for text ≡ Ok s → IsWrite s → WritesStmt old new s given → Answers AllowedAlone (listed_shown old) (listed_shown new) time (request.Sql text) given
answers_stmt old new time text s (reply.Done n) asks writes (entry, says, is, e) =
    subst (λ (l : Listed). Answers AllowedAlone (listed_shown old) (listed_shown l) time (request.Sql text) (reply.Done n)) (sym e) (answers_written old time text s n entry asks writes says is)
answers_stmt old new time text s (reply.Refused number place) asks writes (r, says, is, at, e) =
    subst (λ (l : Listed). Answers AllowedAlone (listed_shown old) (listed_shown l) time (request.Sql text) (reply.Refused number place)) (sym e) (answers_unwritten old time text s number place r asks says is at)
answers_stmt old new time text s (reply.Rows n table) asks writes h = absurd h
answers_stmt old new time text s (reply.Applied n) asks writes h = absurd h
answers_stmt old new time text s (reply.QueryRefused n number place) asks writes h = absurd h
answers_stmt old new time text s (reply.Damaged file at) asks writes h = absurd h
answers_stmt old new time text s reply.Bye asks writes h = absurd h

-- where nothing is changed
answers_same : (old new : Listed) (time : ℕ) (text : List ℕ) (given made : Reply) → given ≡ made → new ≡ old → Answers AllowedAlone (listed_shown old) (listed_shown old) time (request.Sql text) made
    → Answers AllowedAlone (listed_shown old) (listed_shown new) time (request.Sql text) given
answers_same old new time text given made is same a =
    subst (λ (l : Listed). Answers AllowedAlone (listed_shown old) (listed_shown l) time (request.Sql text) given) (sym same)
    (subst (λ (r : Reply). Answers AllowedAlone (listed_shown old) (listed_shown old) time (request.Sql text) r) (sym is) a)

-- a text is carried out as it asks
answers_sql : (old new : Listed) (time : ℕ) (text : List ℕ) (asks : Result Stmt SqlFault) (given : Reply) → old.applied ≤ length old.history → asks_for text ≡ asks → CarriesOut old new asks given
    → Answers AllowedAlone (listed_shown old) (listed_shown new) time (request.Sql text) given
answers_sql old new time text (Ok (is.Create c)) given within asks h = answers_stmt old new time text (is.Create c) given asks tt h
answers_sql old new time text (Ok (is.Insert i)) given within asks h = answers_stmt old new time text (is.Insert i) given asks tt h
answers_sql old new time text (Ok (is.Alter a)) given within asks h = answers_stmt old new time text (is.Alter a) given asks tt h
answers_sql old new time text (Ok (is.Query q)) given within asks (made, same) =
    answers_same old new time text given _ made same (answers_question old time text (is.Query q) (answer (first old.history old.applied) (is.Query q)) within asks tt refl)
answers_sql old new time text (Ok (is.Show name place)) given within asks (made, same) =
    answers_same old new time text given _ made same (answers_question old time text (is.Show name place) (answer (first old.history old.applied) (is.Show name place)) within asks tt refl)
answers_sql old new time text (Err (fault.Refused why place)) given within asks (made, same) =
    answers_same old new time text given _ made same
    (record {
      grows = grows_still old;
      allowed = λ clock clock' later. (inl (why, refl, asks), refl, refl, λ e left. absurd (cc (left)));
      own = sym (append-nil (range_with_len 1 (length old.history)));
    })
answers_sql old new time text (Err fault.Memory) given within asks h = absurd h
answers_sql old new time text (Err fault.TooDeep) given within asks h = absurd h

pub handles_sql : {E : Type 0} (old new : Listed) (time : ℕ) (text : List ℕ) (result : Result Reply E) → old.applied ≤ length old.history → IfOk result (λ given. CarriesOut old new (asks_for text) given) → OnErr result (new ≡ old)
    → Handles AllowedAlone (listed_shown old) (listed_shown new) time (request.Sql text) result
handles_sql old new time text (Err e) within ok same = wants old new time (request.Sql text) tt same
handles_sql old new time text (Ok given) within ok same = answers_sql old new time text (asks_for text) given within refl ok

-- all is applied
answers_applied : (l : Listed) (time : ℕ) → l.applied ≤ length l.history → Answers AllowedAlone (listed_shown l) (listed_shown (all_applied l)) time request.Apply (reply.Applied (length l.history))
answers_applied l time within = record {
  grows = record { history = ([], ap Some (sym (append-nil l.history))); sequenced = omega arith; known = within; faults = omega arith };
  allowed = λ clock clock' later. (((within, omega arith), omega arith, omega arith), refl, refl, λ e left. absurd (cc (left)));
  own = sym (append-nil (range_with_len 1 (length l.history)));
}

pub handles_applied : {E : Type 0} (old new : Listed) (time : ℕ) (result : Result Reply E) → old.applied ≤ length old.history → OnOk result (new ≡ all_applied old) → IfOk result (λ given. given ≡ reply.Applied (length old.history)) → OnErr result (new ≡ old) → Handles AllowedAlone (listed_shown old) (listed_shown new) time request.Apply result
handles_applied old new time (Err e) within ok given err = wants old new time request.Apply tt err
handles_applied old new time (Ok r) within ok given err =
    subst (λ (l : Listed). Answers AllowedAlone (listed_shown old) (listed_shown l) time request.Apply r) (sym ok)
    (subst (λ (x : Reply). Answers AllowedAlone (listed_shown old) (listed_shown (all_applied old)) time request.Apply x) (sym given) (answers_applied old time within))
