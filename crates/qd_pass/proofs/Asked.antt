-- A question through a pass is answered as the rule has it.
use Rattle.std.proofs.Common.{◌≡◌, ◌∙◌, inl, inr, ℕ, ◌≤◌, List, length, Option, Some, None, IfSome, Result, Ok, Err, refl, sym, ap, subst, arith}
use Rattle.std.specs.Result.{IfErr, IfOk}
use Rattle.qd_base.specs.Codes.{number_of}
use Rattle.qd_base.specs.declared.code.Code.TheVariants as code
use Rattle.qd_base.specs.declared.op.Entry.{Entry}
use Rattle.qd_base.specs.declared.request.Reply.{Reply}
use Rattle.qd_base.specs.declared.request.Reply.TheVariants as reply
use Rattle.qd_base.specs.declared.request.Request.TheVariants as request
use Rattle.qd_base.specs.declared.request.Table.{Table}
use Rattle.qd_base.specs.Database.{Database}
use Rattle.qd_base.specs.Replay.{first}
use Rattle.qd_io.specs.Ends.{HasRisen}
use Rattle.qd_meaning.specs.Answer as meaning
use Rattle.qd_query.specs.declared.answer.Answer.{Answer}
use Rattle.qd_query.specs.declared.answer.Answer.TheVariants as answer
use Rattle.qd_query.specs.Answers.{answer_of}
use Rattle.qd_scan.specs.declared.fault.PartFault.{PartFault}
use Rattle.qd_scan.specs.declared.fault.PartFault.TheVariants as part
use Rattle.qd_scan.specs.Sources.{HasCause}
use Rattle.qd_score_model.specs.declared.view.Place.{Place}
use Rattle.qd_score_model.proofs.Lists.{prefix_length}
use Rattle.qd_session.specs.Allowed.{HasNoAnswer, IsRefusedQuestion}
use Rattle.qd_session.specs.Asking.{asks_for}
use Rattle.qd_session.specs.Legal.{Handles}
use Rattle.qd_session.specs.Looks.{Extends}
use Rattle.qd_session.proofs.RuleLemmas.{first-append}
use Rattle.qd_sql_ast.specs.declared.tree.Stmt.{Stmt}
use Rattle.qd_sql_ast.specs.Kinds.{IsQuestion}
use Rattle.qd_store_backend.specs.Backs.{database_in}
use Rattle.qd_store_backend.specs.Replies.{RepliesOver}
use Rattle.qd_store_backend.proofs.Asked.{given_none, given_rows}
use Rattle.qd_shared.specs.Passes.{Pass, faults_of, history_of, view_of}
use Rattle.qd_pass.specs.declared.memo.Memo.{Memo}
use Rattle.qd_pass.specs.Memos.{IsMemoOf}
use Rattle.qd_pass.specs.Passed.{GoesStill, IsReady, Pins, shown_by}
use Rattle.qd_pass.specs.Reading.{IsEnded, IsReading, Reading, shown_of}
use Rattle.qd_pass.specs.Shared.{AllowedShared}
use Rattle.qd_pass.proofs.Pinned.{few_told}
use Rattle.qd_pass.proofs.Going.{extends_seen, still_answers, still_both}

-- What a question over a version of n transactions found: over the first ones of what its pass had seen.
pub record Asking {E : Type 0} (old from new : Pass) (n : ℕ) (s : Stmt) (found : Result Answer PartFault) (given : Result Reply E) : Type 0 where
  pub question : IsQuestion s
  pub still : GoesStill old new
  pub on : GoesStill from new
  pub fresh : (view_of old).known ≤ n
  pub known : n ≤ (view_of new).known
  pub within : n ≤ length (view_of new).seen
  pub few : IfSome (history_of from) (λ h. n ≤ length h)
  pub answer : IfOk found (λ a. IfSome (database_in (history_of from) n) (λ db. a ≡ answer_of db s))
  pub vol : found ≡ Err part.Vol → HasRisen (faults_of old) (faults_of new)
  pub damaged : (file at : ℕ) → found ≡ Err (part.Damaged file at) → history_of new ≡ None
  pub reply : RepliesOver n found given

rows_told : (s : Stmt) (t : Table) (n : ℕ) (a b : Option (List Entry)) → Extends a b → IfSome a (λ h. n ≤ length h) → IfSome (database_in a n) (λ db. answer.Rows t ≡ answer_of db s) → IfSome b (λ h. meaning.answer (first h n) s ≡ Ok t)
rows_told s t n None b e few says = subst (λ (o : Option (List Entry)). IfSome o (λ h. meaning.answer (first h n) s ≡ Ok t)) (sym e) tt
rows_told s t n (Some h) b (more, e) few says =
    subst (λ (o : Option (List Entry)). IfSome o (λ k. meaning.answer (first k n) s ≡ Ok t)) (sym e)
    (subst (λ (db : Database). meaning.answer db s ≡ Ok t) (sym (first-append h more n few)) (given_rows (meaning.answer (first h n) s) t says))

none_told : (s : Stmt) (number place n : ℕ) (a b : Option (List Entry)) → Extends a b → IfSome a (λ h. n ≤ length h) → IfSome (database_in a n) (λ db. answer.Refused number place ≡ answer_of db s) → IsRefusedQuestion b n s number place
none_told s number place n None b e few says = subst (λ (o : Option (List Entry)). IsRefusedQuestion o n s number place) (sym e) tt
none_told s number place n (Some h) b (more, e) few says =
    subst (λ (o : Option (List Entry)). IsRefusedQuestion o n s number place) (sym e)
    (subst (λ (db : Database). HasNoAnswer db s number place) (sym (first-append h more n few)) (given_none (meaning.answer (first h n) s) number place says))

pub asked_handled : {E : Type 0} (old from new : Pass) (n : ℕ) (s : Stmt) (found : Result Answer PartFault) (given : Result Reply E) → Asking old from new n s found given → (text : List ℕ) → asks_for text ≡ Ok s
    → Handles AllowedShared (shown_by old) (shown_by new) 0 (request.Sql text) given
asked_handled old from new n s (Ok (answer.Rows t)) given a text asks =
    subst (Handles AllowedShared (shown_by old) (shown_by new) 0 (request.Sql text)) (sym a.reply)
    (still_answers old new 0 (request.Sql text) (reply.Rows n t) a.still refl (λ clock clock'. inl (
      s,
      asks,
      a.question,
      (a.fresh, a.known),
      a.within,
      rows_told s t n (history_of from) (history_of new) (extends_seen from new a.on.goes) a.few a.answer,
    )))
asked_handled old from new n s (Ok (answer.Refused code place)) given a text asks =
    subst (Handles AllowedShared (shown_by old) (shown_by new) 0 (request.Sql text)) (sym a.reply)
    (still_answers old new 0 (request.Sql text) (reply.QueryRefused n code place) a.still refl (λ clock clock'. inl (
      s,
      asks,
      a.question,
      (a.fresh, a.known),
      a.within,
      none_told s code place n (history_of from) (history_of new) (extends_seen from new a.on.goes) a.few a.answer,
    )))
asked_handled old from new n s (Err part.Vol) given a text asks =
    subst (Handles AllowedShared (shown_by old) (shown_by new) 0 (request.Sql text)) (sym a.reply)
    (still_answers old new 0 (request.Sql text) (reply.Refused (number_of code.Volume) 0) a.still refl (λ clock clock'. inl (inr (inr (inr (inr (refl, refl, a.vol refl)))))))
asked_handled old from new n s (Err (part.Damaged file at)) given a text asks =
    subst (Handles AllowedShared (shown_by old) (shown_by new) 0 (request.Sql text)) (sym a.reply)
    (still_answers old new 0 (request.Sql text) (reply.Damaged file at) a.still refl (λ clock clock'. inl (s, asks, a.question, a.damaged file at refl)))
asked_handled old from new n s (Err part.Memory) (Ok r) a text asks = absurd a.reply
asked_handled old from new n s (Err part.Memory) (Err e) a text asks =
    still_answers old new 0 (request.Sql text) (reply.Refused (number_of code.Memory) 0) a.still refl (λ clock clock'. inl (inr (inr (inr (inl (refl, refl))))))

-- no memory was found before anything was asked
pub unasked_handled : {E : Type 0} (old new : Pass) (e : E) → GoesStill old new → (text : List ℕ) → Handles {E = E} AllowedShared (shown_by old) (shown_by new) 0 (request.Sql text) (Err e)
unasked_handled old new e still text = still_answers old new 0 (request.Sql text) (reply.Refused (number_of code.Memory) 0) still refl (λ clock clock'. inl (inr (inr (inr (inl (refl, refl))))))

-- ---- the passes of a question

-- from before it until its pin was let go
pub ended_still : (old pinned noted : Pass) (n : ℕ) (r : Reading) (now : Pass) → Pins old pinned n → GoesStill pinned noted → r.from ≡ noted → IsReading r → IsEnded r now → GoesStill old now
ended_still old pinned noted n r now p g from is e =
    still_both old pinned now p.still (still_both pinned noted now g (subst (λ (q : Pass). GoesStill q now) from (still_both r.from r.pass now is.goes e.still)))

pub ended_ready : (old : Pass) (r : Reading) (now : Pass) → GoesStill old now → IsReady old → IsEnded r now → IsReady now
ended_ready old r now g is e = record { idle = e.idle; kind = λ keeps. is.kind (sym g.goes.mode ∙ keeps); counted = e.counted }

risen_within : (a b c d : ℕ) → a ≤ b → HasRisen b c → d ≡ c → HasRisen a d
risen_within a b c d le (inl less) same = inl (omega (arith, le, less, same))
risen_within a b c d le (inr last) same = inr (omega (arith, last, same))

none_risen : (n : ℕ) → HasRisen 0 n → n ≡ 0 → ⊥
none_risen n (inl more) is = omega (arith, more, is)
none_risen n (inr most) is = omega (arith, most, is)

module _ {E : Type 0} (old pinned noted : Pass) (pin : Place) (m : Memo) (start r : Reading) (now : Pass) (n : ℕ) (s : Stmt) (found : Result Answer PartFault) (given : Result Reply E)
    (question : IsQuestion s) (pins : Pins old pinned pin.n) (on : GoesStill pinned noted) (memo : IsMemoOf noted m) (number : m.snap.n ≡ pin.n) (count : n ≡ pin.n)
    (starts : start ≡ record { from = noted; pass = noted; pin = pin; memo = m; damages = 0; last_damage = None }) (fixed : r.from ≡ start.from) (is : IsReading r) (ended : IsEnded r now)
    (says : IfOk found (λ a. IfSome (shown_of start).database (λ db. a ≡ answer_of db s))) (cause : IfErr found (HasCause (shown_of start) (shown_of r))) (reply : RepliesOver n found given) where
  abbrev first_of : Reading
  first_of = record { from = noted; pass = noted; pin = pin; memo = m; damages = 0; last_damage = None }

  from_is : r.from ≡ noted
  from_is = fixed ∙ ap (λ (x : Reading). x.from) starts

  still : GoesStill old now
  still = ended_still old pinned noted pin.n r now pins on from_is is ended

  since : GoesStill noted now
  since = subst (λ (q : Pass). GoesStill q now) from_is (still_both r.from r.pass now is.goes ended.still)

  many : m.snap.n ≡ n
  many = number ∙ sym count

  cause_here : (f : PartFault) → found ≡ Err f → HasCause (shown_of first_of) (shown_of r) f
  cause_here f err = subst (λ (x : Reading). HasCause (shown_of x) (shown_of r) f) starts (subst (λ (o : Result Answer PartFault). IfErr o (HasCause (shown_of start) (shown_of r))) err cause)

  untold_by : (o : Option (List Entry)) → history_of r.from ≡ o → (file at : ℕ) → found ≡ Err (part.Damaged file at) → history_of now ≡ None
  untold_by None same file at err = subst (λ (x : Option (List Entry)). Extends x (history_of now)) same (extends_seen r.from now (still_both r.from r.pass now is.goes ended.still).goes)
  untold_by (Some h) same file at err = absurd (none_risen r.damages (cause_here (part.Damaged file at) err).0 (is.told (λ none. absurd (cc (same, none)))))

  pub asking_of : Asking old noted now n s found given
  asking_of = record {
    question = question;
    still = still;
    on = since;
    fresh = (let fresh = pins.fresh in omega (arith, fresh, count));
    known = (let known = pins.known in let more = on.goes.known in let then = since.goes.known in omega (arith, known, more, then, count));
    within = (let few = memo.within in let more = prefix_length (view_of noted).seen (view_of now).seen since.goes.seen in let same = many in omega (arith, few, more, same));
    few = subst (λ (k : ℕ). IfSome (history_of noted) (λ h. k ≤ length h)) many (few_told m.snap (history_of noted) memo.copied);
    answer = subst (λ (k : ℕ). IfOk found (λ a. IfSome (database_in (history_of noted) k) (λ db. a ≡ answer_of db s))) many
        (subst (λ (x : Reading). IfOk found (λ a. IfSome (shown_of x).database (λ db. a ≡ answer_of db s))) starts says);
    vol = λ err. risen_within (faults_of old) (faults_of noted) (faults_of r.pass) (faults_of now) (let one = pins.still.goes.faults in let two = on.goes.faults in omega (arith, one, two)) (cause_here part.Vol err) ended.faults;
    damaged = λ file at err. untold_by (history_of r.from) refl file at err;
    reply = reply;
  }
