-- A question over the current version.
use Rattle.std.proofs.Common.{◌≡◌, ℕ, inl, inr, List, [], ◌++◌, length, Option, Some, None, IfSome, OnOk, Result, Ok, Err, refl, sym, ap, ◌∙◌, subst, arith}
use Rattle.std.specs.Result.{IfErr, IfOk}
use Rattle.qd_base.specs.declared.op.Entry.{Entry}
use Rattle.qd_base.specs.declared.request.Request.TheVariants as request
use Rattle.qd_base.specs.declared.request.Reply.{Reply}
use Rattle.qd_base.specs.declared.request.Reply.TheVariants as reply
use Rattle.qd_base.specs.declared.request.Table.{Table}
use Rattle.qd_base.specs.Codes.{number_of}
use Rattle.qd_base.specs.Replay.{first}
use Rattle.qd_io.specs.Clocks.{Timeline}
use Rattle.qd_io.specs.Ends.{HasRisen}
use Rattle.qd_meaning.specs.declared.refusal.Refusal.{Refusal}
use Rattle.qd_meaning.specs.Answer as meaning
use Rattle.qd_query.specs.declared.answer.Answer.{Answer}
use Rattle.qd_query.specs.declared.answer.Answer.TheVariants as answer
use Rattle.qd_query.specs.Answers as query
use Rattle.qd_query.specs.Answers.{answer_of}
use Rattle.qd_scan.specs.declared.fault.PartFault.{PartFault}
use Rattle.qd_scan.specs.declared.fault.PartFault.TheVariants as part
use Rattle.qd_scan.specs.Sources.{HasCause, Stays}
use Rattle.qd_session.specs.Allowed.{HasNoAnswer, IsRefusedQuestion}
use Rattle.qd_session.specs.Alone.{AllowedAlone, MayPend}
use Rattle.qd_session.specs.Asking.{asks_for}
use Rattle.qd_sql_ast.specs.Kinds.{IsQuestion}
use Rattle.qd_session.specs.Legal.{Answers, Handles, done_in}
use Rattle.qd_session.specs.Looks.{look_at}
use Rattle.qd_store.specs.Stores.{Book}
use Rattle.qd_volume.specs.Disk.{Disk, reads_of}
use Rattle.qd_sql_ast.specs.declared.tree.Stmt.{Stmt}
use Rattle.qd_store_backend.specs.Backs.{Back, IsBack, IsLastDamage, IsPartDamage, IsPartDamaged, IsToldWhole, Parts, back_shown, current, database_in, kept_of, n_in, source_of}
use Rattle.qd_store_backend.specs.Replies.{RepliesOver}
use Rattle.qd_store_backend.proofs.Leaving.{pends_by}
use Rattle.qd_store_backend.proofs.Handled.{IsQuiet, quiet_grows, quiet_own}

same_store : (old new : Parts) → kept_of new ≡ kept_of old → new.owned.store ≡ old.owned.store
same_store old new fixed = ap (λ (p : Parts). p.owned.store) fixed

quiet_asked : (old new : Back) → kept_of new.parts ≡ kept_of old.parts → new.before ≡ old.before → IsQuiet old new
quiet_asked old new fixed before =
    let is = same_store old.parts new.parts fixed in
    record {
      count = ap (λ (s : Book). length s.sequence.refs) is;
      shown = ap (λ (s : Book). n_in (current s)) is;
      told = ap (λ (p : Parts). p.history) fixed;
      before = before;
    }

pub given_rows : (m : Result Table Refusal) (t : Table) → answer.Rows t ≡ query.given m → m ≡ Ok t
given_rows (Ok t') t is = cc
given_rows (Err r) t is = absurd (cc (is))

pub given_none : (m : Result Table Refusal) (number place : ℕ) → answer.Refused number place ≡ query.given m → (r : Refusal) × (m ≡ Err r) × (number ≡ number_of r.code) × (place ≡ r.place)
given_none (Ok t) number place is = absurd (cc (is))
given_none (Err r) number place is = (r, refl, cc, cc)

pub rows_told : (s : Stmt) (t : Table) (n n' : ℕ) (old new : Option (List Entry)) → new ≡ old → n ≡ n' → IfSome (database_in old n') (λ db. answer.Rows t ≡ answer_of db s) → IfSome new (λ h. meaning.answer (first h n) s ≡ Ok t)
rows_told s t n n' None new told is says = subst (λ (o : Option (List Entry)). IfSome o (λ h. meaning.answer (first h n) s ≡ Ok t)) (sym told) tt
rows_told s t n n' (Some h) new told is says =
    subst (λ (o : Option (List Entry)). IfSome o (λ k. meaning.answer (first k n) s ≡ Ok t)) (sym told)
    (subst (λ (m : ℕ). meaning.answer (first h m) s ≡ Ok t) (sym is) (given_rows (meaning.answer (first h n') s) t says))

-- A refusal is that of the first transactions, where they are told.
pub none_told : (s : Stmt) (number place : ℕ) (n n' : ℕ) (old new : Option (List Entry)) → new ≡ old → n ≡ n' → IfSome (database_in old n') (λ db. answer.Refused number place ≡ answer_of db s)
    → (old ≡ None → IsRefusedQuestion None n s number place) → IsRefusedQuestion new n s number place
none_told s number place n n' None new told is says untold = subst (λ (o : Option (List Entry)). IsRefusedQuestion o n s number place) (sym told) (untold refl)
none_told s number place n n' (Some h) new told is says untold =
    subst (λ (o : Option (List Entry)). IsRefusedQuestion o n s number place) (sym told)
    (subst (λ (m : ℕ). HasNoAnswer (first h m) s number place) (sym is) (given_none (meaning.answer (first h n') s) number place says))

none_risen : (n m : ℕ) → HasRisen n m → m ≡ 0 → ⊥
none_risen n m (inl more) is = omega (arith, more, is)
none_risen n m (inr most) is = omega (arith, most, is)

-- Damage that a whole source finds is of an untold one.
pub damage_untold : (old new : Parts) (found : Result Answer PartFault) (file at : ℕ) → kept_of new ≡ kept_of old → IsToldWhole new → IfErr found (HasCause (source_of old) (source_of new))
    → found ≡ Err (part.Damaged file at) → old.history ≡ None
damage_untold old new found file at fixed whole cause is = by old.history refl where
  risen : HasRisen old.damages new.damages
  risen = (subst (λ (r : Result Answer PartFault). IfErr r (HasCause (source_of old) (source_of new))) is cause).0

  by : (o : Option (List Entry)) → old.history ≡ o → old.history ≡ None
  by None same = same
  by (Some h) same = absurd (none_risen old.damages new.damages risen (whole h (ap (λ (p : Parts). p.history) fixed ∙ same)))

-- A question was asked, and this came of it.
pub record Asking {E : Type 0} (old new : Back) (s : Stmt) (n : ℕ) (found : Result Answer PartFault) (given : Result Reply E) : Type 0 where
  pub question : IsQuestion s
  pub before : new.before ≡ old.before
  pub left : new.left ≡ old.left
  pub kept : IsBack old
  pub number : n ≡ n_in (current old.parts.owned.store)
  pub fixed : kept_of new.parts ≡ kept_of old.parts
  pub answer : IfOk found (λ a. IfSome (source_of old.parts).database (λ db. a ≡ answer_of db s))
  pub stays : Stays (source_of old.parts) (source_of new.parts)
  pub cause : IfErr found (HasCause (source_of old.parts) (source_of new.parts))
  -- what is refused where nothing is told
  pub untold : (number place : ℕ) → old.parts.history ≡ None → IsRefusedQuestion None n s number place
  -- where damage is found, nothing is told
  pub damaged : (file at : ℕ) → found ≡ Err (part.Damaged file at) → old.parts.history ≡ None
  pub reply : RepliesOver n found given

-- an answer leaves all but the counts as it was
quiet_answers : {E : Type 0} (old new : Back) (s : Stmt) (n : ℕ) (found : Result Answer PartFault) (given : Result Reply E) → Asking old new s n found given → (text : List ℕ) (r : Reply) → done_in r ≡ []
    → ((clock clock' : Timeline) → AllowedAlone new.parts.history (look_at clock (back_shown old)) (look_at clock' (back_shown new)) 0 (request.Sql text) r)
    → Answers AllowedAlone (back_shown old) (back_shown new) 0 (request.Sql text) r
quiet_answers old new s n found given a text r none allowed =
    let q = quiet_asked old new a.fixed a.before in
    record {
      grows = quiet_grows old new q a.stays.faults;
      allowed = λ clock clock' later. allowed clock clock';
      own = subst (λ (l : List ℕ). (back_shown new).own ≡ (back_shown old).own ++ l) (sym none) (quiet_own old new q);
    }

-- what may have been left behind is as it was
module _ (old new : Back) (left : new.left ≡ old.left) (clock clock' : Timeline) (text : List ℕ) where
  rows_pend : (n : ℕ) (t : Table) → MayPend new.parts.history (look_at clock (back_shown old)) (look_at clock' (back_shown new)) 0 (request.Sql text) (reply.Rows n t)
  rows_pend n t = pends_by new.parts.history _ _ 0 (request.Sql text) (reply.Rows n t) (λ h at e there. sym left ∙ there)

  none_pend : (n number place : ℕ) → MayPend new.parts.history (look_at clock (back_shown old)) (look_at clock' (back_shown new)) 0 (request.Sql text) (reply.QueryRefused n number place)
  none_pend n number place = pends_by new.parts.history _ _ 0 (request.Sql text) (reply.QueryRefused n number place) (λ h at e there. sym left ∙ there)

  damage_pend : (file at : ℕ) → MayPend new.parts.history (look_at clock (back_shown old)) (look_at clock' (back_shown new)) 0 (request.Sql text) (reply.Damaged file at)
  damage_pend file at = pends_by new.parts.history _ _ 0 (request.Sql text) (reply.Damaged file at) (λ h is e there. sym left ∙ there)

  refused_pend : (number place : ℕ) → MayPend new.parts.history (look_at clock (back_shown old)) (look_at clock' (back_shown new)) 0 (request.Sql text) (reply.Refused number place)
  refused_pend number place = pends_by new.parts.history _ _ 0 (request.Sql text) (reply.Refused number place) (λ h at e there. inl (sym left ∙ there))

pub asked_handled : {E : Type 0} (old new : Back) (s : Stmt) (n : ℕ) (found : Result Answer PartFault) (given : Result Reply E) → Asking old new s n found given → (text : List ℕ) → asks_for text ≡ Ok s
    → Handles AllowedAlone (back_shown old) (back_shown new) 0 (request.Sql text) given
asked_handled old new s n (Ok (answer.Rows t)) given a text asks =
    let q = quiet_asked old new a.fixed a.before in let number = a.number in let shown = q.shown in let count = q.count in let within = a.kept.within in
    subst (Handles AllowedAlone (back_shown old) (back_shown new) 0 (request.Sql text)) (sym a.reply)
    (quiet_answers old new s n _ given a text (reply.Rows n t) refl (λ clock clock'.
    ((s, asks, a.question, (omega (arith, number), omega (arith, number, shown)), omega (arith, number, within, count), rows_told s t n _ old.parts.history new.parts.history q.told number a.answer), (shown, number), count, rows_pend old new a.left clock clock' text n t)))
asked_handled old new s n (Ok (answer.Refused code place)) given a text asks =
    let q = quiet_asked old new a.fixed a.before in let number = a.number in let shown = q.shown in let count = q.count in let within = a.kept.within in
    subst (Handles AllowedAlone (back_shown old) (back_shown new) 0 (request.Sql text)) (sym a.reply)
    (quiet_answers old new s n _ given a text (reply.QueryRefused n code place) refl (λ clock clock'.
    ((s, asks, a.question, (omega (arith, number), omega (arith, number, shown)), omega (arith, number, within, count), none_told s code place n _ old.parts.history new.parts.history q.told number a.answer (a.untold code place)), (shown, number), count, none_pend old new a.left clock clock' text n code place)))
asked_handled old new s n (Err part.Vol) given a text asks =
    let q = quiet_asked old new a.fixed a.before in
    subst (Handles AllowedAlone (back_shown old) (back_shown new) 0 (request.Sql text)) (sym a.reply)
    (quiet_answers old new s n _ given a text _ refl (λ clock clock'. (inr (inr (inr (inr (refl, refl, a.cause)))), q.shown, q.count, refused_pend old new a.left clock clock' text _ _)))
asked_handled old new s n (Err (part.Damaged file at)) given a text asks =
    let q = quiet_asked old new a.fixed a.before in
    subst (Handles AllowedAlone (back_shown old) (back_shown new) 0 (request.Sql text)) (sym a.reply)
    (quiet_answers old new s n _ given a text (reply.Damaged file at) refl (λ clock clock'. ((s, asks, a.question, q.told ∙ a.damaged file at refl), q.shown, q.count, damage_pend old new a.left clock clock' text file at)))
asked_handled old new s n (Err part.Memory) (Ok r) a text asks = absurd a.reply
asked_handled old new s n (Err part.Memory) (Err e) a text asks =
    let q = quiet_asked old new a.fixed a.before in
    quiet_answers old new s n _ (Err e) a text _ refl (λ clock clock'. (inr (inr (inr (inl (refl, refl)))), q.shown, q.count, refused_pend old new a.left clock clock' text _ _))

-- damage is answered where the last that was found is that of a part of the current version
replied_part : {E : Type 0} (n : ℕ) (found : Result Answer PartFault) (given : Result Reply E) (file at : ℕ) → RepliesOver n found given → given ≡ Ok (reply.Damaged file at) → found ≡ Err (part.Damaged file at)
replied_part n (Ok (answer.Rows t)) given file at replies is = absurd (let a = replies in cc (a, is))
replied_part n (Ok (answer.Refused code place)) given file at replies is = absurd (let a = replies in cc (a, is))
replied_part n (Err part.Vol) given file at replies is = absurd (let a = replies in cc (a, is))
replied_part n (Err (part.Damaged f a)) given file at replies is = let same = replies in cc (same, is)
replied_part {E} n (Err part.Memory) given file at replies is = absurd (subst (λ (r : Result Reply E). OnOk r ⊥) is replies)

pub asked_damage : {E : Type 0} (old new : Parts) (n : ℕ) (found : Result Answer PartFault) (given : Result Reply E) (file at : ℕ) → kept_of new ≡ kept_of old → IfErr found (HasCause (source_of old) (source_of new))
    → IsLastDamage new.owned new.last_damage → RepliesOver n found given → given ≡ Ok (reply.Damaged file at) → IsPartDamaged old.owned file at
asked_damage old new n found given file at fixed cause damage replies is =
    let at_last : new.last_damage ≡ Some (file, at) = (subst (λ (r : Result Answer PartFault). IfErr r (HasCause (source_of old) (source_of new))) (replied_part n found given file at replies is) cause).1 in
    let there : IsPartDamaged new.owned file at = subst (λ (o : Option (ℕ × ℕ)). IsLastDamage new.owned o) at_last damage in
    subst (λ (s : Book). IfSome old.owned.storage.disk (λ d. IsPartDamage s (reads_of d) file at)) (ap (λ (p : Parts). p.owned.store) fixed)
    (subst (λ (o : Option Disk). IfSome o (λ d. IsPartDamage new.owned.store (reads_of d) file at)) (ap (λ (p : Parts). p.owned.storage.disk) fixed) there)
