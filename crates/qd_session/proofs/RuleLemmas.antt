-- The rule of the product keeps the laws of rules.
use Rattle.std.proofs.Common.{◌≡◌, ℕ, zero, suc, ◌-◌, ◌≤◌, inl, inr, List, [], ◌∷◌, ◌++◌, length, Option, Some, None, Ok, Err, refl, sym, ◌∙◌, ap, subst, arith, slice_get}
use Rattle.std.specs.Prelude.{IfSome}
use Rattle.std.proofs.lemmas.List.{take-append-le}
use Rattle.qd_base.specs.declared.op.Entry.{Entry}
use Rattle.qd_base.specs.declared.request.Request.{Request}
use Rattle.qd_base.specs.declared.request.Request.TheVariants as request
use Rattle.qd_base.specs.declared.request.Reply.{Reply}
use Rattle.qd_base.specs.declared.request.Reply.TheVariants as reply
use Rattle.qd_base.specs.Database.{Database, schemas_of}
use Rattle.qd_base.specs.Replay.{after, first}
use Rattle.qd_session.specs.Looks.{Extends, IsStill, Look}
use Rattle.qd_session.specs.Legal.{EndsByBye, GoesOn, IsLasting, MayLackClock, MayWantMemory}
use Rattle.qd_meaning.specs.Answer.{answer}
use Rattle.qd_meaning.specs.Write.{write}
use Rattle.qd_session.specs.Allowed.{Allowed, HasNoAnswer, HasTransaction, IsRefusalOver, SaysBatch}

-- the database after a prefix, where more follows
pub first-append : (h more : List Entry) (n : ℕ) → n ≤ length h → first (h ++ more) n ≡ first h n
first-append h more n le = ap after (take-append-le n h more le)

-- an element that is there stays where more follows
get-append : {A : Type 0} (xs more : List A) (i : ℕ) (x : A) → slice_get xs i ≡ Some x → slice_get (xs ++ more) i ≡ Some x
get-append [] more i x e = absurd (cc (e))
get-append (y ∷ xs) more zero x e = e
get-append (y ∷ xs) more (suc i) x e = get-append xs more i x e

-- what may come over a told history may come over a longer one
allowed-more : (h more : List Entry) (before now : Look) (time : ℕ) (asked : Request) (given : Reply) → now.sequenced ≤ length h → Allowed (Some h) before now time asked given → Allowed (Some (h ++ more)) before now time asked given
allowed-more h more before now time (request.Write text) (reply.Done n) le (is, newer, t) =
    (is, newer, (t.0, get-append h more (n - 1) t.0 t.1, subst (λ (db : Database). SaysBatch (schemas_of db) time text (Ok t.0)) (sym (first-append h more (n - 1) (omega (arith, is, le)))) t.2))
allowed-more h more before now time (request.Write text) (reply.Refused number place) le (inl (c, is, says)) =
    inl (c, is, subst (λ (db : Database). SaysBatch (schemas_of db) time text (Err (c, place))) (sym (first-append h more now.sequenced le)) says)
allowed-more h more before now time (request.Write text) (reply.Refused number place) le (inr (inl (is, at, most, t))) =
    inr (inl (is, at, most, (t.0, subst (λ (db : Database). SaysBatch (schemas_of db) time text (Ok t.0)) (sym (first-append h more now.sequenced le)) t.1)))
allowed-more h more before now time (request.Write text) (reply.Refused number place) le (inr (inr f)) = inr (inr f)
allowed-more h more before now time (request.Sql text) (reply.Done n) le (s, asks, writes, is, newer, t) =
    (s, asks, writes, is, newer, (t.0, get-append h more (n - 1) t.0 t.1, subst (λ (db : Database). write (schemas_of db) s ≡ Ok t.0) (sym (first-append h more (n - 1) (omega (arith, is, le)))) t.2))
allowed-more h more before now time (request.Sql text) (reply.Rows n table) le (s, asks, question, between, most, is) =
    (s, asks, question, between, most, subst (λ (db : Database). answer db s ≡ Ok table) (sym (first-append h more n (omega (arith, most, le)))) is)
allowed-more h more before now time (request.Sql text) (reply.QueryRefused n number place) le (s, asks, question, between, most, is) =
    (s, asks, question, between, most, subst (λ (db : Database). HasNoAnswer db s number place) (sym (first-append h more n (omega (arith, most, le)))) is)
allowed-more h more before now time (request.Sql text) (reply.Refused number place) le (inl is) = inl is
allowed-more h more before now time (request.Sql text) (reply.Refused number place) le (inr (inl (s, asks, is))) =
    inr (inl (s, asks, subst (λ (db : Database). IsRefusalOver (schemas_of db) s number place) (sym (first-append h more now.sequenced le)) is))
allowed-more h more before now time (request.Sql text) (reply.Refused number place) le (inr (inr (inl (s, asks, writes, (is, at, most, t))))) =
    inr (inr (inl (s, asks, writes, (is, at, most, (t.0, subst (λ (db : Database). write (schemas_of db) s ≡ Ok t.0) (sym (first-append h more now.sequenced le)) t.1)))))
allowed-more h more before now time (request.Sql text) (reply.Refused number place) le (inr (inr (inr f))) = inr (inr (inr f))
allowed-more h more before now time request.Apply (reply.Applied n) le a = a
allowed-more h more before now time request.Apply (reply.Refused number place) le a = a
allowed-more h more before now time request.End reply.Bye le a = a
allowed-more h more before now time (request.Write text) (reply.Rows n table) le a = absurd a
allowed-more h more before now time (request.Write text) (reply.Applied n) le a = absurd a
allowed-more h more before now time (request.Write text) (reply.QueryRefused n number place) le a = absurd a
allowed-more h more before now time (request.Write text) (reply.Damaged file at) le a = absurd a
allowed-more h more before now time (request.Write text) reply.Bye le a = absurd a
allowed-more h more before now time (request.Sql text) (reply.Applied n) le a = absurd a
allowed-more h more before now time (request.Sql text) (reply.Damaged file at) le a = absurd (cc (a.3))
allowed-more h more before now time (request.Sql text) reply.Bye le a = absurd a
allowed-more h more before now time request.Apply (reply.Done n) le a = absurd a
allowed-more h more before now time request.Apply (reply.Rows n table) le a = absurd a
allowed-more h more before now time request.Apply (reply.QueryRefused n number place) le a = absurd a
allowed-more h more before now time request.Apply (reply.Damaged file at) le a = absurd (cc (a))
allowed-more h more before now time request.Apply reply.Bye le a = absurd a
allowed-more h more before now time request.End (reply.Done n) le a = absurd a
allowed-more h more before now time request.End (reply.Rows n table) le a = absurd a
allowed-more h more before now time request.End (reply.Applied n) le a = absurd a
allowed-more h more before now time request.End (reply.Refused number place) le a = absurd a
allowed-more h more before now time request.End (reply.QueryRefused n number place) le a = absurd a
allowed-more h more before now time request.End (reply.Damaged file at) le a = absurd a

pub allowed-lasts : IsLasting Allowed
allowed-lasts None new before now time asked given e seen a = subst (λ (h : Option (List Entry)). Allowed h before now time asked given) (sym e) a
allowed-lasts (Some h) new before now time asked given e seen a =
    subst (λ (x : Option (List Entry)). Allowed x before now time asked given) (sym e.1) (allowed-more h e.0 before now time asked given seen a)

only-bye : (history : Option (List Entry)) (before now : Look) (time : ℕ) (given : Reply) → Allowed history before now time request.End given → given ≡ reply.Bye
only-bye history before now time (reply.Done n) a = absurd a
only-bye history before now time (reply.Rows n table) a = absurd a
only-bye history before now time (reply.Applied n) a = absurd a
only-bye history before now time (reply.Refused number place) a = absurd a
only-bye history before now time (reply.QueryRefused n number place) a = absurd a
only-bye history before now time (reply.Damaged file at) a = absurd a
only-bye history before now time reply.Bye a = refl

only-end : (history : Option (List Entry)) (before now : Look) (time : ℕ) (asked : Request) → Allowed history before now time asked reply.Bye → asked ≡ request.End
only-end history before now time (request.Write text) a = absurd a
only-end history before now time (request.Sql text) a = absurd a
only-end history before now time request.Apply a = absurd a
only-end history before now time request.End a = refl

pub allowed-ends : EndsByBye Allowed
allowed-ends = record { bye = λ history before now time still. tt; only_bye = only-bye; only_end = only-end }

pub allowed-wants : MayWantMemory Allowed
allowed-wants history before now time (request.Write text) on still = inr (inr (inr (inl (refl, refl))))
allowed-wants history before now time (request.Sql text) on still = inr (inr (inr (inl (refl, refl))))
allowed-wants history before now time request.Apply on still = inl (refl, refl)
allowed-wants history before now time request.End on still = absurd on

pub allowed-lacks : MayLackClock Allowed
allowed-lacks history before now time text lacks still risen = inr (inr (inl (refl, refl, lacks, risen)))
