-- The rule of a backend whose one session alone writes and applies keeps the laws of rules.
use Rattle.std.proofs.Common.{◌≡◌, ◌≤◌, ℕ, inl, inr, List, ◌++◌, length, Option, Some, None, IfSome, Ok, refl, sym, ◌∙◌, subst}
use Rattle.std.proofs.Common.{arith}
use Rattle.qd_base.specs.declared.op.Entry.{Entry}
use Rattle.qd_base.specs.declared.request.Request.{Request}
use Rattle.qd_base.specs.declared.request.Request.TheVariants as request
use Rattle.qd_base.specs.declared.request.Reply.{Reply}
use Rattle.qd_base.specs.declared.request.Reply.TheVariants as reply
use Rattle.qd_base.specs.Database.{Database, schemas_of}
use Rattle.qd_base.specs.Replay.{first}
use Rattle.qd_meaning.specs.Write.{write}
use Rattle.qd_session.specs.Allowed.{SaysBatch}
use Rattle.qd_session.specs.Legal.{EndsByBye, IsLasting, MayLackClock, MayWantMemory}
use Rattle.qd_session.specs.Looks.{Extends, IsStill, Look}
use Rattle.qd_session.specs.Alone.{AllowedAlone, MayLeave, MayPend, SaysOwn, StaysApplied}
use Rattle.qd_session.specs.Timing.{clock_refusal, want_of_memory}
use Rattle.qd_session.proofs.RuleLemmas.{allowed-ends, allowed-lacks, allowed-lasts, allowed-wants, first-append}

-- what a request says over the first transactions, it says where more are behind them
own-more : (h more : List Entry) (n time : ℕ) (asked : Request) (e : Entry) → n ≤ length h → SaysOwn h n time asked e → SaysOwn (h ++ more) n time asked e
own-more h more n time (request.Write text) e le s = subst (λ (db : Database). SaysBatch (schemas_of db) time text (Ok e)) (sym (first-append h more n le)) s
own-more h more n time (request.Sql text) e le (s, asks, writes, is) = (s, asks, writes, subst (λ (db : Database). write (schemas_of db) s ≡ Ok e) (sym (first-append h more n le)) is)
own-more h more n time request.Apply e le s = s
own-more h more n time request.End e le s = s

leave-more : (h more : List Entry) (before now : Look) (time : ℕ) (asked : Request) (given : Reply) (e : Entry) → now.sequenced ≤ length h → MayLeave h before now time asked given e → MayLeave (h ++ more) before now time asked given e
leave-more h more before now time asked (reply.Done n) e le m = m
leave-more h more before now time asked (reply.Refused number place) e le (inl was) = inl was
leave-more h more before now time asked (reply.Refused number place) e le (inr (open_is, own)) = inr (open_is, own-more h more now.sequenced time asked e le own)
leave-more h more before now time asked (reply.Rows n table) e le m = m
leave-more h more before now time asked (reply.Applied n) e le m = m
leave-more h more before now time asked (reply.QueryRefused n number place) e le m = m
leave-more h more before now time asked (reply.Damaged file at) e le m = m
leave-more h more before now time asked reply.Bye e le m = m

pend-lasts : (old new : Option (List Entry)) (before now : Look) (time : ℕ) (asked : Request) (given : Reply) → Extends old new → IfSome old (λ h. now.sequenced ≤ length h) → MayPend old before now time asked given → MayPend new before now time asked given
pend-lasts None new before now time asked given e seen m = subst (λ (x : Option (List Entry)). MayPend x before now time asked given) (sym e) tt
pend-lasts (Some h) new before now time asked given e seen m =
    subst (λ (x : Option (List Entry)). MayPend x before now time asked given) (sym e.1) (λ entry left. leave-more h e.0 before now time asked given entry seen (m entry left))

pub alone-lasts : IsLasting AllowedAlone
alone-lasts old new before now time asked given e seen a = (allowed-lasts old new before now time asked given e seen a.0, a.1, a.2, pend-lasts old new before now time asked given e seen a.3)

-- nothing is left that wasn't before
still-bye : (history : Option (List Entry)) (before now : Look) (time : ℕ) (asked : Request) → IsStill before now → MayPend history before now time asked reply.Bye
still-bye None before now time asked still = tt
still-bye (Some h) before now time asked still = λ e left. sym still.pending ∙ left

still-refused : (history : Option (List Entry)) (before now : Look) (time : ℕ) (asked : Request) (number place : ℕ) → IsStill before now → MayPend history before now time asked (reply.Refused number place)
still-refused None before now time asked number place still = tt
still-refused (Some h) before now time asked number place still = λ e left. inl (sym still.pending ∙ left)

pub alone-ends : EndsByBye AllowedAlone
alone-ends = record {
  bye = λ history before now time still. (allowed-ends.bye history before now time still, still.known, still.sequenced, still-bye history before now time request.End still);
  only_bye = λ history before now time given a. allowed-ends.only_bye history before now time given a.0;
  only_end = λ history before now time asked a. allowed-ends.only_end history before now time asked a.0;
}

-- where nothing changes, what is applied stays
still-applied : (asked : Request) (before now : Look) → IsStill before now → StaysApplied asked before.known now.known
still-applied request.Apply before now still = let same = still.known in omega (arith, same)
still-applied (request.Write text) before now still = still.known
still-applied (request.Sql text) before now still = still.known
still-applied request.End before now still = still.known

pub alone-wants : MayWantMemory AllowedAlone
alone-wants history before now time asked on still = (allowed-wants history before now time asked on still, still-applied asked before now still, still.sequenced, still-refused history before now time asked _ _ still)

pub alone-lacks : MayLackClock AllowedAlone
alone-lacks history before now time text lacks still risen = (allowed-lacks history before now time text lacks still risen, still.known, still.sequenced, still-refused history before now time (request.Write text) _ _ still)
