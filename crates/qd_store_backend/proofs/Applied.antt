-- An apply.
use Rattle.std.proofs.Common.{◌≡◌, ℕ, ◌+◌, ◌-◌, ◌≤◌, inl, inr, List, [], ◌++◌, length, Option, Some, None, IfSome, OnOk, Result, Ok, Err, refl, sym, ap, ◌∙◌, subst, arith}
use Rattle.std.specs.List.{range_with_len}
use Rattle.qd_base.specs.declared.request.Request.TheVariants as request
use Rattle.qd_base.specs.declared.request.Reply.{Reply}
use Rattle.qd_base.specs.declared.request.Reply.TheVariants as reply
use Rattle.qd_durable.specs.declared.fault.LogFault.{LogFault}
use Rattle.qd_durable.specs.declared.fault.LogFault.TheVariants as log
use Rattle.qd_io.specs.Clocks.{Timeline}
use Rattle.qd_io.specs.Ends.{HasRisen}
use Rattle.qd_base.specs.declared.op.Entry.{Entry}
use Rattle.qd_session.specs.Alone.{AllowedAlone, MayPend}
use Rattle.qd_session.specs.Legal.{Answers, Handles, done_in}
use Rattle.qd_session.specs.Looks.{look_at}
use Rattle.qd_session.specs.Timing.{want_of_memory}
use Rattle.qd_sequencer.specs.Sequences.{Sequence}
use Rattle.qd_store_backend.specs.Backs.{Back, IsBack, IsLeftOf, IsTold, LeavesNoOther, Parts, ShowsAll, back_shown}
use Rattle.qd_store_backend.specs.declared.parts.Round.{Round}
use Rattle.qd_store_backend.specs.Replies.{RepliesWith}
use Rattle.qd_store_backend.specs.Rounds.{number_in}
use Rattle.qd_store_backend.proofs.Leaving.{left_before, pends_by, told_at}
use Rattle.qd_store_backend.proofs.Handled.{extends_same, own_same}

-- how many transactions there are, and what may have been left behind them, are as they were
module _ {E : Type 0} (old new : Parts) (r : Result ℕ E) (shows : ShowsAll r old new) where
  same_count : length new.owned.store.sequence.refs ≡ length old.owned.store.sequence.refs
  same_count = ap (λ (s : Sequence). length s.refs) shows.sequence

-- what may have been left behind them too
module _ (old new : Back) (is : IsLeftOf new.parts.history new.parts.owned new.left) (kept : IsBack old) (told : IfSome old.parts.history (IsTold old.parts.owned)) (told_now : IfSome new.parts.history (IsTold new.parts.owned)) (same : new.parts.history ≡ old.parts.history) (leaves : LeavesNoOther old.parts.owned new.parts.owned) where
  stays_left : (h : List Entry) → new.parts.history ≡ Some h → (e : Entry) → new.left ≡ Some e → old.left ≡ Some e
  stays_left h at e there =
      let was : old.parts.history ≡ Some h = sym same ∙ at in
      left_before h old.parts.owned new.parts.owned old.left new.left (told_at (IsTold old.parts.owned) old.parts.history h was told) (told_at (IsTold new.parts.owned) new.parts.history h at told_now)
      (subst (λ (o : Option (List Entry)). IsLeftOf o old.parts.owned old.left) was kept.left) (subst (λ (o : Option (List Entry)). IsLeftOf o new.parts.owned new.left) at is) leaves e there

  applied_pends : (clock clock' : Timeline) (n : ℕ) → MayPend new.parts.history (look_at clock (back_shown old)) (look_at clock' (back_shown new)) 0 request.Apply (reply.Applied n)
  applied_pends clock clock' n = pends_by new.parts.history _ _ 0 request.Apply (reply.Applied n) (λ h at e there. stays_left h at e there)

  damaged_pends : (clock clock' : Timeline) (file at : ℕ) → MayPend new.parts.history (look_at clock (back_shown old)) (look_at clock' (back_shown new)) 0 request.Apply (reply.Damaged file at)
  damaged_pends clock clock' file at = pends_by new.parts.history _ _ 0 request.Apply (reply.Damaged file at) (λ h is e there. stays_left h is e there)

  refused_pends : (clock clock' : Timeline) (number place : ℕ) → MayPend new.parts.history (look_at clock (back_shown old)) (look_at clock' (back_shown new)) 0 request.Apply (reply.Refused number place)
  refused_pends clock clock' number place = pends_by new.parts.history _ _ 0 request.Apply (reply.Refused number place) (λ h at e there. inl (stays_left h at e there))

-- an apply that ends in a fault, or finds damage
failed_answers : (old new : Back) (e : LogFault) → new.before ≡ old.before → ShowsAll (Err e) old.parts new.parts → old.parts.owned.storage.faults ≤ new.parts.owned.storage.faults → (r : Reply) → done_in r ≡ []
    → ((clock clock' : Timeline) → AllowedAlone new.parts.history (look_at clock (back_shown old)) (look_at clock' (back_shown new)) 0 request.Apply r)
    → Answers AllowedAlone (back_shown old) (back_shown new) 0 request.Apply r
failed_answers old new e before shows faults r none allowed =
    let count = same_count old.parts new.parts (Err e) shows in
    record {
      grows = record {
        history = extends_same old.parts.history new.parts.history shows.told;
        sequenced = omega (arith, count);
        known = shows.shown.0;
        faults = faults;
      };
      allowed = λ clock clock' later. allowed clock clock';
      own = subst (λ (l : List ℕ). (back_shown new).own ≡ (back_shown old).own ++ l) (sym none)
          (ap (λ b. range_with_len (b + 1) (length new.parts.owned.store.sequence.refs - b)) before ∙ own_same old.before _ _ count);
    }

pub applied_handled : {E : Type 0} (old new : Back) (r : Result ℕ LogFault) (given : Result Reply E) → new.before ≡ old.before → IsBack old → ShowsAll r old.parts new.parts
    → ((file at : ℕ) → r ≡ Err (log.Damaged file at) → old.parts.history ≡ None) → (r ≡ Err log.Vol → HasRisen old.parts.owned.storage.faults new.parts.owned.storage.faults)
    → old.parts.owned.storage.faults ≤ new.parts.owned.storage.faults → IsLeftOf new.parts.history new.parts.owned new.left → IfSome old.parts.history (IsTold old.parts.owned) → IfSome new.parts.history (IsTold new.parts.owned) → LeavesNoOther old.parts.owned new.parts.owned
    → RepliesWith r given → Handles AllowedAlone (back_shown old) (back_shown new) 0 request.Apply given
applied_handled old new (Ok n) given before kept shows sound vol faults left told told_now leaves is =
    let within = kept.within in let all = shows.shown.0 in let shown = shows.shown.1 in let count = same_count old.parts new.parts (Ok n) shows in
    subst (Handles AllowedAlone (back_shown old) (back_shown new) 0 request.Apply) (sym is)
    (record {
      grows = record {
        history = extends_same old.parts.history new.parts.history shows.told;
        sequenced = omega (arith, count);
        known = omega (arith, within, all, shown);
        faults = faults;
      };
      allowed = λ clock clock' later. (((omega (arith, within, all), omega (arith, shown)), omega (arith, all), omega (arith, all, count)), shown, count, applied_pends old new left kept told told_now shows.told leaves clock clock' n);
      own = ap (λ b. range_with_len (b + 1) (length new.parts.owned.store.sequence.refs - b)) before ∙ own_same old.before _ _ count;
    })
applied_handled old new (Err log.Vol) given before kept shows sound vol faults left told told_now leaves is =
    subst (Handles AllowedAlone (back_shown old) (back_shown new) 0 request.Apply) (sym is)
    (failed_answers old new log.Vol before shows faults _ refl (λ clock clock'. (inr (refl, refl, vol refl), shows.shown.0, same_count old.parts new.parts _ shows, refused_pends old new left kept told told_now shows.told leaves clock clock' _ _)))
applied_handled old new (Err (log.Damaged file at)) given before kept shows sound vol faults left told told_now leaves is =
    subst (Handles AllowedAlone (back_shown old) (back_shown new) 0 request.Apply) (sym is)
    (failed_answers old new (log.Damaged file at) before shows faults (reply.Damaged file at) refl (λ clock clock'. (shows.told ∙ sound file at refl, shows.shown.0, same_count old.parts new.parts _ shows, damaged_pends old new left kept told told_now shows.told leaves clock clock' file at)))
applied_handled old new (Err log.Memory) (Ok r) before kept shows sound vol faults left told told_now leaves is = absurd is
applied_handled old new (Err log.Memory) (Err e) before kept shows sound vol faults left told told_now leaves is = failed_answers old new log.Memory before shows faults want_of_memory refl (λ clock clock'. (inl (refl, refl), shows.shown.0, same_count old.parts new.parts _ shows, refused_pends old new left kept told told_now shows.told leaves clock clock' _ _))

-- ---- a round, by the number that it shows

pub sound_number : {P : Type 0} (r : Result Round LogFault) → ((file at : ℕ) → r ≡ Err (log.Damaged file at) → P) → (file at : ℕ) → number_in r ≡ Err (log.Damaged file at) → P
sound_number (Ok round) f file at is = absurd (cc (is))
sound_number (Err fault) f file at is = f file at (let same : fault ≡ log.Damaged file at = cc (is) in ap (λ (x : LogFault). Err x) same)

pub vol_number : {P : Type 0} (r : Result Round LogFault) → (r ≡ Err log.Vol → P) → number_in r ≡ Err log.Vol → P
vol_number (Ok round) f is = absurd (cc (is))
vol_number (Err fault) f is = f (let same : fault ≡ log.Vol = cc (is) in ap (λ (x : LogFault). Err x) same)

-- damage is answered where a round found it
pub replied_damage : {E : Type 0} (r : Result Round LogFault) (given : Result Reply E) (file at : ℕ) → RepliesWith (number_in r) given → given ≡ Ok (reply.Damaged file at) → r ≡ Err (log.Damaged file at)
replied_damage (Ok round) given file at replies is = absurd (let a = replies in cc (a, is))
replied_damage (Err log.Vol) given file at replies is = absurd (let a = replies in cc (a, is))
replied_damage (Err (log.Damaged f a)) given file at replies is = let same = replies in cc (same, is)
replied_damage {E} (Err log.Memory) given file at replies is = absurd (subst (λ (r : Result Reply E). OnOk r ⊥) is replies)
