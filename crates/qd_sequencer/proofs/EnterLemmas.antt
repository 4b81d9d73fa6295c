-- What the putting of an entry, and then of its reference, leaves of a history.
use Rattle.std.proofs.Common.{◌≡◌, ◌⊎◌, inl, inr, ℕ, nat_eq, false, List, [], ◌∷◌, ◌++◌, length, Option, None, Some, Result, Ok, Err, refl, sym, ap, subst, ◌∙◌, arith, take, drop}
use Rattle.std.proofs.lemmas.Bool.Decides.{nat_tests}
use Rattle.qd_base.specs.declared.op.Entry.{Entry}
use Rattle.qd_base.specs.declared.part.WalRef.{WalRef}
use Rattle.qd_base.specs.Lawful.{Lawful}
use Rattle.qd_volume.specs.Disk.{Disk, Image, reads_of}
use Rattle.qd_durable.specs.Moments.{EachNow, LeavesOnly, Moves, SameBut, SameOutside}
use Rattle.qd_durable.specs.Places.{StandsAt}
use Rattle.qd_durable.proofs.Moved.{leaves_both, leaves_weaker, moments_have, moves_both, now_has, but_both}
use Rattle.qd_wal_entry.specs.Spelling.{SpellsEntry}
use Rattle.qd_seq.specs.States.{GivesKnown, GivesOneOf, Knows}
use Rattle.qd_seq.specs.Calls.{Appends}
use Rattle.qd_seq.proofs.Steps.{others_leave}
use Rattle.qd_wal.specs.Puts.{Puts}
use Rattle.qd_wal.specs.Reading.{SpellsAt}
use Rattle.qd_wal.specs.Segments.{file_in, part_at}
use Rattle.qd_wal.proofs.LawLemmas.{one_read}
use Rattle.qd_sequencer.specs.Histories.{AreSpelled, HasPending, IsPending, MayHold, is_log_file}
use Rattle.qd_sequencer.specs.Calls.{ChangesLogs, Enters, IsReady}
use Rattle.qd_sequencer.proofs.Moments.{leaves_and, now_reads}
use Rattle.qd_sequencer.proofs.Held.{all_apart, all_kept, log_alone, log_among, one_kept, segment_among, segment_high, spelled_push}

-- bytes that stand at a place spell what they spell
pub stands_spelled : (bytes image : List ℕ) (at : WalRef) (e : Entry) → at.len ≡ length bytes → SpellsEntry bytes e → StandsAt image at.start bytes → SpellsAt image at e
stands_spelled bytes image at e long spells stands =
    let part : part_at image at ≡ bytes = ap (λ n. take n (drop at.start image)) long ∙ stands in
    record {
      whole = ap length part ∙ sym long;
      spelled = subst (λ (l : List ℕ). SpellsEntry l e) (sym part) spells;
    }

module _ (refs : List WalRef) (h : List Entry) (at : WalRef) (e : Entry) (bytes : List ℕ) where
  -- the entry is put
  module _ {T E : Type 0} (R : Result T E) (before mid : Disk) (puts : Puts R at bytes before mid) (ready : IsReady refs h at e bytes before) where
    put_moves : Moves (SameBut (nat_eq (file_in at))) before mid
    put_moves = but_others before mid puts.touches
      where
        but_others : (a b : Disk) → Moves (SameOutside (file_in at) at.start (length bytes)) a b → Moves (SameBut (nat_eq (file_in at))) a b
        but_others a b moves = record {
          moments = leaves_weaker _ _ a b (λ image from. (from.0, from.1, from.2.others)) moves.moments;
          now = λ image now. let from = moves.now image now in (from.0, from.1, from.2.others);
        }

    apart_from_one : nat_eq (file_in at) 1 ≡ false
    apart_from_one = let high = segment_high at in grind (arith, nat_tests)

    put_log : LeavesOnly before mid (GivesKnown refs None) × Knows refs None mid
    put_log = others_leave (nat_eq (file_in at)) before mid refs None apart_from_one put_moves ready.log

    put_inside : LeavesOnly before mid (AreSpelled refs h)
    put_inside = moments_have (SameOutside (file_in at) at.start (length bytes)) (AreSpelled refs h) (AreSpelled refs h) before mid puts.touches ready.spelled
        (λ earlier image spelled same. all_apart at (length bytes) earlier image same refs h ready.apart spelled)

    pub put_spelled : EachNow mid (AreSpelled refs h)
    put_spelled = now_has (SameOutside (file_in at) at.start (length bytes)) (AreSpelled refs h) (AreSpelled refs h) before mid puts.touches ready.spelled
        (λ earlier image spelled same. all_apart at (length bytes) earlier image same refs h ready.apart spelled)

    pub put_knows : Knows refs None mid
    put_knows = put_log.1

    pub put_holds : LeavesOnly before mid (MayHold refs h (λ x. x ≡ e))
    put_holds = leaves_weaker (λ image. GivesKnown refs None image × AreSpelled refs h image) (MayHold refs h (λ x. x ≡ e)) before mid
        (λ image both. inl (record { gives = both.0; spelled = both.1; lawful = ready.lawful }))
        (leaves_and (GivesKnown refs None) (AreSpelled refs h) before mid put_log.0 put_inside)

    -- the entry, where the put was done
    pub put_entry : EachNow mid (λ image. StandsAt (image (file_in at)) at.start bytes) → EachNow mid (λ image. SpellsAt (image (file_in at)) at e)
    put_entry durable image now = stands_spelled bytes (image (file_in at)) at e ready.long ready.bytes_are (durable image now)

  -- the reference is appended
  module _ {T E : Type 0} (R : Result T E) (pending : Option WalRef) (mid after : Disk) (appends : Appends R refs at pending mid after) (lawful : Lawful h) (next : Lawful (h ++ e ∷ []))
      (knows : Knows refs None mid) (spelled : EachNow mid (AreSpelled refs h)) (entry : EachNow mid (λ image. SpellsAt (image (file_in at)) at e)) where
    Both : Image → Type 0
    Both image = AreSpelled refs h image × SpellsAt (image (file_in at)) at e

    both_kept : (earlier image : Image) → Both earlier → SameBut (nat_eq 1) earlier image → Both image
    unfolding Both
    both_kept earlier image both same = (all_kept refs h earlier image (log_alone earlier image same) both.0, one_kept at e earlier image (log_alone earlier image same) both.1)

    both_mid : EachNow mid Both
    unfolding Both
    both_mid image now = (spelled image now, entry image now)

    holds_one : (image : Image) → GivesOneOf refs at image × Both image → MayHold refs h (λ x. x ≡ e) image
    unfolding Both
    holds_one image (inl gives, both) = inl (record { gives = gives; spelled = both.0; lawful = lawful })
    holds_one image (inr gives, both) = inr (at, e, refl, record { gives = gives; spelled = spelled_push at e image both.1 refs h both.0; lawful = next })

    pub append_holds : LeavesOnly mid after (MayHold refs h (λ x. x ≡ e))
    append_holds = leaves_weaker (λ image. GivesOneOf refs at image × Both image) (MayHold refs h (λ x. x ≡ e)) mid after holds_one
        (leaves_and (GivesOneOf refs at) Both mid after (appends.any_moment knows) (moments_have (SameBut (nat_eq 1)) Both Both mid after appends.elsewhere both_mid both_kept))

    both_after : EachNow after Both
    both_after = now_has (SameBut (nat_eq 1)) Both Both mid after appends.elsewhere both_mid both_kept

    pub append_spelled : EachNow after (AreSpelled refs h)
    unfolding Both
    append_spelled image now = (both_after image now).0

    pub append_pending : (pending ≡ None) ⊎ (pending ≡ Some at) → HasPending pending h after
    unfolding Both
    append_pending (inl none) = subst (λ (p : Option WalRef). HasPending p h after) (sym none) tt
    append_pending (inr some) = subst (λ (p : Option WalRef). HasPending p h after) (sym some) (e, (λ image now. (both_after image now).1), next)

    pub append_own : (pending ≡ None) ⊎ (pending ≡ Some at) → (x : Entry) → IsPending pending after x → x ≡ e
    unfolding Both
    append_own (inl none) x is = absurd (subst (λ (p : Option WalRef). IsPending p after x) none is)
    append_own (inr some) x is =
        let image = reads_of after in
        let now = now_reads after in
        one_read (image (file_in at)) at x e (subst (λ (p : Option WalRef). IsPending p after x) some is image now) (both_after image now).1

    pub append_pushed : EachNow after (AreSpelled (refs ++ at ∷ []) (h ++ e ∷ []))
    unfolding Both
    append_pushed image now = spelled_push at e image (both_after image now).1 refs h (both_after image now).0

-- where the put failed
pub put_failed : {T U E F : Type 0} (refs : List WalRef) (at : WalRef) (bytes : List ℕ) (fault : E) (answer : F) (before after : Disk) → Puts {T = T} {E = E} (Err fault) at bytes before after → Enters {T = U} {E = F} (Err answer) refs at bytes None before after
put_failed {T} {U} {E} {F} refs at bytes fault answer before after puts = record {
  any_moment = λ h e ready. put_holds refs h at e bytes (Err fault) before after puts ready;
  behind = λ h e ready. (put_knows refs h at e bytes (Err fault) before after puts ready, put_spelled refs h at e bytes (Err fault) before after puts ready, tt, λ x none. absurd none);
  elsewhere = segment_among at (length bytes) before after puts.touches;
}

-- where it was done, and then the append
module _ {T E U F : Type 0} (refs : List WalRef) (at : WalRef) (bytes : List ℕ) (done : T) (before mid after : Disk) (puts : Puts {T = T} {E = E} (Ok done) at bytes before mid) where
  module _ (R : Result U F) (pending : Option WalRef) (appends : Appends R refs at pending mid after) where
    both_elsewhere : ChangesLogs before after
    both_elsewhere = moves_both (SameBut is_log_file) (SameBut is_log_file) (SameBut is_log_file) before mid after (λ x y same. same) (but_both is_log_file)
        (segment_among at (length bytes) before mid puts.touches) (log_among mid after appends.elsewhere)

    module _ (h : List Entry) (e : Entry) (ready : IsReady refs h at e bytes before) where
      knows_mid : Knows refs None mid
      knows_mid = put_knows refs h at e bytes (Ok done) before mid puts ready

      spelled_mid : EachNow mid (AreSpelled refs h)
      spelled_mid = put_spelled refs h at e bytes (Ok done) before mid puts ready

      entry_mid : EachNow mid (λ image. SpellsAt (image (file_in at)) at e)
      entry_mid = put_entry refs h at e bytes (Ok done) before mid puts ready puts.durable

      both_hold : LeavesOnly before after (MayHold refs h (λ x. x ≡ e))
      both_hold = leaves_both before mid after (MayHold refs h (λ x. x ≡ e)) (put_holds refs h at e bytes (Ok done) before mid puts ready)
          (append_holds refs h at e bytes R pending mid after appends ready.lawful ready.next knows_mid spelled_mid entry_mid)

  pub append_failed : {V G : Type 0} (fault : F) (answer : G) (pending : Option WalRef) → Appends {T = U} {E = F} (Err fault) refs at pending mid after → (pending ≡ None) ⊎ (pending ≡ Some at) → Enters {T = V} {E = G} (Err answer) refs at bytes pending before after
  append_failed fault answer pending appends which = record {
    any_moment = λ h e ready. both_hold (Err fault) pending appends h e ready;
    behind = λ h e ready. (
      appends.behind (knows_mid (Err fault) pending appends h e ready),
      append_spelled refs h at e bytes (Err fault) pending mid after appends ready.lawful ready.next (knows_mid (Err fault) pending appends h e ready) (spelled_mid (Err fault) pending appends h e ready) (entry_mid (Err fault) pending appends h e ready),
      append_pending refs h at e bytes (Err fault) pending mid after appends ready.lawful ready.next (knows_mid (Err fault) pending appends h e ready) (spelled_mid (Err fault) pending appends h e ready) (entry_mid (Err fault) pending appends h e ready) which,
      append_own refs h at e bytes (Err fault) pending mid after appends ready.lawful ready.next (knows_mid (Err fault) pending appends h e ready) (spelled_mid (Err fault) pending appends h e ready) (entry_mid (Err fault) pending appends h e ready) which,
    );
    elsewhere = both_elsewhere (Err fault) pending appends;
  }

  pub append_done : {V G : Type 0} (n : U) (answer : V) (pending : Option WalRef) → Appends {T = U} {E = F} (Ok n) refs at pending mid after → Enters {T = V} {E = G} (Ok answer) refs at bytes pending before after
  append_done n answer pending appends = record {
    any_moment = λ h e ready. both_hold (Ok n) pending appends h e ready;
    behind = λ h e ready.
        let given = appends.behind (knows_mid (Ok n) pending appends h e ready) in
        let pushed = append_pushed refs h at e bytes (Ok n) pending mid after appends ready.lawful ready.next (knows_mid (Ok n) pending appends h e ready) (spelled_mid (Ok n) pending appends h e ready) (entry_mid (Ok n) pending appends h e ready) in
        ((λ image now. record { gives = given.0 image now; spelled = pushed image now; lawful = ready.next }), given.1, pushed);
    elsewhere = both_elsewhere (Ok n) pending appends;
  }
