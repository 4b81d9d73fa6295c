-- From what a session over frames says of itself to what a run says.
use Rattle.std.proofs.Common.{◌≡◌, ℕ, ◌+◌, ◌<◌, ◌≤◌, ◌⊎◌, inl, inr, List, [], ◌∷◌, ◌++◌, length, map, take, drop, Option, Some, None, Ok, Err, refl, sym, ◌∙◌, ap, subst, arith, suc, ◌-◌}
use Rattle.std.specs.List.{range_with_len}
use Rattle.std.proofs.lemmas.List.{append-nil, append_assoc, take-append-drop, take_all}
use Rattle.std.proofs.Math.Seq.{take-append-add}
use Rattle.qd_store_backend.specs.Backs.{Back, back_shown}
use Rattle.qd_io.specs.Clocks.{Timeline}
use Rattle.qd_io.specs.Ends.{Stream, WritesAll}
use Rattle.qd_io.specs.declared.fault.IoFault.{IoFault}
use Rattle.qd_base.specs.declared.limits.TheConstants.{LAST_OFFSET}
use Rattle.qd_base.specs.declared.op.Entry.{Entry}
use Rattle.qd_base.specs.declared.request.Request.{Request}
use Rattle.qd_base.specs.declared.request.Request.TheVariants as request
use Rattle.qd_base.specs.declared.request.Reply.{Reply}
use Rattle.qd_base.specs.declared.request.Reply.TheVariants as reply
use Rattle.qd_base.specs.Script.{Protocol, Script, Turn, Asks as AsksTurn, Ending, Waiting, Ended, Malformed}
use Rattle.qd_session.specs.declared.ended.Ended.{Ended as EndedBy}
use Rattle.qd_session.specs.declared.ended.Ended.TheVariants as ended
use Rattle.qd_frames.specs.Frames.{Frames, Steps, frame, frames_protocol}
use Rattle.qd_print.specs.Printed.{reply_bytes}
use Rattle.qd_gen.specs.Quieted.{quiet_ending, quiet_protocol, quiet_turn, without_done}
use Rattle.qd_session.specs.Allowed.{Allowed}
use Rattle.qd_session.specs.Alone.{AllowedAlone, CountsAlone, MayLeave, MayPend, SaysOwn}
use Rattle.qd_session.specs.Looks.{Extends, Look}
use Rattle.qd_session.specs.Legal.{Legal, LegalRun, done_numbers}
use Rattle.qd_session.specs.Session.{Dialogue, Faults, IsBad, IsClean, IsCutShort, IsWaiting, IsWrittenUpTo, Moment, Moves, PutTo, Serves, TakenFrom, last_bytes, moment, refusal, requests_in, transcript, with_turns}
use Rattle.qd_top.specs.Frames.{EndsAs, SaysFrames, SpellsFrames, asked_by}
use Rattle.qd_top.specs.Run.{AnswersLast, AppliesAll, CountsReads, CountsWrites, CutRun, IsLeftBy, IsWellFramed, LeavesOwn, RanOver, RefusedRun, Replied, Run, Store, Traffic, WroteUsage, last_printed, look_of, printed, reached, traffic, usage}
use Rattle.qd_top.specs.Status.{status_of}
use Rattle.qd_top.specs.Stores.{store_of}

-- the requests of turns that ask them
requests_in-asked : (print : Reply → List ℕ) (rs : List Request) → requests_in (asked_by print rs) ≡ rs
requests_in-asked print [] = refl
requests_in-asked print (r ∷ rs) = ap (λ (x : List Request). r ∷ x) (requests_in-asked print rs)

-- one reply for each request
matches : (h : Option (List Entry)) (from : Look) (rs : List Request) (replies : List Reply) (upto : Look) → LegalRun AllowedAlone h from rs replies upto → length replies ≡ length rs
matches h from [] [] upto r = refl
matches h from (q ∷ rs) (t ∷ replies) upto r = ap suc (matches h r.0 rs replies upto r.5)
matches h from [] (t ∷ replies) upto r = absurd r
matches h from (q ∷ rs) [] upto r = absurd r

-- the transcript of turns that ask requests is the replies, printed
transcript-asked : (print : Reply → List ℕ) (rs : List Request) (replies : List Reply) → length replies ≡ length rs → transcript (asked_by print rs) replies ≡ printed print replies
transcript-asked print [] [] e = refl
transcript-asked print [] (t ∷ replies) e = absurd (omega (arith, e))
transcript-asked print (r ∷ rs) [] e = absurd (omega (arith, e))
transcript-asked print (r ∷ rs) (t ∷ replies) e = ap (λ (x : List ℕ). print t ++ x) (transcript-asked print rs replies (omega (arith, e)))

-- the bytes of the last one are those of the last reply
last-asked : (print : Reply → List ℕ) (these : List ℕ) (r : Request) (rs : List Request) (t : Reply) (replies : List Reply) → length (t ∷ replies) ≡ length (r ∷ rs) → last_bytes these (asked_by print (r ∷ rs)) (t ∷ replies) ≡ last_printed print (t ∷ replies)
last-asked print these r [] t [] e = refl
last-asked print these r [] t (u ∷ replies) e = absurd (omega (arith, e))
last-asked print these r (q ∷ rs) t [] e = absurd (omega (arith, e))
last-asked print these r (q ∷ rs) t (u ∷ replies) e = last-asked print (print t) q rs u replies (omega (arith, e))

last-is : (print : Reply → List ℕ) (rs : List Request) (replies : List Reply) → length replies ≡ length rs → last_bytes [] (asked_by print rs) replies ≡ last_printed print replies
last-is print [] [] e = refl
last-is print [] (t ∷ replies) e = absurd (omega (arith, e))
last-is print (r ∷ rs) [] e = absurd (omega (arith, e))
last-is print (r ∷ rs) (t ∷ replies) e = last-asked print [] r rs t replies e

-- what was written of some bytes was written of the same
written_same : (all all' last last' written : List ℕ) → all ≡ all' → last ≡ last' → IsWrittenUpTo all last written → IsWrittenUpTo all' last' written
written_same all all' last last' written a l w = record { sent = w.sent; missing = w.missing; front = sym a ∙ w.front; end_of_last = sym l ∙ w.end_of_last }

-- turns that begin those of requests are those of the first of them
pub record Split (print : Reply → List ℕ) (turns : List Turn) (qs : List Request) : Type 0 where
  pub front : List Request
  pub later : List Request
  pub turns_are : turns ≡ asked_by print front
  pub whole : qs ≡ front ++ later

split_asked : (print : Reply → List ℕ) (turns more : List Turn) (qs : List Request) → turns ++ more ≡ asked_by print qs → Split print turns qs
split_asked print [] more qs e = record { front = []; later = qs; turns_are = refl; whole = refl }
split_asked print (t ∷ turns) more [] e = absurd (cc (e))
split_asked print (t ∷ turns) more (q ∷ qs) e =
    let r = split_asked print turns more qs (cc (e)) in
    let head : t ≡ AsksTurn q print = cc (e) in
    record { front = q ∷ r.front; later = r.later; turns_are = ap (λ (x : Turn). x ∷ turns) head ∙ ap (λ (x : List Turn). AsksTurn q print ∷ x) r.turns_are; whole = ap (λ (x : List Request). q ∷ x) r.whole }

-- a refusal is printed as replies are
abbrev PrintsReplies : Ending → Type 0
PrintsReplies (Waiting rest place f) = f ≡ reply_bytes
PrintsReplies Ended = Unit {0}
PrintsReplies (Malformed place f) = f ≡ reply_bytes

prints_replies : (at : ℕ) (bytes : List ℕ) (rs : List Request) (e : Ending) → Steps at bytes rs e → PrintsReplies e
prints_replies at bytes [] (Waiting rest place f) s = s.2
prints_replies at bytes [] Ended s = tt
prints_replies at bytes [] (Malformed place f) s = s.1
prints_replies at bytes (request.End ∷ rs) e s = subst PrintsReplies (sym s.3) tt
prints_replies at bytes (request.Write text ∷ rs) e s = prints_replies (at + length (frame (request.Write text))) s.0 rs e s.3
prints_replies at bytes (request.Sql text ∷ rs) e s = prints_replies (at + length (frame (request.Sql text))) s.0 rs e s.3
prints_replies at bytes (request.Apply ∷ rs) e s = prints_replies (at + length (frame request.Apply)) s.0 rs e s.3

-- a refusal of the bytes at a place, by a script that ends so, is that of the bytes
record Refusal (input : Option (List ℕ)) (taken : List ℕ) (e : Ending) (place : ℕ) (f : Reply → List ℕ) : Type 0 where
  bad : IsBad input taken e place reply_bytes
  bytes : f (refusal place) ≡ reply_bytes (refusal place)

-- a script of frames ends as its bytes do
module _ (input : Option (List ℕ)) (taken : List ℕ) where
  refused_as : (e e' : Ending) (place : ℕ) (f : Reply → List ℕ) → PrintsReplies e → EndsAs e e' → IsBad input taken e' place f → Refusal input taken e place f
  refused_as (Waiting rest at g) (Waiting rest' at' g') place f p alike bad = record {
    bad = (subst (λ (x : List ℕ). 0 < length x) alike.0 bad.0, bad.1, sym alike.1 ∙ bad.2, p);
    bytes = ap (λ (x : Reply → List ℕ). x (refusal place)) (sym bad.3) ∙ alike.2 place;
  }
  refused_as (Malformed at g) (Malformed at' g') place f p alike bad = record {
    bad = (sym alike.0 ∙ bad.0, p);
    bytes = ap (λ (x : Reply → List ℕ). x (refusal place)) (sym bad.1) ∙ alike.1 place;
  }
  refused_as Ended Ended place f p alike bad = absurd bad
  refused_as (Waiting rest at g) Ended place f p alike bad = absurd alike
  refused_as (Waiting rest at g) (Malformed at' g') place f p alike bad = absurd alike
  refused_as Ended (Waiting rest' at' g') place f p alike bad = absurd alike
  refused_as Ended (Malformed at' g') place f p alike bad = absurd alike
  refused_as (Malformed at g) (Waiting rest' at' g') place f p alike bad = absurd alike
  refused_as (Malformed at g) Ended place f p alike bad = absurd alike

  clean_as : (e e' : Ending) → EndsAs e e' → IsClean input taken e' → IsClean input taken e
  clean_as (Waiting rest at g) (Waiting rest' at' g') alike clean = (sym alike.0 ∙ clean.0, clean.1)
  clean_as (Malformed at g) (Malformed at' g') alike clean = clean
  clean_as Ended e' alike clean = tt
  clean_as (Waiting rest at g) Ended alike clean = absurd alike
  clean_as (Waiting rest at g) (Malformed at' g') alike clean = absurd alike
  clean_as (Malformed at g) (Waiting rest' at' g') alike clean = absurd alike
  clean_as (Malformed at g) Ended alike clean = absurd alike

waiting_as : (e e' : Ending) → EndsAs e e' → IsWaiting e' → IsWaiting e
waiting_as (Waiting rest at g) e' alike waits = tt
waiting_as (Malformed at g) (Malformed at' g') alike waits = waits
waiting_as Ended Ended alike waits = waits
waiting_as (Malformed at g) (Waiting rest' at' g') alike waits = absurd alike
waiting_as (Malformed at g) Ended alike waits = absurd alike
waiting_as Ended (Waiting rest' at' g') alike waits = absurd alike
waiting_as Ended (Malformed at' g') alike waits = absurd alike

-- a new front of frames, and one that prints no acknowledgements, read frames
abbrev new_frames : Frames
new_frames = record { waiting = []; start = 0 }

as_it_ends : (e : Ending) → PrintsReplies e → EndsAs e e
as_it_ends (Waiting rest at f) p = (refl, refl, λ place. ap (λ (x : Reply → List ℕ). x (refusal place)) p)
as_it_ends Ended p = tt
as_it_ends (Malformed at f) p = (refl, λ place. ap (λ (x : Reply → List ℕ). x (refusal place)) p)

as_it_ends_quietly : (e : Ending) → PrintsReplies e → EndsAs e (quiet_ending e)
as_it_ends_quietly (Waiting rest at f) p = (refl, refl, λ place. ap (λ (x : Reply → List ℕ). x (refusal place)) p)
as_it_ends_quietly Ended p = tt
as_it_ends_quietly (Malformed at f) p = (refl, λ place. ap (λ (x : Reply → List ℕ). x (refusal place)) p)

quiet_asked : (rs : List Request) → map quiet_turn (asked_by reply_bytes rs) ≡ asked_by (without_done reply_bytes) rs
quiet_asked [] = refl
quiet_asked (r ∷ rs) = ap (λ (x : List Turn). AsksTurn r (without_done reply_bytes) ∷ x) (quiet_asked rs)

pub frames_spell-frames : (f : Frames) → f ≡ new_frames → SpellsFrames reply_bytes (frames_protocol f)
frames_spell-frames f new = subst (λ (x : Frames). SpellsFrames reply_bytes (frames_protocol x)) (sym new) (λ bytes said h. record {
  requests = h.0;
  ending = said.ending;
  turns_are = h.1;
  ends_as = as_it_ends said.ending (prints_replies 0 bytes h.0 said.ending h.2);
  spelled = h.2;
})

pub quiet-spell-frames : (f : Frames) → f ≡ new_frames → SpellsFrames (without_done reply_bytes) (quiet_protocol (frames_protocol f))
quiet-spell-frames f new = subst (λ (x : Frames). SpellsFrames (without_done reply_bytes) (quiet_protocol (frames_protocol x))) (sym new) (λ bytes said h. record {
  requests = h.1.0;
  ending = h.0.ending;
  turns_are = ap (λ (x : Script). x.turns) h.2 ∙ ap (λ (x : List Turn). map quiet_turn x) h.1.1 ∙ quiet_asked h.1.0;
  ends_as = subst (λ (x : Ending). EndsAs h.0.ending x) (sym (ap (λ (x : Script). x.ending) h.2)) (as_it_ends_quietly h.0.ending (prints_replies 0 bytes h.1.0 h.0.ending h.1.2));
  spelled = h.1.2;
})

-- ---- what one session alone does to the numbers

-- what an acknowledgement, and an apply, say of the numbers
done-says : (h : Option (List Entry)) (a b : Look) (time : ℕ) (q : Request) (m : ℕ) → Allowed h a b time q (reply.Done m) → (m ≡ b.sequenced) × (a.sequenced < m)
done-says h a b time (request.Write text) m x = (x.0, x.1)
done-says h a b time (request.Sql text) m x = (x.3, x.4)
done-says h a b time request.Apply m x = absurd x
done-says h a b time request.End m x = absurd x

applied-says : (h : Option (List Entry)) (a b : Look) (time : ℕ) (q : Request) (m : ℕ) → Allowed h a b time q (reply.Applied m) → (a.sequenced ≤ m) × (m ≤ b.sequenced)
applied-says h a b time (request.Write text) m x = absurd x
applied-says h a b time (request.Sql text) m x = absurd x
applied-says h a b time request.Apply m x = (x.1, x.2)
applied-says h a b time request.End m x = absurd x

-- the acknowledged numbers follow one another, from the first behind those that were there
record Counted (from upto : ℕ) (replies : List Reply) : Type 0 where
  grows : from ≤ upto
  numbers : done_numbers replies ≡ range_with_len (from + 1) (upto - from)

same_numbers : (from now upto : ℕ) (replies : List Reply) → now ≡ from → Counted now upto replies → Counted from upto replies
same_numbers from now upto replies is c = subst (λ (n : ℕ). Counted n upto replies) is c

next_number : (from now upto m : ℕ) (replies : List Reply) → m ≡ now → now ≡ from + 1 → Counted now upto replies → Counted from upto (reply.Done m ∷ replies)
next_number from now upto m replies is more c =
    let le = c.grows in
    let size : upto - from ≡ suc (upto - now) = omega (arith, more, le) in
    record {
      grows = omega (arith, more, le);
      numbers = ap (λ (l : List ℕ). m ∷ l) (c.numbers ∙ ap (λ (n : ℕ). range_with_len (n + 1) (upto - now)) more)
          ∙ ap (λ (n : ℕ). n ∷ range_with_len (from + 1 + 1) (upto - now)) (is ∙ more) ∙ ap (λ (n : ℕ). range_with_len (from + 1) n) (sym size);
    }

counted : (h : Option (List Entry)) (from : Look) (requests : List Request) (replies : List Reply) (upto : Look) → LegalRun AllowedAlone h from requests replies upto → Counted from.sequenced upto.sequenced replies
counted h from [] [] upto r =
    let same : upto.sequenced ≡ from.sequenced = ap (λ (x : Look). x.sequenced) r in
    let none : 0 ≡ upto.sequenced - from.sequenced = omega (arith, same) in
    record { grows = omega (arith, same); numbers = ap (λ (n : ℕ). range_with_len (from.sequenced + 1) n) none }
counted h from [] (t ∷ replies) upto r = absurd r
counted h from (q ∷ requests) [] upto r = absurd r
counted h from (q ∷ requests) (reply.Done m ∷ replies) upto r = next_number from.sequenced _ _ m replies (done-says h from r.0 r.1 q m r.4.0).0 r.4.2 (counted h r.0 requests replies upto r.5)
counted h from (q ∷ requests) (reply.Applied m ∷ replies) upto r = let c = same_numbers from.sequenced _ _ replies r.4.2 (counted h r.0 requests replies upto r.5) in record { grows = c.grows; numbers = c.numbers }
counted h from (q ∷ requests) (reply.Rows m table ∷ replies) upto r = let c = same_numbers from.sequenced _ _ replies r.4.2 (counted h r.0 requests replies upto r.5) in record { grows = c.grows; numbers = c.numbers }
counted h from (q ∷ requests) (reply.Refused number place ∷ replies) upto r = let c = same_numbers from.sequenced _ _ replies r.4.2 (counted h r.0 requests replies upto r.5) in record { grows = c.grows; numbers = c.numbers }
counted h from (q ∷ requests) (reply.QueryRefused m number place ∷ replies) upto r = let c = same_numbers from.sequenced _ _ replies r.4.2 (counted h r.0 requests replies upto r.5) in record { grows = c.grows; numbers = c.numbers }
counted h from (q ∷ requests) (reply.Damaged file at ∷ replies) upto r = let c = same_numbers from.sequenced _ _ replies r.4.2 (counted h r.0 requests replies upto r.5) in record { grows = c.grows; numbers = c.numbers }
counted h from (q ∷ requests) (reply.Bye ∷ replies) upto r = let c = same_numbers from.sequenced _ _ replies r.4.2 (counted h r.0 requests replies upto r.5) in record { grows = c.grows; numbers = c.numbers }

-- each apply gives all that were acknowledged before it
applies-all : (h : Option (List Entry)) (from : Look) (requests : List Request) (replies : List Reply) (upto : Look) → LegalRun AllowedAlone h from requests replies upto → AppliesAll from.sequenced replies
applies-all h from [] [] upto r = tt
applies-all h from [] (t ∷ replies) upto r = absurd r
applies-all h from (q ∷ requests) [] upto r = absurd r
applies-all h from (q ∷ requests) (reply.Done m ∷ replies) upto r = subst (λ (n : ℕ). AppliesAll n replies) r.4.2 (applies-all h r.0 requests replies upto r.5)
applies-all h from (q ∷ requests) (reply.Applied m ∷ replies) upto r =
    let says = applied-says h from r.0 r.1 q m r.4.0 in
    let same = r.4.2 in
    (omega (arith, says.0, says.1, same), subst (λ (n : ℕ). AppliesAll n replies) r.4.2 (applies-all h r.0 requests replies upto r.5))
applies-all h from (q ∷ requests) (reply.Rows m table ∷ replies) upto r = subst (λ (n : ℕ). AppliesAll n replies) r.4.2 (applies-all h r.0 requests replies upto r.5)
applies-all h from (q ∷ requests) (reply.Refused number place ∷ replies) upto r = subst (λ (n : ℕ). AppliesAll n replies) r.4.2 (applies-all h r.0 requests replies upto r.5)
applies-all h from (q ∷ requests) (reply.QueryRefused m number place ∷ replies) upto r = subst (λ (n : ℕ). AppliesAll n replies) r.4.2 (applies-all h r.0 requests replies upto r.5)
applies-all h from (q ∷ requests) (reply.Damaged file at ∷ replies) upto r = subst (λ (n : ℕ). AppliesAll n replies) r.4.2 (applies-all h r.0 requests replies upto r.5)
applies-all h from (q ∷ requests) (reply.Bye ∷ replies) upto r = subst (λ (n : ℕ). AppliesAll n replies) r.4.2 (applies-all h r.0 requests replies upto r.5)

-- each query is over the last apply
answers-last : (h : Option (List Entry)) (from : Look) (requests : List Request) (replies : List Reply) (upto : Look) → LegalRun AllowedAlone h from requests replies upto → AnswersLast from.known requests replies
answers-last h from [] [] upto r = tt
answers-last h from [] (t ∷ replies) upto r = absurd r
answers-last h from (q ∷ requests) [] upto r = absurd r
answers-last h from (q ∷ requests) (reply.Applied m ∷ replies) upto r =
    subst (λ (n : ℕ). AnswersLast n requests replies) r.4.1 (answers-last h r.0 requests replies upto r.5)
answers-last h from (q ∷ requests) (reply.Rows m table ∷ replies) upto r =
    (r.4.1.1, subst (λ (n : ℕ). AnswersLast n requests replies) r.4.1.0 (answers-last h r.0 requests replies upto r.5))
answers-last h from (q ∷ requests) (reply.QueryRefused m number place ∷ replies) upto r =
    (r.4.1.1, subst (λ (n : ℕ). AnswersLast n requests replies) r.4.1.0 (answers-last h r.0 requests replies upto r.5))
answers-last h from (q ∷ requests) (reply.Done m ∷ replies) upto r = (r.0.known, r.4.1, answers-last h r.0 requests replies upto r.5)
answers-last h from (q ∷ requests) (reply.Refused number place ∷ replies) upto r = (r.0.known, r.4.1, answers-last h r.0 requests replies upto r.5)
answers-last h from (q ∷ requests) (reply.Damaged file at ∷ replies) upto r = (r.0.known, r.4.1, answers-last h r.0 requests replies upto r.5)
answers-last h from (q ∷ requests) (reply.Bye ∷ replies) upto r = (r.0.known, r.4.1, answers-last h r.0 requests replies upto r.5)

-- what is left behind the others: what may have been before these replies, none of which acknowledges a write, or a write that failed
module _ (h : List Entry) (e : Entry) where
  abbrev IsLeft : Look → List Request → List Reply → ℕ → Type 0
  IsLeft from requests replies upto = ((from.pending ≡ Some e) × (done_numbers replies ≡ []) × (upto ≡ from.sequenced)) ⊎ IsLeftBy h upto requests replies e

  left_one : (from mid : Look) (time upto : ℕ) (q : Request) (t : Reply) (requests : List Request) (replies : List Reply) → MayPend (Some h) from mid time q t → CountsAlone from mid t → IsLeft mid requests replies upto → IsLeft from (q ∷ requests) (t ∷ replies) upto
  left_one from mid time upto q t requests replies may counts (inr by) = inr (inr by)
  left_one from mid time upto q (reply.Done n) requests replies may counts (inl (left, none, same)) = absurd (may e left)
  left_one from mid time upto q (reply.Refused number place) requests replies may counts (inl (left, none, same)) = refused (may e left)
    where
      refused : MayLeave h from mid time q (reply.Refused number place) e → IsLeft from (q ∷ requests) (reply.Refused number place ∷ replies) upto
      refused (inl was) = inl (was, none, same ∙ counts)
      refused (inr (leaves, own)) = inr (inl ((leaves, time, subst (λ (n : ℕ). SaysOwn h n time q e) (sym same) own), none))
  left_one from mid time upto q (reply.Rows n table) requests replies may counts (inl (left, none, same)) = inl (may e left, none, same ∙ counts)
  left_one from mid time upto q (reply.Applied n) requests replies may counts (inl (left, none, same)) = inl (may e left, none, same ∙ counts)
  left_one from mid time upto q (reply.QueryRefused n number place) requests replies may counts (inl (left, none, same)) = inl (may e left, none, same ∙ counts)
  left_one from mid time upto q (reply.Damaged file at) requests replies may counts (inl (left, none, same)) = inl (may e left, none, same ∙ counts)
  left_one from mid time upto q reply.Bye requests replies may counts (inl (left, none, same)) = inl (may e left, none, same ∙ counts)

  left_all : (from : Look) (requests : List Request) (replies : List Reply) (upto : Look) → LegalRun AllowedAlone (Some h) from requests replies upto → upto.pending ≡ Some e → IsLeft from requests replies upto.sequenced
  left_all from [] [] upto r left = inl (sym (ap (λ (x : Look). x.pending) r) ∙ left, refl, ap (λ (x : Look). x.sequenced) r)
  left_all from [] (t ∷ replies) upto r left = absurd r
  left_all from (q ∷ requests) [] upto r left = absurd r
  left_all from (q ∷ requests) (t ∷ replies) upto r left = left_one from r.0 r.1 upto.sequenced q t requests replies r.4.3 r.4.2 (left_all r.0 requests replies upto r.5 left)

leaves-own : (history : Option (List Entry)) (before after : Store) (requests : List Request) (replies : List Reply) → LegalRun AllowedAlone history (look_of before) requests replies (look_of after) → LeavesOwn history before after requests replies
leaves-own None before after requests replies r = tt
leaves-own (Some h) before after requests replies r = λ e left. by e (left_all h e (look_of before) requests replies (look_of after) r left)
  where
    by : (e : Entry) → IsLeft h e (look_of before) requests replies after.sequenced → (before.pending ≡ Some e) ⊎ IsLeftBy h after.sequenced requests replies e
    by e (inl was) = inl was.0
    by e (inr left) = inr left

-- the replies of a session alone over a store
pub replied-from_legal : (before after : Store) (requests : List Request) (replies : List Reply) → Extends before.history after.history → Legal AllowedAlone after.history (look_of before) (look_of after) requests replies → Replied before after requests replies
replied-from_legal before after requests replies grows l = record {
  legal = l;
  own = record { grows = grows; numbers = (counted after.history (look_of before) requests replies (look_of after) l.run).numbers };
  applies = applies-all after.history (look_of before) requests replies (look_of after) l.run;
  answers = answers-last after.history (look_of before) requests replies (look_of after) l.run;
  left = leaves-own after.history before after requests replies l.run;
}

-- every text goes on to some script
abbrev Total : Protocol → Type 0
Total p = (more : List ℕ) → (s : Script) × p.spells more s

module _ (print : Reply → List ℕ) (first later : Protocol) (reads : SpellsFrames print first) (total : Total later) (b b' : Back) (c c' : Timeline) (grows : Extends b.parts.history b'.parts.history) (wire wire' : Stream) where
  abbrev before : Store
  before = store_of b c

  abbrev after : Store
  after = store_of b' c'

  abbrev moved_by : Traffic
  moved_by = traffic wire wire' wire wire'

  abbrev first_moment : Moment
  first_moment = moment first (back_shown b) wire c

  abbrev last_moment : Moment
  last_moment = moment later (back_shown b') wire' c'

  abbrev Whole : List ℕ → Type 0
  Whole taken = Dialogue AllowedAlone first_moment last_moment taken

  -- what a whole session read
  abbrev said : (taken : List ℕ) (d : Whole taken) → SaysFrames print taken d.script
  said taken d = reads taken d.script d.spelled

  legal_of : (turns : List Turn) (rs : List Request) (replies : List Reply) → turns ≡ asked_by print rs
      → Legal AllowedAlone after.history (look_of before) (look_of after) (requests_in turns) replies → Legal AllowedAlone after.history (look_of before) (look_of after) rs replies
  legal_of turns rs replies e l = subst (λ (x : List Request). Legal AllowedAlone after.history (look_of before) (look_of after) x replies) (ap requests_in e ∙ requests_in-asked print rs) l

  -- a whole session is a run
  abbrev run_of : (taken : List ℕ) → TakenFrom wire.input wire'.input taken → length taken ≤ LAST_OFFSET → Whole taken → Run before after moved_by
  run_of taken from short d = record {
    taken = taken;
    requests = (said taken d).requests;
    ending = (said taken d).ending;
    replies = d.replies;
    from = from;
    short = short;
    spelled = (said taken d).spelled;
    replied = replied-from_legal before after (said taken d).requests d.replies grows (legal_of d.script.turns (said taken d).requests d.replies (said taken d).turns_are d.legal);
  }

  -- the bytes of turns with their replies are the replies, printed
  written_as : (turns : List Turn) (rs : List Request) (replies : List Reply) → turns ≡ asked_by print rs
      → Legal AllowedAlone after.history (look_of before) (look_of after) (requests_in turns) replies → transcript turns replies ≡ printed print replies
  written_as turns rs replies e l =
      ap (λ (ts : List Turn). transcript ts replies) e ∙ transcript-asked print rs replies (matches after.history (look_of before) rs replies (look_of after) (legal_of turns rs replies e l).run)

  last_as : (turns : List Turn) (rs : List Request) (replies : List Reply) → turns ≡ asked_by print rs
      → Legal AllowedAlone after.history (look_of before) (look_of after) (requests_in turns) replies → last_bytes [] turns replies ≡ last_printed print replies
  last_as turns rs replies e l =
      ap (λ (ts : List Turn). last_bytes [] ts replies) e ∙ last-is print rs replies (matches after.history (look_of before) rs replies (look_of after) (legal_of turns rs replies e l).run)

  written_is : (taken : List ℕ) (d : Whole taken) → transcript d.script.turns d.replies ≡ printed print d.replies
  written_is taken d = written_as d.script.turns (said taken d).requests d.replies (said taken d).turns_are d.legal

  refusal_of : (taken : List ℕ) (d : Whole taken) (place : ℕ) (f : Reply → List ℕ) → IsBad wire.input taken d.script.ending place f → Refusal wire.input taken (said taken d).ending place f
  refusal_of taken d place f bad =
      let s = said taken d in
      refused_as wire.input taken s.ending d.script.ending place f (prints_replies 0 taken s.requests s.ending s.spelled) s.ends_as bad

  -- the bytes of a session that ended badly are the replies and the refusal
  refused_is : (taken : List ℕ) (d : Whole taken) (place : ℕ) (f : Reply → List ℕ) → f (refusal place) ≡ reply_bytes (refusal place)
      → transcript d.script.turns d.replies ++ f (refusal place) ≡ printed print d.replies ++ reply_bytes (refusal place)
  refused_is taken d place f e = ap (λ (x : List ℕ). x ++ f (refusal place)) (written_is taken d) ∙ ap (λ (x : List ℕ). printed print d.replies ++ x) e

  cut_of : (taken written : List ℕ) → Moves wire wire' taken written → length taken ≤ LAST_OFFSET
      → IsCutShort AllowedAlone first_moment last_moment taken written → CutRun print before after moved_by
  cut_of taken written moved short (inl (g, w)) =
      let t = total (g.unfed ++ []) in
      let q = reads (taken ++ []) (with_turns g.turns t.0) (g.begins [] t.0 t.1) in
      let s = split_asked print g.turns t.0.turns q.requests q.turns_are in
      record {
        taken = taken;
        requests = s.front;
        later = s.later;
        ending = q.ending;
        replies = g.replies;
        written = written;
        from = moved.from;
        short = short;
        spelled = subst (λ (rs : List Request). Steps 0 taken rs q.ending) s.whole (subst (λ (x : List ℕ). Steps 0 x q.requests q.ending) (append-nil taken) q.spelled);
        replied = replied-from_legal before after s.front g.replies grows (legal_of g.turns s.front g.replies s.turns_are g.legal);
        put = moved.to;
        front = inl (written_same _ _ _ _ written (written_as g.turns s.front g.replies s.turns_are g.legal) (last_as g.turns s.front g.replies s.turns_are g.legal) w);
      }
  cut_of taken written moved short (inr (inl (d, w))) =
      let r = run_of taken moved.from short d in
      record {
        taken = taken;
        requests = r.requests;
        later = [];
        ending = r.ending;
        replies = r.replies;
        written = written;
        from = moved.from;
        short = short;
        spelled = subst (λ (rs : List Request). Steps 0 taken rs r.ending) (sym (append-nil r.requests)) r.spelled;
        replied = r.replied;
        put = moved.to;
        front = inl (written_same _ _ _ _ written (written_is taken d) (last_as d.script.turns (said taken d).requests d.replies (said taken d).turns_are d.legal) w);
      }
  cut_of taken written moved short (inr (inr (d, place, f, bad, w))) =
      let r = run_of taken moved.from short d in
      let refused = refusal_of taken d place f bad in
      record {
        taken = taken;
        requests = r.requests;
        later = [];
        ending = r.ending;
        replies = r.replies;
        written = written;
        from = moved.from;
        short = short;
        spelled = subst (λ (rs : List Request). Steps 0 taken rs r.ending) (sym (append-nil r.requests)) r.spelled;
        replied = r.replied;
        put = moved.to;
        front = inr (refl, place, refused.bad, written_same _ _ _ _ written (refused_is taken d place f refused.bytes) refused.bytes w);
      }

  pub ran : (how : EndedBy) → Serves AllowedAlone first_moment last_moment how → RanOver print before after moved_by (status_of how)
  ran ended.Finished s =
      let c = s.concluded in (
        run_of s.taken s.moved.from s.short c.0,
        clean_as wire.input s.taken (said s.taken c.0).ending c.0.script.ending (said s.taken c.0).ends_as c.1,
        subst (λ (x : List ℕ). PutTo wire.output wire'.output x) (c.2 ∙ written_is s.taken c.0) s.moved.to,
      )
  ran ended.BadFrame s =
      let c = s.concluded in
      let refused = refusal_of s.taken c.0 c.1 c.2 c.3 in (
        run_of s.taken s.moved.from s.short c.0,
        c.1,
        refused.bad,
        subst (λ (x : List ℕ). PutTo wire.output wire'.output x) (c.4 ∙ refused_is s.taken c.0 c.1 c.2 refused.bytes) s.moved.to,
      )
  ran ended.ReadFault s =
      let c = s.concluded in (
        run_of s.taken s.moved.from s.short c.0,
        waiting_as (said s.taken c.0).ending c.0.script.ending (said s.taken c.0).ends_as c.1,
        subst (λ (x : List ℕ). PutTo wire.output wire'.output x) (c.2 ∙ written_is s.taken c.0) s.moved.to,
      )
  ran ended.WriteFault s = cut_of s.taken s.written s.moved s.short s.concluded
  ran ended.Memory s = cut_of s.taken s.written s.moved s.short s.concluded

-- the usage line was written, or a prefix of it
pub usage-from_writes_all : (before now : Option (List ℕ)) (line : List ℕ) → line ≡ usage → WritesAll {T = Unit {0}} {E = IoFault} before now line (Ok tt) → WroteUsage before now []
usage-from_writes_all None now line e h = (usage, tt, sym (append-nil usage))
usage-from_writes_all (Some before) now line e h = (line, h, sym e ∙ sym (append-nil line))

pub usage-from_fault : (before now : Option (List ℕ)) (line : List ℕ) (f : IoFault) → line ≡ usage → WritesAll {T = Unit {0}} {E = IoFault} before now line (Err f) → (missing : List ℕ) × WroteUsage before now missing
usage-from_fault None now line f e h = ([], (usage, tt, sym (append-nil usage)))
usage-from_fault (Some before) now line f e h = (drop h.0 line, (take h.0 line, h.2, sym e ∙ sym (take-append-drop h.0 line)))

-- a line was written as far as it was
pub cut-from_fault : (was now : Option (List ℕ)) (line whole : List ℕ) (f : IoFault) → line ≡ whole → WritesAll {T = Unit {0}} {E = IoFault} was now line (Err f) → (bytes missing : List ℕ) × PutTo was now bytes × (whole ≡ bytes ++ missing)
cut-from_fault None now line whole f e h = (whole, [], tt, sym (append-nil whole))
cut-from_fault (Some was) now line whole f e h = (take h.0 line, drop h.0 line, h.2, sym e ∙ sym (take-append-drop h.0 line))

-- bytes that begin no request at some place begin none there where more follows
malformed_more : (at : ℕ) (a b : List ℕ) (rs : List Request) (place : ℕ) (f : Reply → List ℕ) → Steps at a rs (Malformed place f) → Steps at (a ++ b) rs (Malformed place f)
malformed_more at a b [] place f s = (s.0, s.1, λ r more tail framed e. s.2 r (b ++ more) tail framed (sym (append_assoc a b more) ∙ e))
malformed_more at a b (request.End ∷ rs) place f s = absurd (cc (s.3))
malformed_more at a b (request.Write text ∷ rs) place f s =
    (s.0 ++ b, s.1, ap (λ (x : List ℕ). x ++ b) s.2 ∙ append_assoc (frame (request.Write text)) s.0 b, malformed_more (at + length (frame (request.Write text))) s.0 b rs place f s.3)
malformed_more at a b (request.Sql text ∷ rs) place f s =
    (s.0 ++ b, s.1, ap (λ (x : List ℕ). x ++ b) s.2 ∙ append_assoc (frame (request.Sql text)) s.0 b, malformed_more (at + length (frame (request.Sql text))) s.0 b rs place f s.3)
malformed_more at a b (request.Apply ∷ rs) place f s =
    (s.0 ++ b, s.1, ap (λ (x : List ℕ). x ++ b) s.2 ∙ append_assoc (frame request.Apply) s.0 b, malformed_more (at + length (frame request.Apply)) s.0 b rs place f s.3)

-- an input of whole frames doesn't end badly
module _ (bytes taken left : List ℕ) (rs : List Request) (place : ℕ) (whole : bytes ≡ taken ++ left) (short : length taken ≤ LAST_OFFSET) (well : IsWellFramed (Some bytes)) where
  -- as far as offsets reach, the bytes begin with those taken
  reached_is : reached bytes ≡ taken ++ take (LAST_OFFSET - length taken) left
  reached_is =
      let split : LAST_OFFSET ≡ length taken + (LAST_OFFSET - length taken) = omega (arith, short) in
      ap (take LAST_OFFSET) whole ∙ ap (λ (n : ℕ). take n (taken ++ left)) split ∙ take-append-add taken left (LAST_OFFSET - length taken)

  -- where the input has ended, the bytes taken are all that offsets reach
  all_reached : (bytes ≡ taken) ⊎ (length taken ≡ LAST_OFFSET) → reached bytes ≡ taken
  all_reached (inl all) = ap (take LAST_OFFSET) all ∙ take_all LAST_OFFSET taken short
  all_reached (inr full) =
      let none : LAST_OFFSET - length taken ≡ 0 = omega (arith, full) in
      reached_is ∙ ap (λ (n : ℕ). taken ++ take n left) none ∙ append-nil taken

  not_bad : (e : Ending) → Steps 0 taken rs e → IsBad (Some bytes) taken e place reply_bytes → ⊥
  not_bad Ended s bad = bad
  not_bad (Waiting rest at f) s (some, over, at_is, f_is) =
      let all : reached bytes ≡ taken = all_reached over in
      let clean = well rs (Waiting rest at f) (subst (λ (x : List ℕ). Steps 0 x rs (Waiting rest at f)) (sym all) s) in
      omega (arith, some, ap length clean.0)
  not_bad (Malformed at f) s bad =
      well rs (Malformed at f) (subst (λ (x : List ℕ). Steps 0 x rs (Malformed at f)) (sym reached_is) (malformed_more 0 taken (take (LAST_OFFSET - length taken) left) rs at f s))

pub not_refused : (print : Reply → List ℕ) (before after : Store) (t : Traffic) → IsWellFramed t.input → RefusedRun print before after t → ⊥
not_refused print before after t well (r, place, bad, put) = by t.input well r.from bad
  where
    by : (input : Option (List ℕ)) → IsWellFramed input → TakenFrom input t.left r.taken → IsBad input r.taken r.ending place reply_bytes → ⊥
    by None well from bad = well
    by (Some bytes) well from bad = not_bad bytes r.taken from.0 r.requests place from.2 r.short well r.ending r.spelled bad

-- the counts of a session are those of its status
pub reads-from_faults : (a b : Stream) (how : EndedBy) → Faults a b (Some how) → CountsReads a.reads_failed b.reads_failed (status_of how)
reads-from_faults a b ended.Finished f = f.reads
reads-from_faults a b ended.BadFrame f = f.reads
reads-from_faults a b ended.ReadFault f = f.reads
reads-from_faults a b ended.WriteFault f = f.reads
reads-from_faults a b ended.Memory f = f.reads

pub writes-from_faults : (a b : Stream) (how : EndedBy) → Faults a b (Some how) → CountsWrites a.writes_failed b.writes_failed (status_of how)
writes-from_faults a b ended.Finished f = f.writes
writes-from_faults a b ended.BadFrame f = f.writes
writes-from_faults a b ended.ReadFault f = f.writes
writes-from_faults a b ended.WriteFault f = f.writes
writes-from_faults a b ended.Memory f = f.writes
