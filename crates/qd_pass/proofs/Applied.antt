-- An apply through a pass is answered as the rule has it.
use Rattle.std.proofs.Common.{◌≡◌, inl, inr, ℕ, ◌≤◌, zero, suc, List, [], ◌∷◌, length, map, Contains, Result, Ok, Err, refl, sym, ap, subst, arith}
use Rattle.qd_base.proofs.Lists.{Contains-cons}
use Rattle.qd_base.specs.Codes.{number_of}
use Rattle.qd_base.specs.declared.code.Code.TheVariants as code
use Rattle.qd_base.specs.declared.request.Reply.{Reply}
use Rattle.qd_base.specs.declared.request.Reply.TheVariants as reply
use Rattle.qd_base.specs.declared.request.Request.TheVariants as request
use Rattle.qd_score_model.specs.declared.view.Refusal.{Refusal}
use Rattle.qd_score_model.proofs.Lists.{prefix_length, prefix_refl}
use Rattle.qd_session.specs.Legal.{Handles}
use Rattle.qd_shared.specs.declared.rounds.RoundFault.{RoundFault}
use Rattle.qd_shared.specs.declared.rounds.RoundFault.TheVariants as fault
use Rattle.qd_shared.specs.Desks.{items_in}
use Rattle.qd_shared.specs.Passes.{Pass, view_of}
use Rattle.qd_shared.specs.Rounds as rounds
use Rattle.qd_shared.specs.Rounds.{Applies, IsAnswered, Passes}
use Rattle.qd_pass.specs.Passed.{GoesStill, IsReady, Settles, pinned_row, shown_by}
use Rattle.qd_pass.specs.Replies.{RepliesWith}
use Rattle.qd_pass.specs.Shared.{AllPinned, AllowedShared}
use Rattle.qd_pass.proofs.Backing.{passed_ready}
use Rattle.qd_pass.proofs.Going.{passed_still, still_answers, still_both}

row_there : (xs : List Refusal) (r : Refusal) → Contains xs r → Contains (map pinned_row xs) (pinned_row r)
row_there [] r (i, less, is) = absurd (omega (arith, less))
row_there (x ∷ xs) r (zero, less, is) = (0, omega arith, ap pinned_row is)
row_there (x ∷ xs) r (suc i, less, is) = Contains-cons (pinned_row x) (map pinned_row xs) (pinned_row r) (row_there xs r (i, omega (arith, less), is))

all_pinned : (xs : List Refusal) → rounds.AllPinned xs → AllPinned (map pinned_row xs)
all_pinned xs (row, all) = (row, λ other less apart. let (word, inside, pins) = all other less apart in (word, row_there xs (record { row = other; word = word }) inside, pins))

-- an apply, and a purge behind it or not: the replies go by what the apply answered
module _ {E : Type 0} (given : Result Reply E) (old mid new : Pass) (a : Passes old mid) (b : Passes mid new) where
  both : GoesStill old new
  both = still_both old mid new (passed_still old mid a) (passed_still mid new b)

  shown_handled : (n least : ℕ) → length (view_of old).seen ≤ least → IsAnswered least (Ok n) old mid → RepliesWith (Ok n) given → Handles AllowedShared (shown_by old) (shown_by new) 0 request.Apply given
  shown_handled n least some (enough, shown, within) replies =
      subst (Handles AllowedShared (shown_by old) (shown_by new) 0 request.Apply) (sym replies)
      (still_answers old new 0 request.Apply (reply.Applied n) both refl (λ clock clock'. inl (
        ((let before = a.known in omega (arith, before, shown)), (let up = b.known in omega (arith, up, shown))),
        omega (arith, some, enough),
        (let more = prefix_length (view_of mid).seen (view_of new).seen b.seen in omega (arith, within, more)),
      )))

-- a pass that goes nowhere
passes_refl : (old p : Pass) → Passes old p → Passes p p
passes_refl old p g = record { table = refl; origin = refl; mode = refl; phase = refl; room = refl; own = refl; seen = prefix_refl (view_of p).seen; known = omega arith; faults = omega arith; count = g.count }

-- an apply that succeeded, and a purge behind it
purge_handled : {E : Type 0} (n : ℕ) (given : Result Reply E) (old mid new : Pass) → Applies (Ok n) old mid → Passes mid new → RepliesWith (Ok n) given → Handles AllowedShared (shown_by old) (shown_by new) 0 request.Apply given
purge_handled n given old mid new a b replies = shown_handled given old mid new a.passes b n (length (items_in a.found)) (prefix_length (view_of old).seen (items_in a.found) a.before) a.answered replies

apply_handled : {E : Type 0} (r : Result ℕ RoundFault) (given : Result Reply E) (old new : Pass) → Applies r old new → RepliesWith r given → Handles AllowedShared (shown_by old) (shown_by new) 0 request.Apply given
apply_handled (Ok n) given old new a replies = purge_handled n given old new new a (passes_refl old new a.passes) replies
apply_handled (Err fault.Vol) given old new a replies =
    subst (Handles AllowedShared (shown_by old) (shown_by new) 0 request.Apply) (sym replies)
    (still_answers old new 0 request.Apply (reply.Refused (number_of code.Volume) 0) (passed_still old new a.passes) refl (λ clock clock'. inl (inr (refl, refl, a.answered))))
apply_handled (Err (fault.Damaged file at)) given old new a replies =
    subst (Handles AllowedShared (shown_by old) (shown_by new) 0 request.Apply) (sym replies)
    (still_answers old new 0 request.Apply (reply.Damaged file at) (passed_still old new a.passes) refl (λ clock clock'. inl a.answered))
apply_handled (Err fault.NoRow) given old new a replies =
    subst (Handles AllowedShared (shown_by old) (shown_by new) 0 request.Apply) (sym replies)
    (still_answers old new 0 request.Apply (reply.Refused (number_of code.NoRow) 0) (passed_still old new a.passes) refl (λ clock clock'. inr (refl, refl, all_pinned (view_of new).refused a.answered)))
apply_handled (Err fault.Memory) (Ok r) old new a replies = absurd replies
apply_handled (Err fault.Memory) (Err e) old new a replies =
    still_answers old new 0 request.Apply (reply.Refused (number_of code.Memory) 0) (passed_still old new a.passes) refl (λ clock clock'. inl (inl (refl, refl)))

-- ---- an apply, and a purge behind it

module _ (r : Result ℕ RoundFault) (old new : Pass) (s : Settles r old new) where
  pub settles_still : GoesStill old new
  settles_still = still_both old s.between new (passed_still old s.between s.applies.passes) (passed_still s.between new s.passes)

  pub settles_ready : IsReady old → IsReady new
  settles_ready ready = passed_ready s.between new s.passes (passed_ready old s.between s.applies.passes ready)

pub settles_handled : {E : Type 0} (r : Result ℕ RoundFault) (given : Result Reply E) (old new : Pass) → Settles r old new → RepliesWith r given → Handles AllowedShared (shown_by old) (shown_by new) 0 request.Apply given
settles_handled (Ok n) given old new s replies = purge_handled n given old s.between new s.applies s.passes replies
settles_handled (Err f) given old new s replies =
    subst (λ (p : Pass). Handles AllowedShared (shown_by old) (shown_by p) 0 request.Apply given) (sym s.failed) (apply_handled (Err f) given old s.between s.applies replies)
