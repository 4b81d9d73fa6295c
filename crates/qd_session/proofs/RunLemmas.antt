-- A legal run goes on by one reply, and is legal over a history that has grown.
use Rattle.std.proofs.Common.{◌≡◌, ℕ, ◌≤◌, suc, List, [], ◌∷◌, ◌++◌, length, Option, Some, None, refl, sym, ◌∙◌, ap, subst, arith, append_assoc}
use Rattle.std.specs.Prelude.{IfSome}
use Rattle.std.proofs.lemmas.List.{append-nil, length-append}
use Rattle.qd_base.specs.declared.op.Entry.{Entry}
use Rattle.qd_base.specs.declared.request.Request.{Request}
use Rattle.qd_base.specs.declared.request.Request.TheVariants as request
use Rattle.qd_base.specs.declared.request.Reply.{Reply}
use Rattle.qd_session.specs.Looks.{Extends, IsNoLess, Look}
use Rattle.qd_session.specs.Legal.{EndIsLast, GoesOn, IsLasting, LegalRun, Rule, done_in, done_numbers}
use Rattle.qd_session.specs.Timing.{ReadsClock}

pub extends-here : (h : Option (List Entry)) → Extends h h
extends-here None = refl
extends-here (Some h) = ([], ap Some (sym (append-nil h)))

pub extends-on : (a b c : Option (List Entry)) → Extends a b → Extends b c → Extends a c
extends-on None b c h k = subst (λ (x : Option (List Entry)). Extends x c) h k
extends-on (Some a) b c h k =
    let q : Extends (Some (a ++ h.0)) c = subst (λ (x : Option (List Entry)). Extends x c) h.1 k in
    (h.0 ++ q.0, q.1 ∙ ap Some (append_assoc a h.0 q.0))

-- what is seen of a told history is seen of what it grows to
pub seen-on : (old new : Option (List Entry)) (n : ℕ) → Extends old new → IfSome old (λ h. n ≤ length h) → IfSome new (λ h. n ≤ length h)
seen-on None new n e le = subst (λ (x : Option (List Entry)). IfSome x (λ h. n ≤ length h)) (sym e) tt
seen-on (Some h) new n e le =
    let more : n ≤ length (h ++ e.0) = omega (arith, le, length-append h e.0) in
    subst (λ (x : Option (List Entry)). IfSome x (λ h. n ≤ length h)) (sym e.1) more

pub no-less-here : (a : Look) → IsNoLess a a
no-less-here a = record { sequenced = omega arith; known = omega arith; clock_faults = omega arith; volume_faults = omega arith }

-- a look that sees no more of a told history
pub seen-below : (history : Option (List Entry)) (m n : ℕ) → m ≤ n → IfSome history (λ h. n ≤ length h) → IfSome history (λ h. m ≤ length h)
seen-below None m n le s = tt
seen-below (Some h) m n le s = omega (arith, le, s)

module _ (rule : Rule) where
  -- what is sequenced doesn't fall along a run
  pub run-rises : (h : Option (List Entry)) (from : Look) (requests : List Request) (replies : List Reply) (upto : Look) → LegalRun rule h from requests replies upto → from.sequenced ≤ upto.sequenced
  run-rises h from [] [] upto r = omega (arith, ap (λ (x : Look). x.sequenced) r)
  run-rises h from (asked ∷ requests) (given ∷ replies) upto r = omega (arith, r.2.sequenced, run-rises h r.0 requests replies upto r.5)
  run-rises h from [] (given ∷ replies) upto r = absurd r
  run-rises h from (asked ∷ requests) [] upto r = absurd r

  pub run-on : IsLasting rule → (old new : Option (List Entry)) (from : Look) (requests : List Request) (replies : List Reply) (upto : Look) → Extends old new → IfSome old (λ h. upto.sequenced ≤ length h) → LegalRun rule old from requests replies upto → LegalRun rule new from requests replies upto
  run-on lasts old new from [] [] upto e seen r = r
  run-on lasts old new from (asked ∷ requests) (given ∷ replies) upto e seen r = (
    r.0,
    r.1,
    r.2,
    r.3,
    lasts old new from r.0 r.1 asked given e (seen-below old r.0.sequenced upto.sequenced (run-rises old r.0 requests replies upto r.5) seen) r.4,
    run-on lasts old new r.0 requests replies upto e seen r.5,
  )
  run-on lasts old new from [] (given ∷ replies) upto e seen r = absurd r
  run-on lasts old new from (asked ∷ requests) [] upto e seen r = absurd r

  -- one reply more
  pub run-snoc : (h : Option (List Entry)) (from : Look) (requests : List Request) (replies : List Reply) (upto now : Look) (time : ℕ) (asked : Request) (given : Reply) → LegalRun rule h from requests replies upto → IsNoLess upto now → ReadsClock upto.clock now.clock time asked given → rule h upto now time asked given → LegalRun rule h from (requests ++ asked ∷ []) (replies ++ given ∷ []) now
  run-snoc h from [] [] upto now time asked given r less read a =
      (now, time, subst (λ (x : Look). IsNoLess x now) r less, subst (λ (x : Look). ReadsClock x.clock now.clock time asked given) r read, subst (λ (x : Look). rule h x now time asked given) r a, refl)
  run-snoc h from (q ∷ requests) (t ∷ replies) upto now time asked given r less read a =
      (r.0, r.1, r.2, r.3, r.4, run-snoc h r.0 requests replies upto now time asked given r.5 less read a)
  run-snoc h from [] (t ∷ replies) upto now time asked given r less read a = absurd r
  run-snoc h from (q ∷ requests) [] upto now time asked given r less read a = absurd r

  -- one reply for each request
  pub run-matches : (h : Option (List Entry)) (from : Look) (requests : List Request) (replies : List Reply) (upto : Look) → LegalRun rule h from requests replies upto → length replies ≡ length requests
  run-matches h from [] [] upto r = refl
  run-matches h from (asked ∷ requests) (given ∷ replies) upto r = ap suc (run-matches h r.0 requests replies upto r.5)
  run-matches h from [] (given ∷ replies) upto r = absurd r
  run-matches h from (asked ∷ requests) [] upto r = absurd r

pub done_numbers-snoc : (replies : List Reply) (given : Reply) → done_numbers (replies ++ given ∷ []) ≡ done_numbers replies ++ done_in given
done_numbers-snoc [] given = append-nil (done_in given)
done_numbers-snoc (r ∷ replies) given = ap (λ x. done_in r ++ x) (done_numbers-snoc replies given) ∙ sym (append_assoc (done_in r) (done_numbers replies) (done_in given))

-- requests none of which is for the end, with one more
pub goes_on-snoc : (requests : List Request) (asked : Request) → GoesOn requests → GoesOn (asked ∷ []) → GoesOn (requests ++ asked ∷ [])
goes_on-snoc [] asked h one = one
goes_on-snoc (request.Write text ∷ requests) asked h one = goes_on-snoc requests asked h one
goes_on-snoc (request.Sql text ∷ requests) asked h one = goes_on-snoc requests asked h one
goes_on-snoc (request.Apply ∷ requests) asked h one = goes_on-snoc requests asked h one
goes_on-snoc (request.End ∷ requests) asked h one = absurd h

pub end_is_last-from_goes_on : (requests : List Request) → GoesOn requests → EndIsLast requests
end_is_last-from_goes_on [] h = tt
end_is_last-from_goes_on (request.Write text ∷ requests) h = end_is_last-from_goes_on requests h
end_is_last-from_goes_on (request.Sql text ∷ requests) h = end_is_last-from_goes_on requests h
end_is_last-from_goes_on (request.Apply ∷ requests) h = end_is_last-from_goes_on requests h
end_is_last-from_goes_on (request.End ∷ requests) h = absurd h

pub end_is_last-snoc : (requests : List Request) → GoesOn requests → EndIsLast (requests ++ request.End ∷ [])
end_is_last-snoc [] h = refl
end_is_last-snoc (request.Write text ∷ requests) h = end_is_last-snoc requests h
end_is_last-snoc (request.Sql text ∷ requests) h = end_is_last-snoc requests h
end_is_last-snoc (request.Apply ∷ requests) h = end_is_last-snoc requests h
end_is_last-snoc (request.End ∷ requests) h = absurd h
