-- What the accounts of one stretch of wires and of another behind it make together.
use Rattle.std.proofs.Common.{◌≡◌, ◌≢◌, ℕ, Bool, true, false, zero, suc, ◌+◌, ◌<◌, ◌≤◌, List, [], ◌∷◌, ◌++◌, length, refl, sym, ap, ◌∙◌, subst, append_assoc, append-nil, arith}
use Rattle.std.specs.Prelude.{min, slice_get, slice_index_or, Option, None, Some, Ok, Err}
use Rattle.std.proofs.lemmas.List.{length-append}
use Rattle.qd_io.specs.declared.fault.IoFault.{IoFault}
use Rattle.qd_io.specs.Ends.{last_count, counts_together}
use Rattle.qd_net.specs.Arrivals.{Arrives}
use Rattle.qd_threads.specs.Jobs.{one_more}
use Rattle.qd_server.specs.Works.{Works, with_work, back}
use Rattle.qd_server.specs.Accepting.{Serves, IsOut, GoesOn, Takes, Round, IsEmptied, IsWithin, number_of}

-- an item that is read at a place stands there
pub got_at : {X : Type 0} (xs : List X) (i : ℕ) (x : X) → x ≡ slice_index_or xs i x → i < length xs → slice_get xs i ≡ Some x
got_at [] i x is lt = absurd (omega arith)
got_at (y ∷ ys) zero x is lt = ap Some (sym is)
got_at (y ∷ ys) (suc i) x is lt = got_at ys i x is (omega arith)

-- failures counted in two stretches
pub counted_twice : (failed m n : ℕ) → counts_together (counts_together failed m) n ≡ counts_together failed (m + n)
counted_twice failed m n = omega arith

module _ {W J : Type 0} where
  pub serves_nothing : (s : Works W J) (outs : List J) (failed : ℕ) → Serves {W = W} {J = J} [] s (record s { out = outs }) failed failed
  serves_nothing s outs failed = record { taken = sym (append-nil s.taken); refused = []; unstarted = sym (append-nil s.unstarted); counted = omega arith }

  -- a work was made, and came back
  pub serves_back : (s : Works W J) (wire : W) (made work : J) (outs : List J) (failed now : ℕ) → now ≡ one_more failed → Serves (wire ∷ []) s (back (with_work s wire made) outs work) failed now
  serves_back s wire made work outs failed now is = record { taken = refl; refused = work ∷ []; unstarted = refl; counted = is }

  pub serves_more : (ws vs : List W) (r s t : Works W J) (f g h : ℕ) → Serves ws r s f g → Serves vs s t g h → Serves (ws ++ vs) r t f h
  serves_more ws vs r s t f g h a b = record {
    taken = b.taken ∙ ap (λ xs. xs ++ vs) a.taken ∙ append_assoc r.taken ws vs;
    refused = a.refused ++ b.refused;
    unstarted = b.unstarted ∙ ap (λ xs. xs ++ b.refused) a.unstarted ∙ append_assoc r.unstarted a.refused b.refused;
    counted = b.counted ∙ ap (λ n. counts_together n (length b.refused)) a.counted ∙ counted_twice f (length a.refused) (length b.refused) ∙ ap (counts_together f) (sym (length-append a.refused b.refused));
  }

  module _ {M : Type 0} (works : M → Works W J → Type 0) where
    pub goes_further : (a b c : M) (xs ys zs : List J) (ws vs : List W) (f g h : ℕ) → GoesOn works a b xs ys ws f g → GoesOn works b c ys zs vs g h → GoesOn works a c xs zs (ws ++ vs) f h
    goes_further a b c xs ys zs ws vs f g h one two s here =
        let p = one s here in
        let q = two p.0 p.1 in (q.0, q.1, serves_more ws vs s p.0 q.0 f g h p.2 q.2)

    -- works are joined behind
    pub goes_and_joins : (a b c : M) (xs ys zs : List J) (ws : List W) (f g : ℕ) → GoesOn works a b xs ys ws f g → GoesOn works b c ys zs [] g g → GoesOn works a c xs zs ws f g
    goes_and_joins a b c xs ys zs ws f g one two = subst (λ vs. GoesOn works a c xs zs vs f g) (append-nil ws) (goes_further a b c xs ys zs ws [] f g g one two)

    pub goes_nowhere : (a : M) (xs : List J) (f : ℕ) → GoesOn works a a xs xs [] f f
    goes_nowhere a xs f s here = (s, here, serves_nothing s s.out f)

  -- some account goes on
  pub still_out : {M : Type 0} (works : M → Works W J → Type 0) (a b : M) (xs ys : List J) (ws : List W) (f g : ℕ) → (s : Works W J) × IsOut works a xs s → GoesOn works a b xs ys ws f g → (s : Works W J) × IsOut works b ys s
  still_out works a b xs ys ws f g here on = let p = on here.0 here.1 in (p.0, p.1)

module _ {W : Type 0} where
  -- a fault takes no wire
  pub takes_none : (ahead now : Option (List W)) (fault : IoFault) → Arrives ahead now (Err fault) → Takes [] ahead now
  takes_none None now fault h = tt
  takes_none (Some wires) now fault h = (wires, refl, h)

  pub takes_end : (ahead now : Option (List W)) → Arrives ahead now (Ok None) → Takes [] ahead now
  takes_end None now h = tt
  takes_end (Some wires) now h = (wires, refl, h.1 ∙ ap Some (sym h.0))

  pub takes_one : (wire : W) (ahead now : Option (List W)) → Arrives ahead now (Ok (Some wire)) → Takes (wire ∷ []) ahead now
  takes_one wire None now h = tt
  takes_one wire (Some wires) now h = h

  pub takes_nothing : (ahead : Option (List W)) → Takes [] ahead ahead
  takes_nothing None = tt
  takes_nothing (Some wires) = (wires, refl, refl)

  pub takes_more : (ws vs : List W) (a b c : Option (List W)) → Takes ws a b → Takes vs b c → Takes (ws ++ vs) a c
  takes_more ws vs None b c one two = tt
  takes_more ws vs (Some xs) b c one two =
      let q = subst (λ o. Takes vs o c) one.2 two in (q.0, one.1 ∙ ap (λ rest. ws ++ rest) q.1 ∙ sym (append_assoc ws vs q.0), q.2)

  -- one wire at most behind some that weren't as many as were asked for
  pub within_more : (ws vs : List W) (taken most : ℕ) → taken ≡ number_of ws → IsWithin ws most → (most ≢ 0 → taken ≢ most) → length vs ≤ 1 → most ≤ last_count → IsWithin (ws ++ vs) most
  within_more ws vs taken most is within going few fits asked =
      let l = length-append ws vs in
      let w = within asked in
      let n = going asked in omega arith

  pub number_more : (ws vs : List W) (taken now : ℕ) → taken ≡ number_of ws → length vs ≡ 1 → now ≡ min (taken + 1) last_count → now ≡ number_of (ws ++ vs)
  number_more ws vs taken now is one more = let l = length-append ws vs in omega arith

  pub round_over : (ws : List W) (ahead now : Option (List W)) (closed b : Bool) → b ≡ false → Round ws ahead now closed (Ok b) → (ws ≡ []) × (closed ≡ true) × IsEmptied ahead now
  round_over ws ahead now closed b is round = subst (λ t. Round ws ahead now closed (Ok t)) is round

  pub round_on : (ws : List W) (ahead now : Option (List W)) (closed b : Bool) → b ≡ true → Round ws ahead now closed (Ok b) → length ws ≡ 1
  round_on ws ahead now closed b is round = subst (λ t. Round ws ahead now closed (Ok t)) is round

  -- none comes any more, and none is left
  pub emptied : (ahead now : Option (List W)) → Arrives ahead now (Ok None) → IsEmptied ahead now
  emptied None now h = tt
  emptied (Some wires) now h = h.1

  -- nor of those that were ahead before
  pub emptied_on : (ws : List W) (a b c : Option (List W)) → Takes ws a b → IsEmptied b c → IsEmptied a c
  emptied_on ws None b c takes none = tt
  emptied_on ws (Some ahead) b c takes none = subst (λ (o : Option (List W)). IsEmptied o c) takes.2 none
