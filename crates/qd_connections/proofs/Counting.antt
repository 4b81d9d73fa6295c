-- An account of connections goes on.
use Rattle.std.proofs.Common.{◌≡◌, ◌∙◌, ◌⊎◌, ℕ, suc, inl, inr, Bool, true, false, List, [], ◌∷◌, ◌++◌, length, map, Option, Some, None, refl, sym, ap, subst, append_assoc, append-nil}
use Rattle.std.specs.List.{All, flat_map}
use Rattle.std.specs.List.Sorted.{IsPermutation}
use Rattle.std.proofs.lemmas.Grind.{flat_map-append}
use Rattle.std.proofs.lemmas.List.{map-append}
use Rattle.std.proofs.lemmas.List.Elements.{All-cons, All-head, All-nil, All-push, All-tail}
use Rattle.std.proofs.lemmas.List.Sorted.{All-permutation, IsPermutation-append, IsPermutation-append_left, IsPermutation-cons, IsPermutation-map, IsPermutation-pop_more, IsPermutation-push_more, IsPermutation-refl, IsPermutation-sym, IsPermutation-to_front, IsPermutation-trans}
use Rattle.qd_fronts.specs.declared.front.FrontKind.{FrontKind}
use Rattle.qd_base.specs.declared.op.Entry.{Entry}
use Rattle.qd_host.specs.Hosts.{Returns}
use Rattle.qd_io.specs.Ends.{Stream}
use Rattle.qd_session.specs.Looks.{Extends}
use Rattle.qd_session.proofs.RunLemmas.{extends-on}
use Rattle.qd_shared.specs.Passes.{Pass, history_of, view_of}
use Rattle.qd_connections.specs.Accounts.{CameBack, IsAccount, IsOfMain}
use Rattle.qd_connections.specs.Connections.{Connection, HasFate, IsFated, IsTaken, Fate, served, turned_away, given_up, acknowledged, and_refused, numbers_of, refusals_in}
use Rattle.qd_connections.specs.Visits.{Visit}

-- ---- wires that come back

back_nothing : (returned : Option (List Stream)) → CameBack returned returned []
back_nothing None = tt
back_nothing (Some all) = sym (append-nil all)

back_more : (r s t : Option (List Stream)) (back : List Stream) (wire : Stream) → CameBack r s back → Returns s t wire → CameBack r t (back ++ wire ∷ [])
back_more r s None back wire came one = tt
back_more r None (Some all) back wire came one = absurd (cc)
back_more r (Some ws) (Some all) back wire came (inr e) = absurd (cc)
back_more None (Some ws) (Some all) back wire came (inl e) = came
back_more (Some old) (Some ws) (Some all) back wire came (inl e) =
    let same : all ≡ ws ++ wire ∷ [] = cc in
    same ∙ ap (λ (l : List Stream). l ++ wire ∷ []) came ∙ append_assoc old back (wire ∷ [])

-- ---- connections that are over

fate_lasts : (kind : FrontKind) → (old new : Option (List Entry)) → Extends old new → (before after : Stream) (fate : Fate) → HasFate kind old before after fate → HasFate kind new before after fate
fate_lasts kind old new on before after (served numbers) h = record {
  visit = h.visit;
  out = h.out;
  served = h.served;
  speaks = h.speaks;
  before_is = h.before_is;
  after_is = h.after_is;
  new = h.new;
  own = h.own;
  seen = extends-on (history_of h.out.pass) old new h.seen on;
}
fate_lasts kind old new on before after turned_away h = h
fate_lasts kind old new on before after given_up h = h

pub fates_last : (kind : FrontKind) → (old new : Option (List Entry)) → Extends old new → (cs : List Connection) → All (IsFated kind old) cs → All (IsFated kind new) cs
fates_last kind old new on [] h = All-nil (IsFated kind new)
fates_last kind old new on (c ∷ cs) h = All-cons (IsFated kind new) c cs (fate_lasts kind old new on c.before c.after c.fate (All-head (IsFated kind old) c cs h)) (fates_last kind old new on cs (All-tail (IsFated kind old) c cs h))

refusals_more : (cs : List Connection) (c : Connection) → refusals_in (cs ++ c ∷ []) ≡ and_refused c.fate (refusals_in cs)
refusals_more [] c = refl
refusals_more (x ∷ xs) c = ap (and_refused x.fate) (refusals_more xs c) ∙ swapped x.fate c.fate (refusals_in xs)
  where
    swapped : (a b : Fate) (n : ℕ) → and_refused a (and_refused b n) ≡ and_refused b (and_refused a n)
    swapped (served ns) b n = refl
    swapped turned_away (served ns) n = refl
    swapped turned_away turned_away n = refl
    swapped turned_away given_up n = refl
    swapped given_up b n = refl

of_main_still : (kind : FrontKind) → (main now : Pass) → now.table ≡ main.table → now.knows.origin ≡ main.knows.origin → (vs : List Visit) → All (IsOfMain kind main) vs → All (IsOfMain kind now) vs
of_main_still kind main now table origin [] h = All-nil (IsOfMain kind now)
of_main_still kind main now table origin (v ∷ vs) h =
    let here = All-head (IsOfMain kind main) v vs h in
    All-cons (IsOfMain kind now) v vs (record { front = here.front; table = here.table ∙ sym table; origin = here.origin ∙ sym origin; new = here.new }) (of_main_still kind main now table origin vs (All-tail (IsOfMain kind main) v vs h))

-- ---- the account

-- none is taken yet
pub account_begins : (kind : FrontKind) → (main : Pass) (returned : Option (List Stream)) → (view_of main).own ≡ [] → IsAccount kind main returned returned false [] [] 0
account_begins kind main returned none = record {
  over = [];
  once = IsPermutation-refl [];
  each = All-nil (IsFated kind (history_of main));
  own = subst (λ (ns : List ℕ). IsPermutation [] ns) (sym none) (IsPermutation-refl []);
  back = back_nothing returned;
  turned = refl;
  fed = λ e. All-nil (λ (c : Connection). IsTaken c.fate);
  of_main = All-nil (IsOfMain kind main);
}

-- how a main pass goes on
pub record GoesOnAs (main now : Pass) : Type 0 where
  pub table : now.table ≡ main.table
  pub origin : now.knows.origin ≡ main.knows.origin
  pub history : Extends (history_of main) (history_of now)

-- a work was made of a wire
pub account_with_work : (kind : FrontKind) → (main now : Pass) (r s : Option (List Stream)) (starved : Bool) (taken : List Stream) (out : List Visit) (refused : ℕ) (wire : Stream) (v : Visit)
    → GoesOnAs main now → (view_of now).own ≡ (view_of main).own → v.wire ≡ wire → IsOfMain kind now v
    → IsAccount kind main r s starved taken out refused → IsAccount kind now r s starved (taken ++ wire ∷ []) (out ++ v ∷ []) refused
account_with_work kind main now r s starved taken out refused wire v on own same mine a = record {
  over = a.over;
  once =
      let wires = map-append (λ (x : Visit). x.wire) out (v ∷ []) ∙ ap (λ (w : Stream). map (λ (x : Visit). x.wire) out ++ w ∷ []) same in
      subst (λ (l : List Stream). IsPermutation (taken ++ wire ∷ []) l) (append_assoc (map (λ (c : Connection). c.before) a.over) (map (λ (x : Visit). x.wire) out) (wire ∷ []) ∙ ap (λ (l : List Stream). map (λ (c : Connection). c.before) a.over ++ l) (sym wires))
      (IsPermutation-append_left (wire ∷ []) taken (map (λ (c : Connection). c.before) a.over ++ map (λ (x : Visit). x.wire) out) a.once);
  each = fates_last kind (history_of main) (history_of now) on.history a.over a.each;
  own = subst (λ (ns : List ℕ). IsPermutation (flat_map numbers_of a.over) ns) (sym own) a.own;
  back = a.back;
  turned = a.turned;
  fed = a.fed;
  of_main = All-push (IsOfMain kind now) out v (of_main_still kind main now on.table on.origin out a.of_main) mine;
}

-- a wire was given back as it came
pub account_given_up : (kind : FrontKind) → (main : Pass) (r s t : Option (List Stream)) (starved : Bool) (taken : List Stream) (out : List Visit) (refused : ℕ) (wire : Stream)
    → Returns s t wire → IsAccount kind main r s starved taken out refused → IsAccount kind main r t true (taken ++ wire ∷ []) out refused
account_given_up kind main r s t starved taken out refused wire back a =
    let c : Connection = record { before = wire; after = wire; fate = given_up } in
    record {
      over = a.over ++ c ∷ [];
      once =
          let befores = map-append (λ (x : Connection). x.before) a.over (c ∷ []) in
          let left = map (λ (x : Visit). x.wire) out in
          subst (λ (l : List Stream). IsPermutation (taken ++ wire ∷ []) (l ++ left)) (sym befores)
          (IsPermutation-pop_more (taken ++ wire ∷ []) (map (λ (x : Connection). x.before) a.over) (left ++ wire ∷ []) left wire
          (subst (λ (l : List Stream). IsPermutation (taken ++ wire ∷ []) l) (append_assoc (map (λ (x : Connection). x.before) a.over) left (wire ∷ []))
          (IsPermutation-append_left (wire ∷ []) taken (map (λ (x : Connection). x.before) a.over ++ left) a.once))
          (IsPermutation-to_front left wire));
      each = All-push (IsFated kind (history_of main)) a.over c a.each refl;
      own = subst (λ (ns : List ℕ). IsPermutation ns (view_of main).own) (sym (flat_map-append numbers_of a.over (c ∷ []) ∙ append-nil (flat_map numbers_of a.over))) a.own;
      back = subst (λ (l : List Stream). CameBack r t l) (sym (map-append (λ (x : Connection). x.after) a.over (c ∷ []))) (back_more r s t (map (λ (x : Connection). x.after) a.over) wire a.back back);
      turned = refusals_more a.over c ∙ a.turned;
      fed = λ e. absurd (cc);
      of_main = a.of_main;
    }

-- a connection that was out is over
pub account_over : (kind : FrontKind) → (main now : Pass) (r s t : Option (List Stream)) (starved : Bool) (taken : List Stream) (out rest : List Visit) (refused refused' : ℕ) (v : Visit) (after : Stream) (fate : Fate)
    → GoesOnAs main now → IsPermutation ((view_of main).own ++ acknowledged fate) (view_of now).own → HasFate kind (history_of now) v.wire after fate → IsTaken fate → and_refused fate refused ≡ refused'
    → IsPermutation out (v ∷ rest) → Returns s t after → IsAccount kind main r s starved taken out refused → IsAccount kind now r t starved taken rest refused'
account_over kind main now r s t starved taken out rest refused refused' v after fate on own has fed count here back a =
    let c : Connection = record { before = v.wire; after = after; fate = fate } in
    record {
      over = a.over ++ c ∷ [];
      once =
          let befores = map-append (λ (x : Connection). x.before) a.over (c ∷ []) in
          let left = map (λ (x : Visit). x.wire) rest in
          subst (λ (l : List Stream). IsPermutation taken (l ++ left)) (sym befores)
          (IsPermutation-pop_more taken (map (λ (x : Connection). x.before) a.over) (map (λ (x : Visit). x.wire) out) left v.wire a.once (IsPermutation-map (λ (x : Visit). x.wire) out (v ∷ rest) here));
      each = All-push (IsFated kind (history_of now)) a.over c (fates_last kind (history_of main) (history_of now) on.history a.over a.each) has;
      own =
          let numbers = flat_map-append numbers_of a.over (c ∷ []) ∙ ap (λ (l : List ℕ). flat_map numbers_of a.over ++ l) (append-nil (acknowledged fate)) in
          subst (λ (ns : List ℕ). IsPermutation ns (view_of now).own) (sym numbers)
          (IsPermutation-trans _ _ _ (IsPermutation-append_left (acknowledged fate) (flat_map numbers_of a.over) (view_of main).own a.own) own);
      back = subst (λ (l : List Stream). CameBack r t l) (sym (map-append (λ (x : Connection). x.after) a.over (c ∷ []))) (back_more r s t (map (λ (x : Connection). x.after) a.over) after a.back back);
      turned = refusals_more a.over c ∙ ap (and_refused fate) a.turned ∙ count;
      fed = λ e. All-push (λ (x : Connection). IsTaken x.fate) a.over c (a.fed e) fed;
      of_main = All-tail (IsOfMain kind now) v rest (All-permutation (IsOfMain kind now) out (v ∷ rest) here (of_main_still kind main now on.table on.origin out a.of_main));
    }
