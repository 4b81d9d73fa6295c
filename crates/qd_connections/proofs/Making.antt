-- What the maker keeps goes on.
use Rattle.std.proofs.Common.{◌≡◌, ◌∙◌, ℕ, suc, ◌+◌, ◌<◌, ◌≤◌, inr, Bool, true, false, List, [], ◌∷◌, ◌++◌, length, map, Option, Some, None, refl, sym, ap, ap₂, subst, arith, append-nil, length-append}
use Rattle.std.specs.Borrow.{GName}
use Rattle.std.specs.List.{All, remove}
use Rattle.std.specs.Prelude.{slice_get, ◌-◌}
use Rattle.std.proofs.lemmas.Option.{get_or_from_slice_get, slice_get_within}
use Rattle.std.specs.List.Sorted.{IsPermutation}
use Rattle.std.proofs.lemmas.List.{map-append}
use Rattle.std.proofs.lemmas.List.Elements.{All-head}
use Rattle.std.proofs.lemmas.List.Sorted.{All-permutation, IsPermutation-remove, IsPermutation-sym, IsPermutation-to_front, length_permutation}
use mathlib.Core.List.{IsPrefix}
use Rattle.atomic_table.specs.Seated.{TableId}
use Rattle.qd_fronts.specs.declared.front.FrontKind.{FrontKind}
use Rattle.qd_base.specs.declared.op.Entry.{Entry}
use Rattle.qd_host.specs.Hosts.{Returns, Supply, after_clock, with_returned, without_clock}
use Rattle.qd_io.specs.Clocks.{Timeline, Times}
use Rattle.qd_io.specs.Ends.{Stream}
use Rattle.qd_manifest.specs.declared.shape.TableParts.{TableParts}
use Rattle.qd_score_model.specs.declared.view.View.{View}
use Rattle.qd_score_model.specs.declared.view.Mode.TheVariants.{Writer}
use Rattle.qd_score_model.specs.Machine.{lent, merged}
use Rattle.qd_score_model.proofs.Merging.{merged_permutes}
use Rattle.qd_server.specs.declared.maker.TheConstants.{MOST}
use Rattle.qd_server.specs.Works.{Works, back, with_wire, with_work}
use Rattle.qd_session.specs.Looks.{Extends}
use Rattle.qd_session.proofs.RunLemmas.{extends-on}
use Rattle.qd_shared.specs.declared.item.Item.{Item}
use Rattle.qd_shared.specs.Desks.{Desk}
use Rattle.qd_shared.specs.Passes.{IsJoined, IsPart, Pass, history_by, history_of, is_told, view_of}
use Rattle.qd_shared.proofs.Items.{entries_grow}
use Rattle.qd_connections.specs.Accounts.{IsAccount, IsMain, IsOfMain}
use Rattle.qd_connections.specs.Connections.{Fate, HasFate, IsTaken, acknowledged, and_refused, served}
use Rattle.qd_connections.specs.Making.{IsCounted, IsLent, after_serving}
use Rattle.qd_connections.specs.Visits.{IsServed, Visit, Visited}
use Rattle.qd_connections.proofs.Counting.{GoesOnAs, account_given_up, account_over, account_with_work}

-- ---- the host

-- it gave a clock
pub clock_given : (old new : Supply) → new ≡ without_clock new.clock_times old → new ≡ after_serving new old
clock_given old new e = e ∙ ap₂ (λ (f : ℕ) (r : Option (List Stream)). record old { clock_times = new.clock_times; clock_faults = f; returned = r }) (sym (ap (λ (s : Supply). s.clock_faults) e)) (sym (ap (λ (s : Supply). s.returned) e))

-- it was given a wire back
pub wire_returned : (old new : Supply) → new ≡ with_returned new.returned old → new ≡ after_serving new old
wire_returned old new e = e ∙ ap₂ (λ (t : Option Times) (f : ℕ). record old { clock_times = t; clock_faults = f; returned = new.returned }) (sym (ap (λ (s : Supply). s.clock_times) e)) (sym (ap (λ (s : Supply). s.clock_faults) e))

-- it was given a clock back
pub clock_returned : (faults : ℕ) (old new : Supply) → new ≡ after_clock faults old → new ≡ after_serving new old
clock_returned faults old new e =
    e ∙ ap₂ (λ (t : Option Times) (r : Option (List Stream)). record (after_clock faults old) { clock_times = t; returned = r }) (sym (ap (λ (s : Supply). s.clock_times) e)) (sym (ap (λ (s : Supply). s.returned) e))
    ∙ ap (λ (f : ℕ). record old { clock_times = new.clock_times; clock_faults = f; returned = new.returned }) (sym (ap (λ (s : Supply). s.clock_faults) e))

pub serving_on : (a b c : Supply) → b ≡ after_serving b a → c ≡ after_serving c b → c ≡ after_serving c a
serving_on a b c one two = two ∙ ap (after_serving c) one

-- ---- the main pass

-- a history that a pass has seen more of
pub more_seen : (told : Bool) (xs ys : List Item) → IsPrefix xs ys → Extends (history_by told xs) (history_by told ys)
more_seen false xs ys pre = refl
more_seen true xs ys pre = let e = entries_grow xs ys pre in (e.0, ap (λ (l : List Entry). Some l) (sym e.1))

pub still_seen : (told : Bool) (xs : List Item) → Extends (history_by told xs) (history_by told xs)
still_seen false xs = refl
still_seen true xs = more_seen true xs xs ([], append-nil xs)

-- a pass was split off it
pub split_off : (main now : Pass) → now.table ≡ main.table → now.knows.origin ≡ main.knows.origin → view_of now ≡ lent (view_of main) → GoesOnAs main now
split_off main now table origin view = record {
  table = table;
  origin = origin;
  history = subst (λ (h : Option (List Entry)). Extends (history_of main) h) (sym (ap₂ (λ (o : Option Desk) (v : View Item (List TableParts)). history_by (is_told o) v.seen) origin view)) (still_seen (is_told main.knows.origin) (view_of main).seen);
}

-- another was joined to it
pub joined_on : (main other now : Pass) → IsJoined main other now → GoesOnAs main now
joined_on main other now j = record {
  table = j.table;
  origin = j.origin;
  history = subst (λ (o : Option Desk). Extends (history_of main) (history_by (is_told o) (view_of now).seen)) (sym j.origin) (more_seen (is_told main.knows.origin) (view_of main).seen (view_of now).seen j.seen);
}

-- and has seen no more than it has then
pub other_seen : (main other now : Pass) → is_told other.knows.origin ≡ is_told main.knows.origin → IsJoined main other now → Extends (history_of other) (history_of now)
other_seen main other now told j =
    subst (λ (o : Option Desk). Extends (history_of other) (history_by (is_told o) (view_of now).seen)) (sym j.origin)
    (subst (λ (t : Bool). Extends (history_of other) (history_by t (view_of now).seen)) told (more_seen (is_told other.knows.origin) (view_of other).seen (view_of now).seen j.other_seen))

-- two histories, one of which goes on behind the other, are told alike
told_alike : (a b : Bool) (xs ys : List Item) → Extends (history_by a xs) (history_by b ys) → b ≡ a
told_alike false false xs ys e = refl
told_alike false true xs ys e = absurd (cc)
told_alike true true xs ys e = refl
told_alike true false xs ys e = absurd (cc (e.1))

pub told_as_before : (old new : Pass) → Extends (history_of old) (history_of new) → is_told new.knows.origin ≡ is_told old.knows.origin
told_as_before old new e = told_alike (is_told old.knows.origin) (is_told new.knows.origin) (view_of old).seen (view_of new).seen e

-- ---- what is lent

pub lent_on : (lender l m : GName) (began now then : Supply) (table t : TableId) (first main later : Pass) → m ≡ l → then ≡ after_serving then now → t ≡ table → GoesOnAs main later
    → IsLent lender l began now table first main → IsLent lender m began then t first later
lent_on lender l m began now then table t first main later same rest shared on k = record {
  same = same ∙ k.same;
  rest = serving_on began now then k.rest rest;
  shared = shared ∙ k.shared;
  of = on.table ∙ k.of;
  origin = on.origin ∙ k.origin;
  grows = extends-on (history_of first) (history_of main) (history_of later) k.grows on.history;
}

-- ---- accounts of works

-- the work at a place among those that are out
pub taken_out : {X : Type 0} (xs : List X) (i : ℕ) (x : X) → slice_get xs i ≡ Some x → IsPermutation xs (x ∷ remove xs i)
taken_out xs i x is = IsPermutation-remove xs i x (slice_get_within xs i x is) (sym (get_or_from_slice_get xs i x x is))

pub all_at : {X : Type 0} (P : X → Type 0) (xs : List X) (i : ℕ) (x : X) → slice_get xs i ≡ Some x → All P xs → P x
all_at P xs i x is h = All-head P x (remove xs i) (All-permutation P xs (x ∷ remove xs i) (taken_out xs i x is) h)

module _ {W : Type 0} (stream : W → Stream) (kind : FrontKind) (spare : ℕ) (began now : Supply) where
  abbrev Counted : Supply → Pass → Bool → Works W Visit → Type 0
  Counted supply main starved s = IsCounted stream kind spare began supply main starved s

  -- a wire more is taken
  one_taken : (s : Works W Visit) (wire : W) → map stream (s.taken ++ wire ∷ []) ≡ map stream s.taken ++ stream wire ∷ []
  one_taken s wire = map-append stream s.taken (wire ∷ [])

  pub counted_with_work : (then : Supply) (main later : Pass) (starved : Bool) (s : Works W Visit) (wire : W) (v : Visit)
      → then.returned ≡ now.returned → GoesOnAs main later → view_of later ≡ lent (view_of main) → v.wire ≡ stream wire → IsOfMain kind later v → length s.out < MOST
      → Counted now main starved s → Counted then later starved (with_work s wire v)
  counted_with_work then main later starved s wire v same on view is mine few k =
      let a = account_with_work kind main later began.returned now.returned starved (map stream s.taken) s.out (length s.unstarted) (stream wire) v on (ap (λ (x : View Item (List TableParts)). x.own) view) is mine k.account in
      let room : (view_of later).room ≡ (view_of main).room - 1 = ap (λ (x : View Item (List TableParts)). x.room) view in
      let count = length-append s.out (v ∷ []) in
      let enough = k.main_is.room in
      record {
        account = subst (λ (r : Option (List Stream)). IsAccount kind later began.returned r starved (map stream (s.taken ++ wire ∷ [])) (s.out ++ v ∷ []) (length s.unstarted)) (sym same)
            (subst (λ (l : List Stream). IsAccount kind later began.returned now.returned starved l (s.out ++ v ∷ []) (length s.unstarted)) (sym (one_taken s wire)) a);
        main_is = record {
          mode = ap (λ (x : View Item (List TableParts)). x.mode) view ∙ k.main_is.mode;
          idle = ap (λ (x : View Item (List TableParts)). x.phase) view ∙ k.main_is.idle;
          room = (let most = k.enough in omega (arith, room, count, enough, few, most));
        };
        enough = k.enough;
      }

  pub counted_given_up : (then : Supply) (main : Pass) (starved : Bool) (s : Works W Visit) (wire : W) → Returns now.returned then.returned (stream wire)
      → Counted now main starved s → Counted then main true (with_wire s wire)
  counted_given_up then main starved s wire back k = record {
    account = subst (λ (l : List Stream). IsAccount kind main began.returned then.returned true l s.out (length s.unstarted)) (sym (one_taken s wire))
        (account_given_up kind main began.returned now.returned then.returned starved (map stream s.taken) s.out (length s.unstarted) (stream wire) back k.account);
    main_is = k.main_is;
    enough = k.enough;
  }

  -- the main pass takes another in, whose work was out
  main_joined : (main other later : Pass) (out rest : List Visit) (v : Visit) → IsJoined main other later → IsPermutation out (v ∷ rest) → IsMain main (length out) spare → IsMain later (length rest) spare
  main_joined main other later out rest v j here k =
      let room : (view_of later).room ≡ (view_of main).room + (view_of other).room + 1 = ap (λ (x : View Item (List TableParts)). x.room) j.view in
      let count : length (v ∷ rest) ≡ length out = length_permutation out (v ∷ rest) here in
      let enough = k.room in
      record {
        mode = ap (λ (x : View Item (List TableParts)). x.mode) j.view ∙ k.mode;
        idle = ap (λ (x : View Item (List TableParts)). x.phase) j.view ∙ k.idle;
        room = omega (arith, room, count, enough);
      }

  own_joined : (main other later : Pass) → IsJoined main other later → IsPermutation ((view_of main).own ++ (view_of other).own) (view_of later).own
  own_joined main other later j = subst (IsPermutation ((view_of main).own ++ (view_of other).own)) (sym (ap (λ (x : View Item (List TableParts)). x.own) j.view)) (IsPermutation-sym (merged (view_of main).own (view_of other).own) ((view_of main).own ++ (view_of other).own) (merged_permutes (view_of main).own (view_of other).own))

  -- a work that was out is over
  pub counted_over : (then : Supply) (main other later : Pass) (starved : Bool) (s : Works W Visit) (t : Works W Visit) (v : Visit) (after : Stream) (fate : Fate)
      → t.taken ≡ s.taken → IsPermutation s.out (v ∷ t.out) → and_refused fate (length s.unstarted) ≡ length t.unstarted → IsJoined main other later → (view_of other).own ≡ acknowledged fate
      → HasFate kind (history_of later) v.wire after fate → IsTaken fate → Returns now.returned then.returned after → Counted now main starved s → Counted then later starved t
  counted_over then main other later starved s t v after fate taken here count j own has fed back k = record {
    account = subst (λ (l : List W). IsAccount kind later began.returned then.returned starved (map stream l) t.out (length t.unstarted)) (sym taken)
        (account_over kind main later began.returned now.returned then.returned starved (map stream s.taken) s.out t.out (length s.unstarted) (length t.unstarted) v after fate (joined_on main other later j)
        (subst (λ (ns : List ℕ). IsPermutation ((view_of main).own ++ ns) (view_of later).own) own (own_joined main other later j)) has fed count here back k.account);
    main_is = main_joined main other later s.out t.out v j here k.main_is;
    enough = k.enough;
  }

-- ---- one call

pub main_stays : (main : Pass) → GoesOnAs main main
main_stays main = record { table = refl; origin = refl; history = still_seen (is_told main.knows.origin) (view_of main).seen }

-- a visit by a pass that was split off
pub visit_of_main : (kind : FrontKind) → (main later part : Pass) (v : Visit) (wire : Stream) (clock : Timeline) → v ≡ record { front = kind; wire = wire; clock = clock; pass = part } → IsPart Writer main part
    → later.table ≡ main.table → later.knows.origin ≡ main.knows.origin → IsOfMain kind later v
visit_of_main kind main later part v wire clock is p table origin = record {
  front = ap (λ (x : Visit). x.front) is;
  table = ap (λ (x : Visit). x.pass.table) is ∙ p.table ∙ sym table;
  origin = ap (λ (x : Visit). x.pass.knows.origin) is ∙ p.origin ∙ sym origin;
  new = ap (λ (x : Visit). (view_of x.pass).own) is ∙ ap (λ (x : View Item (List TableParts)). x.own) p.view;
}

-- a session that is over, whose pass was joined to the main one
pub session_of : (kind : FrontKind) → (main later other : Pass) (v : Visit) (o : Visited) (after : Stream) → o.pass ≡ other → o.wire ≡ after → IsOfMain kind main v → IsServed v o → IsJoined main other later
    → HasFate kind (history_of later) v.wire after (served (view_of other).own)
session_of kind main later other v o after pass wire mine gives j =
    let told : is_told o.pass.knows.origin ≡ is_told main.knows.origin =
    told_as_before gives.from o.pass gives.history ∙ ap is_told (gives.looked.goes.origin ∙ mine.origin)
    in
    record {
      visit = v;
      out = o;
      served = gives;
      speaks = mine.front;
      before_is = refl;
      after_is = wire;
      new = mine.new;
      own = ap (λ (p : Pass). (view_of p).own) pass;
      seen = subst (λ (p : Pass). Extends (history_of p) (history_of later)) (sym pass) (other_seen main other later (subst (λ (p : Pass). is_told p.knows.origin ≡ is_told main.knows.origin) pass told) j);
    }

-- the last one that is out
pub last_out : {X : Type 0} (P : X → Type 0) (xs rest : List X) (x : X) → xs ≡ rest ++ x ∷ [] → All P xs → P x × IsPermutation xs (x ∷ rest)
last_out {X = X} P xs rest x is h =
    let front : IsPermutation xs (x ∷ rest) = subst (λ (l : List X). IsPermutation l (x ∷ rest)) (sym is) (IsPermutation-to_front rest x) in
    (All-head P x rest (All-permutation P xs (x ∷ rest) front h), front)

pub one_more_refused : {X : Type 0} (xs : List X) (x : X) → suc (length xs) ≡ length (xs ++ x ∷ [])
one_more_refused xs x = let l = length-append xs (x ∷ []) in omega (arith, l)
