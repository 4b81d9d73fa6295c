-- Seats are split, joined and shared, and the first one opens the board: the rule is kept.
use Rattle.std.proofs.Common.{◌≡◌, ◌≢◌, ◌⊎◌, ℕ, zero, suc, ◌+◌, ◌-◌, ◌<◌, ◌≤◌, Bool, true, false, List, [], ◌∷◌, ◌++◌, length, set, leb, replicate, Some, None, refl, sym, ap, ◌∙◌, subst, inl, inr, ⊎_elim, arith, zero-le, le_refl}
use Rattle.std.specs.Prelude.{◌==◌, nat_le, if◌then◌else◌, Option, is_some, All}
use Rattle.std.proofs.lemmas.List.{length-set, length-append}
use Rattle.std.proofs.lemmas.List.Sums.{sum_by_push}
use Rattle.std.proofs.lemmas.List.Elements.{All-nil, All-cons}
use Rattle.std.proofs.lemmas.Bool.Decides.{eqb_tells, leb_tells}
use mathlib.Core.Option.{some, some-injective, some-ne-none}
use mathlib.Core.List.{IsPrefix}
use lib.ListN.{get_elem?}
use Rattle.qd_score_model.specs.declared.limits.TheConstants.{MAX_SPLITS, ROWS}
use Rattle.qd_score_model.specs.declared.view.Mode.{Mode}
use Rattle.qd_score_model.specs.declared.view.Mode.TheVariants.{Sole, Writer, Keeper}
use Rattle.qd_score_model.specs.declared.view.Place.{Place}
use Rattle.qd_score_model.specs.declared.view.Phase.TheVariants.{Idle, Looked}
use Rattle.qd_score_model.specs.declared.view.Version.{Version}
use Rattle.qd_score_model.specs.declared.view.View.{View}
use Rattle.qd_score_model.specs.Machine.{Book, Board, State, Split, Join, Share, version_at, hold_of, happens, Needs, MayJoin, MayOpen, newcomer, joined, gone, join_views, longer, opening, first_view}
use Rattle.qd_score_model.specs.Kept.{own_by, times, Each, Kept}
use Rattle.qd_score_model.proofs.Lists.{each_set, each_push, set_else, sum_at, prefix_refl, prefix_length, prefix_back, prefix_either, met_further}
use Rattle.qd_score_model.proofs.Numbers.{rises_le, rises_wider, rises_merged, times_merged, length_merged}
use Rattle.qd_score_model.proofs.Frame.{once_on, weight, Fits, stands_of, fits_of, kept_set, kept_from}
use Rattle.qd_score_model.proofs.Boards.{hold_other, hold_none, test_other}
use Rattle.qd_score_model.proofs.Pinning.{same_claims}

module _ {A : Type 0} where
  longer_prefix : (xs ys l : List A) → IsPrefix xs l → IsPrefix ys l → IsPrefix (longer xs ys) l
  longer_prefix xs ys l p q = choose (nat_le (length ys) (length xs))
    where
      choose : (b : Bool) → IsPrefix (if b then xs else ys) l
      choose true = p
      choose false = q

  -- of two beginnings of a list, the longer one goes on behind each
  pub longer_on_second : (xs ys l : List A) → IsPrefix xs l → IsPrefix ys l → IsPrefix ys (longer xs ys)
  longer_on_second xs ys l p q = choose (nat_le (length ys) (length xs)) (leb_tells (length ys) (length xs))
    where
      choose : (b : Bool) → ((b ≡ true) × (length ys ≤ length xs)) ⊎ ((b ≡ false) × (length xs < length ys)) → IsPrefix ys (if b then xs else ys)
      choose true t = ⊎_elim (λ (h : (true ≡ true) × (length ys ≤ length xs)). ⊎_elim (λ (r : IsPrefix xs ys). prefix_back xs ys r.0 r.1 h.1) (λ (r : IsPrefix ys xs). r) (prefix_either xs ys l p q)) (λ (h : (true ≡ false) × (length xs < length ys)). absurd (cc)) t
      choose false t = prefix_refl ys

  pub longer_on : (xs ys l : List A) → IsPrefix xs l → IsPrefix ys l → IsPrefix xs (longer xs ys)
  longer_on xs ys l p q = choose (nat_le (length ys) (length xs)) (leb_tells (length ys) (length xs))
    where
      choose : (b : Bool) → ((b ≡ true) × (length ys ≤ length xs)) ⊎ ((b ≡ false) × (length xs < length ys)) → IsPrefix xs (if b then xs else ys)
      choose true t = prefix_refl xs
      choose false t = ⊎_elim (λ (h : (false ≡ true) × (length ys ≤ length xs)). absurd (cc))
          (λ (h : (false ≡ false) × (length xs < length ys)).
          ⊎_elim (λ (r : IsPrefix xs ys). r) (λ (r : IsPrefix ys xs). let a = prefix_length ys xs r in let l : length xs < length ys = h.1 in absurd (omega arith)) (prefix_either xs ys l p q))
          t

  longer_length : (xs ys : List A) → (length xs ≤ length (longer xs ys)) × (length ys ≤ length (longer xs ys))
  longer_length xs ys = choose (leb (length ys) (length xs)) (leb_tells (length ys) (length xs))
    where
      choose : (b : Bool) → ((b ≡ true) × (length ys ≤ length xs)) ⊎ ((b ≡ false) × (length xs < length ys)) → (length xs ≤ length (if b then xs else ys)) × (length ys ≤ length (if b then xs else ys))
      choose true t = ⊎_elim (λ (h : (true ≡ true) × (length ys ≤ length xs)). (le_refl (length xs), h.1)) (λ (h : (true ≡ false) × (length xs < length ys)). absurd (cc)) t
      choose false t = ⊎_elim (λ (h : (false ≡ true) × (length ys ≤ length xs)). absurd (cc)) (λ (h : (false ≡ false) × (length xs < length ys)). let l : length xs < length ys = h.1 in (omega arith, le_refl (length ys))) t

  longer_whole : (xs ys : List A) → length ys ≤ length xs → longer xs ys ≡ xs
  longer_whole xs ys le = ⊎_elim (λ (h : (leb (length ys) (length xs) ≡ true) × (length ys ≤ length xs)). ap (λ t. if t then xs else ys) h.0) (λ (h : (leb (length ys) (length xs) ≡ false) × (length xs < length ys)). let l : length xs < length ys = h.1 in absurd (omega arith)) (leb_tells (length ys) (length xs))

  both_met : (xs ys l : List A) (met : List (List A)) → IsPrefix xs l → IsPrefix ys l → All (λ zs. IsPrefix zs xs) met → All (λ zs. IsPrefix zs (longer xs ys)) (xs ∷ ys ∷ met)
  both_met xs ys l met p q h =
      let on = longer_on xs ys l p q in
      let P = λ (zs : List A). IsPrefix zs (longer xs ys) in
      All-cons P xs (ys ∷ met) on (All-cons P ys met (longer_on_second xs ys l p q) (met_further xs (longer xs ys) met on h))

module _ {I S : Type 0} where
  weight_of : (v : View I S) → v.spent ≡ false → weight v ≡ v.room + 1
  weight_of v e = ap (λ t. if t then 0 else v.room + 1) e

  own_of : (v : View I S) → v.spent ≡ false → own_by v ≡ length v.own
  own_of v e = ap (λ t. if t then 0 else length v.own) e

  fits_newcomer : (b : Board I S) (v : View I S) (mode : Mode) → Fits b v → (mode ≡ Keeper) ⊎ (mode ≡ Writer) → Fits b (newcomer v mode)
  fits_newcomer b v mode h kind = record {
    gone = λ e. absurd (cc);
    phase = tt;
    seen = record { seen = h.seen.seen; met = All-nil (λ xs. IsPrefix xs v.seen); own = zero-le; since = rises_le b.opened (length b.history) v.own h.seen.since; known = h.seen.known; faults = zero-le; removed = zero-le };
    noted = h.noted;
    keeper = λ m. refl;
    sole = λ m. absurd (⊎_elim (λ (e : mode ≡ Keeper). cc) (λ (e : mode ≡ Writer). cc) kind);
  }

  fits_room : (b : Board I S) (v : View I S) (room : ℕ) → Fits b v → Fits b (record v { room = room })
  fits_room b v room h = record {
    gone = h.gone;
    phase = h.phase;
    seen = record { seen = h.seen.seen; met = h.seen.met; own = h.seen.own; since = h.seen.since; known = h.seen.known; faults = h.seen.faults; removed = h.seen.removed };
    noted = h.noted;
    keeper = h.keeper;
    sole = h.sole;
  }

  fits_gone : (b : Board I S) → b.opened ≤ length b.history → Fits b gone
  fits_gone b grown = record {
    gone = λ e. refl;
    phase = tt;
    seen = record { seen = (b.history, refl); met = All-nil (λ xs. IsPrefix xs []); own = zero-le; since = grown; known = zero-le; faults = zero-le; removed = zero-le };
    noted = λ row x e. absurd (cc);
    keeper = λ m. refl;
    sole = λ m. absurd (cc);
  }

pub no_version : {S : Type 0} (n row : ℕ) → version_at {S = S} (replicate n None) row ≡ None
no_version zero row = refl
no_version (suc n) zero = refl
no_version (suc n) (suc row) = no_version n row

module _ {I S : Type 0} (blocks : S → List ℕ) where
  pub keeps_share : (s : State I S) (seat : ℕ) (v : View I S) → Kept blocks s → get_elem? s.views seat ≡ some v → v.spent ≡ false → Needs blocks s seat v Share → Kept blocks (happens s seat v Share)
  keeps_share s seat v k at stands need =
      let w : View I S = record v { mode = Writer } in
      let h = fits_of blocks s k seat v at in
      kept_set blocks s.board s.board s.views seat v w k at (record {
        stands = stands_of blocks s k;
        there = k.one_holder.there;
        held = k.one_holder.holds seat v at;
        not_held = λ j ne. refl;
        fits = record {
          gone = λ e. absurd (cc);
          phase = h.phase;
          seen = record { seen = h.seen.seen; met = h.seen.met; own = h.seen.own; since = h.seen.since; known = h.seen.known; faults = h.seen.faults; removed = h.seen.removed };
          noted = h.noted;
          keeper = λ m. absurd (cc);
          sole = λ m. absurd (cc);
        };
        others = λ j u ne there f. f;
        pins = λ row. refl;
        weight = refl;
        grown = refl;
        opened = refl;
        once = λ n. same_claims s.views seat v w n at refl (k.history.once n);
        sole = λ m. absurd (cc);
        keeper = λ m. absurd (cc);
      })

  pub keeps_split : (s : State I S) (seat : ℕ) (v : View I S) (mode : Mode) → Kept blocks s → get_elem? s.views seat ≡ some v → v.spent ≡ false → Needs blocks s seat v (Split mode) → Kept blocks (happens s seat v (Split mode))
  keeps_split s seat v mode k at stands need = kept_from blocks (happens s seat v (Split mode)) (stands_of blocks s k)
      (record {
        holds = each_push old new (λ j u. u.hold ≡ hold_of s.board j) (each_set s.views seat w (λ j u. u.hold ≡ hold_of s.board j) (λ j u ne there. k.one_holder.holds j u there) (k.one_holder.holds seat v at)) (not_holder s.board.holder refl);
        there = λ j e. let h = k.one_holder.there j e in let a = length-append old (new ∷ []) in let l = same_length in omega arith;
      })
      (each_push old new (λ j u. Fits s.board u) (each_set s.views seat w (λ j u. Fits s.board u) (λ j u ne there. fits_of blocks s k j u there) (fits_room s.board v (v.room - 1) (fits_of blocks s k seat v at))) (fits_newcomer s.board v mode (fits_of blocks s k seat v at) kind))
      (λ row. let p = k.pins.pins row in let a = sum_at (λ (u : View I S). once_on row u.phase) s.views seat v w at in let b = sum_by_push (λ (u : View I S). once_on row u.phase) old new in omega arith)
      (let r = k.pins.rooms in
      let a = sum_at (λ (u : View I S). weight u) s.views seat v w at in
      let b = sum_by_push (λ (u : View I S). weight u) old new in
      let c = weight_of v stands in
      let d = weight_of w stands in
      let e = need.room in omega arith)
      (λ n. let c = same_claims s.views seat v w n at refl (k.history.once n) in let b = sum_by_push (λ (u : View I S). times n u.own) old new in omega arith)
      (let h = k.history.whole in
      let a = sum_at (λ (u : View I S). own_by u) s.views seat v w at in
      let b = sum_by_push (λ (u : View I S). own_by u) old new in
      let same : own_by w ≡ own_by v = refl in
      let none : own_by new ≡ 0 = refl in omega arith)
      (each_push old new (λ i u. u.mode ≡ Sole → Each (old ++ new ∷ []) (λ j x. j ≢ i → x.mode ≡ Keeper))
      (each_set s.views seat w (λ i u. u.mode ≡ Sole → Each (old ++ new ∷ []) (λ j x. j ≢ i → x.mode ≡ Keeper)) (λ i u ne there m. alone i u there m) (λ m. alone seat v at m))
      (λ m. absurd (⊎_elim (λ (e : mode ≡ Keeper). cc) (λ (e : mode ≡ Writer). cc) kind)))
    where
      w : View I S
      w = record v { room = v.room - 1 }

      new : View I S
      new = newcomer v mode

      old : List (View I S)
      old = set s.views seat w

      same_length : length old ≡ length s.views
      same_length = length-set s.views seat w

      kind : (mode ≡ Keeper) ⊎ (mode ≡ Writer)
      kind = ⊎_elim (λ (e : mode ≡ Keeper). inl e) (λ (e : (mode ≡ Writer) × (v.mode ≡ Writer)). inr e.0) need.kind

      not_holder : (h : Option ℕ) → s.board.holder ≡ h → None ≡ hold_of s.board (length old)
      not_holder None e = sym (hold_none s.board (length old) e)
      not_holder (Some i) e = sym (hold_other s.board i (length old) (λ same. let h = k.one_holder.there i e in let l = same_length in omega arith) e)

      alone : (i : ℕ) (u : View I S) → get_elem? s.views i ≡ some u → u.mode ≡ Sole → Each (old ++ new ∷ []) (λ j x. j ≢ i → x.mode ≡ Keeper)
      alone i u there m = each_push old new (λ j x. j ≢ i → x.mode ≡ Keeper)
          (each_set s.views seat w (λ j x. j ≢ i → x.mode ≡ Keeper) (λ j x ne here. (k.sole i u there m).others j x here) ((k.sole i u there m).others seat v at))
          (λ ne. ⊎_elim (λ (e : mode ≡ Keeper). e) (λ (e : (mode ≡ Writer) × (v.mode ≡ Writer)). absurd (no_writer i u there m e.1 (eqb_tells seat i))) need.kind)
        where
          no_writer : (i : ℕ) (u : View I S) → get_elem? s.views i ≡ some u → u.mode ≡ Sole → v.mode ≡ Writer → (((seat == i) ≡ true) × (seat ≡ i)) ⊎ (((seat == i) ≡ false) × (seat ≢ i)) → ⊥
          no_writer i u there m writer t = ⊎_elim
              (λ (h : ((seat == i) ≡ true) × (seat ≡ i)). let a : get_elem? s.views seat ≡ some u = ap (get_elem? s.views) h.1 ∙ there in let b : v ≡ u = some-injective v u (sym at ∙ a) in let c : v.mode ≡ u.mode = ap (λ (z : View I S). z.mode) b in cc)
              (λ (h : ((seat == i) ≡ false) × (seat ≢ i)). let a = (k.sole i u there m).others seat v at h.1 in cc)
              t

  pub joins : (s : State I S) (seat : ℕ) (v : View I S) (other : ℕ) (w : View I S) → Kept blocks s → get_elem? s.views seat ≡ some v → v.spent ≡ false → MayJoin s.views seat other w → Kept blocks (record { board = s.board; views = set (set s.views seat (joined v w)) other gone })
  joins s seat v other w k at stands need = kept_from blocks (record { board = s.board; views = set once other gone }) (stands_of blocks s k)
      (record {
        holds = both (λ j u. u.hold ≡ hold_of s.board j) (λ j u a b there. k.one_holder.holds j u there) (k.one_holder.holds seat v at) (sym need.no_lock ∙ k.one_holder.holds other w need.there);
        there = λ j e. let h = k.one_holder.there j e in let a = length-set once other gone in let b = length-set s.views seat (joined v w) in omega arith;
      })
      (both (λ j u. Fits s.board u) (λ j u a b there. fits_of blocks s k j u there) fits (fits_gone s.board (let w = k.history.whole in omega (arith, w))))
      (λ row.
      let p = k.pins.pins row in
      let a = sum_at (λ (u : View I S). once_on row u.phase) s.views seat v (joined v w) at in
      let b = sum_at (λ (u : View I S). once_on row u.phase) once other w gone there in
      let c = off row in omega arith)
      (let r = k.pins.rooms in
      let a = sum_at (λ (u : View I S). weight u) s.views seat v (joined v w) at in
      let b = sum_at (λ (u : View I S). weight u) once other w gone there in
      let c = weight_of v stands in
      let d = weight_of w need.stands in
      let e = weight_of (joined v w) stands in omega arith)
      (λ n.
      let a = sum_at (λ (u : View I S). times n u.own) s.views seat v (joined v w) at in
      let b = sum_at (λ (u : View I S). times n u.own) once other w gone there in
      let c = times_merged n v.own w.own in
      let d = k.history.once n in omega arith)
      (let h = k.history.whole in
      let a = sum_at (λ (u : View I S). own_by u) s.views seat v (joined v w) at in
      let b = sum_at (λ (u : View I S). own_by u) once other w gone there in
      let c = length_merged v.own w.own in
      let d = own_of v stands in
      let e = own_of w need.stands in
      let f = own_of (joined v w) stands in
      let none : own_by (gone {I = I} {S = S}) ≡ 0 = refl in omega arith)
      (both (λ i u. u.mode ≡ Sole → Each (set once other gone) (λ j x. j ≢ i → x.mode ≡ Keeper)) (λ i u a b here m. alone i u here m) (λ m. alone seat v at m) (λ m. absurd (cc)))
    where
      once : List (View I S)
      once = set s.views seat (joined v w)

      there : get_elem? once other ≡ some w
      there = set_else s.views seat other (joined v w) need.apart ∙ need.there

      -- of each view but the two, of the view that took in the other, and of what is left of it
      both : (P : ℕ → View I S → Type 0) → ((j : ℕ) (u : View I S) → j ≢ seat → j ≢ other → get_elem? s.views j ≡ some u → P j u) → P seat (joined v w) → P other gone → (j : ℕ) (u : View I S) → get_elem? (set once other gone) j ≡ some u → P j u
      both P rest one two = each_set once other gone P (λ j u no here. each_set s.views seat (joined v w) (λ i x. i ≢ other → P i x) (λ i x ns at ni. rest i x ns ni at) (λ ni. one) j u here no) two

      off : (row : ℕ) → once_on row w.phase ≡ 0
      off row = ⊎_elim (λ (e : w.phase ≡ Idle). ap (once_on row) e) (λ (e : (place : Place) × (w.phase ≡ Looked place)). ap (once_on row) e.1) need.no_pin

      fits : Fits s.board (joined v w)
      fits =
          let h = fits_of blocks s k seat v at in
          let g = fits_of blocks s k other w need.there in
          let l = longer_length v.seen w.seen in record {
            gone = h.gone;
            phase = h.phase;
            seen = record {
              seen = longer_prefix v.seen w.seen s.board.history h.seen.seen g.seen.seen;
              met = both_met v.seen w.seen s.board.history v.met h.seen.seen g.seen.seen h.seen.met;
              own = rises_merged 0 (length (longer v.seen w.seen)) v.own w.own (rises_wider 0 (length v.seen) (length (longer v.seen w.seen)) v.own l.0 h.seen.own) (rises_wider 0 (length w.seen) (length (longer v.seen w.seen)) w.own l.1 g.seen.own) apart;
              since = rises_merged s.board.opened (length s.board.history) v.own w.own h.seen.since g.seen.since apart;
              known = let a = h.seen.known in let b = g.seen.known in omega arith;
              faults = h.seen.faults;
              removed = h.seen.removed;
            };
            noted = h.noted;
            keeper = h.keeper;
            sole = λ m. longer_whole v.seen w.seen (let a = prefix_length w.seen s.board.history g.seen.seen in let b : length v.seen ≡ length s.board.history = ap length (h.sole m) in omega arith) ∙ h.sole m;
          }
        where
          apart : (n : ℕ) → times n v.own + times n w.own ≤ 1
          apart n =
              let a = sum_at (λ (u : View I S). times n u.own) s.views seat v gone at in
              let b = sum_at (λ (u : View I S). times n u.own) (set s.views seat gone) other w gone (set_else s.views seat other gone need.apart ∙ need.there) in
              let d = k.history.once n in omega arith

      alone : (i : ℕ) (u : View I S) → get_elem? s.views i ≡ some u → u.mode ≡ Sole → Each (set once other gone) (λ j x. j ≢ i → x.mode ≡ Keeper)
      alone i u here m = both (λ j x. j ≢ i → x.mode ≡ Keeper) (λ j x a b at. (k.sole i u here m).others j x at) ((k.sole i u here m).others seat v at) (λ ne. refl)

  pub keeps_join : (s : State I S) (seat : ℕ) (v : View I S) (other : ℕ) → Kept blocks s → get_elem? s.views seat ≡ some v → v.spent ≡ false → Needs blocks s seat v (Join other) → Kept blocks (happens s seat v (Join other))
  keeps_join s seat v other k at stands need = subst (λ o. Kept blocks (record { board = s.board; views = join_views s.views seat v other o })) (sym need.1.there) (joins s seat v other need.0 k at stands need.1)

  pub kept_opening : (book : Book I S) (first : Version S) → MayOpen blocks book first → Kept blocks (opening book)
  kept_opening book first may = kept_from blocks (opening book)
      (record {
        versions = record {
          rows = ap length may.versions;
          live = λ row. live row ∙ sym (ap (λ vs. is_some (version_at vs row)) may.versions);
          distinct = λ row other x y d e n. (only row x d).0 ∙ sym (only other y e).0;
          current = (first, ap (λ vs. version_at vs book.current.row) may.versions ∙ ap (λ (p : Place). version_at (Some first ∷ replicate (ROWS - 1) None) p.row) may.current, sym (ap (λ (p : Place). p.n) may.current));
          newer = λ row other x y d e m n. (only row x d).0 ∙ sym (only other y e).0;
          newest = λ e row x d. let o : first.n ≡ x.n = ap (λ (t : Version S). t.n) (only row x d).1 in let c : book.current.n ≡ first.n = ap (λ (p : Place). p.n) may.current in omega arith;
        };
        within = λ row x d. let o : first.n ≡ x.n = ap (λ (t : Version S). t.n) (only row x d).1 in let w = may.within in omega arith;
        present = λ e. may.present;
      })
      (record { holds = one (λ j u. u.hold ≡ hold_of (opening book).board j) refl; there = λ j e. absurd (cc) })
      (one (λ j u. Fits (opening book).board u) (record {
        gone = λ e. absurd (cc);
        phase = tt;
        seen = record { seen = prefix_refl book.history; met = All-nil (λ xs. IsPrefix xs book.history); own = zero-le; since = le_refl (length book.history); known = le_refl book.current.n; faults = zero-le; removed = zero-le };
        noted = λ row x e. absurd (cc);
        keeper = λ m. refl;
        sole = λ m. refl;
      }))
      (λ row. refl)
      (le_refl (MAX_SPLITS + 1))
      (λ n. zero-le)
      (omega arith)
      (one (λ i u. u.mode ≡ Sole → Each (first_view book ∷ []) (λ j x. j ≢ i → x.mode ≡ Keeper)) (λ m. one (λ j x. j ≢ 0 → x.mode ≡ Keeper) (λ ne. absurd (ne refl))))
    where
      one : (P : ℕ → View I S → Type 0) → P 0 (first_view book) → (j : ℕ) (u : View I S) → get_elem? (first_view book ∷ []) j ≡ some u → P j u
      one P own = each_push [] (first_view book) P (λ j u e. absurd (some-ne-none u (sym e))) own

      live : (row : ℕ) → (row == 0) ≡ is_some (version_at (Some first ∷ replicate (ROWS - 1) None) row)
      live zero = refl
      live (suc row) = test_other (suc row) 0 (λ e. omega arith) ∙ sym (ap is_some (no_version (ROWS - 1) row))

      first_only : (row : ℕ) (x : Version S) → version_at (Some first ∷ replicate (ROWS - 1) None) row ≡ Some x → (row ≡ 0) × (first ≡ x)
      first_only zero x e = (refl, (cc))
      first_only (suc row) x e = let n = no_version {S = S} (ROWS - 1) row in let d : None ≡ Some x = sym n ∙ e in absurd (cc)

      only : (row : ℕ) (x : Version S) → version_at book.versions row ≡ Some x → (row ≡ 0) × (first ≡ x)
      only row x e = first_only row x (sym (ap (λ vs. version_at vs row) may.versions) ∙ e)
