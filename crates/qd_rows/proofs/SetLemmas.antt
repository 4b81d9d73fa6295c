-- Sets: left places with their right ones, and blocks that are added.
use Rattle.std.proofs.Common.{◌≡◌, ◌≢◌, ℕ, zero, suc, ◌+◌, ◌-◌, ◌<◌, ◌≤◌, List, [], ◌∷◌, ◌++◌, Option, Some, None, length, map, take, get_or, refl, sym, ap, ◌∙◌, arith, subst, All, length-append, slice_get}
use Rattle.std.proofs.lemmas.List.{get_or_append_left, get_or-map, map-append, length-map}
use Rattle.std.proofs.lemmas.List.Elements.{All-push, All-append}
use Rattle.std.proofs.lemmas.List.FromFn.{get_or-map-range_with_len}
use Rattle.std.proofs.lemmas.Option.{slice_get-get_or}
use Rattle.qd_base.specs.declared.schema.Col.{Col}
use Rattle.qd_base.specs.declared.schema.ColType.{ColType}
use Rattle.qd_column.proofs.ListLemmas.{got}
use Rattle.qd_block.specs.Blocks.{Block, kinds_in}
use Rattle.qd_rows.specs.declared.runs.Run.{Run}
use Rattle.qd_rows.specs.Runs.{Spot, places_of_run, places_of_runs, run_at, AreRuns}
use Rattle.qd_rows.specs.Sets.{Joined, ResultRows, block_at, no_block, paired, alone, set_of, IsRowAt, IsSide, IsRight, IsPlace, IsPlaced, IsRun, IsSet, KeepsRights}
use Rattle.qd_rows.proofs.RunLemmas.{HasPlace, place_in, run_some, run_within, length-run, length-runs}

-- a left place alone
abbrev pub single : Spot → Joined
single p = (p, None)

pub length-paired : (lefts : List Spot) (rights : List (Option Spot)) → length (paired lefts rights) ≡ length lefts
length-paired [] rights = refl
length-paired (p ∷ ps) [] = ap suc (length-paired ps [])
length-paired (p ∷ ps) (r ∷ rs) = ap suc (length-paired ps rs)

pub get_or-paired : (lefts : List Spot) (rights : List (Option Spot)) (i : ℕ) (d : Joined) (e : Spot) → i < length lefts → get_or (paired lefts rights) i d ≡ (get_or lefts i e, get_or rights i None)
get_or-paired [] rights i d e h = absurd (omega arith)
get_or-paired (p ∷ ps) [] zero d e h = refl
get_or-paired (p ∷ ps) [] (suc i) d e h = get_or-paired ps [] i d e (omega arith)
get_or-paired (p ∷ ps) (r ∷ rs) zero d e h = refl
get_or-paired (p ∷ ps) (r ∷ rs) (suc i) d e h = get_or-paired ps rs i d e (omega arith)

pub paired-more : (lefts : List Spot) (rights : List (Option Spot)) (p : Spot) (r : Option Spot) → length rights ≡ length lefts → paired (lefts ++ p ∷ []) (rights ++ r ∷ []) ≡ paired lefts rights ++ (p, r) ∷ []
paired-more [] [] p r e = refl
paired-more [] (x ∷ xs) p r e = absurd (omega arith)
paired-more (q ∷ qs) [] p r e = absurd (omega arith)
paired-more (q ∷ qs) (x ∷ xs) p r e = ap (λ l. (q, x) ∷ l) (paired-more qs xs p r (omega arith))

pub paired-none : (lefts : List Spot) → paired lefts [] ≡ alone lefts
paired-none [] = refl
paired-none (p ∷ ps) = ap (λ (l : List Joined). (p, None) ∷ l) (paired-none ps)

pub alone-more : (lefts more : List Spot) → paired (lefts ++ more) [] ≡ paired lefts [] ++ alone more
alone-more lefts more = paired-none (lefts ++ more) ∙ map-append single lefts more ∙ ap (λ (l : List Joined). l ++ alone more) (sym (paired-none lefts))

pub lefts-paired : (lefts : List Spot) (rights : List (Option Spot)) → map (λ (p : Joined). p.0) (paired lefts rights) ≡ lefts
lefts-paired [] rights = refl
lefts-paired (p ∷ ps) [] = ap (λ (l : List Spot). p ∷ l) (lefts-paired ps [])
lefts-paired (p ∷ ps) (r ∷ rs) = ap (λ (l : List Spot). p ∷ l) (lefts-paired ps rs)

-- a row that is there is there with one block more
row_stays : (blocks : List Block) (b : Block) (cols : List Col) (p : Spot) → IsRowAt blocks cols p → IsRowAt (blocks ++ b ∷ []) cols p
row_stays blocks b cols p at =
    let low : p.0 < length blocks = at.block in
    let same : block_at (blocks ++ b ∷ []) p.0 ≡ block_at blocks p.0 = get_or_append_left blocks (b ∷ []) no_block p.0 low in
    record {
      block = omega (arith, length-append blocks (b ∷ []));
      row = subst (λ (x : Block). p.1 < length x.rows) (sym same) at.row;
      kinds = subst (λ (x : Block). x.kinds ≡ take (length x.kinds) (kinds_in cols)) (sym same) at.kinds;
    }

side_stays : (blocks : List Block) (b : Block) (cols : List Col) (p : Option Spot) → IsSide blocks cols p → IsSide (blocks ++ b ∷ []) cols p
side_stays blocks b cols None is = tt
side_stays blocks b cols (Some p) is = row_stays blocks b cols p is

right_stays : (blocks : List Block) (b : Block) (right : Option (List Col)) (p : Option Spot) → IsRight blocks right p → IsRight (blocks ++ b ∷ []) right p
right_stays blocks b None p is = is
right_stays blocks b (Some cols) p is = side_stays blocks b cols p is

pub place_stays : (left : List Col) (right : Option (List Col)) (blocks : List Block) (b : Block) (p : Joined) → IsPlace left right blocks p → IsPlace left right (blocks ++ b ∷ []) p
place_stays left right blocks b p is = record { left = row_stays blocks b left p.0 is.left; right = right_stays blocks b right p.1 is.right }

-- each run of places that are there is there: its last row is
pub run_there : (left : List Col) (right : Option (List Col)) (blocks : List Block) (runs : List Run) (rights : List (Option Spot)) (end k : ℕ) → AreRuns 0 runs end → All (IsPlace left right blocks) (paired (places_of_runs runs) rights) → k < length runs → IsRun left blocks (run_at runs k)
run_there left right blocks runs rights end k are each there =
    run_there_at left right blocks runs rights end k ((run_at runs k).before + ((run_at runs k).to - (run_at runs k).from) - 1) are each there refl
  where
    run_there_at : (left : List Col) (right : Option (List Col)) (blocks : List Block) (runs : List Run) (rights : List (Option Spot)) (end k i : ℕ) → AreRuns 0 runs end → All (IsPlace left right blocks) (paired (places_of_runs runs) rights) → k < length runs → i ≡ (run_at runs k).before + ((run_at runs k).to - (run_at runs k).from) - 1 → IsRun left blocks (run_at runs k)
    run_there_at left right blocks runs rights end k i are each there at =
        let some : (run_at runs k).from < (run_at runs k).to = run_some 0 end k runs are there in
        let within : (run_at runs k).before + ((run_at runs k).to - (run_at runs k).from) ≤ end = run_within 0 end k runs are there in
        let count : 0 + length (places_of_runs runs) ≡ end = length-runs 0 end runs are in
        let has : HasPlace runs k i = record { there = there; first = omega arith; last = omega arith } in
        let low : i < length (places_of_runs runs) = omega arith in
        let none : i - 0 ≡ i = omega arith in
        let spot : get_or (places_of_runs runs) i (0, 0) ≡ ((run_at runs k).block, (run_at runs k).from + (i - (run_at runs k).before)) = ap (λ n. get_or (places_of_runs runs) n (0, 0)) (sym none) ∙ place_in 0 end k i runs (0, 0) are has in
        let row : (run_at runs k).from + (i - (run_at runs k).before) ≡ (run_at runs k).to - 1 = omega arith in
        let left_at : (get_or (paired (places_of_runs runs) rights) i ((0, 0), None)).0 ≡ ((run_at runs k).block, (run_at runs k).to - 1) = ap (λ (p : Joined). p.0) (get_or-paired (places_of_runs runs) rights i ((0, 0), None) (0, 0) low) ∙ spot ∙ ap (λ n. ((run_at runs k).block, n)) row in
        let is : IsRowAt blocks left ((run_at runs k).block, (run_at runs k).to - 1) = subst (IsRowAt blocks left) left_at (each i ((0, 0), None) (omega (arith, length-paired (places_of_runs runs) rights))).left in
        let high : (run_at runs k).to - 1 < length (block_at blocks (run_at runs k).block).rows = is.row in
        record { block = is.block; some = some; within = omega arith; kinds = is.kinds }

-- a place that is found
pub record IsFound (s : ResultRows) (i : ℕ) (p : Joined) : Type 0 where
  pub at : slice_get s.places i ≡ Some p
  pub there : IsPlaced s p

pub place_found : (left : List Col) (right : Option (List Col)) (blocks : List Block) (lefts : List Spot) (rights : List (Option Spot)) (i : ℕ) (p : Spot) (r : Option Spot) → IsSet left right blocks lefts rights → i < length lefts → slice_get lefts i ≡ Some p → r ≡ get_or rights i None → IsFound (set_of left right blocks lefts rights) i (p, r)
place_found left right blocks lefts rights i p r is low found none =
    let within : i < length (paired lefts rights) = omega (arith, length-paired lefts rights) in
    let at : get_or (paired lefts rights) i ((0, 0), None) ≡ (p, r) = get_or-paired lefts rights i ((0, 0), None) (0, 0) low ∙ ap (λ (q : Spot). (q, get_or rights i None)) (got lefts i (0, 0) p low found) ∙ ap (λ (x : Option Spot). (p, x)) (sym none) in
    record {
      at = slice_get-get_or (paired lefts rights) i ((0, 0), None) within ∙ ap Some at;
      there = subst (IsPlace left right blocks) at (is.each i ((0, 0), None) within);
    }

-- a set with more rows
pub record HasMore (left : List Col) (right : Option (List Col)) (blocks : List Block) (lefts : List Spot) (rights : List (Option Spot)) (more : List Joined) (old : ResultRows) : Type 0 where
  pub is : IsSet left right blocks lefts rights
  pub shown : set_of left right blocks lefts rights ≡ record old { places = old.places ++ more }

-- a set with right columns keeps a right place for each left one
kept_count : (right : Option (List Col)) (lefts : List Spot) (rights : List (Option Spot)) → right ≢ None → KeepsRights right lefts rights → length rights ≡ length lefts
kept_count None lefts rights some kept = absurd (some refl)
kept_count (Some cols) lefts rights some kept = kept

count_kept : (right : Option (List Col)) (lefts : List Spot) (rights : List (Option Spot)) → right ≢ None → length rights ≡ length lefts → KeepsRights right lefts rights
count_kept None lefts rights some count = absurd (some refl)
count_kept (Some cols) lefts rights some count = count

pub joined_more : (left : List Col) (right : Option (List Col)) (blocks : List Block) (lefts : List Spot) (rights : List (Option Spot)) (p : Spot) (r : Option Spot) → right ≢ None → IsSet left right blocks lefts rights → IsPlace left right blocks (p, r) → HasMore left right blocks (lefts ++ p ∷ []) (rights ++ r ∷ []) ((p, r) ∷ []) (set_of left right blocks lefts rights)
joined_more left right blocks lefts rights p r some is there =
    let count : length rights ≡ length lefts = kept_count right lefts rights some is.kept in
    let more : paired (lefts ++ p ∷ []) (rights ++ r ∷ []) ≡ paired lefts rights ++ (p, r) ∷ [] = paired-more lefts rights p r count in
    let one : length (rights ++ r ∷ []) ≡ length (lefts ++ p ∷ []) = omega (arith, length-append rights (r ∷ []), length-append lefts (p ∷ [])) in
    record {
      is = record {
        kept = count_kept right (lefts ++ p ∷ []) (rights ++ r ∷ []) some one;
        each = subst (All (IsPlace left right blocks)) (sym more) (All-push (IsPlace left right blocks) (paired lefts rights) (p, r) is.each there);
      };
      shown = ap (λ (ps : List Joined). record { left = left; right = right; blocks = blocks; places = ps }) more;
    }

pub single_more : (left : List Col) (right : Option (List Col)) (blocks : List Block) (lefts more : List Spot) (rights : List (Option Spot)) → right ≡ None → IsSet left right blocks lefts rights → All (IsPlace left right blocks) (alone more) → HasMore left right blocks (lefts ++ more) rights (alone more) (set_of left right blocks lefts rights)
single_more left right blocks lefts more rights none is there =
    let empty : rights ≡ [] = subst (λ (o : Option (List Col)). KeepsRights o lefts rights) none is.kept in
    let all : paired (lefts ++ more) rights ≡ paired lefts rights ++ alone more = ap (paired (lefts ++ more)) empty ∙ alone-more lefts more ∙ ap (λ (rs : List (Option Spot)). paired lefts rs ++ alone more) (sym empty) in
    record {
      is = record {
        kept = subst (λ (o : Option (List Col)). KeepsRights o (lefts ++ more) rights) (sym none) empty;
        each = subst (All (IsPlace left right blocks)) (sym all) (All-append (IsPlace left right blocks) (paired lefts rights) (alone more) is.each there);
      };
      shown = ap (λ (ps : List Joined). record { left = left; right = right; blocks = blocks; places = ps }) all;
    }

-- the rows of a run that is there are there
pub run_places : (left : List Col) (right : Option (List Col)) (blocks : List Block) (r : Run) → right ≡ None → IsRun left blocks r → All (IsPlace left right blocks) (alone (places_of_run r))
run_places left right blocks r none is = λ k d low.
    let count : k < r.to - r.from = omega (arith, length-map (places_of_run r) single, length-run r) in
    let at : get_or (alone (places_of_run r)) k d ≡ ((r.block, r.from + k), None) = get_or-map single (places_of_run r) k (0, 0) d (omega (arith, length-run r)) ∙ ap single (get_or-map-range_with_len (λ i. (r.block, i)) r.from (r.to - r.from) k (r.from + k) (0, 0) count refl) in
    let high : r.to ≤ length (block_at blocks r.block).rows = is.within in
    let row : IsRowAt blocks left (r.block, r.from + k) = record { block = is.block; row = omega arith; kinds = is.kinds } in
    subst (IsPlace left right blocks) (sym at) (record { left = row; right = subst (λ (o : Option (List Col)). IsRight blocks o None) (sym none) refl })

-- an image that is found
pub found_image : {X Y : Type 0} (f : X → Y) (xs : List X) (i : ℕ) (x : X) → slice_get xs i ≡ Some x → slice_get (map f xs) i ≡ Some (f x)
found_image f [] i x e = cc
found_image f (y ∷ ys) zero x e = let same : y ≡ x = cc in ap (λ z. Some (f z)) same
found_image f (y ∷ ys) (suc i) x e = found_image f ys i x e
