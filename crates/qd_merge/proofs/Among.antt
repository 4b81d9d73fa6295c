-- Which rows of a part are equal to a row.
use Rattle.std.proofs.Common.{◌≡◌, ◌∙◌, ℕ, zero, suc, eqb, ◌+◌, ◌-◌, ◌<◌, ◌≤◌, Bool, true, false, ◌||◌, ◌&&◌, List, [], ◌∷◌, ◌++◌, length, map, take, drop, get_or, refl, sym, ap, ap₂, arith, slice_range, length-append, length-drop, All, subst}
use Rattle.std.specs.List.{list_any, list_all}
use Rattle.std.proofs.lemmas.Bool.{or_right}
use Rattle.std.proofs.lemmas.List.{ext_get_or, get_or-map, length-map, get_or-take, get_or-drop, length-take-le}
use Rattle.std.proofs.lemmas.List.Folds.{list_any-append, list_all_more, list_all_at}
use Rattle.qd_base.specs.declared.schema.ColType.{ColType}
use Rattle.qd_base.specs.Rows.{Row, cell_at, cell_eq, same_on}
use Rattle.qd_column.proofs.ListLemmas.{part_more, part_none}
use Rattle.qd_merge.specs.Classes.{AreClasses}
use Rattle.qd_merge.specs.Equals.{taken}
use Rattle.qd_merge.specs.Merged.{with_missing}
use Rattle.qd_merge.specs.Replaced.{stand_behind}
use Rattle.qd_merge.proofs.ClassLemmas.{any_same}
use Rattle.qd_merge.proofs.Parts.{part_joined, one_part}

-- none of a part passes a test so far
pub none_yet : {T : Type 0} (p : T → Bool) (xs : List T) (from at : ℕ) → at ≡ from → list_any p (slice_range xs from at) ≡ false
none_yet p xs from at same = ap (list_any p) (ap (slice_range xs from) same ∙ part_none xs from)

pub none_more : {T : Type 0} (p : T → Bool) (xs : List T) (from i : ℕ) (d : T) → from ≤ i → i < length xs → list_any p (slice_range xs from i) ≡ false → p (get_or xs i d) ≡ false → list_any p (slice_range xs from (i + 1)) ≡ false
none_more p xs from i d low high none not = ap (list_any p) (part_more xs from i d low high) ∙ list_any-append p (slice_range xs from i) (get_or xs i d ∷ []) ∙ ap₂ (λ a b. a || (b || false)) none not

-- one of a part passes
pub some_found : {T : Type 0} (p : T → Bool) (xs : List T) (from i to : ℕ) (d : T) → from ≤ i → i < to → i < length xs → p (get_or xs i d) ≡ true → list_any p (slice_range xs from to) ≡ true
some_found p xs from i to d low high there is =
    let behind = slice_range xs (i + 1) to in
    let here : list_any p (slice_range xs i to) ≡ true = ap (list_any p) (part_joined xs i (i + 1) to (omega arith) (omega arith) ∙ ap (λ l. l ++ behind) (one_part xs i d there)) ∙ ap (λ b. b || list_any p behind) is in
    ap (list_any p) (part_joined xs from i to low (omega arith)) ∙ list_any-append p (slice_range xs from i) (slice_range xs i to) ∙ or_right (list_any p (slice_range xs from i)) (list_any p (slice_range xs i to)) here

-- keys on which rows are equal so far
pub same_more : (keys : List ℕ) (i : ℕ) (a b : Row) → i < length keys → same_on (take i keys) a b ≡ true → cell_eq (cell_at a (get_or keys i 0)) (cell_at b (get_or keys i 0)) ≡ true → same_on (take (i + 1) keys) a b ≡ true
same_more keys i a b lt so_far same = list_all_more (λ k. cell_eq (cell_at a k) (cell_at b k)) keys i 0 lt ∙ ap₂ (λ p q. p && q) so_far same

pub differ_at : (keys : List ℕ) (i : ℕ) (a b : Row) → i < length keys → cell_eq (cell_at a (get_or keys i 0)) (cell_at b (get_or keys i 0)) ≡ false → same_on keys a b ≡ false
differ_at keys i a b lt differ = list_all_at (λ k. cell_eq (cell_at a k) (cell_at b k)) keys i 0 lt differ

-- a group has at least its rows of the block
pub front_within : (kinds : List ColType) (rows others : List Row) (from to : ℕ) → to ≤ length rows → to - from ≤ length (map (with_missing kinds) (slice_range rows from to) ++ others)
front_within kinds rows others from to high =
    let part : List Row = slice_range rows from to in
    let size : length part ≡ to - from = length-take-le (to - from) (drop from rows) (omega (arith, length-drop from rows)) in
    omega (arith, length-append (map (with_missing kinds) part) others, length-map part (with_missing kinds))

-- the flags of a group's rows of the block, by the classes of all its rows
pub classes_taken : (keys : List ℕ) (kinds : List ColType) (rows batch : List Row) (from to start end : ℕ) (classes : List ℕ) → from ≤ to → to ≤ length rows → AreClasses keys (map (with_missing kinds) (slice_range rows from to) ++ slice_range batch start end) classes → stand_behind (to - from) classes ≡ taken keys (map (with_missing kinds) (slice_range rows from to)) (slice_range batch start end)
classes_taken keys kinds rows batch from to start end classes low high are =
    let count : ℕ = to - from in
    let part : List Row = slice_range rows from to in
    let firsts : List Row = map (with_missing kinds) part in
    let seconds : List Row = slice_range batch start end in
    let group : List Row = firsts ++ seconds in
    let f : Row → Bool = λ r. list_any (same_on keys r) seconds in
    let part_size : length part ≡ count = length-take-le count (drop from rows) (omega (arith, length-drop from rows)) in
    let first_size : length firsts ≡ count = length-map part (with_missing kinds) ∙ part_size in
    let size : length group ≡ count + length seconds = length-append firsts seconds ∙ ap (λ n. n + length seconds) first_size in
    let total : length classes ≡ count + length seconds = are.count ∙ size in
    let front_size : length (take count classes) ≡ count = length-take-le count classes (omega arith) in
    let g : ℕ → Bool = λ n. list_any (λ m. eqb n m) (drop count classes) in
    let behind : drop count group ≡ seconds = ap (λ n. drop n group) (sym first_size) ∙ drop_front firsts seconds in
    ext_get_or false (stand_behind count classes) (taken keys firsts seconds) (length-map (take count classes) g ∙ front_size ∙ sym (length-map firsts f ∙ first_size)) (λ i lt.
    let i_low : i < count = omega (arith, length-map (take count classes) g) in
    let row : Row = get_or firsts i [] in
    let here : get_or group i [] ≡ row = get_front firsts seconds i [] (omega arith) in
    get_or-map g (take count classes) i 0 false (omega arith) ∙ ap g (get_or-take count classes i 0 i_low)
    ∙ any_same (λ m. eqb (get_or classes i 0) m) (same_on keys row) (drop count classes) seconds (omega (arith, length-drop count classes)) (λ m less.
    let second : get_or group (count + m) [] ≡ get_or seconds m [] = sym (get_or-drop count group m []) ∙ ap (λ (l : List Row). get_or l m []) behind in
    ap (λ n. eqb (get_or classes i 0) n) (get_or-drop count classes m 0) ∙ are.tell i (count + m) (omega arith) (omega arith) ∙ ap₂ (same_on keys) here second)
    ∙ sym (get_or-map f firsts i [] false (omega arith)))
  where
    drop_front : (xs ys : List Row) → drop (length xs) (xs ++ ys) ≡ ys
    drop_front [] ys = refl
    drop_front (x ∷ xs) ys = drop_front xs ys

    get_front : (xs ys : List Row) (i : ℕ) (d : Row) → i < length xs → get_or (xs ++ ys) i d ≡ get_or xs i d
    get_front [] ys i d h = absurd (omega arith)
    get_front (x ∷ xs) ys zero d h = refl
    get_front (x ∷ xs) ys (suc i) d h = get_front xs ys i d (omega arith)
