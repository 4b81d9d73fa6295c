-- Flags of outdated rows, time by time.
use Rattle.std.proofs.Common.{◌≡◌, ◌≢◌, ℕ, zero, suc, ◌+◌, ◌-◌, ◌<◌, ◌≤◌, Bool, true, false, ◌||◌, cond, List, [], ◌∷◌, ◌++◌, length, map, take, drop, get_or, refl, sym, ap, ap₂, ◌∙◌, arith, All, Contains, subst, slice_range, append-nil, append_assoc, length-append, length-drop}
use Rattle.std.specs.List.{list_any}
use Rattle.std.specs.List.Sorted.{IsNonDecreasing}
use Rattle.std.proofs.lemmas.List.{ext_get_or, get_or-drop, length-map, drop_all}
use Rattle.std.proofs.lemmas.List.Elements.{All-nil}
use Rattle.std.proofs.lemmas.List.Folds.{list_any-append, list_any_none}
use Rattle.qd_base.specs.declared.schema.ColType.{ColType}
use Rattle.qd_base.specs.Database.{missing}
use Rattle.qd_base.specs.Rows.{Row, same_on, time_of}
use Rattle.qd_column.specs.declared.runs.Run.{Run}
use Rattle.qd_column.specs.Runs.{laid}
use Rattle.qd_column.specs.Runs.{IsRunOf}
use Rattle.qd_block.specs.Blocks.{Block, IsWhole}
use Rattle.qd_column.proofs.ListLemmas.{part_none}
use Rattle.qd_merge.specs.Batch.{lasts}
use Rattle.qd_merge.specs.Classes.{AreClasses, kept, repeats}
use Rattle.qd_merge.specs.Merged.{with_missing, laid_rows}
use Rattle.qd_merge.specs.Order.{AddsKept, AreRunsOf}
use Rattle.qd_merge.specs.Outdated.{outdated}
use Rattle.qd_merge.proofs.Batches.{same_on-time}
use Rattle.qd_merge.proofs.ClassLemmas.{length-repeats, repeats_tell}
use Rattle.qd_merge.proofs.Orders.{time_at}
use Rattle.qd_merge.proofs.Parts.{part_joined, all-part, whole_part, one_part}

-- rows kept by the flags of those that have an equal behind them
pub kept-outdated : (keys : List ℕ) (rows : List Row) → kept (outdated keys rows) rows ≡ lasts keys rows
kept-outdated keys [] = refl
kept-outdated keys (row ∷ rows) = ap (λ l. cond (list_any (same_on keys row) rows) l (row ∷ l)) (kept-outdated keys rows)

pub length-outdated : (keys : List ℕ) (rows : List Row) → length (outdated keys rows) ≡ length rows
length-outdated keys [] = refl
length-outdated keys (row ∷ rows) = ap suc (length-outdated keys rows)

-- the flag of a place
outdated_at : (keys : List ℕ) (rows : List Row) (k : ℕ) → k < length rows → get_or (outdated keys rows) k false ≡ list_any (same_on keys (get_or rows k [])) (drop (k + 1) rows)
outdated_at keys [] k lt = absurd (omega arith)
outdated_at keys (row ∷ rows) zero lt = refl
outdated_at keys (row ∷ rows) (suc k) lt = let e : suc k + 1 ≡ suc (k + 1) = omega arith in rw e (outdated_at keys rows k (omega arith))

-- the flags of classes
pub classes_outdated : (keys : List ℕ) (rows : List Row) (classes : List ℕ) → AreClasses keys rows classes → repeats classes ≡ outdated keys rows
classes_outdated keys rows classes are =
    ext_get_or false (repeats classes) (outdated keys rows) (length-repeats classes ∙ are.count ∙ sym (length-outdated keys rows)) (λ k lt.
    let low : k < length rows = omega (arith, length-repeats classes, are.count) in
    repeats_tell keys rows classes are k low ∙ sym (outdated_at keys rows k low))

-- the flags of a part, row by row
pub compared_next : (keys : List ℕ) (rows : List Row) (i to : ℕ) (now next : List Bool) (flag : Bool) → i < to → i < length rows → flag ≡ list_any (same_on keys (get_or rows i [])) (slice_range rows (i + 1) to) → next ≡ now ++ flag ∷ [] → next ++ outdated keys (slice_range rows (i + 1) to) ≡ now ++ outdated keys (slice_range rows i to)
compared_next keys rows i to now next flag lt high is added =
    let row : Row = get_or rows i [] in
    let behind : List Row = slice_range rows (i + 1) to in
    let part : slice_range rows i to ≡ row ∷ behind = part_joined rows i (i + 1) to (omega arith) (omega arith) ∙ ap (λ l. l ++ behind) (one_part rows i [] high) in
    ap (λ l. l ++ outdated keys behind) added ∙ append_assoc now (flag ∷ []) (outdated keys behind) ∙ ap (λ b. now ++ b ∷ outdated keys behind) is ∙ ap (λ l. now ++ outdated keys l) (sym part)

pub compared_done : (keys : List ℕ) (rows : List Row) (i to : ℕ) (now : List Bool) → i ≡ to → now ≡ now ++ outdated keys (slice_range rows i to)
compared_done keys rows i to now done = sym (append-nil now) ∙ ap (λ l. now ++ outdated keys l) (sym (part_none rows i) ∙ ap (slice_range rows i) done)

-- rows and others behind them, of which none equals one of them
or_false : (b : Bool) → (b || false) ≡ b
or_false true = refl
or_false false = refl

outdated-append : (keys : List ℕ) (xs ys : List Row) → All (λ x. list_any (same_on keys x) ys ≡ false) xs → outdated keys (xs ++ ys) ≡ outdated keys xs ++ outdated keys ys
outdated-append keys [] ys none = refl
outdated-append keys (x ∷ xs) ys none = ap₂ (λ (b : Bool) (l : List Bool). b ∷ l) (list_any-append (same_on keys x) xs ys ∙ ap (λ b. list_any (same_on keys x) xs || b) (none zero x (omega arith)) ∙ or_false (list_any (same_on keys x) xs)) (outdated-append keys xs ys (λ k d lt. none (suc k) d (omega arith)))

-- a row differs from rows of other times
none_same : (col : ℕ) (keys : List ℕ) → Contains keys col → (row : Row) (others : List Row) → All (λ x. time_of col row ≢ time_of col x) others → list_any (same_on keys row) others ≡ false
none_same col keys there row others apart = list_any_none (same_on keys row) others (λ j d lt. differ (get_or others j d) (apart j d lt) (same_on keys row (get_or others j d)) refl)
  where
    differ : (x : Row) → (time_of col row ≢ time_of col x) → (b : Bool) → same_on keys row x ≡ b → b ≡ false
    differ x apart true is = absurd (apart (same_on-time col keys row x there is))
    differ x apart false is = refl

-- the rows of one time, and those behind them
pub outdated_next : (col : ℕ) (keys : List ℕ) (rows : List Row) (times : List ℕ) (place end : ℕ) (gone : List Bool) → Contains keys col → map (time_of col) rows ≡ times → IsNonDecreasing times → place ≤ end → end ≤ length times → ((k : ℕ) → place ≤ k → k < end → get_or times k 0 ≤ get_or times place 0) → (end < length times → get_or times place 0 < get_or times end 0)
    → (gone ++ outdated keys (slice_range rows place end)) ++ outdated keys (drop end rows) ≡ gone ++ outdated keys (drop place rows)
outdated_next col keys rows times place end gone there is rise low high upto behind =
    let size : length times ≡ length rows = sym (ap length is) ∙ length-map rows (time_of col) in
    let group : List Row = slice_range rows place end in
    let rest : List Row = drop end rows in
    let whole : drop place rows ≡ group ++ rest = sym (whole_part rows place (length rows) refl) ∙ part_joined rows place end (length rows) low (omega arith) ∙ ap (λ l. group ++ l) (whole_part rows end (length rows) refl) in
    let apart : All (λ x. list_any (same_on keys x) rest ≡ false) group = all-part (λ x. list_any (same_on keys x) rest ≡ false) rows place end (omega arith) (λ k d a b. none_same col keys there (get_or rows k d) rest (λ j e lt equal.
    let inside : end + j < length times = omega (arith, length-drop end rows) in
    let x = time_at col rows times k d is (omega arith) in
    let y : time_of col (get_or rest j e) ≡ get_or times (end + j) 0 = ap (time_of col) (get_or-drop end rows j e) ∙ time_at col rows times (end + j) e is inside in
    let first = upto k a b in
    let second = behind (omega arith) in
    let third = rise end (end + j) 0 (omega arith) inside in
    absurd (omega arith))) in
    append_assoc gone (outdated keys group) (outdated keys rest) ∙ ap (λ l. gone ++ l) (sym (ap (outdated keys) whole ∙ outdated-append keys group rest apart))

pub all_outdated : (keys : List ℕ) (rows : List Row) (gone : List Bool) (place : ℕ) → length rows ≤ place → gone ++ outdated keys (drop place rows) ≡ outdated keys rows → gone ≡ outdated keys rows
all_outdated keys rows gone place past so_far = sym (append-nil gone) ∙ ap (λ l. gone ++ outdated keys l) (sym (drop_all place rows past)) ∙ so_far

-- rows that lack no column
pub wide_row : (kinds : List ColType) (row : Row) → length row ≡ length kinds → with_missing kinds row ≡ row
wide_row kinds row e =
    let none : drop (length row) kinds ≡ [] = drop_all (length row) kinds (omega arith) in
    ap (λ l. row ++ map missing l) none ∙ append-nil row

wide_same : (kinds : List ColType) (rows : List Row) → All (λ r. length r ≡ length kinds) rows → map (with_missing kinds) rows ≡ rows
wide_same kinds [] h = refl
wide_same kinds (row ∷ rows) h = ap₂ (λ (r : Row) (l : List Row). r ∷ l) (wide_row kinds row (h zero row (omega arith))) (wide_same kinds rows (λ k d lt. h (suc k) d (omega arith)))

-- runs of the rows of a block whose flag isn't set
module _ (block : Block) (gone : List Bool) (none runs : List Run) (n : ℕ) (empty : none ≡ []) (all : n ≡ length gone) (size : length gone ≡ length block.rows) (added : AddsKept none gone 0 n runs) where
  pub laid_kept : IsWhole block → laid_rows block block runs ≡ kept gone block.rows
  laid_kept whole =
      let wide : List Row = map (with_missing block.kinds) block.rows in
      let same : wide ≡ block.rows = wide_same block.kinds block.rows whole.cells in
      added.rows wide block.rows (ap length same ∙ sym size) ∙ ap (λ (rs : List Run). laid wide block.rows rs ++ kept (slice_range gone 0 n) (slice_range wide 0 n)) empty
      ∙ ap₂ (λ (f : List Bool) (rs : List Row). kept f rs) (whole_part gone 0 n all) (whole_part wide 0 n (all ∙ size ∙ ap length (sym same)) ∙ same)

  pub runs_kept : AreRunsOf (length block.rows) (length block.rows) runs
  runs_kept = subst (λ (m : ℕ). AreRunsOf m (length block.rows) runs) size (added.runs (length block.rows) (subst (AreRunsOf (length gone) (length block.rows)) (sym empty) (All-nil (IsRunOf (length gone) (length block.rows)))))
