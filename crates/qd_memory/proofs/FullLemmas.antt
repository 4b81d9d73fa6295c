-- Blocks with all columns of their table, and what a merge makes of rows of one partition.
use Rattle.std.proofs.Common.{◌≡◌, ℕ, zero, suc, ◌+◌, ◌-◌, ◌<◌, ◌≤◌, List, [], ◌∷◌, ◌++◌, Some, length, map, take, drop, get_or, refl, sym, ap, ap₂, ◌∙◌, arith, All, subst, append-nil, slice_get}
use Rattle.std.specs.List.{AllByRecursion, fold}
use Rattle.std.proofs.lemmas.List.{length-map, take_all}
use Rattle.std.proofs.lemmas.List.Elements.{All-from_recursion, recursion_from_All}
use Rattle.qd_base.specs.declared.cell.Cell.TheVariants as cell
use Rattle.qd_base.specs.declared.schema.Col.{Col}
use Rattle.qd_base.specs.declared.schema.ColType.{ColType}
use Rattle.qd_base.specs.declared.schema.ColType.TheVariants as kind
use Rattle.qd_base.specs.declared.schema.Schema.{Schema}
use Rattle.qd_base.specs.declared.limits.TheConstants.{MAX_TIME}
use Rattle.qd_base.specs.Database.{missing}
use Rattle.qd_base.specs.Lawful.{HasKinds, IsRowOf, Takes}
use Rattle.qd_base.specs.Rows.{Row, cell_at, put, time_of}
use Rattle.qd_block.specs.Blocks.{Block, kinds_in, IsWhole}
use Rattle.qd_merge.specs.Laws.{AreKeys}
use Rattle.qd_merge.specs.Merged.{merged, rows_from, with_missing}
use Rattle.qd_merge.proofs.Wide.{map-all}
use Rattle.qd_rows.specs.Sets.{absent}
use Rattle.qd_scan.specs.Sources.{table_rows}
use Rattle.qd_memory.specs.Kept.{partition_of, IsFull, IsPiece, LiesIn}
use Rattle.qd_memory.proofs.PutLemmas.{each_fold, each_then, some_fold}

drop_all : {X : Type 0} (n : ℕ) (xs : List X) → length xs ≤ n → drop n xs ≡ []
drop_all zero [] h = refl
drop_all zero (x ∷ xs) h = absurd (omega arith)
drop_all (suc n) [] h = refl
drop_all (suc n) (x ∷ xs) h = drop_all n xs (omega arith)

nothing_more : (rows : List Row) → map (λ (r : Row). r ++ []) rows ≡ rows
nothing_more [] = refl
nothing_more (r ∷ rows) = ap₂ (λ (a : Row) (l : List Row). a ∷ l) (append-nil r) (nothing_more rows)

-- a block with all columns has the table's rows
pub full_rows : (cols : List Col) (b : Block) → b.kinds ≡ kinds_in cols → table_rows cols b ≡ b.rows
full_rows cols b kinds =
    let count : length b.kinds ≡ length cols = ap length kinds ∙ length-map cols (λ (c : Col). c.kind) in
    ap (λ (m : List Col). map (λ (r : Row). r ++ absent m) b.rows) (drop_all (length b.kinds) cols (omega (arith, count))) ∙ nothing_more b.rows

missing_cells : (n : ℕ) (cols : List Col) → map missing (drop n (kinds_in cols)) ≡ absent (drop n cols)
missing_cells zero [] = refl
missing_cells zero (c ∷ cs) = ap (λ (r : Row). missing c.kind ∷ r) (missing_cells zero cs)
missing_cells (suc n) [] = refl
missing_cells (suc n) (c ∷ cs) = missing_cells n cs

-- the rows of an old block, made as wide as the table
pub old_rows : (cols : List Col) (old : Block) → IsWhole old → rows_from (kinds_in cols) 0 old ≡ table_rows cols old
old_rows cols old whole =
    map-all (λ (r : Row). length r ≡ length old.kinds) (with_missing (kinds_in cols)) (λ (r : Row). r ++ absent (drop (length old.kinds) cols))
    (λ r size. ap (λ (n : ℕ). r ++ map missing (drop n (kinds_in cols))) size ∙ ap (λ (m : Row). r ++ m) (missing_cells (length old.kinds) cols))
    old.rows whole.cells

pub full_each : (s : Schema) (start : ℕ) (b : Block) → IsFull s start b → AllByRecursion (LiesIn s start) b.rows
full_each s start b full = recursion_from_All (LiesIn s start) b.rows (λ k d lt. (full.fit k d lt, full.together k d lt))

pub merged_rows : (s : Schema) (old new b : Block) → b ≡ merged s.keys old 0 new → IsWhole old → new.kinds ≡ kinds_in s.cols → new.time_col ≡ s.time_col → b.rows ≡ fold (put s.time_col s.keys) (table_rows s.cols old) new.rows
merged_rows s old new b is whole kinds col =
    ap (λ (x : Block). x.rows) is
    ∙ ap₂ (λ (c : ℕ) (ks : List ColType). fold (put c s.keys) (rows_from ks 0 old) new.rows) col kinds
    ∙ ap (λ (rows : List Row). fold (put s.time_col s.keys) rows new.rows) (old_rows s.cols old whole)

-- what a merge of rows of one partition makes
pub merged_full : (s : Schema) (start : ℕ) (old new b : Block) → b ≡ merged s.keys old 0 new → IsWhole b → IsWhole old → AllByRecursion (LiesIn s start) (table_rows s.cols old) → IsPiece s new → partition_of s (get_or new.rows 0 []) ≡ start → IsFull s start b
merged_full s start old new b is whole whole_old each piece at =
    let rows : b.rows ≡ fold (put s.time_col s.keys) (table_rows s.cols old) new.rows = merged_rows s old new b is whole_old piece.full.kinds piece.full.time_col in
    let theirs : AllByRecursion (LiesIn s start) new.rows = each_then (LiesIn s (partition_of s (get_or new.rows 0 []))) (LiesIn s start) (λ r h. (h.0, h.1 ∙ at)) new.rows (full_each s (partition_of s (get_or new.rows 0 [])) new piece.full) in
    let all : All (LiesIn s start) b.rows = All-from_recursion (LiesIn s start) b.rows (subst (AllByRecursion (LiesIn s start)) (sym rows) (each_fold s.time_col (LiesIn s start) s.keys (table_rows s.cols old) new.rows each theirs)) in
    record {
      whole = whole;
      kinds = ap (λ (x : Block). x.kinds) is ∙ piece.full.kinds;
      time_col = ap (λ (x : Block). x.time_col) is ∙ piece.full.time_col;
      fit = λ k d lt. (all k d lt).0;
      some = subst (λ (l : List Row). 0 < length l) (sym rows) (some_fold s.time_col s.keys (table_rows s.cols old) new.rows piece.full.some);
      together = λ k d lt. (all k d lt).1;
    }

-- the moment of a row is in its range
time_within : (cols : List Col) (r : Row) (col : ℕ) → HasKinds cols r → slice_get (kinds_in cols) col ≡ Some kind.Time → time_of col r ≤ MAX_TIME
time_within [] [] col h at = omega arith
time_within [] (x ∷ r) col h at = absurd h
time_within (c ∷ cs) [] col h at = absurd h
time_within (c ∷ cs) (x ∷ r) zero h at = let is : c.kind ≡ kind.Time = cc in taken x (subst (λ (k : ColType). Takes k x) is h.0)
  where
    taken : (x : Rattle.qd_base.specs.declared.cell.Cell.Cell) → Takes kind.Time x → Rattle.qd_base.specs.Rows.time_in x ≤ MAX_TIME
    taken cell.Null h = omega arith
    taken (cell.Long y) h = absurd h
    taken (cell.Bool y) h = absurd h
    taken (cell.Text y) h = absurd h
    taken (cell.Time y) h = h
time_within (c ∷ cs) (x ∷ r) (suc col) h at = time_within cs r col h.1 cc

pub timely : (s : Schema) (r : Row) → IsRowOf s r → slice_get (kinds_in s.cols) s.time_col ≡ Some kind.Time → time_of s.time_col r ≤ MAX_TIME
timely s r row at = time_within s.cols r s.time_col row.kinds at
