-- Rows that wait in a block in the making.
use Rattle.std.proofs.Common.{◌≡◌, ℕ, zero, suc, ◌<◌, List, [], ◌∷◌, ◌++◌, Option, Some, None, IfSome, length, get_or, map, refl, sym, ap, ◌∙◌, arith, All, subst, length-append}
use Rattle.std.proofs.lemmas.List.Elements.{All-nil}
use Rattle.qd_base.specs.declared.cell.Cell.{Cell}
use Rattle.qd_base.specs.declared.part.Part.{Part}
use Rattle.qd_base.specs.declared.schema.Col.{Col}
use Rattle.qd_base.specs.declared.schema.ColType.{ColType}
use Rattle.qd_base.specs.declared.schema.Schema.{Schema}
use Rattle.qd_base.specs.Lawful.{HasKinds, IsRowOf}
use Rattle.qd_base.specs.Rows.{Row}
use Rattle.qd_block.specs.Blocks.{Block, Building, in_time_order, kinds_in, FitsKinds, IsTimed}
use Rattle.qd_memory.specs.declared.slots.Slot.{Slot}
use Rattle.qd_memory.specs.Kept.{waiting_in, IsBegun, IsKept, IsTable, IsWaiting, Kept}
use Rattle.qd_memory.proofs.ChangeLemmas.{kept_filled}
use Rattle.qd_memory.proofs.MergingLemmas.{rows_timed}

-- a row fits the columns
fits_columns : (cols : List Col) (row : Row) → HasKinds cols row → FitsKinds (kinds_in cols) row
fits_columns [] [] h = tt
fits_columns [] (x ∷ xs) h = absurd h
fits_columns (c ∷ cs) [] h = absurd h
fits_columns (c ∷ cs) (x ∷ xs) h = (h.0, fits_columns cs xs h.1)

pub rows_fit : (s : Schema) (kinds : List ColType) (rows : List Row) → kinds ≡ kinds_in s.cols → All (IsRowOf s) rows → All (FitsKinds kinds) rows
rows_fit s kinds rows is fit k d lt = subst (λ (ks : List ColType). FitsKinds ks (get_or rows k d)) (sym is) (fits_columns s.cols (get_or rows k d) (fit k d lt).kinds)

pub rows_timely : (s : Schema) (col : ℕ) (rows : List Row) → col ≡ s.time_col → All (IsRowOf s) rows → All (IsTimed col) rows
rows_timely s col rows is fit = subst (λ (c : ℕ). All (IsTimed c) rows) (sym is) (rows_timed s rows fit)

-- no row waits any more
pub table_idle : (s : Schema) (slots : List Slot) (parts : List Part) (waiting : Option Building) → IsTable s slots parts waiting → IsTable s slots parts None
table_idle s slots parts waiting table = record {
  kept = record { schema = table.kept.schema; slots = table.kept.slots; few = table.kept.few; parts = table.kept.parts; waiting = All-nil (IsRowOf s) };
  begun = tt;
}

pub idle_begun : (s : Schema) (waiting : Option Building) → waiting ≡ None → IfSome waiting (IsWaiting s)
idle_begun s None none = tt
idle_begun s (Some b) none = absurd (cc (none))

-- a block in the making that rows wait in
pub waits_in : (s : Schema) (slots : List Slot) (parts : List Part) (waiting : Option Building) (b : Building) → IsTable s slots parts waiting → waiting ≡ Some b → IsBegun s b × All (IsRowOf s) b.rows
waits_in s slots parts waiting b table is =
    let begun : IsWaiting s b = subst (λ (o : Option Building). IfSome o (IsWaiting s)) is table.begun in
    (begun.begun, subst (λ (o : Option Building). All (IsRowOf s) (waiting_in o)) is table.kept.waiting)

-- where no row waits, none is begun
pub none_begun : (s : Schema) (slots : List Slot) (parts : List Part) (waiting : Option Building) → IsTable s slots parts waiting → waiting_in waiting ≡ [] → waiting ≡ None
none_begun s slots parts None table none = refl
none_begun s slots parts (Some b) table none = absurd (let some = table.begun.some in omega (arith, some, ap length none))

-- more rows wait
pub begun_more : (s : Schema) (b more : Building) (rows : List Row) → IsBegun s b → more ≡ record b { rows = b.rows ++ rows } → IsBegun s more
begun_more s b more rows begun is = subst (IsBegun s) (sym is) (record { kinds = begun.kinds; time_col = begun.time_col; whole = begun.whole })

pub rows_more : (b more : Building) (waiting : Option Building) (rows : List Row) → b.rows ≡ waiting_in waiting → more ≡ record b { rows = b.rows ++ rows } → more.rows ≡ waiting_in waiting ++ rows
rows_more b more waiting rows same is = ap (λ (x : Building). x.rows) is ∙ ap (λ (l : List Row). l ++ rows) same

pub table_filled : (s : Schema) (slots : List Slot) (parts : List Part) (waiting : Option Building) (b more : Building) (rows : List Row) → IsTable s slots parts waiting → IsBegun s b → b.rows ≡ waiting_in waiting → more ≡ record b { rows = b.rows ++ rows }
    → All (IsRowOf s) rows → 0 < length rows → IsTable s slots parts (Some more)
table_filled s slots parts waiting b more rows table begun same is fit some =
    let all : more.rows ≡ waiting_in waiting ++ rows = rows_more b more waiting rows same is in
    record {
      kept = subst (λ (w : List Row). IsKept (record { schema = s; slots = slots; parts = parts; waiting = w })) (sym all) (kept_filled (record { schema = s; slots = slots; parts = parts; waiting = waiting_in waiting }) rows table.kept fit);
      begun = record { begun = begun_more s b more rows begun is; some = omega (arith, ap length all, length-append (waiting_in waiting) rows, some) };
    }

-- the block that is made
pub block_finished : (s : Schema) (b : Building) (block : Block) → IsBegun s b → block ≡ record { kinds = b.kinds; time_col = b.time_col; rows = in_time_order b.time_col b.rows } → block ≡ record { kinds = kinds_in s.cols; time_col = s.time_col; rows = in_time_order s.time_col b.rows }
block_finished s b block begun is =
    is
    ∙ ap (λ (ks : List ColType). let x : Block = record { kinds = ks; time_col = b.time_col; rows = in_time_order b.time_col b.rows } in x) begun.kinds
    ∙ ap (λ (c : ℕ). let x : Block = record { kinds = kinds_in s.cols; time_col = c; rows = in_time_order c b.rows } in x) begun.time_col

pub some_there : (n : ℕ) → (n ≡ 0 → ⊥) → 0 < n
some_there zero other = absurd (other refl)
some_there (suc n) other = omega arith
