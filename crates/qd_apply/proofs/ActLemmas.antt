-- Acts one after another, and the acts of one share.
use Rattle.std.proofs.Common.{◌≡◌, ℕ, Bool, true, false, ◌&&◌, cond, eqb, ltb, leb, List, [], ◌∷◌, ◌++◌, Some, length, map, get_or, refl, ap, slice_range}
use Rattle.qd_base.specs.declared.schema.Schema.{Schema}
use Rattle.qd_base.specs.declared.unit.TimeUnit.{TimeUnit}
use Rattle.qd_base.specs.Rows.{Row}
use Rattle.qd_block.specs.Blocks.{Block}
use Rattle.qd_merge.specs.declared.plan.Act.{Act}
use Rattle.qd_merge.specs.declared.plan.Act.TheVariants as act
use Rattle.qd_merge.specs.declared.shares.Rules.{Rules}
use Rattle.qd_merge.specs.declared.shares.Share.{Share}
use Rattle.qd_merge.specs.declared.shares.Share.TheVariants as share
use Rattle.qd_merge.specs.Acts.{before, new_part}
use Rattle.qd_merge.specs.Merged.{block_in}
use Rattle.qd_merge.specs.Shares.{acts_on, first_rows, split_on}
use Rattle.qd_apply.specs.Given.{written_by}
use Rattle.qd_apply.specs.Next.{blocks_made, growths, written, Growth, Piece}

-- ---- one after another

pub blocks_append : (s : Schema) (old : List Piece) (rows : List Row) (xs ys : List Act) → blocks_made s old rows (xs ++ ys) ≡ blocks_made s old rows xs ++ blocks_made s old rows ys
blocks_append s old rows [] ys = refl
blocks_append s old rows (act.Keep n ∷ xs) ys = blocks_append s old rows xs ys
blocks_append s old rows (act.Append n i j ∷ xs) ys = blocks_append s old rows xs ys
blocks_append s old rows (act.Shorten n m ∷ xs) ys = blocks_append s old rows xs ys
blocks_append s old rows (act.Write p skip i j ∷ xs) ys = ap (λ (l : List Block). written s old rows p skip i j ∷ l) (blocks_append s old rows xs ys)

pub growths_append : (s : Schema) (rows : List Row) (xs ys : List Act) → growths s rows (xs ++ ys) ≡ growths s rows xs ++ growths s rows ys
growths_append s rows [] ys = refl
growths_append s rows (act.Keep n ∷ xs) ys = growths_append s rows xs ys
growths_append s rows (act.Append n i j ∷ xs) ys = ap (λ (l : List Growth). (let g : Growth = record { part = n; rows = block_in s (slice_range rows i j) } in g) ∷ l) (growths_append s rows xs ys)
growths_append s rows (act.Shorten n m ∷ xs) ys = growths_append s rows xs ys
growths_append s rows (act.Write p skip i j ∷ xs) ys = growths_append s rows xs ys

pub growths_gap : (s : Schema) (rows : List Row) (u : TimeUnit) (times starts : List ℕ) → growths s rows (map (new_part u times) starts) ≡ []
growths_gap s rows u times [] = refl
growths_gap s rows u times (t ∷ starts) = growths_gap s rows u times starts

-- ---- the acts of a split

-- what holds of each kind of split holds of one
pub on_split : (r : Rules) (n count rows i j : ℕ) (P : List Act → Type 0)
    → P (act.Keep n ∷ act.Write (Some n) count i j ∷ []) → P (act.Shorten n count ∷ act.Write (Some n) count i j ∷ []) → P (act.Write (Some n) 0 i j ∷ []) → P (split_on r n count rows i j)
on_split r n count rows i j P keep shorten whole = first (ltb 0 count && leb r.split_rows count)
  where
    second : (b : Bool) → P (cond b (act.Keep n) (act.Shorten n count) ∷ act.Write (Some n) count i j ∷ [])
    second true = keep
    second false = shorten

    first : (b : Bool) → P (cond b (first_rows n count rows ∷ act.Write (Some n) count i j ∷ []) (act.Write (Some n) 0 i j ∷ []))
    first true = second (eqb count rows)
    first false = whole

-- a share writes as many blocks as it is said to
pub share_writes : (s : Schema) (old : List Piece) (rows : List Row) (r : Rules) (olds : ℕ → List ℕ) (times : List ℕ) (a : Share) → length (blocks_made s old rows (acts_on r olds times a)) ≡ written_by a
share_writes s old rows r olds times (share.Keep n) = refl
share_writes s old rows r olds times (share.Append n i j) = refl
share_writes s old rows r olds times (share.Merge n i j) =
    on_split r n (before (get_or times i 0) (olds n)) (length (olds n)) i j (λ l. length (blocks_made s old rows l) ≡ 1) refl refl refl
share_writes s old rows r olds times (share.New i j) = refl
