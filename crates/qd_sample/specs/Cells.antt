-- The cells and rows of buckets and keys, from the numbers of groups.
use Rattle.std.specs.Prelude.{ℕ, ◌==◌, List, [], ◌++◌, filter, fold, length, map, slice_index, slice_index_or, slice_set}
use Rattle.std.specs.List.{flat_map, range_with_len, zip}
use Rattle.qd_base.specs.declared.cell.Cell.{Cell}
use Rattle.qd_base.specs.declared.cell.Cell.TheVariants as cell
use Rattle.qd_base.specs.Rows.{Row}
use Rattle.qd_expr.specs.Passing.{row_in}
use Rattle.qd_meaning.specs.declared.parts.Fill.{Fill}
use Rattle.qd_meaning.specs.Grouped.{key_of}
use Rattle.qd_meaning.specs.Sampled.{fill_cell, sample_row}
use Rattle.qd_rows.specs.Sets.{ResultRows}
use Rattle.qd_value.specs.declared.bound.Bound.{Bound}

-- the groups of each key, key after key
abbrev pub by_key : List ℕ → ℕ → ℕ → List ℕ
by_key keys groups count = flat_map (λ k. filter (λ g. slice_index keys g == k) (range_with_len 0 groups)) (range_with_len 0 count)

-- what each aggregate answers for a group
abbrev pub answers_at : List (List Cell) → ℕ → Row
answers_at columns g = map (λ l. slice_index_or l g cell.Null) columns

-- what stands for a key without rows, behind its cells in the bucket before
abbrev pub filled_by : List Fill → Row → Row
filled_by fills before = map (λ (f : Fill × Cell). fill_cell f.0 f.1) (zip fills before)

-- the cells of the keys, with a group's answers at its key
abbrev pub placed : List (List Cell) → List ℕ → List Row → ℕ → List Row
placed columns keys cells g = slice_set cells (slice_index keys g) (answers_at columns g)

-- the cells of the keys in the next bucket, which has these groups
abbrev pub next_cells : List (List Cell) → List ℕ → List Fill → List Row → List ℕ → List Row
next_cells columns keys fills before groups = fold (placed columns keys) (map (filled_by fills) before) groups

-- the row of a bucket and a group
abbrev pub group_row : ResultRows → List Bound → List ℕ → List (List Cell) → List ℕ → ℕ → ℕ → Row
group_row s keys firsts columns numbers start g = sample_row start (key_of keys (row_in s (slice_index firsts (slice_index numbers g)))) (answers_at columns g)

-- the row of a bucket and a key
abbrev pub key_row : ResultRows → List Bound → List ℕ → List Row → ℕ → ℕ → Row
key_row s keys firsts cells start k = sample_row start (key_of keys (row_in s (slice_index firsts k))) (slice_index_or cells k [])

abbrev pub key_rows : ResultRows → List Bound → List ℕ → List Row → ℕ → List Row
key_rows s keys firsts cells start = map (key_row s keys firsts cells start) (range_with_len 0 (length cells))

-- one bucket more: the rows so far and the cells of its keys
abbrev pub with_bucket : ResultRows → List Bound → List ℕ → List (List Cell) → List ℕ → List Fill → List ℕ → List (List ℕ) → List Row × List Row → ℕ → List Row × List Row
with_bucket s keys firsts columns numbers fills starts lists done b =
    let now = next_cells columns numbers fills done.1 (slice_index_or lists b []) in
    (done.0 ++ key_rows s keys firsts now (slice_index starts b), now)

-- the rows of a bucket's groups
abbrev pub bucket_rows : ResultRows → List Bound → List ℕ → List (List Cell) → List ℕ → List ℕ → List (List ℕ) → ℕ → List Row
bucket_rows s keys firsts columns numbers starts lists b = map (group_row s keys firsts columns numbers (slice_index starts b)) (slice_index_or lists b [])
