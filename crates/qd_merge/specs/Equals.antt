-- Rows of one time that are equal on keys.
use Rattle.std.specs.Prelude.{◌≡◌, ℕ, ◌≤◌, Bool, List, ◌++◌, length, map, slice_range}
use Rattle.std.specs.List.{list_any}
use Rattle.qd_base.specs.Rows.{Row, same_on}
use Rattle.qd_merge.specs.declared.group.Group.{Group}
use Rattle.qd_merge.specs.Merged.{with_missing}

-- a group's rows of the block, as wide as those of the batch
abbrev pub firsts : Group → List Row
firsts group = map (with_missing group.batch.now.kinds) (slice_range group.block.now.rows group.from group.to)

-- a group's rows of the batch
abbrev pub seconds : Group → List Row
seconds group = slice_range group.batch.now.rows group.start group.end

-- all of a group's rows
abbrev pub rows_in : Group → List Row
rows_in group = firsts group ++ seconds group

-- places of rows that are there, in a block that has no more columns than the batch
pub record IsWithin (group : Group) : Type 0 where
  pub ordered : group.from ≤ group.to
  pub block : group.to ≤ length group.block.now.rows
  pub ascending : group.start ≤ group.end
  pub batch : group.end ≤ length group.batch.now.rows
  pub narrow : length group.block.now.kinds ≤ length group.batch.now.kinds

-- for each of some rows whether one of others is equal to it on all of the keys
abbrev pub taken : List ℕ → List Row → List Row → List Bool
taken keys rows others = map (λ r. list_any (same_on keys r) others) rows
