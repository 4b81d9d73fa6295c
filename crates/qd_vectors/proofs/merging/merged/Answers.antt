use Rattle.std.proofs.Common.{◌≡◌, ◌≤◌, ◌∙◌, ℕ, List, Some, All, ap, sym, subst, length, take, slice_get, refl, arith}
use Rattle.qd_base.specs.declared.limits.TheConstants.{MAX_COLUMNS}
use Rattle.qd_base.specs.declared.schema.ColType.{ColType}
use Rattle.qd_base.specs.declared.schema.ColType.TheVariants as kind
use Rattle.qd_block.specs.Blocks.{IsTimed, kinds_in}
use Rattle.qd_base.specs.Rows.{Row}
use Rattle.qd_merge.specs.Laws.{AreKeys, IsBatch}
use Rattle.qd_vectors.specs.Tables.{table_kinds}
use Rattle.qd_vectors.proofs.Tables.{rows_fit, rows_timed, few_columns, designated}
use Rattle.qd_vectors.proofs.merging.merged.Goals as goal

pub merge_block-requires-clause-few : goal.merge_block-requires-clause-few
merge_block-requires-clause-few c = few_columns c.args.schema.now c.requires.table

pub merge_block-requires-clause-designated : goal.merge_block-requires-clause-designated
merge_block-requires-clause-designated c = designated c.args.schema.now c.requires.table

pub merge_block-requires-clause-keys : goal.merge_block-requires-clause-keys
merge_block-requires-clause-keys c = subst (λ (col : ℕ). AreKeys col c.args.schema.now.keys) (sym c.requires.table.time_col) c.requires.table.keys

pub merge_block-requires-clause-kinds : goal.merge_block-requires-clause-kinds
merge_block-requires-clause-kinds c = ap (take (length c.args.old.now.kinds)) c.requires.table.kinds ∙ c.requires.old.kinds

pub merge_block-requires-clause-time_col : goal.merge_block-requires-clause-time_col
merge_block-requires-clause-time_col c = c.requires.old.time_col ∙ sym c.requires.table.time_col

pub merge_block-requires-clause-fit : goal.merge_block-requires-clause-fit
merge_block-requires-clause-fit c = rows_fit table_kinds c.args.schema.now.cols c.args.batch.now c.requires.table.kinds c.requires.rows

pub merge_block-requires-clause-timed : goal.merge_block-requires-clause-timed
merge_block-requires-clause-timed c = subst (λ (col : ℕ). All (IsTimed col) c.args.batch.now) (sym c.requires.table.time_col) (rows_timed table_kinds c.args.batch.now c.requires.rows)

pub merge_block-requires-clause-batch : goal.merge_block-requires-clause-batch
merge_block-requires-clause-batch c = subst (λ (col : ℕ). IsBatch col c.args.schema.now.keys c.args.batch.now) (sym c.requires.table.time_col) c.requires.batch
