-- The block of a batch.
use Rattle.std.proofs.Common.{◌≡◌, ◌∙◌, List, ap, sym}
use Rattle.qd_base.specs.declared.schema.Schema.{Schema}
use Rattle.qd_base.specs.Rows.{Row}
use Rattle.qd_block.specs.Blocks.{Block, kinds_in, in_time_order}
use Rattle.qd_merge.specs.Merged.{block_in}

-- rows that are in order already are the block's
pub block_given : (schema : Schema) (rows : List Row) (b : Block) → b ≡ record { kinds = kinds_in schema.cols; time_col = schema.time_col; rows = in_time_order schema.time_col rows } → b.rows ≡ rows → b ≡ block_in schema rows
block_given schema rows b is same = is ∙ ap (λ (rs : List Row). record { kinds = kinds_in schema.cols; time_col = schema.time_col; rows = rs }) (sym (ap (λ (x : Block). x.rows) is) ∙ same)
