use Rattle.std.proofs.Common.{◌≡◌, ◌∙◌, ◌≤◌, List, Some, ap, sym, subst, length, slice_get, arith, refl}
use Rattle.std.proofs.lemmas.List.{length-map}
use Rattle.qd_base.specs.declared.limits.TheConstants.{MAX_COLUMNS}
use Rattle.qd_base.specs.declared.schema.ColType.{ColType}
use Rattle.qd_base.specs.declared.schema.ColType.TheVariants as kind
use Rattle.qd_base.specs.declared.schema.Col.{Col}
use Rattle.qd_block.specs.Blocks.{Block, in_time_order, kinds_in}
use Rattle.qd_vectors.specs.Tables.{IsOfTable, table_kinds}
use Rattle.qd_vectors.proofs.Tables.{rows_fit, rows_timed}
use Rattle.qd_vectors.proofs.merging.samples.block.Goals as goal

pub from_rows-requires-clause-few : goal.from_rows-requires-clause-few
from_rows-requires-clause-few c =
    let size : length c.in_ok-columns.field-0 ≡ length table_kinds = sym (length-map c.in_ok-columns.field-0 (λ (k : Col). k.kind)) ∙ ap length c.in_ok-columns.ensures.kinds in
    omega arith

pub from_rows-requires-clause-designated : goal.from_rows-requires-clause-designated
from_rows-requires-clause-designated c = ap (λ (ks : List ColType). slice_get ks 0) c.in_ok-columns.ensures.kinds

pub from_rows-requires-clause-fit : goal.from_rows-requires-clause-fit
from_rows-requires-clause-fit c = rows_fit table_kinds c.in_ok-columns.field-0 c.args.rows.now c.in_ok-columns.ensures.kinds c.requires

pub from_rows-requires-clause-timed : goal.from_rows-requires-clause-timed
from_rows-requires-clause-timed c = rows_timed table_kinds c.args.rows.now c.requires

pub returns : goal.returns
returns c =
    let made : Block = record { kinds = table_kinds; time_col = 0; rows = in_time_order 0 c.args.rows.now } in
    let same = ap (λ (ks : List ColType). record { kinds = ks; time_col = 0; rows = in_time_order 0 c.args.rows.now }) c.in_ok-columns.ensures.kinds in
    let is : IsOfTable made = record { kinds = refl; time_col = refl } in
    let all : c.in_ok-block.block ≡ made = c.in_ok-block.ensures.block ∙ same in
    record { table = subst IsOfTable (sym all) is; block = all }
