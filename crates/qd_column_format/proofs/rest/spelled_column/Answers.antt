use Rattle.std.proofs.Common.{◌∙◌, Some, ap, sym}
use Rattle.qd_column_format.proofs.rest.spelled_column.Goals as goal

pub returns-in-Ok-clause-all : goal.returns-in-Ok-clause-all
returns-in-Ok-clause-all g c column same rows s =
    ap Some (c.one_column_is_spelled.ensures c.args.main.now c.args.aux.now c.in-Ok.column column (c.in-Ok.ensures.kind ∙ sym same) (c.in-Ok.ensures.rows ∙ sym rows) c.in-Ok.ensures.spelled s)
