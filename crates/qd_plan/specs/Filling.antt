-- A fill beside the aggregate that it serves.
use Rattle.std.specs.Prelude.{List, [], ◌∷◌}
use Rattle.qd_base.specs.declared.schema.ColType.{ColType}
use Rattle.qd_sql_ast.specs.declared.tree.FillWith.{FillWith}
use Rattle.qd_meaning.specs.declared.refusal.Refusal.{Refusal}
use Rattle.qd_meaning.specs.Sampling.{number_faults}

abbrev pub beside_faults : FillWith × ColType → List Refusal
beside_faults x = number_faults x.0 (x.1 ∷ [])
