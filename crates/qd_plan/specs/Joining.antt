-- One key of a join.
use Rattle.std.specs.Prelude.{List, Option}
use Rattle.qd_base.specs.declared.schema.Schema.{Schema}
use Rattle.qd_sql_ast.specs.declared.tree.Name.{Name}
use Rattle.qd_meaning.specs.declared.refusal.Refusal.{Refusal}
use Rattle.qd_meaning.specs.Planned as parts

abbrev pub key_faults : Option Schema → Option Schema → Name → List Refusal
key_faults left right n = parts.key_faults n (parts.kind_named (parts.cols_in left) n) (parts.kind_named (parts.cols_in right) n)
