-- One key of ORDER BY, and LIMIT.
use Rattle.std.specs.Prelude.{ℕ, Bool, List, is_some, Option}
use Rattle.std.specs.Option.{option_map}
use Rattle.qd_base.specs.declared.code.Code.TheVariants as code
use Rattle.qd_base.specs.declared.schema.Col.{Col}
use Rattle.qd_base.specs.Schemas.{column_at}
use Rattle.qd_sql_ast.specs.declared.tree.OrderKey.{OrderKey}
use Rattle.qd_sql_ast.specs.declared.tree.Limit.{Limit}
use Rattle.qd_meaning.specs.declared.parts.Cut.{Cut}
use Rattle.qd_meaning.specs.declared.refusal.Refusal.{Refusal}
use Rattle.qd_meaning.specs.Refusals.{unless}
use Rattle.qd_meaning.specs.Planned.{column_in, cut_of}

abbrev pub order_key : List Col → OrderKey → ℕ × Bool
order_key out k = (column_in out k.name, k.is_descending)

abbrev pub key_faults : List Col → OrderKey → List Refusal
key_faults out k = unless (is_some (column_at out k.name.text)) code.UnknownColumn k.name.at

abbrev pub limit_of : Option Limit → Option Cut
limit_of limit = option_map cut_of limit
