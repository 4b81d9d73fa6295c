-- Tables with their names beside them.
use Rattle.std.specs.Prelude.{◌≡◌, List, map}
use Rattle.qd_base.specs.declared.schema.Schema.{Schema}
use Rattle.qd_lines.specs.declared.own.TableName.{TableName}

-- these are the names of the tables, in their order
abbrev pub AreNames : List TableName → List Schema → Type 0
AreNames names schemas = map (λ (n : TableName). n.text) names ≡ map (λ (s : Schema). s.name) schemas
