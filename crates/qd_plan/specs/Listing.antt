-- Items one after the other.
use Rattle.std.specs.Prelude.{ℕ, ◌+◌, List, [], ◌∷◌}
use Rattle.std.specs.List.{flat_map}
use Rattle.qd_base.specs.declared.schema.Col.{Col}
use Rattle.qd_meaning.specs.declared.refusal.Refusal.{Refusal}
use Rattle.qd_meaning.specs.Typing.{plain_column}
use Rattle.qd_sql_ast.specs.declared.tree.Item.{Item}
use Rattle.qd_meaning.specs.Scopes.{Scope}
use Rattle.qd_meaning.specs.Items.{Shows, item_of, value_shown}

-- the items that columns are, from a position on
abbrev pub plain_from : ℕ → List Col → List Shows
plain_from n [] = []
plain_from n (c ∷ cs) = value_shown (plain_column (n, c)) ∷ plain_from (n + 1) cs

abbrev pub faults_in : List Shows → List Refusal
faults_in items = flat_map (λ (s : Shows). s.faults) items

abbrev pub item_faults : Scope → Item → List Refusal
item_faults scope i = (item_of scope i).faults
