use Rattle.std.proofs.Common.{◌≡◌, ℕ, ◌<◌, false, get_or}
use Rattle.qd_base.specs.Schemas.{same_name}
use Rattle.qd_sql_ast.specs.declared.tree.ColumnDef.{ColumnDef}
use Rattle.qd_writes.proofs.create.place_of.Given as goal

-- no column so far has the name
abbrev pub invariant-loop-place : goal.invariant-loop-place
invariant-loop-place l = (k : ℕ) (d : ColumnDef) → k < l.place → same_name (get_or l.columns k d).name.text l.name ≡ false
