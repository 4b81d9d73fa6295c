-- A function value that binds expressions which nest no deeper than a number, and says which nest deeper.
use Rattle.std.specs.Prelude.{◌≡◌, ℕ, ◌+◌, ◌<◌, ◌≤◌, Result, IfOk}
use Rattle.std.specs.Borrow.{Bor}
use Rattle.std.specs.declared.alloc.Global.{Global}
use Rattle.qd_sql_ast.specs.declared.tree.Expr.{Expr}
use Rattle.qd_sql_ast.specs.Nesting.{nesting}
use Rattle.qd_meaning.specs.Binding as binding
use Rattle.qd_bind.specs.declared.fault.BindFault.{BindFault}
use Rattle.qd_bind.specs.declared.scope.Scope.{Scope}
use Rattle.qd_bind.specs.declared.typed.Typed.{Typed}
use Rattle.qd_bind.specs.Deep.{OnTooDeep}
use Rattle.qd_bind.specs.Scoped.{scope}
use Rattle.qd_bind.specs.Seen.{typed}

pub record Nests (depth : ℕ) (pre : Global → Bor Scope → Bor Expr → ℕ → Type 0) (post : Global → Bor Scope → Bor Expr → ℕ → Result Typed BindFault → Type 0) : Type 0 where
  pub callable : (alloc : Global) (columns : Bor Scope) (e : Bor Expr) (d : ℕ) → d ≤ depth → pre alloc columns e d
  pub binds : (alloc : Global) (columns : Bor Scope) (e : Bor Expr) (d : ℕ) (r : Result Typed BindFault) → post alloc columns e d r → IfOk r (λ made. made ≡ typed (binding.typed (scope columns.now) e.now))
  pub deep : (alloc : Global) (columns : Bor Scope) (e : Bor Expr) (d : ℕ) (r : Result Typed BindFault) → post alloc columns e d r → OnTooDeep r (d < nesting e.now + 1)
