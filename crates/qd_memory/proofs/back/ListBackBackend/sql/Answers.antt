use Rattle.std.proofs.Common.{◌≡◌, ℕ, List, IfOk, Ok, Result, subst, sym}
use Rattle.qd_sql_ast.specs.declared.tree.Stmt.{Stmt}
use Rattle.qd_sql.specs.declared.stmt.SqlFault.{SqlFault}
use Rattle.qd_session.specs.Asking.{asks_for}
use Rattle.qd_memory.specs.Listed.{CarriesOut}
use Rattle.qd_memory.proofs.HandlesLemmas.{handles_sql}
use Rattle.qd_memory.proofs.back.ListBackBackend.sql.Goals as goal

pub returns-in-Ok-clause-carried_out : goal.returns-in-Ok-clause-carried_out
returns-in-Ok-clause-carried_out c =
    let asks : asks_for c.args.text.now ≡ Ok c.in-Ok.stmt = subst (λ (t : List ℕ). asks_for t ≡ Ok c.in-Ok.stmt) c.bytes.ensures.same c.in-Ok.ensures in
    subst (λ (a : Result Stmt SqlFault). IfOk c.carry_out.result (λ given. CarriesOut c.args.self.now c.carry_out.new.self a given)) (sym asks) c.carry_out.ensures.ok

pub returns-in-Ok-clause-handled : goal.returns-in-Ok-clause-handled
returns-in-Ok-clause-handled c =
    let asks : asks_for c.args.text.now ≡ Ok c.in-Ok.stmt = subst (λ (t : List ℕ). asks_for t ≡ Ok c.in-Ok.stmt) c.bytes.ensures.same c.in-Ok.ensures in
    handles_sql c.args.self.now c.carry_out.new.self 0 c.args.text.now c.carry_out.result c.is_within.ensures
    (subst (λ (a : Result Stmt SqlFault). IfOk c.carry_out.result (λ given. CarriesOut c.args.self.now c.carry_out.new.self a given)) (sym asks) c.carry_out.ensures.ok) c.carry_out.ensures.err
