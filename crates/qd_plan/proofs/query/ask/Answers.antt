use Rattle.std.proofs.Common.{◌∙◌, ◌++◌, ℕ, List, Option, ap, ap₂}
use Rattle.qd_base.specs.declared.schema.Schema.{Schema}
use Rattle.qd_base.specs.Schemas.{schema_of}
use Rattle.qd_sql_ast.specs.declared.tree.Query.{Query}
use Rattle.qd_bind.specs.Scoped as scoped
use Rattle.qd_meaning.specs.declared.parts.JoinSpec.{JoinSpec}
use Rattle.qd_meaning.specs.declared.refusal.Refusal.{Refusal}
use Rattle.qd_meaning.specs.Refusals.{least, sooner}
use Rattle.qd_meaning.specs.Scopes.{Scope, scope_of}
use Rattle.qd_meaning.specs.Items.{Shows, items_of}
use Rattle.qd_meaning.specs.Planned as parts
use Rattle.qd_plan.specs.Shaping as spec
use Rattle.qd_plan.proofs.FaultLemmas.{step}
use Rattle.qd_plan.proofs.QueryLemmas.{grouped}
use Rattle.qd_plan.proofs.query.ask.Goals as goal

pub returns : goal.returns
returns c =
    let before : Option Refusal = c.args.faults.now.first in
    let schemas : List Schema = c.args.schemas.now in
    let q : Query = c.args.query.now in
    let l : Option Schema = schema_of schemas q.source.table.text in
    let r : Option Schema = parts.right_schema schemas q.join in
    let is_left = c.table-left.ensures.schema in
    let columns = ap₂ (λ (x y : Scope). x ++ y) (c.side.ensures.side ∙ ap (λ (o : Option Schema). scope_of q.source (parts.cols_in o)) is_left) c.in_ok-right.ensures.side in
    let items : List Shows = items_of (parts.scope_in l r q) q.selected in
    let at : ℕ = parts.time_col_in l in
    let same_col = ap parts.time_col_in is_left in
    let join = c.in_ok-right.ensures.join ∙ ap (λ (o : Option Schema). parts.joined_with (parts.position_of schemas (parts.right_name q.join)) o r q.join) is_left in
    let a : List Refusal = parts.unknown_table l q.source.table in
    let b : List Refusal = parts.join_faults_in l r q.source q.join in
    let rest : List Refusal = spec.shaped_faults at (parts.scope_in l r q) q in
    let joined = c.in_ok-right.ensures.faults ∙ ap (λ (o : Option Schema). sooner c.table-left.new.faults.first (least (parts.join_faults_in o r q.source q.join))) is_left in
    let shaped = c.in_ok-made.ensures.faults ∙ ap₂ (λ (n : ℕ) (s : Scope). sooner c.join_of.new.faults.first (least (spec.shaped_faults n s q))) same_col columns in
    record {
      plan =
          c.in_ok-made.ensures.plan
          ∙ ap₂ (λ (m n : ℕ). spec.shaped m n (scoped.side c.side.result ++ scoped.side_or_none c.in_ok-right.field-0.side) c.in_ok-right.field-0.join q) c.table-left.ensures.position same_col
          ∙ ap₂ (λ (s : Scope) (j : Option (ℕ × JoinSpec)). spec.shaped (parts.position_of schemas q.source.table.text) at s j q) columns join;
      faults =
          step before c.join_of.new.faults.first c.shaped.new.faults.first (a ++ b) rest
          (step before c.table-left.new.faults.first c.join_of.new.faults.first a b c.table-left.ensures.faults joined) shaped
          ∙ ap (λ (rs : List Refusal). sooner before (least rs))
          (grouped a b (parts.filter_faults (parts.scope_in l r q) q.filter) (parts.latest_faults (parts.scope_in l r q) at q.latest) _ (parts.sampled_faults q.sampled (parts.made_kinds items)) _);
    }
