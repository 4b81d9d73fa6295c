use Rattle.std.proofs.Common.{◌∙◌, ◌++◌, ℕ, not, List, Option, Some, sym, ap, ap₂}
use Rattle.std.specs.List.{flat_map}
use Rattle.std.specs.Option.{option_copied}
use Rattle.qd_base.specs.declared.code.Code.TheVariants as code
use Rattle.qd_base.specs.declared.schema.Schema.{Schema}
use Rattle.qd_base.specs.Schemas.{same_name, schema_of}
use Rattle.qd_sql_ast.specs.declared.tree.Join.{Join}
use Rattle.qd_sql_ast.specs.declared.tree.Source.{Source}
use Rattle.qd_meaning.specs.declared.parts.JoinSpec.{JoinSpec}
use Rattle.qd_meaning.specs.declared.refusal.Refusal.{Refusal}
use Rattle.qd_meaning.specs.Refusals.{least, sooner, unless}
use Rattle.qd_meaning.specs.Scopes.{called, scope_of}
use Rattle.qd_meaning.specs.Planned as parts
use Rattle.qd_plan.specs.Joining.{key_faults}
use Rattle.qd_plan.proofs.FaultLemmas.{none_more, step}
use Rattle.qd_plan.proofs.QueryLemmas.{three}
use Rattle.qd_plan.proofs.tables.join_of.Goals as goal

pub returns-in-None : goal.returns-in-None
returns-in-None c =
    let before : Option Refusal = c.args.faults.now.first in
    let l : Option Schema = option_copied c.args.left.schema in
    let schemas : List Schema = c.args.schemas.now in
    record {
      side = sym (ap (λ (j : Option Join). parts.scope_behind (parts.right_schema schemas j) j) c.in-None.is);
      join = sym (ap (λ (j : Option Join). parts.joined_with (parts.position_of schemas (parts.right_name j)) l (parts.right_schema schemas j) j) c.in-None.is);
      faults = sym (none_more before) ∙ ap (λ (j : Option Join). sooner before (least (parts.join_faults_in l (parts.right_schema schemas j) c.args.query.now.source j))) (sym c.in-None.is);
    }

pub returns-in_ok-spec-in-Some : goal.returns-in_ok-spec-in-Some
returns-in_ok-spec-in-Some c =
    let before : Option Refusal = c.args.faults.now.first in
    let l : Option Schema = option_copied c.args.left.schema in
    let schemas : List Schema = c.args.schemas.now in
    let source : Source = c.args.query.now.source in
    let j : Join = c.in-Some.join in
    let r : Option Schema = schema_of schemas j.right.table.text in
    let is_right = c.table-right.ensures.schema in
    let a : List Refusal = parts.unknown_table r j.right.table in
    let b : List Refusal = unless (not (same_name (called source).text (called j.right).text)) code.Ambiguous (called j.right).at in
    let k : List Refusal = flat_map (key_faults l r) (parts.keys_on j.on) in
    let joined =
    c.in_ok-spec-in-Some.ensures.faults ∙ ap (λ (o : Option Schema). sooner c.table-right.new.faults.first (least (b ++ flat_map (key_faults l o) (parts.keys_on j.on)))) is_right in
    record {
      side =
          c.side.ensures.side
          ∙ ap (λ (o : Option Schema). scope_of j.right (parts.cols_in o)) is_right
          ∙ ap (λ (x : Option Join). parts.scope_behind (parts.right_schema schemas x) x) (sym c.in-Some.is);
      join =
          ap₂ (λ (n : ℕ) (s : JoinSpec). Some (n, s)) c.table-right.ensures.position (c.in_ok-spec-in-Some.ensures.spec ∙ ap (λ (o : Option Schema). parts.join_spec l o j) is_right)
          ∙ ap (λ (x : Option Join). parts.joined_with (parts.position_of schemas (parts.right_name x)) l (parts.right_schema schemas x) x) (sym c.in-Some.is);
      faults =
          step before c.table-right.new.faults.first c.join_spec.new.faults.first a (b ++ k) c.table-right.ensures.faults joined
          ∙ ap (λ (rs : List Refusal). sooner before (least rs)) (three a b k)
          ∙ ap (λ (x : Option Join). sooner before (least (parts.join_faults_in l (parts.right_schema schemas x) source x))) (sym c.in-Some.is);
    }
