use Rattle.std.proofs.Common.{◌≡◌, ◌∙◌, ◌++◌, ◌∷◌, [], ℕ, List, Option, length, ap, arith}
use Rattle.std.specs.Option.{option_copied}
use Rattle.qd_base.specs.declared.schema.Schema.{Schema}
use Rattle.qd_sql_ast.specs.declared.tree.Name.{Name}
use Rattle.qd_meaning.specs.Planned.{cols_in, column_in}
use Rattle.qd_plan.specs.Joining.{key_faults}
use Rattle.qd_plan.proofs.FaultLemmas.{all, map_all, map_more, more}
use Rattle.qd_plan.proofs.tables.join_keys.Goals as goal

pub loop-name-preserved : goal.loop-name-preserved
loop-name-preserved c =
    let one : Option Schema = option_copied c.args.left.schema in
    let other : Option Schema = option_copied c.args.right.schema in
    let names : List Name = c.args.names.now in
    let i : ℕ = c.loop-name.name-index in
    let x : Name = c.name-item.result in
    let lt = c.loop-name-test.true in
    let left_at : ℕ = c.in_ok-left_at.left_at in
    let right_at : ℕ = c.in_ok-left_at.right_at in
    record {
      left =
          c.in_ok-push.ensures.ok
          ∙ ap (λ (ks : List ℕ). ks ++ left_at ∷ []) c.loop-name.invariant.left
          ∙ map_more (column_in (cols_in one)) names i x left_at lt (c.in_ok-left_at.ensures.left ∙ ap (column_in (cols_in one)) c.name-item.is);
      right =
          c.in_ok-push-2.ensures.ok
          ∙ ap (λ (ks : List ℕ). ks ++ right_at ∷ []) c.loop-name.invariant.right
          ∙ map_more (column_in (cols_in other)) names i x right_at lt (c.in_ok-left_at.ensures.right ∙ ap (column_in (cols_in other)) c.name-item.is);
      faults =
          more (key_faults one other) names i x lt c.name-item.is c.args.faults.now.first c.loop-name.faults.first c.join_key.new.faults.first c.loop-name.invariant.faults c.in_ok-left_at.ensures.faults;
    }

pub returns : goal.returns
returns c =
    let one : Option Schema = option_copied c.args.left.schema in
    let other : Option Schema = option_copied c.args.right.schema in
    let names : List Name = c.args.names.now in
    let high = c.loop-name-test.false in
    let most = c.loop-name.auto.name-index-end in
    let end : c.loop-name.name-index ≡ length names = omega arith in
    record {
      left = c.loop-name.invariant.left ∙ map_all (column_in (cols_in one)) names c.loop-name.name-index end;
      right = c.loop-name.invariant.right ∙ map_all (column_in (cols_in other)) names c.loop-name.name-index end;
      faults = all (key_faults one other) names c.loop-name.name-index end c.args.faults.now.first c.loop-name.faults.first c.loop-name.invariant.faults;
    }
