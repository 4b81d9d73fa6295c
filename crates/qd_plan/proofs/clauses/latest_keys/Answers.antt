use Rattle.std.proofs.Common.{◌≡◌, ◌∙◌, ◌++◌, ◌∷◌, [], ℕ, List, length, ap, arith}
use Rattle.qd_sql_ast.specs.declared.tree.Column.{Column}
use Rattle.qd_bind.specs.Scoped.{scope}
use Rattle.qd_meaning.specs.Refusals.{sooner}
use Rattle.qd_meaning.specs.Scopes.{Scope}
use Rattle.qd_meaning.specs.Planned.{position_in}
use Rattle.qd_plan.specs.Shaping.{key_faults, key_of}
use Rattle.qd_plan.proofs.FaultLemmas.{all, map_all, map_more, more}
use Rattle.qd_plan.proofs.clauses.latest_keys.Goals as goal

pub loop-name-preserved : goal.loop-name-preserved
loop-name-preserved c =
    let columns : Scope = scope c.args.columns.now in
    let names : List Column = c.args.names.now in
    let i : ℕ = c.loop-name.name-index in
    let x : Column = c.name-item.result in
    let lt = c.loop-name-test.true in
    record {
      keys =
          c.in_ok-push.ensures.ok
          ∙ ap (λ (ks : List ℕ). ks ++ c.in_ok-at.at ∷ []) c.loop-name.invariant.keys
          ∙ map_more (key_of columns) names i x c.in_ok-at.at lt
          (c.in_ok-at.ensures.same ∙ c.or_first.ensures.position ∙ ap position_in c.resolve-found.ensures.column ∙ ap (key_of columns) c.name-item.is);
      faults =
          more (key_faults columns) names i x lt c.name-item.is c.args.faults.now.first c.loop-name.faults.first c.add.new.self.first c.loop-name.invariant.faults
          (c.add.ensures.added ∙ ap (sooner c.loop-name.faults.first) c.resolve-found.ensures.fault);
    }

pub returns : goal.returns
returns c =
    let columns : Scope = scope c.args.columns.now in
    let names : List Column = c.args.names.now in
    let high = c.loop-name-test.false in
    let most = c.loop-name.auto.name-index-end in
    let end : c.loop-name.name-index ≡ length names = omega arith in
    record {
      keys = c.loop-name.invariant.keys ∙ map_all (key_of columns) names c.loop-name.name-index end;
      faults = all (key_faults columns) names c.loop-name.name-index end c.args.faults.now.first c.loop-name.faults.first c.loop-name.invariant.faults;
    }
