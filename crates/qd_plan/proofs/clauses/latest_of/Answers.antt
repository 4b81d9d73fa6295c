use Rattle.std.proofs.Common.{◌∙◌, List, Option, Some, map, sym, ap}
use Rattle.std.specs.List.{flat_map}
use Rattle.qd_sql_ast.specs.declared.tree.Column.{Column}
use Rattle.qd_sql_ast.specs.declared.tree.Latest.{Latest}
use Rattle.qd_bind.specs.Scoped.{scope}
use Rattle.qd_meaning.specs.declared.refusal.Refusal.{Refusal}
use Rattle.qd_meaning.specs.Refusals.{least, sooner}
use Rattle.qd_meaning.specs.Scopes.{Scope}
use Rattle.qd_meaning.specs.Planned as parts
use Rattle.qd_plan.specs.Shaping.{key_faults, key_of, on_faults}
use Rattle.qd_plan.proofs.FaultLemmas.{none_more, step}
use Rattle.qd_plan.proofs.clauses.latest_of.Goals as goal

pub returns-in-None-clause-faults : goal.returns-in-None-clause-faults
returns-in-None-clause-faults c =
    let before : Option Refusal = c.args.faults.now.first in
    sym (none_more before) ∙ ap (λ (o : Option Latest). sooner before (least (parts.latest_faults (scope c.args.columns.now) c.args.time_col o))) (sym c.in-None.is)

pub returns-in_ok-keys-in-Some-clause-latest : goal.returns-in_ok-keys-in-Some-clause-latest
returns-in_ok-keys-in-Some-clause-latest c =
    let columns : Scope = scope c.args.columns.now in
    ap Some (c.in_ok-keys-in-Some.ensures.keys ∙ ap (map (key_of columns)) c.as_slice-names.ensures.items) ∙ ap (parts.latest_of columns) (sym c.in-Some.is)

pub returns-in_ok-keys-in-Some-clause-faults : goal.returns-in_ok-keys-in-Some-clause-faults
returns-in_ok-keys-in-Some-clause-faults c =
    let before : Option Refusal = c.args.faults.now.first in
    let columns : Scope = scope c.args.columns.now in
    let l : Latest = c.in-Some.latest in
    step before c.judge_on.new.faults.first c.latest_keys.new.faults.first (on_faults columns c.args.time_col l.on) (flat_map (key_faults columns) l.keys) c.judge_on.ensures.faults
    (c.in_ok-keys-in-Some.ensures.faults ∙ ap (λ (names : List Column). sooner c.judge_on.new.faults.first (least (flat_map (key_faults columns) names))) c.as_slice-names.ensures.items)
    ∙ ap (λ (o : Option Latest). sooner before (least (parts.latest_faults columns c.args.time_col o))) (sym c.in-Some.is)
