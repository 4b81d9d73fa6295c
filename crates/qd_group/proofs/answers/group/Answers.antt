use Rattle.std.proofs.Common.{◌≡◌, ◌∙◌, ◌<◌, ◌++◌, ◌∷◌, [], ℕ, List, ap, ap₂, sym, subst, arith, length, map, get_or, All, Vec, Global}
use Rattle.std.specs.List.{range_with_len}
use Rattle.std.proofs.lemmas.Bool.{eqb-true, eqb-false}
use Rattle.std.proofs.lemmas.List.{get_or_default}
use Rattle.qd_base.specs.Rows.{Row}
use Rattle.qd_base.specs.declared.cell.Cell.TheVariants as cell
use Rattle.qd_value.specs.declared.bound.Bound.{Bound}
use Rattle.qd_value.specs.declared.scalars.Scalar.{Scalar}
use Rattle.qd_value.specs.Scalars.{cell_of}
use Rattle.qd_rows.specs.Sets.{rows_in}
use Rattle.qd_meaning.specs.declared.parts.Agg.{Agg}
use Rattle.qd_meaning.specs.Grouped.{aggregates, key_of}
use Rattle.qd_expr.specs.Passing.{row_in}
use Rattle.qd_group.specs.Grouping.{answers_of, same_rows, AreGroups}
use Rattle.qd_group.proofs.Leaders.{first_below, number_below}
use Rattle.qd_group.proofs.Assembly.{columns_fit, made_more, row_is, row_of_group, rows_grouped, whole_grouped}
use Rattle.qd_group.proofs.answers.group.Goals as goal

pub returns-then-is_empty : goal.returns-then-is_empty
returns-then-is_empty g c =
    record {
      rows = c.in_ok-push.ensures.ok
          ∙ ap₂ (λ (l : List Row) (r : Row). l ++ r ∷ []) c.new-made.ensures.empty (c.in_ok-row_of_all.ensures ∙ ap (λ (list : List Agg). aggregates list (rows_in c.args.rows.now)) c.as_slice.ensures.items)
          ∙ whole_grouped c.args.spec.now (rows_in c.args.rows.now) (eqb-true (length c.args.spec.now.keys) 0 (sym c.if-is_empty.ensures.empty));
    }

pub columns_of-requires-clause-below : goal.columns_of-requires-clause-below
columns_of-requires-clause-below g c = λ k d low.
    let are = c.in_ok-groups.ensures.groups in
    let ns = c.in_ok-groups.groups.numbers.items in
    let fs = c.in_ok-groups.groups.firsts.items in
    let same = get_or_default ns k d 0 low in
    let fits = number_below (same_rows c.as_slice-2.result.now c.args.rows.now) (length c.args.rows.now.places) ns fs k are (omega (arith, are.count, low)) in
    omega (arith, same, fits)

pub keys_at-requires : goal.keys_at-requires
keys_at-requires g c =
    let are = c.in_ok-groups.ensures.groups in
    let fs = c.in_ok-groups.groups.firsts.items in
    let low : c.loop-n.n < length c.in_ok-groups.groups.firsts.items = omega arith in
    let first = first_below (same_rows c.as_slice-2.result.now c.args.rows.now) (length c.args.rows.now.places) c.in_ok-groups.groups.numbers.items fs c.loop-n.n c.index.result.now are low in
    omega (arith, first, c.index.ensures)

pub with_answers-requires : goal.with_answers-requires
with_answers-requires g c =
    let numbers = c.in_ok-groups.groups.numbers.items in
    let fs = c.in_ok-groups.groups.firsts.items in
    let low : c.loop-n.n < length c.in_ok-groups.groups.firsts.items = omega arith in
    let shown = c.in_ok-columns.ensures.answers ∙ ap (map (answers_of numbers (length fs) (rows_in c.args.rows.now))) c.as_slice-3.ensures.items in
    subst (λ (cols : List (Vec Scalar Global)). All (λ (col : Vec Scalar Global). c.loop-n.n < length col.items) cols) (sym c.as_slice-in-loop-n-2.ensures.value)
    (columns_fit (λ (col : Vec Scalar Global). col.items) c.in_ok-columns.columns.items numbers (length fs) (rows_in c.args.rows.now) c.args.spec.now.aggs c.loop-n.n low shown)

pub loop-n-preserved : goal.loop-n-preserved
loop-n-preserved g c =
    let numbers = c.in_ok-groups.groups.numbers.items in
    let fs = c.in_ok-groups.groups.firsts.items in
    let keys = c.args.spec.now.keys in
    let f : ℕ = c.index.result.now in
    let n : ℕ = c.loop-n.n in
    let low : c.loop-n.n < length c.in_ok-groups.groups.firsts.items = omega arith in
    let shown = c.in_ok-columns.ensures.answers ∙ ap (map (answers_of numbers (length fs) (rows_in c.args.rows.now))) c.as_slice-3.ensures.items in
    made_more keys c.args.spec.now.aggs numbers fs c.args.rows.now n c.loop-n.made c.push-in-loop-n.new.self c.in_ok-with_answers.field-0 c.loop-n.invariant
    (row_is (λ (col : Vec Scalar Global). col.items) c.in_ok-columns.columns.items keys c.args.spec.now.aggs numbers fs c.args.rows.now n f c.in_ok-row.row c.in_ok-with_answers.field-0 low (c.index.ensures ∙ get_or_default fs n f 0 low) shown
    (c.in_ok-row.ensures ∙ ap (λ (ks : List Bound). key_of ks (row_in c.args.rows.now f)) c.as_slice-in-loop-n.ensures.items)
    (c.in_ok-with_answers.ensures ∙ ap (λ (cols : List (Vec Scalar Global)). c.in_ok-row.row ++ map (λ (col : Vec Scalar Global). get_or (map cell_of col.items) n cell.Null) cols) c.as_slice-in-loop-n-2.ensures.value))
    c.in_ok-push-2.ensures.ok

pub returns : goal.returns
returns g c =
    let are = c.in_ok-groups.ensures.groups in
    let ns = c.in_ok-groups.groups.numbers.items in
    let fs = c.in_ok-groups.groups.firsts.items in
    let all : c.loop-n.n ≡ length c.in_ok-groups.groups.firsts.items = omega arith in
    let keyed = eqb-false (length c.args.spec.now.keys) 0 (sym c.if-is_empty.ensures.empty) in
    let some : 0 < length c.args.spec.now.keys = omega (arith, keyed) in
    record {
      rows = c.loop-n.invariant
          ∙ ap (λ n. map (row_of_group c.args.spec.now.keys c.args.spec.now.aggs ns fs c.args.rows.now) (range_with_len 0 n)) all
          ∙ rows_grouped c.args.spec.now c.args.rows.now ns fs some (subst (λ (ks : List Bound). AreGroups (same_rows ks c.args.rows.now) (length c.args.rows.now.places) ns fs) c.as_slice-2.ensures.items are);
    }
