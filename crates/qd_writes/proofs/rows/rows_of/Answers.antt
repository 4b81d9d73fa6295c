use Rattle.std.proofs.Common.{◌≡◌, ◌<◌, ◌∙◌, ◌++◌, ◌∷◌, [], ℕ, List, length, get_or, map, take, ap, sym, subst, arith, All}
use Rattle.std.specs.List.{flat_map}
use Rattle.std.proofs.lemmas.List.Elements.{All-append, All-cons, All-nil}
use Rattle.qd_base.specs.declared.schema.Col.{Col}
use Rattle.qd_base.specs.Rows.{Row}
use Rattle.qd_sql_ast.specs.declared.tree.Tuple.{Tuple}
use Rattle.qd_meaning.specs.Refusals.{least}
use Rattle.qd_meaning.specs.Inserting.{Target, row_of, targets_of, tuple_faults}
use Rattle.qd_writes.specs.Literals.{lent_cell, IsFit}
use Rattle.qd_writes.specs.Placing.{cells_of, ArePlaces}
use Rattle.qd_writes.proofs.JudgeLemmas.{flat_more, flat_all, map_more, map_all}
use Rattle.qd_writes.proofs.rows.rows_of.Goals as goal

pub loop-tuple-preserved : goal.loop-tuple-preserved
loop-tuple-preserved c =
    let cols : List Col = c.args.schema.now.cols in
    let ts : List Target = targets_of cols c.args.insert.now.columns in
    let tuples : List Tuple = c.as_slice-tuples.result.now in
    let i : ℕ = c.loop-tuple.tuple-index in
    let t : Tuple = c.tuple-item.result in
    let lt : i < length tuples = c.loop-tuple-test.true in
    let itself : t ≡ get_or tuples i t = c.tuple-item.is in
    let meant : c.as_slice-targets.result.now ≡ ts = c.as_slice-targets.ensures.value ∙ c.in_ok-targets.ensures.targets in
    let us : List Target = c.as_slice-targets.result.now in
    let given : List Col = c.as_slice-cols.result.now in
    let are : ArePlaces us (length given) c.as_slice.result.now = subst (ArePlaces us (length given)) (sym c.as_slice.ensures.value) c.in_ok-places.ensures.places in
    let cells : map lent_cell c.as_slice-in-loop-tuple.result.now ≡ cells_of us t.lits = ap (map lent_cell) c.as_slice-in-loop-tuple.ensures.value ∙ c.in_ok-judged.ensures.cells in
    let made : c.in_ok-row.row ≡ row_of cols ts t =
    c.in_ok-row.ensures.row us t.lits are cells
    ∙ ap (λ (ds : List Col). row_of ds us t) c.as_slice-cols.ensures.items
    ∙ ap (λ (vs : List Target). row_of cols vs t) meant in
    record {
      rows =
          c.in_ok-push.ensures.ok
          ∙ ap (λ (rows : List Row). rows ++ c.in_ok-row.row ∷ []) c.loop-tuple.invariant.rows
          ∙ map_more (row_of cols ts) tuples i t c.in_ok-row.row lt (made ∙ ap (row_of cols ts) itself);
      fit =
          subst (All (All IsFit)) (sym c.in_ok-push.ensures.ok)
          (All-append (All IsFit) c.loop-tuple.rows (c.in_ok-row.row ∷ []) c.loop-tuple.invariant.fit (All-cons (All IsFit) c.in_ok-row.row [] c.in_ok-row.ensures.fit (All-nil (All IsFit))));
      found =
          c.both-found.ensures.least (flat_map (tuple_faults c.args.schema.now.time_col ts) (take i tuples)) (tuple_faults c.args.schema.now.time_col ts (get_or tuples i t)) c.loop-tuple.invariant.found
          (c.in_ok-judged.ensures.least
          ∙ ap (λ (us : List Target). least (tuple_faults c.args.schema.now.time_col us t)) meant
          ∙ ap (λ (u : Tuple). least (tuple_faults c.args.schema.now.time_col ts u)) itself)
          ∙ ap least (flat_more (tuple_faults c.args.schema.now.time_col ts) tuples i t lt);
    }

pub returns : goal.returns
returns c =
    let cols : List Col = c.args.schema.now.cols in
    let ts : List Target = targets_of cols c.args.insert.now.columns in
    let tuples : List Tuple = c.as_slice-tuples.result.now in
    let high = c.loop-tuple-test.false in
    let most = c.loop-tuple.auto.tuple-index-end in
    let end : c.loop-tuple.tuple-index ≡ length tuples = omega arith in
    record {
      rows = c.loop-tuple.invariant.rows ∙ map_all (row_of cols ts) tuples c.loop-tuple.tuple-index end ∙ ap (map (row_of cols ts)) c.as_slice-tuples.ensures.items;
      fit = c.loop-tuple.invariant.fit;
      least =
          c.loop-tuple.invariant.found
          ∙ ap least (flat_all (tuple_faults c.args.schema.now.time_col ts) tuples c.loop-tuple.tuple-index end)
          ∙ ap (λ (us : List Tuple). least (flat_map (tuple_faults c.args.schema.now.time_col ts) us)) c.as_slice-tuples.ensures.items;
    }
