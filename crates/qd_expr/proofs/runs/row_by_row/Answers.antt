use Rattle.std.proofs.Common.{◌≡◌, ◌∙◌, ◌++◌, ◌∷◌, [], ◌-◌, ◌≤◌, Bool, List, None, arith, sym, ap, map}
use Rattle.std.specs.List.{range_with_len}
use Rattle.qd_rows.specs.Runs.{Spot}
use Rattle.qd_expr.specs.Passing.{passes_at}
use Rattle.qd_expr.proofs.CellLemmas.{run_placed}
use Rattle.qd_expr.proofs.ListLemmas.{map-map, row_more}
use Rattle.qd_expr.proofs.runs.row_by_row.Goals as goal

pub test_at-requires : goal.test_at-requires
test_at-requires g c = run_placed c.args.rows.now c.args.run c.loop-i.i c.requires (omega arith) (omega arith)

pub loop-i-preserved : goal.loop-i-preserved
loop-i-preserved g c =
    let e = c.args.expr.now in
    let s = c.args.rows.now in
    let r = c.args.run in
    let pushed : c.push.new.self.items ≡ c.loop-i.found.items ++ c.test_at.result ∷ [] = c.in_ok-push.ensures.items in
    pushed
    ∙ ap (λ (l : List Bool). l ++ c.test_at.result ∷ []) c.loop-i.invariant
    ∙ sym (row_more (λ i. passes_at e s ((r.block, i), None)) r.from c.loop-i.i (omega arith) c.test_at.result c.test_at.ensures.truth)

pub returns : goal.returns
returns g c =
    let e = c.args.expr.now in
    let s = c.args.rows.now in
    let r = c.args.run in
    let done : c.loop-i.i - c.args.run.from ≡ c.args.run.to - c.args.run.from = omega (arith, c.requires.some) in
    record {
      truths = c.loop-i.invariant
          ∙ ap (λ n. map (λ i. passes_at e s ((r.block, i), None)) (range_with_len r.from n)) done
          ∙ sym (map-map (λ (p : Spot). passes_at e s (p, None)) (λ i. (r.block, i)) (range_with_len r.from (r.to - r.from)));
    }
