use Rattle.std.proofs.Common.{◌≡◌, ◌∙◌, ◌+◌, ◌++◌, ◌∷◌, [], ◌-◌, ◌<◌, ◌≤◌, Bool, true, false, List, length, map, drop, get_or, arith, sym, ap}
use Rattle.std.specs.Prelude.{◌&&◌}
use Rattle.std.specs.List.{zip}
use Rattle.qd_expr.specs.Passing.{passes_in_run, passes_at}
use Rattle.qd_expr.proofs.CellLemmas.{run_placed}
use Rattle.qd_expr.proofs.RunLemmas.{also_next, also_end, run_truth, length-run_truths}
use Rattle.qd_expr.proofs.runs.also_by_row.Goals as goal

pub also_at-requires : goal.also_at-requires
also_at-requires g c = run_placed c.args.rows.now c.args.run (c.args.run.from + c.loop-k.k) c.requires.there (omega arith) (omega (arith, c.requires.size))

pub loop-k-preserved : goal.loop-k-preserved
loop-k-preserved g c =
    let e = c.args.test.now in
    let s = c.args.rows.now in
    let r = c.args.run in
    let found : List Bool = c.args.found.now in
    let more : List Bool = passes_in_run e s r in
    let k = c.loop-k.k in
    let low : c.loop-k.k < length c.args.found.now = omega arith in
    let high : c.loop-k.k < length (passes_in_run c.args.test.now c.args.rows.now c.args.run) = omega (arith, c.requires.size, length-run_truths c.args.test.now c.args.rows.now c.args.run) in
    let pushed : c.push.new.self.items ≡ c.loop-k.kept.items ++ c.also_at.result ∷ [] = c.in_ok-push.ensures.items in
    ap (λ (l : List Bool). l ++ map (λ (p : Bool × Bool). p.0 && p.1) (zip (drop (k + 1) found) (drop (k + 1) more))) pushed
    ∙ also_next found more c.loop-k.kept.items (map (λ (p : Bool × Bool). p.0 && p.1) (zip found more)) k c.also_at.result low high
    (c.also_at.ensures ∙ ap (λ (b : Bool). get_or found k false && b) (sym (run_truth e s r k (omega (arith, c.requires.size)))))
    c.loop-k.invariant

pub returns : goal.returns
returns g c =
    let more : List Bool = passes_in_run c.args.test.now c.args.rows.now c.args.run in
    record { truths = also_end c.args.found.now more c.loop-k.kept.items (map (λ (p : Bool × Bool). p.0 && p.1) (zip c.args.found.now more)) c.loop-k.k (omega arith) c.loop-k.invariant }
