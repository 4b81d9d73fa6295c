use Rattle.std.proofs.Common.{◌≡◌, ◌-◌, ◌+◌, ◌<◌, List, length, set, ap, sym, subst, ◌∙◌, IsTrue, arith, rules}
use Rattle.std.proofs.lemmas.List.{get_or_default}
use Rattle.qd_rows.specs.declared.runs.Run.{Run}
use Rattle.qd_rows.specs.Runs.{no_run, run_at, AreRuns}
use Rattle.qd_rows.proofs.RunLemmas.{AddsRun, extended, run_extended, run_added}
use Rattle.qd_rows.proofs.runs.add_run.Goals as goal

-- the last run, made longer
stretched : (c : goal.After-runs-1) → AddsRun 0 c.args.runs.now.items (set c.args.runs.now.items (c.len-count.result - 1) (extended c.index_mut.result.now c.args.run)) c.args.run
stretched c =
    let items = c.args.runs.now.items in
    let k = c.len-count.result - 1 in
    let some : c.len-count.result ≡ length items = omega (arith, c.len-count.ensures, c.args.runs.now.ok.0) in
    let low : c.len-count.result - 1 < length items = omega (arith, c.if-count-gt0.true) in
    let last : c.index_mut.result.now ≡ run_at items (c.len-count.result - 1) = c.index_mut.ensures.value ∙ get_or_default items (c.len-count.result - 1) c.index_mut.result.now no_run low in
    let read : c.index.result.now ≡ run_at items (c.len-count.result - 1) = c.index.ensures ∙ get_or_default items (c.len-count.result - 1) c.index.result.now no_run low in
    let one : c.index_mut.result.now ≡ c.index.result.now = last ∙ sym read in
    let true_ : IsTrue c.goes_on.result = search rules in
    let goes = c.goes_on.ensures.0 true_ in
    run_extended 0 (c.len-count.result - 1) items c.index_mut.result.now c.args.run (omega (arith, c.if-count-gt0.true)) last (ap (λ (r : Run). r.block) one ∙ goes.0) (ap (λ (r : Run). r.to) one ∙ goes.1) c.requires.some c.requires.runs

pub returns-then-goes_on-clause-places : goal.returns-then-goes_on-clause-places
returns-then-goes_on-clause-places c = (stretched c).places

pub returns-then-goes_on-clause-runs : goal.returns-then-goes_on-clause-runs
returns-then-goes_on-clause-runs c = (stretched c).runs

pub returns-clause-runs : goal.returns-clause-runs
returns-clause-runs c = subst (λ (rs : List Run). AreRuns 0 rs (c.args.run.before + (c.args.run.to - c.args.run.from))) (sym c.in_ok-push.ensures.items) (run_added 0 c.args.runs.now.items c.args.run c.requires.some c.requires.runs).runs
