use Rattle.std.proofs.Common.{◌≡◌, ◌∙◌, ◌+◌, ◌-◌, ap, sym, subst, arith, set, get_or, length}
use Rattle.qd_column.specs.declared.runs.Run.{Run}
use Rattle.qd_merge.specs.Order.{AddsRun}
use Rattle.qd_merge.proofs.Parts.{got_any}
use Rattle.qd_merge.proofs.Orders.{run_pushed, run_longer}
use Rattle.qd_merge.proofs.order.push_run.Goals as goal

pub returns-then-goes_on-clause-added : goal.returns-then-goes_on-clause-added
returns-then-goes_on-clause-added c =
    let runs = c.args.runs.now.items in
    let i = c.len-count.result - 1 in
    let d = c.index_mut.result.now in
    let last : i + 1 ≡ length runs = omega (arith, c.len-count.ensures, c.args.runs.now.ok.0) in
    let before : get_or runs i d ≡ c.index.result.now = got_any runs i d c.index.result.now (omega arith) ∙ sym c.index.ensures in
    subst (λ (x : Run). AddsRun runs c.args.run (set runs i (record x { to = c.args.run.to }))) (sym c.index_mut.ensures.value)
    (run_longer runs i d c.args.run last (ap (λ (r : Run). r.side) before ∙ c.goes_on.ensures.side c.if-goes_on.true) (ap (λ (r : Run). r.to) before ∙ c.goes_on.ensures.place c.if-goes_on.true) (c.requires.runs i d (omega arith)) c.requires.ordered)

pub returns-clause-added : goal.returns-clause-added
returns-clause-added c = subst (AddsRun c.args.runs.now.items c.args.run) (sym c.in_ok-push.ensures.items) (run_pushed c.args.runs.now.items c.args.run)
