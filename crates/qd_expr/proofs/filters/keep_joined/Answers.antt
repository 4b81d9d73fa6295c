use Rattle.std.proofs.Common.{◌+◌, ◌≡◌, ◌∙◌, sym, subst}
use Rattle.qd_rows.specs.Sets.{ResultRows}
use Rattle.qd_expr.proofs.FilterLemmas.{IsFiltered, row_taken, row_passed}
use Rattle.qd_expr.proofs.filters.keep_joined.Goals as goal
use Rattle.qd_expr.proofs.filters.keep_joined.Goals.{then-test_at+in_ok-push_row, else-test_at}

pub loop-i-preserved : goal.loop-i-preserved
loop-i-preserved g c =
    let filtered = λ (s : ResultRows). IsFiltered c.args.rows.now s c.args.expr.now (c.loop-i.i + 1) in
    elim c.if-test_at.branch [
      | then-test_at+in_ok-push_row w ↦ subst filtered (sym w.kept-is) (row_taken c.args.rows.now c.loop-i.kept w.push_row.new.self c.args.expr.now c.loop-i.i c.places-place.result c.places-place.ensures.places (sym c.test_at.ensures.truth ∙ w.if-test_at.true) w.in_ok-push_row.ensures.ok c.loop-i.invariant)
      | else-test_at w ↦ subst filtered (sym w.kept-is) (row_passed c.args.rows.now c.loop-i.kept c.args.expr.now c.loop-i.i c.places-place.result c.places-place.ensures.places (sym c.test_at.ensures.truth ∙ w.if-test_at.false) c.loop-i.invariant)
    ]
