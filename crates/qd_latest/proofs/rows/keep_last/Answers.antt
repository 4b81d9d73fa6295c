use Rattle.std.proofs.Common.{◌<◌, ◌+◌, None, arith, length, subst, sym, eq-eqb, get_or}
use Rattle.std.proofs.lemmas.Bool.{ne_eqb}
use Rattle.qd_rows.specs.Sets.{ResultRows}
use Rattle.qd_latest.proofs.LastLemmas.{IsKept, kept_none, kept_all, place_taken, place_passed, placed_still}
use Rattle.qd_latest.proofs.rows.keep_last.Goals as goal
use Rattle.qd_latest.proofs.rows.keep_last.Goals.{then-last-numbers+in_ok-push_row, else-last-numbers}

pub loop-i-init : goal.loop-i-init
loop-i-init g c = kept_none c.args.rows.now c.args.numbers.now c.args.last.now c.args.kept.now c.requires.empty

pub push_row-requires : goal.push_row-requires
push_row-requires g c = placed_still c.args.rows.now c.args.numbers.now c.args.last.now c.loop-i.kept c.loop-i.i c.places-right.result c.loop-i.invariant c.places-right.ensures.there

pub loop-i-preserved : goal.loop-i-preserved
loop-i-preserved g c =
    let kept = λ (s : ResultRows). IsKept c.args.rows.now c.args.numbers.now c.args.last.now s (c.loop-i.i + 1) in
    let low : c.loop-i.i < length c.args.rows.now.places = omega (arith, c.requires.count) in
    elim c.if-last-numbers.branch [
      | then-last-numbers+in_ok-push_row w ↦
          subst kept (sym w.kept-is)
          (place_taken c.args.rows.now c.args.numbers.now c.args.last.now c.loop-i.kept w.push_row.new.self c.loop-i.i w.places-right.result w.places-right.ensures.places
          (eq-eqb (get_or c.args.last.now (get_or c.args.numbers.now c.loop-i.i 0) 0) c.loop-i.i w.if-last-numbers.true) w.in_ok-push_row.ensures.ok c.loop-i.invariant)
      | else-last-numbers w ↦
          subst kept (sym w.kept-is)
          (place_passed c.args.rows.now c.args.numbers.now c.args.last.now c.loop-i.kept c.loop-i.i ((0, 0), None) low
          (ne_eqb (get_or c.args.last.now (get_or c.args.numbers.now c.loop-i.i 0) 0) c.loop-i.i w.if-last-numbers.false) c.loop-i.invariant)
    ]

pub returns : goal.returns
returns g c = record { ok = kept_all c.args.rows.now c.args.numbers.now c.args.last.now c.loop-i.kept c.loop-i.i (omega arith) c.loop-i.invariant }
