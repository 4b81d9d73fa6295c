use Rattle.std.proofs.Common.{◌+◌, ℕ, get_or, arith, refl, sym, subst, inl, inr}
use Rattle.qd_rows.specs.Sets.{ResultRows}
use Rattle.qd_latest.proofs.PlaceLemmas.{placed_too, taken_all, taken_more, taken_none, taken_passed, IsTaken}
use Rattle.qd_latest.proofs.rows.add_rows.Goals as goal
use Rattle.qd_latest.proofs.rows.add_rows.Goals.{then-next-place+then-place-count+in_ok-push_row, else-next-place, else-next-place-via-then-next-place+else-place-count, else-next-place-via-else-next-place}

pub loop-place-init : goal.loop-place-init
loop-place-init g c = taken_none c.args.rows.now c.args.places.now c.args.kept.now c.requires.empty

pub push_row-requires : goal.push_row-requires
push_row-requires g c = placed_too c.args.rows.now c.args.places.now c.loop-place.kept c.loop-place.place-index c.loop-place.next c.places-right.result c.loop-place.invariant c.places-right.ensures.there

pub loop-place-preserved : goal.loop-place-preserved
loop-place-preserved g c =
    let s : ResultRows = c.args.rows.now in
    let index : ℕ = c.loop-place.place-index in
    let place : ℕ = get_or c.args.places.now c.loop-place.place-index 0 in
    elim c.if-next-place.branch [
      | then-next-place+then-place-count+in_ok-push_row w ↦
          subst (λ (n : ℕ). IsTaken s c.args.places.now c.if-next-place.kept (index + 1) n) (sym w.next-is)
          (subst (λ (k : ResultRows). IsTaken s c.args.places.now k (index + 1) (place + 1)) (sym w.kept-is)
          (taken_more s c.args.places.now c.loop-place.kept w.push_row.new.self index c.loop-place.next place w.places-right.result c.requires.sorted (omega (arith, c.loop-place-test.true)) refl w.if-next-place.true
          (omega (arith, w.if-place-count.true, c.len-count.ensures.count)) w.places-right.ensures.places w.in_ok-push_row.ensures.ok c.loop-place.invariant))
      | else-next-place w ↦
          subst (λ (n : ℕ). IsTaken s c.args.places.now c.if-next-place.kept (index + 1) n) (sym w.next-is)
          (subst (λ (k : ResultRows). IsTaken s c.args.places.now k (index + 1) c.loop-place.next) (sym w.kept-is)
          (taken_passed s c.args.places.now c.loop-place.kept index c.loop-place.next
          (elim w.else-next-place.branch [
            | else-next-place-via-then-next-place+else-place-count v ↦ inr (omega (arith, v.if-place-count.false, c.len-count.ensures.count))
            | else-next-place-via-else-next-place v ↦ inl (omega (arith, v.if-next-place.false))
          ]) c.loop-place.invariant))
    ]

pub returns : goal.returns
returns g c = taken_all c.args.rows.now c.args.places.now c.loop-place.kept c.loop-place.place-index c.loop-place.next c.requires.sorted (omega (arith, c.loop-place-test.false)) c.loop-place.invariant
