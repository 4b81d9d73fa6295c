use Rattle.std.proofs.Common.{◌≡◌, ◌∙◌, ◌+◌, ◌-◌, ℕ, suc, length, ap, arith}
use Rattle.qd_query.specs.declared.partitions.Partition.{Partition}
use Rattle.qd_query.proofs.Splits.{begun_first, begun_last, grown_last}
use Rattle.qd_query.proofs.partitions.with_row.Goals as goal
use Rattle.qd_query.proofs.partitions.with_row.Goals.{then-count-gt0+else-last-start, else-count-gt0}

pub returns-then-last-start : goal.returns-then-last-start
returns-then-last-start c =
    let last : Partition = c.index-last.result.now in
    let count = c.len-count.ensures in
    let size : length c.args.found.now.items ≡ suc (c.len-count.result - 1) = omega (arith, count, c.if-count-gt0.true) in
    let more : c.in_ok-rows.rows ≡ last.rows + 1 = grind (arith, c.checked_add.ensures, c.in_ok-rows.ensures.ok_part) in
    record {
      ok = grown_last c.args.start c.args.time (c.len-count.result - 1) c.args.found.now.items last _ size c.index-last.ensures c.if-last-start.true
          (ap (λ (n : ℕ). let x : Partition = record { start = c.args.start; rows = n; first = last.first; last = c.args.time } in x) more);
    }

pub returns : goal.returns
returns c = elim c.if-count-gt0.branch [
  | then-count-gt0+else-last-start w ↦
      (let count = c.len-count.ensures in
      let size : length c.args.found.now.items ≡ suc (c.len-count.result - 1) = omega (arith, count, w.if-count-gt0.true) in
      record { ok = c.in_ok-push.ensures.items ∙ begun_last c.args.start c.args.time (c.len-count.result - 1) c.args.found.now.items w.index-last.result.now size w.index-last.ensures w.if-last-start.false })
  | else-count-gt0 w ↦
      (let count = c.len-count.ensures in
      record { ok = c.in_ok-push.ensures.items ∙ begun_first c.args.start c.args.time c.args.found.now.items (omega (arith, count, w.if-count-gt0.false)) })
]
