use Rattle.qd_score.specs.Calls.{known_by}
use Rattle.qd_shared.proofs.Thinning.{thinned_more, thinned_none}
use Rattle.qd_shared.proofs.shared.Shared.retire_rows.Goals as goal

pub loop-row-init : goal.loop-row-init
loop-row-init g c = (c.requires.seat, thinned_none (known_by c.args.seat.now) c.args.hold.book c.requires.may)

pub loop-row-preserved : goal.loop-row-preserved
loop-row-preserved g c =
    let e = c.retire_row-hold.ensures in (
      e.seat,
      thinned_more (known_by c.args.seat.now) (known_by c.loop-row.seat) (known_by c.retire_row-hold.new.seat) c.args.hold.book c.loop-row.hold.book c.retire_row-hold.result.book c.loop-row.row c.loop-row.invariant.1 e.may e.steps e.items e.history e.shown e.current e.removed e.alone e.thin e.others,
    )
