use Rattle.qd_score.specs.Calls.{known_by}
use Rattle.qd_shared.proofs.Closing.{closed}
use Rattle.qd_shared.proofs.shared.Shared.close.Goals as goal

pub returns : goal.returns
returns g c =
    record {
      closes = closed c.args.pass c.pass.inside.seat.table_id (known_by c.pass.inside.seat) c.take-hold.result.book c.into_book.result c.into_store.result c.pass.view_is c.pass.invariant.2 c.pass.invariant.0.stands c.take-hold.ensures.begins c.into_book.ensures c.into_store.ensures.store c.into_store.ensures.kept;
    }
