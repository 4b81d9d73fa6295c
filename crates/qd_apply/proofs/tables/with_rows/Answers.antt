use Rattle.std.proofs.Common.{arith}
use Rattle.qd_apply.specs.Arrivals.{arrived}
use Rattle.qd_apply.proofs.ListLemmas.{is_there, may_fill, none_fills, one_changed, waits_set}
use Rattle.qd_apply.proofs.tables.with_rows.Goals as goal

pub index_mut-table-requires : goal.index_mut-table-requires
index_mut-table-requires c = let low = is_there c.args.schemas.now c.args.tables.items c.args.name.now c.in-Some.i c.requires.kept c.in-Some.ensures.position in omega (arith, low, c.args.tables.ok.0)

pub fill-requires : goal.fill-requires
fill-requires c = record { fit = may_fill c.args.schemas.now c.args.tables.items c.args.name.now c.args.rows.now c.in-Some.i c.index_mut-table.result.now c.requires.kept c.requires.sound c.in-Some.ensures.position c.index_mut-table.ensures.value }

pub returns-in-None : goal.returns-in-None
returns-in-None c = absurd (none_fills c.args.schemas.now c.args.name.now c.args.rows.now c.in-None.ensures.position c.requires.fits)

pub returns-in_ok-fill-in-Some : goal.returns-in_ok-fill-in-Some
returns-in_ok-fill-in-Some c =
    let ts = c.args.tables.items in
    let change = arrived c.args.rows.now in
    record {
      kept = waits_set ts c.in-Some.i c.fill.new.self c.requires.kept.each c.waits.ensures;
      step = one_changed c.args.schemas.now ts c.args.name.now c.in-Some.i c.index_mut-table.result.now c.fill.new.self change c.requires.kept c.in-Some.ensures.position c.index_mut-table.ensures.value c.in_ok-fill-in-Some.ensures.ok;
    }
