use Rattle.std.proofs.Common.{arith}
use Rattle.qd_base.specs.Database.{rekeyed}
use Rattle.qd_apply.proofs.ListLemmas.{is_there, may_rekey, none_rekeys, one_changed, waits_set}
use Rattle.qd_apply.proofs.tables.with_keys.Goals as goal

pub index_mut-table-requires : goal.index_mut-table-requires
index_mut-table-requires c = let low = is_there c.args.schemas.now c.args.tables.items c.args.name.now c.in-Some.i c.requires.kept c.in-Some.ensures.position in omega (arith, low, c.args.tables.ok.0)

pub rekey-requires : goal.rekey-requires
rekey-requires c = record { sound = may_rekey c.args.schemas.now c.args.tables.items c.args.name.now c.args.keys.now c.in-Some.i c.index_mut-table.result.now c.requires.kept c.requires.fits c.in-Some.ensures.position c.index_mut-table.ensures.value }

pub returns-in-None : goal.returns-in-None
returns-in-None c = absurd (none_rekeys c.args.schemas.now c.args.name.now c.args.keys.now c.in-None.ensures.position c.requires.fits)

pub returns-in_ok-rekey-in-Some : goal.returns-in_ok-rekey-in-Some
returns-in_ok-rekey-in-Some c =
    let ts = c.args.tables.items in
    let change = rekeyed c.args.keys.now in
    record {
      kept = waits_set ts c.in-Some.i c.rekey.new.self c.requires.kept.each c.waits.ensures;
      step = one_changed c.args.schemas.now ts c.args.name.now c.in-Some.i c.index_mut-table.result.now c.rekey.new.self change c.requires.kept c.in-Some.ensures.position c.index_mut-table.ensures.value c.in_ok-rekey-in-Some.ensures.ok;
    }
