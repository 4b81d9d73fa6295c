use Rattle.std.proofs.Common.{ℕ, Err, Ok, ap, refl}
use Rattle.qd_volume.specs.Calls.{Storage}
use Rattle.qd_store_backend.proofs.Leaving.{turned_leaves}
use Rattle.qd_store_backend.proofs.Turns.{failed_told, never_damaged, of_volume, published, rows_damaged, turned_told}
use Rattle.qd_store_backend.proofs.rounds.turn_to.Goals as goal

pub of_publish-requires : goal.of_publish-requires
of_publish-requires g c =
    let e = c.publish.ensures in
    record { of_volume = of_volume c.publish.result c.args.store.now.store.versions.versions c.args.merged.now c.in-Err.cause c.in-Err.is e.moved e.full c.requires.over c.requires.alone c.keeps_its_law.ensures.versions.rows }

pub returns-in-Ok-clause-told : goal.returns-in-Ok-clause-told
returns-in-Ok-clause-told g c =
    turned_told ℕ c.args.store.now c.publish.new.self c.retire.new.self c.in-Ok.field-0 c.args.merged.now c.in-Ok.ensures.told c.retire.ensures.storage c.retire.ensures.holds

pub returns-in-Ok-clause-left : goal.returns-in-Ok-clause-left
returns-in-Ok-clause-left g c =
    turned_leaves ℕ (Ok c.in-Ok.field-0) c.args.store.now c.publish.new.self c.retire.new.self c.args.merged.now c.in-Ok.ensures.told (ap (λ (s : Storage). s.disk) c.retire.ensures.storage) c.retire.ensures.sequence

pub returns-in-Err-clause-left : goal.returns-in-Err-clause-left
returns-in-Err-clause-left g c =
    turned_leaves ℕ (Err c.in-Err.cause) c.args.store.now c.publish.new.self c.publish.new.self c.args.merged.now c.in-Err.ensures.told refl refl

pub returns-in-Err-clause-damaged : goal.returns-in-Err-clause-damaged
returns-in-Err-clause-damaged g c file at damaged =
    rows_damaged c.args.store.now c.args.merged.now c.publish.result c.in-Err.cause c.in-Err.is c.of_publish.result c.of_publish.ensures.fault file at (let e = damaged in cc) c.publish.ensures.damaged

pub returns-in-Err-clause-unwritten : goal.returns-in-Err-clause-unwritten
returns-in-Err-clause-unwritten g c file at damaged =
    c.publish.ensures.unwritten file at
    (published c.args.store.now c.args.merged.now c.publish.result c.in-Err.cause c.in-Err.is c.of_publish.result c.of_publish.ensures.fault file at (let e = damaged in cc))

pub returns-in-Err-clause-whole : goal.returns-in-Err-clause-whole
returns-in-Err-clause-whole g c h told file at damaged =
    never_damaged c.args.store.now c.args.merged.now c.publish.result c.in-Err.cause c.in-Err.is c.of_publish.result c.of_publish.ensures.fault file at (let e = damaged in cc) c.publish.new.self h told c.publish.ensures.told

pub returns-in-Err-clause-told : goal.returns-in-Err-clause-told
returns-in-Err-clause-told g c = failed_told c.args.store.now c.publish.new.self c.in-Err.cause c.args.merged.now c.in-Err.ensures.told
