use Rattle.std.proofs.Common.{◌∙◌, ◌+◌, List, ap, sym, subst, fold, drop}
use Rattle.std.proofs.lemmas.List.{take_all}
use Rattle.qd_base.specs.declared.op.Op.{Op}
use Rattle.qd_base.specs.declared.schema.Schema.{Schema}
use Rattle.qd_base.specs.Database.{schemas_of, StoredTable}
use Rattle.qd_base.specs.Lawful.{AreLawful}
use Rattle.qd_apply.specs.Arrivals.{arrives}
use Rattle.qd_apply.proofs.ArrivalLemmas.{schemas_arrive}
use Rattle.qd_apply.proofs.ListLemmas.{arrive_more, next_lawful}
use Rattle.qd_apply.proofs.tables.Tables.after.Goals as goal

pub changed-requires : goal.changed-requires
changed-requires c =
    let next = next_lawful (schemas_of c.loop-op.tables) c.args.ops.now c.loop-op.op-index c.op-item.result c.loop-op-test.true c.op-item.is c.loop-op.invariant.lawful in
    record { fits = next.0; sound = next.1 }

pub loop-op-preserved : goal.loop-op-preserved
loop-op-preserved c =
    let o : Op = c.op-item.result in
    let i = c.loop-op.op-index in
    let ts = c.loop-op.tables in
    let next = next_lawful (schemas_of ts) c.args.ops.now i o c.loop-op-test.true c.op-item.is c.loop-op.invariant.lawful in
    let after = c.in_ok-tables.ensures.step in
    record {
      after = after ∙ ap (λ (l : List StoredTable). arrives l o) c.loop-op.invariant.after ∙ sym (arrive_more c.args.self c.args.ops.now i o c.loop-op-test.true c.op-item.is);
      lawful = subst (λ (l : List Schema). AreLawful l (drop (i + 1) c.args.ops.now)) (sym (ap schemas_of after ∙ schemas_arrive ts o)) next.2;
    }

pub returns : goal.returns
returns c = record { after = c.loop-op.invariant.after ∙ ap (fold arrives c.args.self) (take_all c.loop-op.op-index c.args.ops.now c.loop-op-test.false) }
