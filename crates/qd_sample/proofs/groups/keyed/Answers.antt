use Rattle.std.proofs.lemmas.Bool.{eqb-true}
use Rattle.std.proofs.lemmas.Result.{IfOk-weaker}
use Rattle.std.proofs.Common.{length, sym}
use Rattle.qd_sample.proofs.Settings.{no_keys}
use Rattle.qd_sample.proofs.groups.keyed.Goals as goal

pub returns-then-is_empty : goal.returns-then-is_empty
returns-then-is_empty g c =
    record {
      groups = IfOk-weaker c.one_group.result _ _ (λ v h. no_keys c.args.keys.now c.args.rows.now c.len.result v.numbers.items v.firsts.items (eqb-true (length c.args.keys.now) 0 (sym c.if-is_empty.ensures)) c.len.ensures.count h) c.one_group.ensures.groups;
    }
