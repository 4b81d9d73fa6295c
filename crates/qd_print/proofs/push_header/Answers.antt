use Rattle.std.proofs.Common.{arith, ap, ◌∙◌, List, ℕ, ◌++◌}
use Rattle.qd_base.specs.declared.schema.Col.{Col}
use Rattle.qd_print.specs.Printed.{csv_text}
use Rattle.qd_print.proofs.PrintLemmas.{field_step}
use Rattle.qd_print.proofs.push_header.Goals as goal

pub loop-i-preserved : goal.loop-i-preserved
loop-i-preserved c =
    let named = ap (λ (t : List ℕ). c.push_comma.new.out.items ++ csv_text t) c.bytes.ensures.same in
    field_step (λ (c : Col). csv_text c.name) c.args.out.now.items c.args.cols.now c.loop-i.i c.index-cols-i.result (omega arith) c.index-cols-i.is _ _ _ c.loop-i.invariant c.in_ok-push_comma.ensures (c.in_ok-push_text.ensures ∙ named)
