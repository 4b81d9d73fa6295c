use Rattle.std.proofs.Common.{[], List, refl, sym, subst}
use Rattle.qd_memory.specs.Kept.{IsKept, Kept}
use Rattle.qd_memory.proofs.ChangeLemmas.{kept_none, same_table}
use Rattle.qd_memory.proofs.table.Table.new.Goals as goal

pub invariant_of-result : goal.invariant_of-result
invariant_of-result c =
    let s = c.args.schema in
    record {
      kept = subst IsKept (sym (same_table s s [] c.new.result.items [] c.new-2.result [] [] refl c.new.ensures.items c.new-2.ensures.empty refl)) (kept_none s c.requires);
      begun = tt;
    }
