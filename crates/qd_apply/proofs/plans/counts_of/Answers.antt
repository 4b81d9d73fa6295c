use Rattle.std.proofs.Common.{◌∙◌, ℕ, List, map, ap, sym}
use Rattle.std.specs.Prelude.{Vec}
use Rattle.std.specs.declared.alloc.Global.{Global}
use Rattle.std.proofs.lemmas.List.{drop-map}
use Rattle.qd_apply.specs.Next.{first_counts}
use Rattle.qd_apply.proofs.GivenLemmas.{drop_at}
use Rattle.qd_apply.proofs.plans.counts_of.Goals as goal

pub returns-then-table-written : goal.returns-then-table-written
returns-then-table-written c =
    let lists : List (Vec ℕ Global) = c.args.written.now in
    record {
      counts = c.as_slice.ensures.value
          ∙ ap (λ (l : List (Vec ℕ Global)). first_counts (map (λ (v : Vec ℕ Global). v.items) l)) (sym (drop_at c.args.table lists c.index-written-table.result c.if-table-written.true c.index-written-table.is))
          ∙ ap first_counts (sym (drop-map (λ (v : Vec ℕ Global). v.items) c.args.table lists));
    }
