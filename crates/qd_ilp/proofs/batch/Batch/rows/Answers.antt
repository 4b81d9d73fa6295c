use Rattle.std.proofs.Common.{◌≡◌, ◌∙◌, List, length, sym, ap, arith}
use Rattle.qd_ilp.specs.Line.{Line}
use Rattle.qd_ilp.specs.Whole.{Reading}
use Rattle.qd_ilp.specs.View.{rows_among}
use Rattle.qd_ilp.proofs.Viewed.{rows_counted}
use Rattle.qd_ilp.proofs.batch.Batch.rows.Goals as goal

pub returns : goal.returns
returns c =
    let b = c.self.inside in
    let size : c.len.result ≡ length b.rows.items = omega (arith, c.len.ensures) in
    record { count = size ∙ sym (rows_counted b.bytes.items b.pairs.items b.rows.items b.behind) ∙ ap (λ (r : Reading). rows_among r.lines) c.self.view_is }
