use Rattle.std.proofs.Common.{◌≡◌, ◌∙◌, ◌*◌, min, ap}
use Rattle.qd_column_format.specs.Fields.{field_size}
use Rattle.qd_column_files.proofs.StoredTails.{none_short}
use Rattle.qd_column_files.proofs.growing.stored_tail.Goals as goal

pub returns-then-branch-clause-told : goal.returns-then-branch-clause-told
returns-then-branch-clause-told g c =
    let limit : c.saturating_mul.result ≡ min (c.args.rows * field_size c.args.kind) 18446744073709551615 = c.saturating_mul.ensures ∙ ap (λ n. min (c.args.rows * n) 18446744073709551615) c.row_size.ensures.size in
    none_short (g.V.Volume.storage c.args.volume.now).disk c.args.main c.args.aux c.args.rows c.saturating_mul.result c.args.kind c.in_ok-is_short.field-0 limit c.if-branch.true c.in_ok-is_short.ensures.told
