use Rattle.std.proofs.Common.{refl}
use Rattle.qd_column_files.proofs.StoredTails.{last_told, none_cut}
use Rattle.qd_column_files.proofs.growing.tail_of_mark.Goals as goal

pub returns-then-branch-clause-told : goal.returns-then-branch-clause-told
returns-then-branch-clause-told g c =
    none_cut c.args.main c.args.aux c.args.rows c.saturating_mul.result c.in_ok-n.n _ c.read.new.buf c.requires.some c.saturating_mul.ensures refl (g.V.Volume.storage c.args.volume.now).disk _ c.text_end.result c.in_ok-is_short.field-0 c.in_ok-n.ensures.stays c.if-branch.true c.in_ok-n.ensures.told c.requires.low c.in_ok-is_short.ensures.told c.text_end.ensures.end

pub returns-clause-told : goal.returns-clause-told
returns-clause-told g c =
    last_told c.args.main c.args.aux c.args.rows c.saturating_mul.result c.in_ok-n.n _ c.read.new.buf c.requires.some c.saturating_mul.ensures refl (g.V.Volume.storage c.args.volume.now).disk c.in_ok-stored.field-0 c.in_ok-n.ensures.told c.requires.low c.in_ok-stored.ensures.tail
