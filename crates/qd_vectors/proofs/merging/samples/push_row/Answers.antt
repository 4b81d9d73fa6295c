use Rattle.std.proofs.Common.{All, sym, subst}
use Rattle.std.proofs.lemmas.Result.{on_ok_weaker}
use Rattle.qd_vectors.specs.Tables.{IsTableRow}
use Rattle.qd_vectors.proofs.Tables.{all_more}
use Rattle.qd_vectors.proofs.merging.samples.push_row.Goals as goal

pub returns : goal.returns
returns c = record { rows = on_ok_weaker c.push.result (λ h. subst (All IsTableRow) (sym h) (all_more IsTableRow c.args.rows.now c.args.row c.requires.rows c.requires.row)) c.push.ensures.ok }
