use Rattle.std.proofs.Common.{All, sym, subst}
use Rattle.std.proofs.lemmas.List.Elements.{All-nil}
use Rattle.qd_vectors.specs.Tables.{IsTableRow}
use Rattle.qd_vectors.proofs.merging.samples.no_rows.Goals as goal

pub returns : goal.returns
returns c = record { rows = subst (All IsTableRow) (sym c.new.ensures.empty) (All-nil IsTableRow) }
