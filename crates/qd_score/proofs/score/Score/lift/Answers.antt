use Rattle.std.proofs.Common.{sym, ap, ◌∙◌, ◌∷◌, Some}
use Rattle.atomic_table.specs.Table.{rest}
use Rattle.qd_score.proofs.score.Score.lift.Goals as goal

pub exchange-requires : goal.exchange-requires
exchange-requires g c = (c.requires.table, (Some c.requires.slot.0, c.requires.slot.1 ∙ ap (λ cs. (0, Some c.requires.slot.0) ∷ rest cs) (sym c.requires.slot.1)))
