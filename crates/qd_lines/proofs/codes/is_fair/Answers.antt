use Rattle.std.proofs.Common.{◌∙◌, refl, sym, subst}
use Rattle.qd_base.specs.Names.{IsTableName}
use Rattle.qd_lines.proofs.codes.is_fair.Goals as goal

pub returns-then-is_spelled : goal.returns-then-is_spelled
returns-then-is_spelled c = record { fair = λ schemas row p e. (λ t. subst IsTableName (c.is_spelled.ensures.named c.if-is_spelled.true ∙ sym e) (p.lawful (c.is_spelled.ensures.there c.if-is_spelled.true)), λ is. refl) }

pub returns : goal.returns
returns c = record { fair = λ schemas row p e. (λ t. subst IsTableName (sym e) (c.table_name_ok.ensures.ok.0 t), λ is. c.table_name_ok.ensures.ok.1 (subst IsTableName e is)) }
