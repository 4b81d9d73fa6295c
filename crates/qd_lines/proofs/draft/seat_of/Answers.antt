use Rattle.std.proofs.Common.{sym, refl}
use Rattle.qd_base.specs.declared.schema.Col.{Col}
use Rattle.qd_base.specs.Schemas.{same_name}
use Rattle.qd_lines.proofs.MarkLemmas.{position_left}
use Rattle.qd_lines.proofs.draft.seat_of.Goals as goal

pub returns-then-is_spelled : goal.returns-then-is_spelled
returns-then-is_spelled c = record {
  place = sym (position_left (λ (x : Col). same_name x.name c.args.name.now) c.args.columns.cols.now c.args.added.now c.args.before (c.is_spelled.ensures.found c.if-is_spelled.true));
  fair = (λ t. c.is_spelled.ensures.fair c.if-is_spelled.true, λ is. refl);
}
