use Rattle.std.proofs.lemmas.Bool.Decides.{Decides-eqb}
use Rattle.std.proofs.lemmas.Slice.Eq.{slice_eq-Decides}
use Rattle.qd_lines.proofs.codes.is_spelled.Goals as goal

pub returns : goal.returns
returns c = record {
  there = λ e. c.if-place.false;
  named = (slice_eq-Decides Decides-eqb c.args.place.name.now c.args.table.now c.eq.result c.eq.ensures).0;
}
