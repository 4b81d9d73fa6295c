use Rattle.std.proofs.Common.{sym, subst}
use Rattle.qd_lines.specs.Codes.{IsCodeOf}
use Rattle.qd_lines.proofs.CodeLemmas.{code_is, keeps}
use Rattle.qd_lines.proofs.codes.code_of.Goals as goal

pub returns : goal.returns
returns c = record {
  code = λ schemas now p m. subst (IsCodeOf schemas c.args.cells now c.args.row.now) (sym c.first.ensures.first) (code_is schemas c.args.cells now c.args.row.now c.look.result (c.look.ensures.found schemas now p m));
  keeps = keeps c.args.place c.args.draft.now c.args.cells c.look.result c.requires.few c.look.ensures.limits.0 c.look.ensures.limits.1 c.look.ensures.limits.2 c.look.ensures.limits.3 c.first.result c.first.ensures.first;
}
