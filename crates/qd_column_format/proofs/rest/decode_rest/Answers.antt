use Rattle.std.proofs.Common.{◌∙◌, refl, drop, subst}
use Rattle.qd_column.specs.Cells.{CellsOf}
use Rattle.qd_column_format.specs.Added.{column_of}
use Rattle.qd_column_format.specs.Rests.{HoldsRest, IsHeldRest}
use Rattle.qd_column_format.specs.Spelling.{SpellsColumn}
use Rattle.qd_column_format.proofs.RestLemmas.{by_kind, kept_weaker, plain_held, plain_rest, plain_size, rest_is}
use Rattle.qd_column_format.proofs.rest.decode_rest.Goals as goal

pub returns-in-Symbol-clause-rest : goal.returns-in-Symbol-clause-rest
returns-in-Symbol-clause-rest g c skip whole is size h = c.symbols_from.ensures.rest skip c.args.start whole (is ∙ c.in-Symbol.is) size h

pub returns-in_default : goal.returns-in_default
returns-in_default g c =
    let main = c.args.main.now in
    let aux = c.args.aux.now in
    record {
      kind = c.spelled_column.ensures.kind;
      rows = c.spelled_column.ensures.rows;
      held = λ some. kept_weaker c.spelled_column.result c.args.kind (λ (column : CellsOf). SpellsColumn main aux column) (IsHeldRest c.args.start main aux) (plain_held c.args.kind c.in_default.not-Symbol c.in_default.not-Varchar c.args.start main aux) c.spelled_column.ensures.kind c.spelled_column.ensures.spelled;
      rest = λ skip whole is size h.
          let also : HoldsRest skip c.args.start main aux (column_of c.args.kind whole.cells) = subst (HoldsRest skip c.args.start main aux) (by_kind c.args.kind whole is) h in
          rest_is c.spelled_column.result c.args.kind skip whole is
          (c.spelled_column.ensures.all (column_of c.args.kind (drop skip whole.cells)) refl (plain_size skip c.args.rows whole.cells size)
          (plain_rest c.args.kind c.in_default.not-Symbol c.in_default.not-Varchar skip c.args.start c.args.rows main aux whole.cells size also));
    }
