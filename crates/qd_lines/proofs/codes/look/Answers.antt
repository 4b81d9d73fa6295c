use Rattle.std.specs.Option.{is_some}
use Rattle.qd_base.specs.declared.limits.TheConstants.{MAX_BATCH_CELLS, MAX_COLUMNS}
use Rattle.std.proofs.Common.{◌≡◌, ◌-◌, ltb, length, refl, sym, ap, arith}
use Rattle.qd_lines.proofs.FoundLemmas.{finds, flipped}
use Rattle.qd_lines.proofs.codes.look.Goals as goal

pub returns : goal.returns
returns c = let size : c.len-columns.result ≡ length c.args.draft.now.marks.items = omega (arith, c.len-columns.ensures) in record {
  limits = (ap (ltb MAX_COLUMNS) size, ap (ltb (MAX_BATCH_CELLS - c.args.cells)) size, refl, refl);
  found = λ schemas now p m.
      finds schemas c.args.cells now c.args.row.now c.args.place c.args.draft.now c.len-columns.result c.requires.few p c.requires.draws (omega (arith, c.len-columns.ensures)) c.is_fair-fair.result c.is_none.result c.args.moment (flipped (is_some c.args.moment) c.is_none.result c.is_none.ensures)
      (c.is_fair-fair.ensures.fair schemas c.args.row.now p (sym c.table.ensures.table)).0 (c.is_fair-fair.ensures.fair schemas c.args.row.now p (sym c.table.ensures.table)).1 m;
}
