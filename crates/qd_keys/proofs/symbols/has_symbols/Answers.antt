use Rattle.std.proofs.Common.{ap, arith, length, sym}
use Rattle.qd_keys.proofs.SymbolRows.{no_kind}
use Rattle.qd_keys.proofs.symbols.has_symbols.Goals as goal

pub returns-then-at-cols : goal.returns-then-at-cols
returns-then-at-cols g c = sym (no_kind c.args.rows.now.left c.args.at (omega (arith, ap length c.as_slice-cols.ensures.items, ap length c.left_cols.ensures.cols)))
