use Rattle.std.proofs.Common.{◌≡◌, List, length, map, take, All}
use Rattle.qd_sql_ast.specs.declared.tree.Lit.{Lit}
use Rattle.qd_meaning.specs.Inserting.{Target}
use Rattle.qd_writes.specs.Literals.{lent_cell, IsFit}
use Rattle.qd_writes.specs.Placing.{cells_of, placed, ArePlaces}
use Rattle.qd_writes.proofs.rows.row_of.Given as goal

-- the cells so far
abbrev pub invariant-loop-at : goal.invariant-loop-at
invariant-loop-at l = record {
  row : (targets : List Target) (lits : List Lit) → ArePlaces targets (length l.cols) l.places → map lent_cell l.views ≡ cells_of targets lits → l.row ≡ take l.at (placed l.cols targets lits);
  fit : All IsFit l.row;
}
