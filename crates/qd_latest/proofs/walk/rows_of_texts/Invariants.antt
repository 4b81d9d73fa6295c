use Rattle.std.proofs.Common.{◌≤◌, length}
use Rattle.qd_latest.specs.Chains.{cells_of}
use Rattle.qd_latest.specs.Walks.{AreMet, HasWalked}
use Rattle.qd_latest.proofs.walk.rows_of_texts.Given as goal

-- the rows from an end on are walked over, and the mark has come so far
abbrev pub invariant-loop-end : goal.invariant-loop-end
invariant-loop-end g l = record {
  within : l.end ≤ length l.rows.places;
  walked : HasWalked (cells_of l.rows l.col) l.end (g.D.Dictionary.texts l.met) l.kept.items;
  met : AreMet l.rows.blocks l.col (g.D.Dictionary.texts l.met) l.mark.block l.mark.id;
}

abbrev pub decreases-loop-end : goal.decreases-loop-end
decreases-loop-end g l = l.end
