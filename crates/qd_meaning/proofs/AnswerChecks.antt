-- The worked examples of plans and tables: what trees become, what expressions are on the rows, and then by computation.
use Rattle.std.proofs.Common.{refl}
use Rattle.qd_value.specs.Cells as cells
use Rattle.qd_value.proofs.Values.{value-compare, value-literal}
use Rattle.qd_meaning.specs.AnswerExamples.{QueriesArePlanned, PlansGiveTables}
use Rattle.qd_meaning.proofs.TreeLemmas.{column-alone, value-column}

pub queries-are-planned : QueriesArePlanned
queries-are-planned = record { plain = simp column-alone refl; groups = simp column-alone refl; greatest = simp column-alone refl; joined = simp column-alone refl }

pub plans-give-tables : PlansGiveTables
unfolding cells.long
plans-give-tables =
    record {
      plain = simp value-column refl;
      filtered = simp (value-compare, value-column, value-literal) refl;
      groups = simp value-column refl;
      no_rows = refl;
      no_group = refl;
      greatest = simp value-column refl;
      joined = simp value-column refl;
      sampled = simp value-column refl;
    }
