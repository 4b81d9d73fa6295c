use Rattle.std.proofs.Common.{◌∙◌, ◌∷◌, []}
use Rattle.std.proofs.lemmas.Result.{on_ok_weaker}
use Rattle.qd_lines.specs.Sinks.{cell_lent}
use Rattle.qd_lines.proofs.ChangesLemmas.{put-last, put-none}
use Rattle.qd_lines.proofs.changes.Changes.put.Goals as goal

pub returns : goal.returns
returns c =
    record {
      ok = on_ok_weaker c.put.result
          (put-last c.self.inside.done c.args.self.now c.self.inside.inserting c.in-Some.last.table c.put.new.self.table c.in-Some.last.rows c.put.new.self.rows c.in-Some.last.row c.put.new.self.row (cell_lent c.args.cell ∷ []) c.self.view_is c.in-Some.is c.put.ensures.table c.put.ensures.rows)
          c.put.ensures.row;
    }

pub returns-in_default : goal.returns-in_default
returns-in_default c = record { ok = c.self.view_is ∙ put-none c.self.inside.done c.args.self.now c.self.inside.inserting (cell_lent c.args.cell ∷ []) c.self.view_is c.in_default.not-Some c.self.invariant }
