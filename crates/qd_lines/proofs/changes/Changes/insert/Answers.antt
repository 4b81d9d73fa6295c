use Rattle.std.proofs.Common.{sym, ◌∙◌, ap}
use Rattle.std.proofs.lemmas.Result.{on_ok_weaker}
use Rattle.qd_lines.specs.contracts.changes.Changes.{the_view}
use Rattle.qd_lines.proofs.ChangesLemmas.{insert-same, insert-apart, insert-behind}
use Rattle.qd_lines.proofs.changes.Changes.insert.Goals as goal
use Rattle.qd_lines.proofs.changes.Changes.insert.Goals.{in_default-via-in-Some+else-is_name, in_default-via-in_default}

pub returns-in-Some : goal.returns-in-Some
returns-in-Some c =
    record {
      ok = on_ok_weaker c.next_row.result
          (insert-same c.self.inside.done c.args.self.now c.self.inside.inserting c.in-Some.last.table c.bytes.result.now c.args.table.now c.next_row.new.self.table c.in-Some.last.rows c.next_row.new.self.rows c.in-Some.last.row c.next_row.new.self.row c.self.view_is c.in-Some.is c.bytes.ensures.same
          (sym c.is_name.ensures.same ∙ c.if-is_name.true) c.next_row.ensures.table c.next_row.ensures.row)
          c.next_row.ensures.rows;
    }

pub returns-in_default : goal.returns-in_default
returns-in_default c =
    elim c.in_default.branch [
      | in_default-via-in-Some+else-is_name w ↦ record {
        ok = on_ok_weaker c.begin.result
            (insert-apart c.self.inside.done c.args.self.now (the_view c.in_default.self-inside) c.begin.new.self c.self.inside.inserting w.in-Some.last.table w.bytes.result.now c.args.table.now w.in-Some.last.rows _ w.in-Some.last.row c.self.view_is w.in-Some.is w.bytes.ensures.same
            (sym w.is_name.ensures.same ∙ w.if-is_name.false) (ap the_view w.self-inside-is))
            c.begin.ensures.ok;
      }
      | in_default-via-in_default w ↦ record {
        ok = on_ok_weaker c.begin.result
            (insert-behind c.self.inside.done c.args.self.now (the_view c.in_default.self-inside) c.begin.new.self c.self.inside.inserting c.args.table.now _ c.self.view_is w.in_default.not-Some c.self.invariant (ap the_view w.self-inside-is))
            c.begin.ensures.ok;
      }
    ]
