use Rattle.std.proofs.Common.{◌≡◌, ◌∙◌, ◌++◌, List, ℕ, ap, sym, subst, length, slice_range, get_or}
use Rattle.qd_base.specs.declared.cell.Cell.{Cell}
use Rattle.qd_column.specs.Symbols.{texts_in, LeadsTo}
use Rattle.qd_column.proofs.RunLemmas.{laid_on, of_first, of_second}
use Rattle.qd_column.proofs.SymbolLemmas.{leads_longer}
use Rattle.qd_column.proofs.symbols.Symbols.spliced.Goals as goal
use Rattle.qd_column.proofs.symbols.Symbols.spliced.Goals.{in-First+in_ok-push_part-in-First, in-Second+in_ok-push_part-in-Second}

pub loop-run-preserved : goal.loop-run-preserved
loop-run-preserved g c =
    let i = c.loop-run.run-index in
    let inv = c.loop-run.invariant in
    elim c.match-run.branch [
      | in-First+in_ok-push_part-in-First w ↦
          (let pushed = w.in_ok-push_part-in-First.ensures in
          record {
            cells = w.symbols-is ∙ laid_on c.args.first.now c.args.second.now c.args.runs.now i _ c.loop-run.symbols w.push_part.new.self c.loop-run-test.true inv.cells (pushed.ok ∙ ap (λ l. c.loop-run.symbols ++ l) (of_first c.args.first.now c.args.second.now _ w.in-First.is));
            first_size = ap (λ t. length t.items) w.of_first-is ∙ pushed.size ∙ inv.first_size;
            second_size = ap (λ t. length t.items) w.of_second-is ∙ inv.second_size;
            first_leads = rw (w.symbols-is, w.of_first-is) pushed.leads;
            second_leads = rw (w.symbols-is, w.of_second-is, pushed.ok) (leads_longer (texts_in c.args.second.now) c.loop-run.of_second.items c.loop-run.symbols _ inv.second_leads);
          })
      | in-Second+in_ok-push_part-in-Second w ↦
          (let pushed = w.in_ok-push_part-in-Second.ensures in
          record {
            cells = w.symbols-is ∙ laid_on c.args.first.now c.args.second.now c.args.runs.now i _ c.loop-run.symbols w.push_part-in-Second.new.self c.loop-run-test.true inv.cells (pushed.ok ∙ ap (λ l. c.loop-run.symbols ++ l) (of_second c.args.first.now c.args.second.now _ w.in-Second.is));
            first_size = ap (λ t. length t.items) w.of_first-is ∙ inv.first_size;
            second_size = ap (λ t. length t.items) w.of_second-is ∙ pushed.size ∙ inv.second_size;
            first_leads = rw (w.symbols-is, w.of_first-is, pushed.ok) (leads_longer (texts_in c.args.first.now) c.loop-run.of_first.items c.loop-run.symbols _ inv.first_leads);
            second_leads = rw (w.symbols-is, w.of_second-is) pushed.leads;
          })
    ]
