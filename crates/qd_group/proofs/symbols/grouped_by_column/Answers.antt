use Rattle.std.proofs.Common.{ℕ, sym, subst, ap, arith, length}
use Rattle.std.proofs.lemmas.List.{take_all}
use Rattle.qd_rows.specs.Runs.{no_run, places_of_runs}
use Rattle.qd_group.specs.Numbering.{texts_at, Stands}
use Rattle.qd_group.proofs.RunLemmas.{before, before_more, cells_grouped, cells_of, run_cell, run_inside}
use Rattle.qd_group.proofs.symbols.grouped_by_column.Goals as goal

pub loop-run-init : goal.loop-run-init
loop-run-init g c = c.new-symbols.ensures.none (texts_at c.args.rows.now c.args.at) (cells_of c.args.rows.now c.args.at)

pub loop-run-preserved : goal.loop-run-preserved
loop-run-preserved g c =
    let s = c.args.rows.now in
    let runs = c.runs-run-items.result.now in
    let i : ℕ = c.loop-run.run-index in
    let places = c.runs-run-items.ensures.rows c.requires.single in
    subst (λ (n : ℕ). Stands (texts_at s c.args.at) (cells_of s c.args.at) n c.add_run.new.self) (sym (before_more runs i no_run (omega arith)))
    (c.in_ok-add_run.ensures.next (cells_of s c.args.at) (before runs i) (run_inside s c.args.at runs i no_run places (omega arith)) (λ k low. run_cell s c.args.at runs i no_run k places (omega arith) low) c.loop-run.invariant)

pub returns : goal.returns
returns g c = record {
  groups = cells_grouped c.args.key.now c.args.rows.now c.args.at (before c.runs-run-items.result.now c.loop-run.run-index) c.runs-run-items.result.now c.loop-run.symbols.groups.numbers.items c.loop-run.symbols.groups.firsts.items
      (c.runs-run-items.ensures.rows c.requires.single) (ap (λ l. length (places_of_runs l)) (take_all c.loop-run.run-index c.runs-run-items.result.now (omega arith))) c.requires.column c.loop-run.invariant.groups;
}
