use Rattle.std.proofs.Common.{◌≡◌, ◌+◌, ◌-◌, ◌<◌, ◌∙◌, ℕ, arith, ap, sym, inl, inr}
use Rattle.qd_block.specs.Blocks.{column_in}
use Rattle.qd_column.specs.Cells.{CellsOf}
use Rattle.qd_column.specs.Symbols.{texts_in}
use Rattle.qd_rows.specs.Sets.{block_at}
use Rattle.qd_latest.specs.Chains.{cells_of}
use Rattle.qd_latest.specs.Walks.{cell_in}
use Rattle.qd_latest.proofs.PartLemmas.{part_block, part_lies}
use Rattle.qd_latest.proofs.WalkLemmas.{passed_on}
use Rattle.qd_latest.proofs.walk.meet_part.Goals as goal

pub meet_chains-requires-clause-rows : goal.meet_chains-requires-clause-rows
meet_chains-requires-clause-rows g c = part_lies c.args.rows.now c.args.part c.args.col c.args.to c.requires.single c.requires.part c.requires.ends c.requires.symbols c.in-Some.ensures.there

pub meet_chains-requires-clause-texts : goal.meet_chains-requires-clause-texts
meet_chains-requires-clause-texts g c =
    c.dictionary_of-dictionary.ensures.texts ∙ ap (λ (k : CellsOf). texts_in k.cells) c.in-Some.ensures.column
    ∙ ap (λ b. texts_in (column_in (block_at c.args.rows.now.blocks b) c.args.col).cells) (sym (part_block c.args.rows.now c.args.part c.args.part.before c.requires.part (omega arith) (omega (arith, c.requires.part.run.some))))

pub meet_chains-requires-clause-known : goal.meet_chains-requires-clause-known
meet_chains-requires-clause-known g c = λ i low high.
    let k : ℕ = i - c.args.part.before in
    let e : c.args.part.before + (i - c.args.part.before) ≡ i = omega (arith, low) in
    let less : i - c.args.part.before < c.args.part.to - c.args.part.from = omega (arith, low, high, c.requires.ends) in
    let same : cell_in (cells_of c.args.rows.now c.args.col) i ≡ cell_in c.in-Some.column.now.cells (c.args.part.from + (i - c.args.part.before)) = ap (cell_in (cells_of c.args.rows.now c.args.col)) (sym e) ∙ c.in-Some.ensures.cells k less in
    elim (c.dictionary_of-dictionary.ensures.cells (c.args.part.from + k) (omega arith) (omega (arith, less, c.in-Some.ensures.within))) [
      | inl none ↦ inl (same ∙ none)
      | inr some ↦ inr (some.0, some.1, same ∙ some.2)
    ]

pub returns-in-None-clause-walked : goal.returns-in-None-clause-walked
returns-in-None-clause-walked g c =
    passed_on (cells_of c.args.rows.now c.args.col) c.args.part.before c.args.to (g.D.Dictionary.texts c.args.met.now) c.args.kept.now.items (omega (arith, c.requires.ends))
    (λ i low high. (let e : c.args.part.before + (i - c.args.part.before) ≡ i = omega (arith, low) in inl (ap (cell_in (cells_of c.args.rows.now c.args.col)) (sym e) ∙ c.in-None.ensures.lacking (i - c.args.part.before) (omega (arith, low, high, c.requires.ends)))))
    c.requires.walked
