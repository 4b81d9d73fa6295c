use Rattle.std.proofs.Common.{List, ℕ, length, subst, sym}
use Rattle.qd_column.specs.Symbols.{texts_in}
use Rattle.qd_latest.specs.Walks.{AreOfTexts}
use Rattle.qd_latest.proofs.PartLemmas.{of_texts}
use Rattle.qd_latest.proofs.parts.dictionary_of.Goals as goal

pub returns-clause-cells : goal.returns-clause-cells
returns-clause-cells g c =
    subst (λ (ts : List (List ℕ)). AreOfTexts ts c.args.column.now.cells 0 (length c.args.column.now.cells)) (sym c.dictionary.ensures.texts)
    (of_texts (texts_in c.args.column.now.cells) c.args.column.now.cells c.symbols-ids.result.now c.symbols-ids.ensures.cells c.symbols-ids.ensures.each)
