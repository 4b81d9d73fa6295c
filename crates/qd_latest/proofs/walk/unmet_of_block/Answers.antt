use Rattle.std.proofs.Common.{◌≡◌, ◌∙◌, ℕ, List, length, get_or, arith, ap, sym, subst}
use Rattle.std.specs.Arc.{arc_value}
use Rattle.std.specs.Option.{IfSome}
use Rattle.std.proofs.lemmas.List.{get_or_past, length-map}
use Rattle.qd_base.specs.Rows.{cell_at}
use Rattle.qd_base.specs.declared.schema.ColType.TheVariants as kind
use Rattle.qd_block.specs.Blocks.{Block, column_in, IsWhole}
use Rattle.qd_column.specs.Cells.{CellsOf}
use Rattle.qd_expr.proofs.CellLemmas.{block_found}
use Rattle.qd_rows.specs.Sets.{block_at}
use Rattle.qd_latest.specs.Walks.{AreFirstMet, AreOfTexts, HoldMet}
use Rattle.qd_latest.proofs.MeetLemmas.{all_texts_hold, block_texts, none_holds}
use Rattle.qd_latest.proofs.walk.unmet_of_block.Given as given
use Rattle.qd_latest.proofs.walk.unmet_of_block.Goals as goal

pub returns-then-cols-col-clause-none : goal.returns-then-cols-col-clause-none
returns-then-cols-col-clause-none g c = λ e.
    let here : arc_value c.block-block.result.now ≡ block_at c.args.rows.now.blocks c.args.b = sym (block_found c.args.rows.now.blocks c.args.b (arc_value c.block-block.result.now) c.block-block.ensures.block) in
    let size = c.cols.ensures.count ∙ ap (λ (x : Block). length x.kinds) (c.deref-2.ensures ∙ here) in
    let past : get_or (block_at c.args.rows.now.blocks c.args.b).kinds c.args.col kind.Time ≡ kind.Time = get_or_past (block_at c.args.rows.now.blocks c.args.b).kinds c.args.col kind.Time (omega (arith, size, c.if-cols-col.true)) in
    let clash : kind.Time ≡ kind.Symbol = sym past ∙ e in
    absurd (cc)

pub returns-then-cols-col-clause-whole : goal.returns-then-cols-col-clause-whole
returns-then-cols-col-clause-whole g c = subst IsWhole (c.deref.ensures ∙ sym (block_found c.args.rows.now.blocks c.args.b (arc_value c.block-block.result.now) c.block-block.ensures.block)) c.is_whole.ensures.whole

pub unmet_of-requires : goal.unmet_of-requires
unmet_of-requires g c =
    let x : Block = block_at c.args.rows.now.blocks c.args.b in
    let is : c.column-column.result.now ≡ column_in (block_at c.args.rows.now.blocks c.args.b) c.args.col
    = c.column-column.ensures.column ∙ ap (λ (x : Block). column_in x c.args.col) (c.deref-3.ensures ∙ sym (block_found c.args.rows.now.blocks c.args.b (arc_value c.block-block.result.now) c.block-block.ensures.block)) in
    subst (λ (ts : List (List ℕ)). AreFirstMet ts c.args.from (g.D.Dictionary.texts c.args.met.now))
    (sym (block_texts x c.args.col c.column-column.result.now c.kind.result (g.D.Dictionary.texts c.dictionary_of.result.now) is c.kind.ensures.kind c.in-Symbol.is c.dictionary_of.ensures.texts)) c.requires.met

-- the column is the block's
column : (g : given.Over) (c : goal.After-unmet_of g) → c.column-column.result.now ≡ column_in (block_at c.args.rows.now.blocks c.args.b) c.args.col
column g c = c.column-column.ensures.column ∙ ap (λ (x : Block). column_in x c.args.col) (c.deref-3.ensures ∙ sym (block_found c.args.rows.now.blocks c.args.b (arc_value c.block-block.result.now) c.block-block.ensures.block))

pub returns-in-Symbol-clause-some : goal.returns-in-Symbol-clause-some
returns-in-Symbol-clause-some g c =
    subst (λ (ts : List (List ℕ)). IfSome c.unmet_of.result (λ id. AreFirstMet ts id (g.D.Dictionary.texts c.args.met.now)))
    (block_texts (block_at c.args.rows.now.blocks c.args.b) c.args.col c.column-column.result.now c.kind.result (g.D.Dictionary.texts c.dictionary_of.result.now) (column g c) c.kind.ensures.kind c.in-Symbol.is c.dictionary_of.ensures.texts) c.unmet_of.ensures.some

pub returns-in-Symbol-clause-none : goal.returns-in-Symbol-clause-none
returns-in-Symbol-clause-none g c =
    let x : Block = block_at c.args.rows.now.blocks c.args.b in
    let ts : List (List ℕ) = g.D.Dictionary.texts c.dictionary_of.result.now in
    let met : List (List ℕ) = g.D.Dictionary.texts c.args.met.now in
    let are : AreOfTexts ts (column_in x c.args.col).cells 0 (length (column_in x c.args.col).cells) = subst (λ (k : CellsOf). AreOfTexts ts k.cells 0 (length k.cells)) (column g c) c.dictionary_of.ensures.cells in
    none_holds c.unmet_of.result (AreFirstMet ts (length ts) met) ((column_in x c.args.col).kind ≡ kind.Symbol → HoldMet (column_in x c.args.col).cells 0 (length x.rows) met)
    (λ first e. all_texts_hold ts (column_in x c.args.col).cells (length x.rows) met (omega (arith, length-map x.rows (λ r. cell_at r c.args.col))) are first) c.unmet_of.ensures.none

pub returns-in-Symbol-clause-whole : goal.returns-in-Symbol-clause-whole
returns-in-Symbol-clause-whole g c = subst IsWhole (c.deref.ensures ∙ sym (block_found c.args.rows.now.blocks c.args.b (arc_value c.block-block.result.now) c.block-block.ensures.block)) c.is_whole.ensures.whole

pub returns-in_default : goal.returns-in_default
returns-in_default g c = record {
  some = tt;
  none = λ e.
      let is : c.column-column.result.now ≡ column_in (block_at c.args.rows.now.blocks c.args.b) c.args.col
      = c.column-column.ensures.column ∙ ap (λ (x : Block). column_in x c.args.col) (c.deref-3.ensures ∙ sym (block_found c.args.rows.now.blocks c.args.b (arc_value c.block-block.result.now) c.block-block.ensures.block)) in
      absurd (c.in_default.not-Symbol (c.kind.ensures.kind ∙ ap (λ (k : CellsOf). k.kind) is ∙ e));
  whole = subst IsWhole (c.deref.ensures ∙ sym (block_found c.args.rows.now.blocks c.args.b (arc_value c.block-block.result.now) c.block-block.ensures.block)) c.is_whole.ensures.whole;
}
