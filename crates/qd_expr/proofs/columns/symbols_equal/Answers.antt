use Rattle.std.proofs.Common.{◌≡◌, ◌∙◌, ◌≤◌, Bool, false, List, ℕ, Some, None, length, arith, subst, sym, ap, map, slice_range, refl, IfOk}
use Rattle.std.proofs.lemmas.Simd.{splat_is_map}
use Rattle.qd_base.specs.declared.cell.Cell.{Cell}
use Rattle.qd_base.specs.declared.cell.Cell.TheVariants as cell
use Rattle.qd_base.specs.declared.limits.TheConstants.{NULL_ID}
use Rattle.qd_base.specs.Dictionary.{id_in, AreDistinct}
use Rattle.qd_base.specs.Rows.{cell_eq}
use Rattle.qd_column.specs.Symbols.{texts_in}
use Rattle.qd_expr.proofs.IdLemmas.{ids_same, ids_none}
use Rattle.qd_expr.proofs.columns.symbols_equal.Goals as goal

pub returns-in-Some : goal.returns-in-Some
returns-in-Some g c =
    let y = c.args.y.now in
    let texts = texts_in c.args.column.now.cells in
    let same = c.dictionary-dictionary.ensures.texts in
    let distinct : AreDistinct texts = subst AreDistinct same c.len-known.ensures.distinct in
    let few : length texts ≤ NULL_ID = omega (arith, ap length same, c.len-known.ensures.count) in
    let found : id_in texts y ≡ Some c.in-Some.id = ap (λ (ts : List (List ℕ)). id_in ts y) (sym same) ∙ sym c.in-Some.ensures.id in
    let test : Cell → Bool = λ x. cell_eq x (cell.Text y) in
    record {
      truths = subst (λ (l : List Bool). IfOk c.ids_equal.result (λ v. v.items ≡ l))
          (ids_same texts y c.in-Some.id c.symbols.result.now c.args.from c.args.to distinct few found c.symbols.ensures.each
          ∙ ap (λ (cells : List Cell). map test (slice_range cells c.args.from c.args.to)) (sym c.symbols.ensures.cells))
          c.ids_equal.ensures.truths;
    }

pub returns-in_ok-from_elem-in-None : goal.returns-in_ok-from_elem-in-None
returns-in_ok-from_elem-in-None g c =
    let y = c.args.y.now in
    let texts = texts_in c.args.column.now.cells in
    let same = c.dictionary-dictionary.ensures.texts in
    let few : length texts ≤ NULL_ID = omega (arith, ap length same, c.len-known.ensures.count) in
    let found : id_in texts y ≡ None = ap (λ (ts : List (List ℕ)). id_in ts y) (sym same) ∙ sym c.in-None.ensures.id in
    let test : Cell → Bool = λ x. cell_eq x (cell.Text y) in
    let ids : List ℕ = slice_range c.symbols.result.now c.args.from c.args.to in
    record {
      truths =
          c.in_ok-from_elem-in-None.ensures.items_if_clones_equal (λ z e. e)
          ∙ splat_is_map ids (length ids) false refl
          ∙ ids_none texts y c.symbols.result.now c.args.from c.args.to few found c.symbols.ensures.each
          ∙ ap (λ (cells : List Cell). map test (slice_range cells c.args.from c.args.to)) (sym c.symbols.ensures.cells);
    }
