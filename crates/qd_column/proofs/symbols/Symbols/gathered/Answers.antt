use Rattle.std.proofs.Common.{◌≡◌, ◌∙◌, ◌<◌, ap, sym, subst, length, List, ℕ, map, get_or, IfOk, All, arith}
use Rattle.std.proofs.lemmas.List.{length-map}
use Rattle.qd_base.specs.declared.cell.Cell.{Cell}
use Rattle.qd_base.specs.declared.cell.Cell.TheVariants as cell
use Rattle.qd_column.specs.Symbols.{symbol_cell, IsIdOf}
use Rattle.qd_column.proofs.ListLemmas.{map-chosen, each-chosen}
use Rattle.qd_column.proofs.symbols.Symbols.gathered.Given as given
use Rattle.qd_column.proofs.symbols.Symbols.gathered.Goals as goal

pub of_ids-requires-clause-known : goal.of_ids-requires-clause-known
of_ids-requires-clause-known g c =
    let known = g.D.Dictionary.texts c.self.inside.dictionary in
    let size : length c.args.self.now ≡ length c.self.inside.ids.items = ap length (sym c.self.view_is) ∙ length-map c.self.inside.ids.items (symbol_cell known) in
    let within : All (λ i. i < length c.self.inside.ids.items) c.args.places.now = λ k d lt. subst (λ (n : ℕ). get_or c.args.places.now k d < n) size (c.requires k d lt) in
    let ids : c.as_slice-2.result.now ≡ map (λ i. get_or c.self.inside.ids.items i 0) c.args.places.now = c.as_slice-2.ensures.value ∙ c.in_ok-ids.ensures.items 0 ∙ ap (λ xs. map (λ i. get_or xs i 0) c.args.places.now) c.as_slice.ensures.value in
    subst (λ (l : List ℕ). All (IsIdOf known) l) (sym ids) (each-chosen (IsIdOf known) c.self.inside.ids.items 0 c.args.places.now c.self.invariant.each within)

pub returns : goal.returns
returns g c =
    let known = g.D.Dictionary.texts c.self.inside.dictionary in
    let size : length c.args.self.now ≡ length c.self.inside.ids.items = ap length (sym c.self.view_is) ∙ length-map c.self.inside.ids.items (symbol_cell known) in
    let within : All (λ i. i < length c.self.inside.ids.items) c.args.places.now = λ k d lt. subst (λ (n : ℕ). get_or c.args.places.now k d < n) size (c.requires k d lt) in
    let ids : c.as_slice-2.result.now ≡ map (λ i. get_or c.self.inside.ids.items i 0) c.args.places.now = c.as_slice-2.ensures.value ∙ c.in_ok-ids.ensures.items 0 ∙ ap (λ xs. map (λ i. get_or xs i 0) c.args.places.now) c.as_slice.ensures.value in
    let cells : map (symbol_cell known) c.as_slice-2.result.now ≡ map (λ i. get_or c.args.self.now i cell.Null) c.args.places.now = ap (map (symbol_cell known)) ids ∙ map-chosen (symbol_cell known) c.self.inside.ids.items 0 cell.Null c.args.places.now within ∙ ap (λ xs. map (λ i. get_or xs i cell.Null) c.args.places.now) c.self.view_is in
    record { cells = subst (λ (l : List Cell). IfOk c.of_ids.result (λ s. s ≡ l)) cells c.of_ids.ensures.cells }
