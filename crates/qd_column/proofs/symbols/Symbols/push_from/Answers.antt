use Rattle.std.proofs.Common.{◌≡◌, ◌≢◌, ◌∙◌, ◌++◌, ◌∷◌, [], ◌<◌, ◌⊎◌, inl, inr, ⊎_elim, ap, sym, subst, length, List, ℕ, map, get_or, set, Some}
use Rattle.qd_base.specs.declared.limits.TheConstants.{NULL_ID}
use Rattle.qd_base.specs.declared.cell.Cell.TheVariants as cell
use Rattle.qd_base.specs.Dictionary.{id_for, with_text}
use Rattle.qd_column.specs.Symbols.{symbol_cell, texts_in, LeadsTo, IsIdOf}
use Rattle.qd_column.proofs.ListLemmas.{got}
use Rattle.qd_column.proofs.SymbolLemmas.{leads_more, texts_in-push}
use Rattle.qd_column.proofs.symbols.Symbols.push_from.Given as given
use Rattle.qd_column.proofs.symbols.Symbols.push_from.Goals as goal

known_within : (texts : List (List ℕ)) (id : ℕ) → IsIdOf texts id → id ≢ NULL_ID → id < length texts
known_within texts id h some = ⊎_elim (λ none. absurd (some none)) (λ lt. lt) h

pub returns-clause-leads : goal.returns-clause-leads
returns-clause-leads g c =
    let from = g.D.Dictionary.texts c.args.dictionary.now in
    let to = texts_in c.args.self.now in
    let within : c.args.id < length from = known_within from c.args.id c.requires.known c.if-id-eq-NULL_ID.false in
    let text : c.text_of.result.now ≡ get_or from c.args.id [] = sym (got from c.args.id [] c.text_of.result.now within c.text_of.ensures.text) in
    let led : LeadsTo from (with_text to c.text_of.result.now) (set c.args.table.now.items c.args.id (id_for to c.text_of.result.now)) = leads_more from to c.args.table.now.items c.args.id c.text_of.result.now c.requires.leads c.requires.size within text in
    let texts : texts_in c.push_named.new.self ≡ with_text to c.text_of.result.now = ap texts_in c.in_ok-table.ensures.ok ∙ texts_in-push c.args.self.now (cell.Text c.text_of.result.now) in
    let id : c.in_ok-table.field-0 ≡ id_for to c.text_of.result.now = c.in_ok-table.ensures.id in
    subst (λ (n : ℕ). LeadsTo from (texts_in c.push_named.new.self) (set c.args.table.now.items c.args.id n)) (sym id) (subst (λ (t : List (List ℕ)). LeadsTo from t (set c.args.table.now.items c.args.id (id_for to c.text_of.result.now))) (sym texts) led)
