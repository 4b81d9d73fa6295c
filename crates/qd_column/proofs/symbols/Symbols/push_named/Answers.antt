use Rattle.std.proofs.Common.{◌≡◌, ◌∙◌, ◌++◌, ◌∷◌, [], ap, sym, subst, length, ◌<◌, ◌^◌, List, ℕ, map}
use Rattle.qd_base.specs.declared.cell.Cell.TheVariants as cell
use Rattle.qd_base.specs.Dictionary.{id_for, with_text}
use Rattle.qd_column.specs.Symbols.{AreSymbols, symbol_cell}
use Rattle.qd_column.proofs.SymbolLemmas.{text_interned}
use Rattle.qd_column.proofs.symbols.Symbols.push_named.Given as given
use Rattle.qd_column.proofs.symbols.Symbols.push_named.Goals as goal

texts : (g : given.Over) (c : goal.After-push_reserved g) → g.D.Dictionary.texts c.intern.new.self ≡ with_text (g.D.Dictionary.texts c.self.inside.dictionary) c.args.text.now
texts g c = c.in_ok-id.ensures.texts

ids : (g : given.Over) (c : goal.After-push_reserved g) → c.push_reserved.new.self.items ≡ c.self.inside.ids.items ++ id_for (g.D.Dictionary.texts c.self.inside.dictionary) c.args.text.now ∷ []
ids g c = c.push_reserved.ensures.items ∙ ap (λ l. l ++ c.in_ok-id.id ∷ []) c.reserve.ensures.items ∙ ap (λ n. c.self.inside.ids.items ++ n ∷ []) c.in_ok-id.ensures.id

few : (g : given.Over) (c : goal.After-push_reserved g) → length (with_text (g.D.Dictionary.texts c.self.inside.dictionary) c.args.text.now) < 2 ^ 64
few g c = subst (λ (t : List (List ℕ)). length t < 2 ^ 64) (texts g c) c.in_ok-id.ensures.few

pub invariant_of-self-2 : goal.invariant_of-self-2
invariant_of-self-2 g c =
    let old = g.D.Dictionary.texts c.self.inside.dictionary in
    let done = text_interned old c.self.inside.ids.items c.args.text.now c.self.invariant c.requires (few g c) in
    subst (λ (t : List (List ℕ)). AreSymbols t c.push_reserved.new.self.items) (sym (texts g c)) (subst (λ (l : List ℕ). AreSymbols (with_text old c.args.text.now) l) (sym (ids g c)) done.1)

pub returns-clause-ok : goal.returns-clause-ok
returns-clause-ok g c =
    let old = g.D.Dictionary.texts c.self.inside.dictionary in
    let done = text_interned old c.self.inside.ids.items c.args.text.now c.self.invariant c.requires (few g c) in
    ap (λ t. map (symbol_cell t) c.push_reserved.new.self.items) (texts g c) ∙ ap (map (symbol_cell (with_text old c.args.text.now))) (ids g c) ∙ done.0 ∙ ap (λ l. l ++ cell.Text c.args.text.now ∷ []) c.self.view_is
