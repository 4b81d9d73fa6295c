use Rattle.std.proofs.Common.{◌≡◌, ◌∙◌, ◌++◌, ◌∷◌, [], ◌<◌, ap, sym, subst, length, List, ℕ, map}
use Rattle.qd_base.specs.declared.cell.Cell.TheVariants as cell
use Rattle.qd_column.specs.Symbols.{AreSymbols, symbol_cell, texts_in}
use Rattle.qd_column.proofs.SymbolLemmas.{id_repeated}
use Rattle.qd_column.proofs.symbols.Symbols.push_id.Given as given
use Rattle.qd_column.proofs.symbols.Symbols.push_id.Goals as goal

ids : (g : given.Over) (c : goal.In_ok-push g) → c.push.new.self.items ≡ c.self.inside.ids.items ++ c.args.id ∷ []
ids g c = c.in_ok-push.ensures.items

texts : (g : given.Over) (c : goal.In_ok-push g) → texts_in c.args.self.now ≡ g.D.Dictionary.texts c.self.inside.dictionary
texts g c = ap texts_in (sym c.self.view_is) ∙ c.self.invariant.appeared

within : (g : given.Over) (c : goal.In_ok-push g) → c.args.id < length (g.D.Dictionary.texts c.self.inside.dictionary)
within g c = subst (λ (t : List (List ℕ)). c.args.id < length t) (texts g c) c.requires.given

pub invariant_of-self-2 : goal.invariant_of-self-2
invariant_of-self-2 g c =
    let known = g.D.Dictionary.texts c.self.inside.dictionary in
    subst (λ (l : List ℕ). AreSymbols known l) (sym (ids g c)) (id_repeated known c.self.inside.ids.items c.args.id c.self.invariant (within g c) c.requires.some).1

pub returns-clause-texts : goal.returns-clause-texts
returns-clause-texts g c =
    let known = g.D.Dictionary.texts c.self.inside.dictionary in
    let done = id_repeated known c.self.inside.ids.items c.args.id c.self.invariant (within g c) c.requires.some in
    ap (λ l. texts_in (map (symbol_cell known) l)) (ids g c) ∙ ap texts_in done.0 ∙ done.2 ∙ ap texts_in c.self.view_is
