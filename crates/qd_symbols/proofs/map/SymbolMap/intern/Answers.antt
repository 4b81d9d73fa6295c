use Rattle.std.proofs.Common.{◌≡◌, ℕ, ◌<◌, ◌≤◌, ◌^◌, Some, None, ◌∙◌, sym, ap, length, arith}
use Rattle.std.proofs.lemmas.List.{length-map}
use Rattle.qd_base.specs.Dictionary.{id_in}
use Rattle.qd_base.proofs.Texts.{id_there, with_text-there}
use Rattle.qd_symbols.proofs.KeyLemmas.{Key, id_in-keys}
use Rattle.qd_symbols.proofs.map.SymbolMap.intern.Goals as goal

pub add-requires : goal.add-requires
add-requires c = sym (c.in-None.ensures.index ∙ id_in-keys c.self.inside.texts.keys c.args.text.now ∙ ap (λ t. id_in t c.args.text.now) c.self.view_is)

pub returns-in-Some-clause-id : goal.returns-in-Some-clause-id
returns-in-Some-clause-id c = sym (id_there c.args.self.now c.args.text.now c.in-Some.id (sym (c.in-Some.ensures.index ∙ id_in-keys c.self.inside.texts.keys c.args.text.now ∙ ap (λ t. id_in t c.args.text.now) c.self.view_is))).0

pub returns-in-Some-clause-texts : goal.returns-in-Some-clause-texts
returns-in-Some-clause-texts c =
    let there = id_there c.args.self.now c.args.text.now c.in-Some.id (sym (c.in-Some.ensures.index ∙ id_in-keys c.self.inside.texts.keys c.args.text.now ∙ ap (λ t. id_in t c.args.text.now) c.self.view_is)) in
    sym (with_text-there c.args.self.now c.args.text.now (omega (arith, there.0, there.1)))

pub returns-in-Some-clause-few : goal.returns-in-Some-clause-few
returns-in-Some-clause-few c = let few : length c.args.self.now ≤ 2 ^ 63 = rw c.self.view_is at c.self.invariant.few in omega arith
