use Rattle.std.proofs.Common.{◌≡◌, ◌≤◌, ◌<◌, ◌^◌, None, ◌∙◌, sym, ap, arith, length}
use Rattle.std.proofs.lemmas.List.{length-map}
use Rattle.qd_base.specs.Dictionary.{id_in, id_for, with_text}
use Rattle.qd_base.proofs.Texts.{id_not_there}
use Rattle.qd_symbols.specs.Keys.{texts_of_keys, AreTexts}
use Rattle.qd_symbols.proofs.KeyLemmas.{Key, texts-inserted, are_texts-inserted}
use Rattle.qd_symbols.proofs.map.SymbolMap.add.Goals as goal

-- the text isn't among the keys
none : (c : goal.In_ok-insert) → id_in (texts_of_keys c.self.inside.texts.keys) c.args.text.now ≡ None
none c = ap (λ t. id_in t c.args.text.now) c.self.view_is ∙ c.requires

-- the texts with this one
after : (c : goal.In_ok-insert) → AreTexts (texts_of_keys c.insert.new.self.keys)
after c = rw c.in_ok-insert.ensures.keys (are_texts-inserted c.self.inside.texts.keys c.in_ok-key.key c.args.text.now c.in_ok-key.ensures.items (none c) (omega (arith, c.len-id.ensures.len, c.len-id.ensures.small)) c.self.invariant)

pub returns-clause-texts : goal.returns-clause-texts
returns-clause-texts c = ap texts_of_keys c.in_ok-insert.ensures.keys ∙ texts-inserted c.self.inside.texts.keys c.in_ok-key.key c.args.text.now c.in_ok-key.ensures.items (none c) ∙ ap (λ t. with_text t c.args.text.now) c.self.view_is

pub invariant_of-self-2 : goal.invariant_of-self-2
invariant_of-self-2 c = after c

pub returns-clause-id : goal.returns-clause-id
returns-clause-id c =
    let size = length-map c.self.inside.texts.keys (λ (k : Key). k.items) in
    c.len-id.ensures.len ∙ sym size ∙ sym (id_not_there (texts_of_keys c.self.inside.texts.keys) c.args.text.now (none c)) ∙ ap (λ t. id_for t c.args.text.now) c.self.view_is

pub returns-clause-few : goal.returns-clause-few
returns-clause-few c = let few : length (texts_of_keys c.insert.new.self.keys) ≤ 2 ^ 63 = (after c).few in omega arith
