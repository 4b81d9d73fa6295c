use Rattle.std.proofs.Common.{◌∙◌, sym, ap}
use Rattle.qd_base.specs.Dictionary.{id_in}
use Rattle.qd_symbols.proofs.KeyLemmas.{id_in-keys}
use Rattle.qd_symbols.proofs.map.SymbolMap.id_of.Goals as goal

pub returns-in-Some : goal.returns-in-Some
returns-in-Some c = record { id = c.in-Some.ensures.index ∙ id_in-keys c.self.inside.texts.keys c.args.text.now ∙ ap (λ t. id_in t c.args.text.now) c.self.view_is }

pub returns-in-None : goal.returns-in-None
returns-in-None c = record { id = c.in-None.ensures.index ∙ id_in-keys c.self.inside.texts.keys c.args.text.now ∙ ap (λ t. id_in t c.args.text.now) c.self.view_is }
