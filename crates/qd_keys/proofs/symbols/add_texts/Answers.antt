use Rattle.std.proofs.Common.{◌∙◌, ap, arith, map}
use Rattle.std.proofs.lemmas.List.{map_push}
use Rattle.qd_group.specs.declared.keys.Key.TheVariants as key
use Rattle.qd_group.specs.Keys.{lent}
use Rattle.qd_keys.proofs.SymbolRows.{texts_begun, texts_more, texts_done}
use Rattle.qd_keys.proofs.symbols.add_texts.Goals as goal

pub loop-id-init : goal.loop-id-init
loop-id-init g c = texts_begun (map lent c.args.texts.now.items) (g.D.Dictionary.texts c.args.dictionary.now)

pub loop-id-preserved : goal.loop-id-preserved
loop-id-preserved g c =
    texts_more (map lent c.args.texts.now.items) (map lent c.loop-id.texts.items) (map lent c.push.new.self.items) (g.D.Dictionary.texts c.args.dictionary.now) c.loop-id.id c.text_of.result.now c.text_of.ensures.text
    (ap (map lent) c.in_ok-push.ensures.items ∙ map_push lent c.loop-id.texts.items (key.Text c.text_of.result)) c.loop-id.invariant

pub returns : goal.returns
returns g c = record { kept = texts_done (map lent c.args.texts.now.items) (map lent c.loop-id.texts.items) (g.D.Dictionary.texts c.args.dictionary.now) c.loop-id.id (omega arith) c.loop-id.invariant }
