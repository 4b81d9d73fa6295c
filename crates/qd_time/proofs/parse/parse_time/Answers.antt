use Rattle.std.proofs.Common.{subst, sym}
use Rattle.qd_time.specs.Spelled.{SpellsTime}
use Rattle.qd_time.proofs.ParseLemmas.{answer_ok, is_ok, is_range, is_form, printed_spells}
use Rattle.qd_time.proofs.parse.parse_time.Goals as goal

pub returns-clause-ok : goal.returns-clause-ok
returns-clause-ok c = is_ok c.args.text.now c.read_whole.result c.read_whole.ensures

pub returns-clause-range : goal.returns-clause-range
returns-clause-range c = is_range c.args.text.now c.read_whole.result c.read_whole.ensures

pub returns-clause-form : goal.returns-clause-form
returns-clause-form c = is_form c.args.text.now c.read_whole.result c.read_whole.ensures

pub returns-clause-printed : goal.returns-clause-printed
returns-clause-printed c = λ ts high e.
    answer_ok c.args.text.now c.read_whole.result ts c.read_whole.ensures
    (subst (λ text. SpellsTime text ts) (sym e) (printed_spells ts high))
