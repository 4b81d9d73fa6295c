use Rattle.std.proofs.Common.{◌∙◌, ap}
use Rattle.std.specs.Str.{str_to_ascii_lowercase}
use Rattle.qd_writes.proofs.MetLemmas.{met_found, met_more, turned_twice}
use Rattle.qd_writes.proofs.met.NameSet.meet.Goals as goal

pub returns-clause-again : goal.returns-clause-again
returns-clause-again c = λ names h. turned_twice _ _ c.in_ok-is_new.ensures.added ∙ met_found names c.args.self.now c.args.name.now c.in_ok-key.key h (c.in_ok-key.ensures.lower ∙ ap str_to_ascii_lowercase c.bytes.ensures.same)

pub returns-clause-met : goal.returns-clause-met
returns-clause-met c = λ names h. met_more names c.args.self.now _ c.args.name.now c.in_ok-key.key h (c.in_ok-key.ensures.lower ∙ ap str_to_ascii_lowercase c.bytes.ensures.same) c.in_ok-is_new.ensures.updates
