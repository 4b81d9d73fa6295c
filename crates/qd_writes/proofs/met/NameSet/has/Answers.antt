use Rattle.std.proofs.Common.{◌∙◌, ap}
use Rattle.std.specs.Str.{str_to_ascii_lowercase}
use Rattle.qd_writes.proofs.MetLemmas.{met_found}
use Rattle.qd_writes.proofs.met.NameSet.has.Goals as goal

pub returns : goal.returns
returns c = record { there = λ names h. c.contains.ensures ∙ met_found names c.args.self.now c.args.name.now c.in_ok-key.key h (c.in_ok-key.ensures.lower ∙ ap str_to_ascii_lowercase c.bytes.ensures.same) }
