-- Operators, and words, one after the other, over what is seen of their parts.
use Rattle.std.specs.Prelude.{List, fold}
use Rattle.qd_meaning.specs.Typing.{Link, Part}
use Rattle.qd_bind.specs.declared.chains.Chain.{Chain}
use Rattle.qd_bind.specs.declared.chains.Junction.{Junction}
use Rattle.qd_bind.specs.Seen.{typed}
use Rattle.qd_bind.specs.Steps.{chained_on, joined_on}

abbrev pub chain_link : Chain → Link → Chain
chain_link c l = chained_on c l.0 l.1 (typed l.2)

abbrev pub chained : Chain → List Link → Chain
chained c ls = fold chain_link c ls

abbrev pub join_part : Junction → Part → Junction
join_part j p = joined_on j p.0 (typed p.1)

abbrev pub joined : Junction → List Part → Junction
joined j ps = fold join_part j ps
