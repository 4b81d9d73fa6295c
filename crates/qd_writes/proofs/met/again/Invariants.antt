use Rattle.std.proofs.Common.{◌≡◌, [], map, take}
use Rattle.qd_sql_ast.specs.declared.tree.Name.{Name}
use Rattle.qd_meaning.specs.Refusals.{at, least}
use Rattle.qd_meaning.specs.Creating.{again_from}
use Rattle.qd_writes.specs.Met.{HasMet}
use Rattle.qd_writes.proofs.met.again.Given as goal

-- the names so far
abbrev pub invariant-loop-part : goal.invariant-loop-part
invariant-loop-part g l = record {
  met : HasMet (map g.T.Called.name_in (take l.part-index l.parts)) l.met;
  found : l.found ≡ least (again_from (λ (n : Name). at l.code n.at) [] (map g.T.Called.name_in (take l.part-index l.parts)));
}
