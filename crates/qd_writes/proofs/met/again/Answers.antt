use Rattle.std.proofs.Common.{◌≡◌, ◌∙◌, ◌++◌, ◌∷◌, [], ℕ, not, List, map, take, get_or, sym, ap, subst}
use Rattle.std.proofs.lemmas.List.{map_more}
use Rattle.qd_sql_ast.specs.declared.tree.Name.{Name}
use Rattle.qd_meaning.specs.Refusals.{at, least, unless}
use Rattle.qd_meaning.specs.Creating.{again_from}
use Rattle.std.specs.List.{list_any}
use Rattle.qd_base.specs.Schemas.{same_name}
use Rattle.qd_writes.specs.Met.{HasMet}
use Rattle.qd_writes.proofs.MetLemmas.{again_next}
use Rattle.qd_writes.proofs.met.again.Goals as goal

pub loop-part-preserved : goal.loop-part-preserved
loop-part-preserved g c =
    let name_of = g.T.Called.name_in in
    let parts = c.args.parts.now in
    let i : ℕ = c.loop-part.part-index in
    let x = c.part-item.result in
    let lt = c.loop-part-test.true in
    let names : List Name = map name_of (take i parts) in
    let again = c.in_ok-is_again.is_again in
    let name : c.name-name.result.now ≡ name_of (get_or parts i x) = c.name-name.ensures.name ∙ ap name_of c.part-item.is in
    record {
      met =
          subst (λ (ns : List Name). HasMet ns c.meet.new.self) (ap (λ (n : Name). names ++ n ∷ []) name ∙ sym (map_more name_of parts i x lt))
          (c.in_ok-is_again.ensures.met names c.loop-part.invariant.met);
      found =
          c.both-found.ensures.least (again_from (λ (n : Name). at c.args.code n.at) [] names) (unless (not again) c.args.code (name_of (get_or parts i x)).at) c.loop-part.invariant.found
          (c.unless.ensures.least ∙ ap (λ (n : Name). least (unless (not again) c.args.code n.at)) name)
          ∙ ap least (again_next c.args.code name_of parts i x again lt
          (c.in_ok-is_again.ensures.again names c.loop-part.invariant.met ∙ ap (λ (n : Name). list_any (λ (m : Name). same_name m.text n.text) names) name));
    }
