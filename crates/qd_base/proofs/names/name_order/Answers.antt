use Rattle.std.proofs.Common.{◌≡◌, nat_cmp, refl, rules, tests}
use Rattle.std.specs.Char.{to_ascii_lowercase}
use Rattle.std.proofs.lemmas.Iterator.{YieldsList-from_slice, YieldsList-from_map}
use Rattle.std.proofs.lemmas.Iterator.Consumers.{YieldsList-at}
use Rattle.std.proofs.lemmas.Iterator.Search.{cmp_from_yields_List}
use Rattle.qd_base.proofs.names.name_order.Goals as goal

-- both sides give the bytes in lower case
pub returns : goal.returns
returns c = record {
  order =
      cmp_from_yields_List (λ x y. y ≡ x) _ nat_cmp _ c.cmp.ensures.ran
      (YieldsList-from_map _ to_ascii_lowercase (YieldsList-at c.map-first.ensures.source (YieldsList-from_slice c.args.a.now cc)) c.map-first.ensures.closure (λ x r q k. search (rules, tests)))
      (λ it e. YieldsList-at e (YieldsList-from_map _ to_ascii_lowercase (YieldsList-at c.map.ensures.source (YieldsList-from_slice c.args.b.now cc)) c.map.ensures.closure (λ x r q k. search (rules, tests))))
      (λ x y. refl);
}
