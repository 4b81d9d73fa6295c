use Rattle.std.proofs.Common.{map, get_or, [], rules, of_calls}
use Rattle.std.proofs.lemmas.Fn.{always_returns_same}
use Rattle.qd_base.specs.NameIndex.{name_cmp}
use Rattle.qd_base.proofs.NameIndex.{names_total, searched}
use Rattle.qd_base.proofs.named.find_place.Goals as goal

-- the closure compares the name at a position with the one that is sought
pub returns : goal.returns
returns g c =
    let facts = c.binary_search_by.ensures in
    let names = map g.T.Named.name_of c.args.items.now in
    let by_name = facts.position (λ at. name_cmp (get_or names at []) c.args.name.now) (always_returns_same _ _ _ (λ a r f called. search (rules, of_calls))) in
    let places = searched name_cmp names_total [] names c.args.order.now c.requires.index c.args.name.now _ facts.bound by_name in
    record { found = places.found; absent = places.absent }
