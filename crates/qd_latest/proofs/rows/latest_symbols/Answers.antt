use Rattle.std.proofs.Common.{◌∙◌, ℕ, List, eqb, ap, sym, subst}
use Rattle.std.specs.Option.{IfSome}
use Rattle.std.specs.List.{list_any}
use Rattle.qd_expr.specs.Passing.{with_places}
use Rattle.qd_meaning.specs.Latest.{latest}
use Rattle.qd_rows.specs.Sets.{rows_in}
use Rattle.qd_latest.specs.Chains.{cells_of}
use Rattle.qd_latest.specs.Lasts.{places_where}
use Rattle.qd_latest.specs.Walks.{KeepsAll}
use Rattle.qd_latest.proofs.PlaceLemmas.{kept_rows}
use Rattle.qd_latest.proofs.rows.latest_symbols.Goals as goal

pub returns-in_ok-rows_at-in-Some-2-clause-rows : goal.returns-in_ok-rows_at-in-Some-2-clause-rows
returns-in_ok-rows_at-in-Some-2-clause-rows g c =
    let keeps : KeepsAll (cells_of c.args.rows.now c.in-Some.col) c.in-Some-2.places.items = subst (λ o. IfSome o (λ places. KeepsAll (cells_of c.args.rows.now c.in-Some.col) places.items)) c.in-Some-2.is c.in_ok-places-in-Some.ensures.kept in
    kept_rows c.args.rows.now c.in_ok-rows_at-in-Some-2.field-0 c.in-Some.col c.in-Some-2.places.items keeps
    (c.in_ok-rows_at-in-Some-2.ensures ∙ ap (λ (l : List ℕ). with_places c.args.rows.now (places_where (λ i. list_any (eqb i) l) 0 c.args.rows.now.places)) c.as_slice.ensures.value)
    ∙ ap (λ (k : List ℕ). latest k (rows_in c.args.rows.now)) (sym c.in-Some.ensures.key)
