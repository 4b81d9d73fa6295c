use Rattle.std.proofs.Common.{sym, arith}
use Rattle.std.proofs.lemmas.Result.{err_from_is_err_and}
use Rattle.qd_versions.proofs.OpenLemmas.{not_found_told, opened_told, refused_told}
use Rattle.qd_versions.proofs.Stores.{store_opened}
use Rattle.qd_versions.proofs.store.VersionStore.open.Goals as goal

pub returns-in_err-found-clause-told : goal.returns-in_err-found-clause-told
returns-in_err-found-clause-told g c =
    let p = err_from_is_err_and c.from_residual.result c.from_residual.ensures.1 in
    rw p.1 (not_found_told c.args.records _ _ c.in_err-found.field-0.0 p.0 p.2 c.in_err-found.ensures.told)

pub returns-in_err-catalog-clause-told : goal.returns-in_err-catalog-clause-told
returns-in_err-catalog-clause-told g c =
    let p = err_from_is_err_and c.from_residual-in_err-catalog.result c.from_residual-in_err-catalog.ensures.1 in
    rw p.1
    (refused_told c.args.records _ _ c.in_ok-found.found c.file.result c.n.result c.bytes.result.now c.in_err-catalog.field-0.0 p.0 p.2 c.file.ensures.file c.n.ensures.number c.bytes.ensures.same c.in_err-catalog.ensures.refused c.in_ok-found.ensures.told)

pub invariant_of-result : goal.invariant_of-result
invariant_of-result g c =
    let o = c.in_ok-catalog.ensures.opened in
    store_opened (record { root = c.in_ok-found.found.file; versions = c.in_ok-catalog.catalog; kept = c.new-kept.result }) c.n.result o.0.next_block o.0.shape (sym c.n.ensures.number) (omega (arith, c.in_ok-catalog.ensures.shown, c.requires.few)) o.1.sound o.2

pub returns-clause-told : goal.returns-clause-told
returns-clause-told g c =
    let o = c.in_ok-catalog.ensures.opened in
    opened_told c.args.records _ _ c.in_ok-found.found c.in_ok-catalog.catalog c.new-kept.result o.0 c.n.result c.bytes.result.now c.n.ensures.number c.bytes.ensures.same o.1 o.2 c.in_ok-found.ensures.told
