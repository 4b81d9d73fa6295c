use Rattle.std.proofs.Common.{◌≡◌, ℕ, List, [], sym, ap, ◌∙◌, subst, arith}
use Rattle.std.proofs.lemmas.Result.{err_from_is_err_and}
use Rattle.qd_manifest.specs.declared.shape.TableParts.{TableParts}
use Rattle.qd_manifest.specs.Spelling.{IsManifest, manifest_bytes}
use Rattle.qd_txnfile.specs.States.{Root}
use Rattle.qd_txnfile.specs.Versions.{Version}
use Rattle.qd_versions.specs.Calls.{no_tables}
use Rattle.qd_versions.specs.Stores.{manifest_in}
use Rattle.qd_versions.proofs.Stores.{no_manifest, store_opened, version_opened}
use Rattle.qd_versions.proofs.StoreTold.{create_done_told, create_none_told}
use Rattle.qd_versions.proofs.store.VersionStore.create.Goals as goal

pub manifest_of-requires : goal.manifest_of-requires
manifest_of-requires g c = (0, subst (λ (l : List TableParts). IsManifest 0 (manifest_in 0 l)) (sym c.new.ensures.empty) no_manifest)

pub returns-in_err-manifest-clause-told : goal.returns-in_err-manifest-clause-told
returns-in_err-manifest-clause-told g c =
    let p = err_from_is_err_and c.from_residual.result c.from_residual.ensures.1 in
    rw p.1 (create_none_told p.0 _)

pub returns-in_err-catalog-clause-told : goal.returns-in_err-catalog-clause-told
returns-in_err-catalog-clause-told g c =
    let p = err_from_is_err_and c.from_residual-in_err-catalog.result c.from_residual-in_err-catalog.ensures.1 in
    rw p.1 (create_none_told p.0 _)

pub invariant_of-result : goal.invariant_of-result
invariant_of-result g c =
    store_opened (record { root = c.in_ok-root.root; versions = c.in_ok-catalog.catalog; kept = c.new-kept.result }) 0 0 [] (ap (λ (r : Root). r.n) c.in_ok-root.ensures.root) (omega arith) no_manifest c.in_ok-catalog.ensures.opened

pub returns-clause-told : goal.returns-clause-told
returns-clause-told g c =
    let v : Version = record { n = 0; manifest = c.bytes.result.now } in
    let is : v ≡ no_tables = ap (λ (l : List ℕ). record { n = 0; manifest = l }) (c.bytes.ensures.same ∙ c.in_ok-manifest.ensures.bytes ∙ ap (λ (l : List TableParts). manifest_bytes (manifest_in 0 l)) c.new.ensures.empty) in
    create_done_told v is (record { root = c.in_ok-root.root; versions = c.in_ok-catalog.catalog; kept = c.new-kept.result }) _ _ (version_opened c.in_ok-catalog.catalog 0 0 [] c.in_ok-catalog.ensures.opened) c.in_ok-root.ensures.told
