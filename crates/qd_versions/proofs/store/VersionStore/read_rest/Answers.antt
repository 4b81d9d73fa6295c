use Rattle.std.proofs.Common.{◌≤◌, sym, subst}
use Rattle.qd_base.specs.declared.part.Part.{Part}
use Rattle.qd_column_files.specs.Reading.{IsFitColumn}
use Rattle.qd_manifest.specs.declared.shape.TableParts.{TableParts}
use Rattle.qd_versions.specs.Reading.{IsPartAt}
use Rattle.qd_versions.specs.Stores.{Store}
use Rattle.qd_versions.proofs.Stores.{lent_is, lent_lawful}
use Rattle.qd_versions.proofs.store.VersionStore.read_rest.Goals as goal

pub read_rest-requires-clause-schema : goal.read_rest-requires-clause-schema
read_rest-requires-clause-schema g c =
    let s : Store = record { root = c.self.inside.root; versions = c.self.inside.catalog; kept = c.self.inside.kept } in
    let t = c.requires.there.0 in
    let p = c.requires.there.1 in
    let at = subst (λ (s : Store). IsPartAt s.versions c.args.row c.args.table c.args.i t p) (sym c.self.view_is) c.requires.there.2 in
    let is = lent_is s.versions c.args.row c.args.table c.args.i t c.get-shown.result.now p c.get-part.result.now c.shape_of.result.now at c.shape_of.ensures.shape c.get-shown.ensures.item c.get-part.ensures.item in
    (lent_lawful s c.args.row c.args.table c.args.i t c.get-shown.result.now p c.get-part.result.now c.self.invariant at is).schema

pub read_rest-requires-clause-part : goal.read_rest-requires-clause-part
read_rest-requires-clause-part g c =
    let s : Store = record { root = c.self.inside.root; versions = c.self.inside.catalog; kept = c.self.inside.kept } in
    let t = c.requires.there.0 in
    let p = c.requires.there.1 in
    let at = subst (λ (s : Store). IsPartAt s.versions c.args.row c.args.table c.args.i t p) (sym c.self.view_is) c.requires.there.2 in
    let is = lent_is s.versions c.args.row c.args.table c.args.i t c.get-shown.result.now p c.get-part.result.now c.shape_of.result.now at c.shape_of.ensures.shape c.get-shown.ensures.item c.get-part.ensures.item in
    (lent_lawful s c.args.row c.args.table c.args.i t c.get-shown.result.now p c.get-part.result.now c.self.invariant at is).its_part

pub read_rest-requires-clause-block : goal.read_rest-requires-clause-block
read_rest-requires-clause-block g c =
    let s : Store = record { root = c.self.inside.root; versions = c.self.inside.catalog; kept = c.self.inside.kept } in
    let t = c.requires.there.0 in
    let p = c.requires.there.1 in
    let at = subst (λ (s : Store). IsPartAt s.versions c.args.row c.args.table c.args.i t p) (sym c.self.view_is) c.requires.there.2 in
    let is = lent_is s.versions c.args.row c.args.table c.args.i t c.get-shown.result.now p c.get-part.result.now c.shape_of.result.now at c.shape_of.ensures.shape c.get-shown.ensures.item c.get-part.ensures.item in
    (lent_lawful s c.args.row c.args.table c.args.i t c.get-shown.result.now p c.get-part.result.now c.self.invariant at is).small

pub read_rest-requires-clause-times : goal.read_rest-requires-clause-times
read_rest-requires-clause-times g c =
    let s : Store = record { root = c.self.inside.root; versions = c.self.inside.catalog; kept = c.self.inside.kept } in
    let t = c.requires.there.0 in
    let p = c.requires.there.1 in
    let at = subst (λ (s : Store). IsPartAt s.versions c.args.row c.args.table c.args.i t p) (sym c.self.view_is) c.requires.there.2 in
    let is = lent_is s.versions c.args.row c.args.table c.args.i t c.get-shown.result.now p c.get-part.result.now c.shape_of.result.now at c.shape_of.ensures.shape c.get-shown.ensures.item c.get-part.ensures.item in
    subst (λ (u : TableParts). IsFitColumn u.schema c.get-part.result.now u.schema.time_col c.args.times.now) is.table_is
    (subst (λ (q : Part). IsFitColumn t.schema q t.schema.time_col c.args.times.now) is.part_is (c.requires.times t p c.requires.there.2))

pub read_rest-requires-clause-skip : goal.read_rest-requires-clause-skip
read_rest-requires-clause-skip g c =
    let s : Store = record { root = c.self.inside.root; versions = c.self.inside.catalog; kept = c.self.inside.kept } in
    let t = c.requires.there.0 in
    let p = c.requires.there.1 in
    let at = subst (λ (s : Store). IsPartAt s.versions c.args.row c.args.table c.args.i t p) (sym c.self.view_is) c.requires.there.2 in
    let is = lent_is s.versions c.args.row c.args.table c.args.i t c.get-shown.result.now p c.get-part.result.now c.shape_of.result.now at c.shape_of.ensures.shape c.get-shown.ensures.item c.get-part.ensures.item in
    subst (λ (q : Part). c.args.skip ≤ q.rows) is.part_is (c.requires.skip t p c.requires.there.2)
