use Rattle.std.proofs.Common.{sym, subst}
use Rattle.qd_versions.specs.Reading.{IsPartAt}
use Rattle.qd_versions.specs.Stores.{Store}
use Rattle.qd_versions.proofs.Stores.{lent_is, lent_lawful}
use Rattle.qd_versions.proofs.store.VersionStore.read_times.Goals as goal

pub read_times-requires-clause-schema : goal.read_times-requires-clause-schema
read_times-requires-clause-schema g c =
    let s : Store = record { root = c.self.inside.root; versions = c.self.inside.catalog; kept = c.self.inside.kept } in
    let t = c.requires.there.0 in
    let p = c.requires.there.1 in
    let at = subst (λ (s : Store). IsPartAt s.versions c.args.row c.args.table c.args.i t p) (sym c.self.view_is) c.requires.there.2 in
    let is = lent_is s.versions c.args.row c.args.table c.args.i t c.get-shown.result.now p c.get.result.now c.shape_of.result.now at c.shape_of.ensures.shape c.get-shown.ensures.item c.get.ensures.item in
    (lent_lawful s c.args.row c.args.table c.args.i t c.get-shown.result.now p c.get.result.now c.self.invariant at is).schema

pub read_times-requires-clause-part : goal.read_times-requires-clause-part
read_times-requires-clause-part g c =
    let s : Store = record { root = c.self.inside.root; versions = c.self.inside.catalog; kept = c.self.inside.kept } in
    let t = c.requires.there.0 in
    let p = c.requires.there.1 in
    let at = subst (λ (s : Store). IsPartAt s.versions c.args.row c.args.table c.args.i t p) (sym c.self.view_is) c.requires.there.2 in
    let is = lent_is s.versions c.args.row c.args.table c.args.i t c.get-shown.result.now p c.get.result.now c.shape_of.result.now at c.shape_of.ensures.shape c.get-shown.ensures.item c.get.ensures.item in
    (lent_lawful s c.args.row c.args.table c.args.i t c.get-shown.result.now p c.get.result.now c.self.invariant at is).its_part

pub read_times-requires-clause-block : goal.read_times-requires-clause-block
read_times-requires-clause-block g c =
    let s : Store = record { root = c.self.inside.root; versions = c.self.inside.catalog; kept = c.self.inside.kept } in
    let t = c.requires.there.0 in
    let p = c.requires.there.1 in
    let at = subst (λ (s : Store). IsPartAt s.versions c.args.row c.args.table c.args.i t p) (sym c.self.view_is) c.requires.there.2 in
    let is = lent_is s.versions c.args.row c.args.table c.args.i t c.get-shown.result.now p c.get.result.now c.shape_of.result.now at c.shape_of.ensures.shape c.get-shown.ensures.item c.get.ensures.item in
    (lent_lawful s c.args.row c.args.table c.args.i t c.get-shown.result.now p c.get.result.now c.self.invariant at is).small
