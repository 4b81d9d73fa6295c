use Rattle.std.proofs.Common.{◌≡◌, ℕ, ◌^◌, ◌<◌, List, Some, slice_get, sym, ap, ◌∙◌, subst}
use Rattle.std.proofs.lemmas.Option.{same_Some}
use Rattle.qd_base.specs.declared.part.Part.{Part}
use Rattle.qd_base.specs.Lawful.{IsSchema}
use Rattle.qd_manifest.specs.declared.shape.TableParts.{TableParts}
use Rattle.qd_manifest.specs.Spelling.{IsPart}
use Rattle.qd_versions.specs.Reading.{IsPartAt}
use Rattle.qd_versions.specs.Stores.{Store}
use Rattle.qd_versions.proofs.Stores.{part_lawful}
use Rattle.qd_versions.proofs.store.VersionStore.read_part.Goals as goal

-- the table and the part that are lent are those that are asked for
lent_table : (shape asked : List TableParts) (table : ℕ) (t lent : TableParts) → shape ≡ asked → slice_get asked table ≡ Some t → slice_get shape table ≡ Some lent → t ≡ lent
lent_table shape asked table t lent same there is = same_Some t lent (sym there ∙ ap (λ (l : List TableParts). slice_get l table) (sym same) ∙ is)

lent_part : (t lent : TableParts) (i : ℕ) (p given : Part) → t ≡ lent → slice_get t.parts i ≡ Some p → slice_get lent.parts i ≡ Some given → p ≡ given
lent_part t lent i p given same there is = same_Some p given (sym there ∙ ap (λ (x : TableParts). slice_get x.parts i) same ∙ is)

pub read_block-requires-clause-schema : goal.read_block-requires-clause-schema
read_block-requires-clause-schema g c =
    let t = c.requires.there.0 in
    let p = c.requires.there.1 in
    let at = subst (λ (s : Store). IsPartAt s.versions c.args.row c.args.table c.args.i t p) (sym c.self.view_is) c.requires.there.2 in
    let lawful = part_lawful (record { root = c.self.inside.root; versions = c.self.inside.catalog; kept = c.self.inside.kept }) c.args.row c.args.table c.args.i t p c.self.invariant at in
    let same = lent_table c.shape_of.result.now at.version.shape c.args.table t c.get-shown.result.now (c.shape_of.ensures.shape at.version at.live) at.its_table c.get-shown.ensures.item in
    subst (λ (x : TableParts). IsSchema x.schema) same lawful.schema

pub read_block-requires-clause-part : goal.read_block-requires-clause-part
read_block-requires-clause-part g c =
    let t = c.requires.there.0 in
    let p = c.requires.there.1 in
    let at = subst (λ (s : Store). IsPartAt s.versions c.args.row c.args.table c.args.i t p) (sym c.self.view_is) c.requires.there.2 in
    let lawful = part_lawful (record { root = c.self.inside.root; versions = c.self.inside.catalog; kept = c.self.inside.kept }) c.args.row c.args.table c.args.i t p c.self.invariant at in
    let same = lent_table c.shape_of.result.now at.version.shape c.args.table t c.get-shown.result.now (c.shape_of.ensures.shape at.version at.live) at.its_table c.get-shown.ensures.item in
    let one = lent_part t c.get-shown.result.now c.args.i p c.get.result.now same at.its_part c.get.ensures.item in
    subst (λ (x : TableParts). IsPart x.schema c.get.result.now) same (subst (λ (x : Part). IsPart t.schema x) one lawful.its_part)

pub read_block-requires-clause-block : goal.read_block-requires-clause-block
read_block-requires-clause-block g c =
    let t = c.requires.there.0 in
    let p = c.requires.there.1 in
    let at = subst (λ (s : Store). IsPartAt s.versions c.args.row c.args.table c.args.i t p) (sym c.self.view_is) c.requires.there.2 in
    let lawful = part_lawful (record { root = c.self.inside.root; versions = c.self.inside.catalog; kept = c.self.inside.kept }) c.args.row c.args.table c.args.i t p c.self.invariant at in
    let same = lent_table c.shape_of.result.now at.version.shape c.args.table t c.get-shown.result.now (c.shape_of.ensures.shape at.version at.live) at.its_table c.get-shown.ensures.item in
    let one = lent_part t c.get-shown.result.now c.args.i p c.get.result.now same at.its_part c.get.ensures.item in
    subst (λ (x : Part). x.block < 2 ^ 52) one lawful.small
