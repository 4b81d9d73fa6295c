use Rattle.std.proofs.Common.{◌≡◌, ◌≤◌, length, IfSome, Ok, refl, sym, ap, ◌∙◌, subst}
use Rattle.std.specs.Arc.{arc_value}
use Rattle.qd_base.specs.declared.limits.TheConstants.{MAX_COLUMNS}
use Rattle.qd_base.specs.declared.part.Part.{Part}
use Rattle.qd_block.specs.Blocks.{Block}
use Rattle.qd_volume.specs.Disk.{reads_of}
use Rattle.qd_manifest.specs.declared.shape.TableParts.{TableParts}
use Rattle.qd_catalog.specs.Versions.{version_at}
use Rattle.qd_versions.specs.declared.growing.Growing.{Growing}
use Rattle.qd_versions.specs.Publishing.{MayGrow}
use Rattle.qd_versions.specs.Stores.{Store}
use Rattle.qd_versions.specs.Reading.{IsPartAt}
use Rattle.qd_versions.specs.Tails.{IsGrowing, IsGrowthRead}
use Rattle.qd_versions.proofs.Stores.{IsLent, is_growing, lent_is, lent_lawful, lent_to_grow}
use Rattle.qd_versions.proofs.Tails.{growth_found}
use Rattle.qd_versions.proofs.store.VersionStore.read_growing.Goals as goal

pub tail_of-requires-clause-schema : goal.tail_of-requires-clause-schema
tail_of-requires-clause-schema g c =
    let s : Store = record { root = c.self.inside.root; versions = c.self.inside.catalog; kept = c.self.inside.kept } in
    let x = c.args.added.now in
    let may = subst (λ (s : Store). MayGrow s.versions x) (sym c.self.view_is) c.requires.may in
    let is = lent_to_grow s.versions c.current.result x may c.get-shown.result.now c.get-part.result.now c.shape_of.result.now c.current.ensures.row c.shape_of.ensures.shape c.get-shown.ensures.item c.get-part.ensures.item in
    (lent_lawful s s.versions.current x.table x.part may.t c.get-shown.result.now may.p c.get-part.result.now c.self.invariant may.there is).schema

pub tail_of-requires-clause-part : goal.tail_of-requires-clause-part
tail_of-requires-clause-part g c =
    let s : Store = record { root = c.self.inside.root; versions = c.self.inside.catalog; kept = c.self.inside.kept } in
    let x = c.args.added.now in
    let may = subst (λ (s : Store). MayGrow s.versions x) (sym c.self.view_is) c.requires.may in
    let is = lent_to_grow s.versions c.current.result x may c.get-shown.result.now c.get-part.result.now c.shape_of.result.now c.current.ensures.row c.shape_of.ensures.shape c.get-shown.ensures.item c.get-part.ensures.item in
    (lent_lawful s s.versions.current x.table x.part may.t c.get-shown.result.now may.p c.get-part.result.now c.self.invariant may.there is).its_part

pub tail_of-requires-clause-block : goal.tail_of-requires-clause-block
tail_of-requires-clause-block g c =
    let s : Store = record { root = c.self.inside.root; versions = c.self.inside.catalog; kept = c.self.inside.kept } in
    let x = c.args.added.now in
    let may = subst (λ (s : Store). MayGrow s.versions x) (sym c.self.view_is) c.requires.may in
    let is = lent_to_grow s.versions c.current.result x may c.get-shown.result.now c.get-part.result.now c.shape_of.result.now c.current.ensures.row c.shape_of.ensures.shape c.get-shown.ensures.item c.get-part.ensures.item in
    (lent_lawful s s.versions.current x.table x.part may.t c.get-shown.result.now may.p c.get-part.result.now c.self.invariant may.there is).small

pub returns-clause-growing : goal.returns-clause-growing
returns-clause-growing g c =
    let s : Store = record { root = c.self.inside.root; versions = c.self.inside.catalog; kept = c.self.inside.kept } in
    let x = c.args.added.now in
    let may = subst (λ (s : Store). MayGrow s.versions x) (sym c.self.view_is) c.requires.may in
    let is = lent_to_grow s.versions c.current.result x may c.get-shown.result.now c.get-part.result.now c.shape_of.result.now c.current.ensures.row c.shape_of.ensures.shape c.get-shown.ensures.item c.get-part.ensures.item in
    let one : c.deref.result.now ≡ arc_value x.rows = cc in
    let few = subst (λ (b : Block). length b.kinds ≤ MAX_COLUMNS) one c.is_whole.ensures.whole.few in
    subst (λ (s : Store). IsGrowing s.versions x (record { block = c.get-part.result.now.block; tail = c.in_ok-tail.tail; rows = c.in_ok-rows.rows })) c.self.view_is
    (is_growing s x c.get-shown.result.now c.get-part.result.now c.in_ok-tail.tail (record { block = c.get-part.result.now.block; tail = c.in_ok-tail.tail; rows = c.in_ok-rows.rows }) c.self.invariant may is c.in_ok-tail.ensures.columns few refl refl c.in_ok-rows.ensures.cases)

pub returns-clause-told : goal.returns-clause-told
returns-clause-told g c =
    let s : Store = record { root = c.self.inside.root; versions = c.self.inside.catalog; kept = c.self.inside.kept } in
    let x = c.args.added.now in
    let v = s.versions in
    let made : Growing = record { block = c.get-part.result.now.block; tail = c.in_ok-tail.tail; rows = c.in_ok-rows.rows } in
    let lent : (t : TableParts) (p : Part) → IsPartAt v v.current x.table x.part t p → IsLent t c.get-shown.result.now p c.get-part.result.now = λ t p at.
    lent_is v v.current x.table x.part t c.get-shown.result.now p c.get-part.result.now c.shape_of.result.now at (λ y e. c.shape_of.ensures.shape y (ap (λ r. version_at v r) c.current.ensures.row ∙ e)) c.get-shown.ensures.item c.get-part.ensures.item in
    subst (λ (s : Store). IfSome (g.V.Volume.storage c.args.volume.now).disk (λ disk. IsGrowthRead (Ok made) s x (reads_of disk))) c.self.view_is
    (growth_found s x c.get-shown.result.now c.get-part.result.now made _ lent c.in_ok-tail.ensures.rows c.in_ok-tail.ensures.told)
