use Rattle.std.proofs.Common.{◌≡◌, ◌⊎◌, ℕ, ◌+◌, List, length, nat_eq, All, Contains, IfSome, Option, Vec, Global, Ok, Err, refl, sym, ◌∙◌, subst, arith}
use Rattle.std.proofs.lemmas.List.{take_at}
use Rattle.std.proofs.lemmas.Result.{err_from_is_err_and}
use Rattle.std.specs.List.{IsDistinct}
use Rattle.qd_volume.specs.Disk.{Disk, reads_of}
use Rattle.qd_durable.specs.Moments.{Told}
use Rattle.qd_txnfile.specs.Versions.{Version}
use Rattle.qd_manifest.specs.declared.shape.TableParts.{TableParts}
use Rattle.qd_manifest.specs.Spelling.{manifest_bytes}
use Rattle.qd_catalog.specs.Versions.{Adds, MayAdd}
use Rattle.qd_versions.specs.declared.fault.PublishFault.{PublishFault}
use Rattle.qd_versions.specs.declared.fault.PublishFault.TheVariants as fault
use Rattle.qd_versions.specs.declared.growing.Growing.{Growing}
use Rattle.qd_versions.specs.Calls.{Publishes}
use Rattle.qd_versions.specs.Faults.{CountsPublish}
use Rattle.qd_versions.specs.Publishing.{IsLostWhere, MayGrow, MayPublish, grown_blocks}
use Rattle.qd_versions.specs.Stores.{Store, manifest_in, stored}
use Rattle.qd_versions.specs.Tails.{AreGrowing, AreTails, IsFit, IsLeft, blocks_growing, tails_in}
use Rattle.qd_versions.specs.Writing.{LaysDown}
use Rattle.qd_versions.proofs.KeptTails.{one_current, same_current}
use Rattle.qd_versions.proofs.Stores.{may_add, now_current, now_next, root_newer, store_added, store_same, version_added, version_same}
use Rattle.qd_versions.proofs.StoreTold.{blocks_same, fit_all, publish_done_told, publish_failed_told, publish_none_told}
use Rattle.qd_versions.proofs.Tails.{counts_read, lost_told}
use Rattle.qd_versions.proofs.store.VersionStore.publish.Goals as goal

pub returns-then-not-has_free_row-clause-told : goal.returns-then-not-has_free_row-clause-told
returns-then-not-has_free_row-clause-told g c =
    publish_none_told c.args.self.now c.args.self.now (stored c.args.n (c.args.self.now.versions.next_block + length c.args.blocks.now) c.args.shape.now) c.args.blocks.now c.args.grown.now fault.NoRow _ refl refl (one_current c.args.self.now.versions) refl

-- ---- the tails aren't read

pub returns-in_err-growing-clause-told : goal.returns-in_err-growing-clause-told
returns-in_err-growing-clause-told g c =
    let p = err_from_is_err_and c.from_residual.result c.from_residual.ensures.1 in
    let v : Version = stored c.args.n (c.args.self.now.versions.next_block + length c.args.blocks.now) c.args.shape.now in
    rw p.1
    (subst (λ (o : Option Disk). Told (g.V.Volume.storage c.args.volume.now).disk o (Publishes {T = ℕ} (Err p.0) c.args.self.now c.args.self.now v c.args.blocks.now c.args.grown.now)) (sym c.in_err-growing.ensures.stays)
    (publish_none_told c.args.self.now c.args.self.now v c.args.blocks.now c.args.grown.now p.0 _ refl refl (one_current c.args.self.now.versions) refl))

pub returns-in_err-growing-clause-damaged : goal.returns-in_err-growing-clause-damaged
returns-in_err-growing-clause-damaged g c =
    let p = err_from_is_err_and c.from_residual.result c.from_residual.ensures.1 in
    rw p.1
    (subst (λ (f : PublishFault). IfSome (g.V.Volume.storage c.args.volume.now).disk (λ disk. IsLostWhere f c.args.self.now.versions c.args.grown.now (reads_of disk))) (sym p.2)
    (lost_told c.in_err-growing.field-0.0 c.args.self.now c.args.grown.now _ c.in_err-growing.ensures.told))

pub returns-in_err-growing-clause-counted : goal.returns-in_err-growing-clause-counted
returns-in_err-growing-clause-counted g c =
    let p = err_from_is_err_and c.from_residual.result c.from_residual.ensures.1 in
    rw p.1
    (subst (λ (f : PublishFault). CountsPublish {T = ℕ} (g.V.Volume.storage c.args.volume.now).faults (g.V.Volume.storage c.read_tails.new.volume).faults (Err f)) (sym p.2)
    (counts_read (Vec Growing Global) ℕ _ _ c.in_err-growing.field-0.0 c.in_err-growing.ensures.counted))

-- ---- memory isn't had

pub invariant_of-self : goal.invariant_of-self
invariant_of-self g c =
    store_same (record { root = c.self.inside.root; versions = c.self.inside.catalog; kept = c.self.inside.kept }) (record { root = c.self.inside.root; versions = c.prepare.new.catalog; kept = c.self.inside.kept }) c.self.invariant c.prepare.ensures.same refl

pub returns-in_err-manifest-clause-told : goal.returns-in_err-manifest-clause-told
returns-in_err-manifest-clause-told g c =
    let p = err_from_is_err_and c.from_residual-in_err-manifest.result c.from_residual-in_err-manifest.ensures.1 in
    let before : Store = record { root = c.self.inside.root; versions = c.self.inside.catalog; kept = c.self.inside.kept } in
    let next = c.self.inside.catalog.next_block in
    let blocks = c.args.blocks.now in
    let shape = c.args.shape.now in
    let n = c.args.n in
    let after : Store = record { root = c.self.inside.root; versions = c.prepare.new.catalog; kept = c.self.inside.kept } in
    let old = (g.V.Volume.storage c.args.volume.now).disk in
    rw p.1
    (subst (λ (o : Option Disk). Told old o (Publishes {T = ℕ} (Err p.0) c.args.self.now after (stored n (c.args.self.now.versions.next_block + length blocks) shape) blocks c.args.grown.now)) (sym c.in_ok-growing.ensures.stays)
    (subst (λ (s : Store). Told old old (Publishes {T = ℕ} (Err p.0) s after (stored n (s.versions.next_block + length blocks) shape) blocks c.args.grown.now)) c.self.view_is
    (publish_none_told before after (stored n (next + length blocks) shape) blocks c.args.grown.now p.0 _ refl (version_same before after c.self.invariant c.prepare.ensures.same refl) (same_current before.versions after.versions c.prepare.ensures.same) refl)))

-- ---- the version is laid down

pub lay_down-laid-requires-clause-newer : goal.lay_down-laid-requires-clause-newer
lay_down-laid-requires-clause-newer g c =
    let before : Store = record { root = c.self.inside.root; versions = c.self.inside.catalog; kept = c.self.inside.kept } in
    let blocks = c.args.blocks.now in
    let shape = c.args.shape.now in
    let n = c.args.n in
    let may = subst (λ (s : Store). MayPublish s.versions n shape (length blocks)) (sym c.self.view_is) c.requires.may in
    root_newer before n shape (length blocks) c.self.invariant may

pub lay_down-laid-requires-clause-fit : goal.lay_down-laid-requires-clause-fit
lay_down-laid-requires-clause-fit g c =
    let v = c.self.inside.catalog in
    let grown = c.args.grown.now in
    let growing = c.as_mut_slice.result.now in
    let grows = subst (λ (s : Store). All (MayGrow s.versions) grown) (sym c.self.view_is) c.requires.grows in
    let are = subst (λ (l : List Growing). AreGrowing v grown l) (sym c.as_mut_slice.ensures.value) (subst (λ (s : Store). AreGrowing s.versions grown c.in_ok-growing.growing.items) (sym c.self.view_is) c.in_ok-growing.ensures.growing) in
    subst (λ (n : ℕ). All (IsFit n) growing) (sym c.next_block-next.ensures.next) (fit_all v grown growing grows are)

pub lay_down-laid-requires-clause-apart : goal.lay_down-laid-requires-clause-apart
lay_down-laid-requires-clause-apart g c =
    let v = c.self.inside.catalog in
    let grown = c.args.grown.now in
    let growing = c.as_mut_slice.result.now in
    let grows = subst (λ (s : Store). All (MayGrow s.versions) grown) (sym c.self.view_is) c.requires.grows in
    let are = subst (λ (l : List Growing). AreGrowing v grown l) (sym c.as_mut_slice.ensures.value) (subst (λ (s : Store). AreGrowing s.versions grown c.in_ok-growing.growing.items) (sym c.self.view_is) c.in_ok-growing.ensures.growing) in
    let apart = subst (λ (s : Store). IsDistinct nat_eq (grown_blocks s.versions grown)) (sym c.self.view_is) c.requires.apart in
    subst (λ (bs : List ℕ). IsDistinct nat_eq bs) (sym (blocks_same v grown growing grows are)) apart

pub invariant_of-self-in_err-laid : goal.invariant_of-self-in_err-laid
invariant_of-self-in_err-laid g c =
    store_same (record { root = c.self.inside.root; versions = c.self.inside.catalog; kept = c.self.inside.kept }) (record { root = c.lay_down-laid.new.root; versions = c.prepare.new.catalog; kept = c.forget.new.self }) c.self.invariant c.prepare.ensures.same c.in_err-laid.ensures.stays

pub returns-in_err-laid-clause-told : goal.returns-in_err-laid-clause-told
returns-in_err-laid-clause-told g c =
    let p = err_from_is_err_and c.from_residual-in_err-laid.result c.from_residual-in_err-laid.ensures.1 in
    let before : Store = record { root = c.self.inside.root; versions = c.self.inside.catalog; kept = c.self.inside.kept } in
    let v = c.self.inside.catalog in
    let next = v.next_block in
    let blocks = c.args.blocks.now in
    let grown = c.args.grown.now in
    let growing = c.as_mut_slice.result.now in
    let shape = c.args.shape.now in
    let n = c.args.n in
    let grows = subst (λ (s : Store). All (MayGrow s.versions) grown) (sym c.self.view_is) c.requires.grows in
    let are = subst (λ (l : List Growing). AreGrowing v grown l) (sym c.as_mut_slice.ensures.value) (subst (λ (s : Store). AreGrowing s.versions grown c.in_ok-growing.growing.items) (sym c.self.view_is) c.in_ok-growing.ensures.growing) in
    let old = (g.V.Volume.storage c.args.volume.now).disk in
    let read = subst (λ (l : List Growing). IfSome old (λ disk. AreTails (length grown) before grown l (reads_of disk))) (sym c.as_mut_slice.ensures.value) (subst (λ (s : Store). IfSome old (λ disk. AreTails (length grown) s grown c.in_ok-growing.growing.items (reads_of disk))) (sym c.self.view_is) c.in_ok-growing.ensures.told) in
    let new = (g.V.Volume.storage c.lay_down-laid.new.volume).disk in
    let whole : c.bytes.result.now ≡ manifest_bytes (manifest_in (next + length blocks) shape) = c.bytes.ensures.same ∙ c.in_ok-manifest.ensures.manifest in
    let after : Store = record { root = c.lay_down-laid.new.root; versions = c.prepare.new.catalog; kept = c.forget.new.self } in
    let told = subst (λ (o : Option Disk). Told o new (LaysDown {T = Unit {0}} (Err c.in_err-laid.field-0.0) c.self.inside.root c.lay_down-laid.new.root next (stored n (next + length blocks) shape) blocks growing c.lay_down-laid.new.growing)) c.in_ok-growing.ensures.stays
    (subst (λ (m : List ℕ). Told (g.V.Volume.storage c.read_tails.new.volume).disk new (LaysDown {T = Unit {0}} (Err c.in_err-laid.field-0.0) c.self.inside.root c.lay_down-laid.new.root next (record { n = n; manifest = m }) blocks growing c.lay_down-laid.new.growing)) whole
    (subst (λ (k : ℕ). Told (g.V.Volume.storage c.read_tails.new.volume).disk new (LaysDown {T = Unit {0}} (Err c.in_err-laid.field-0.0) c.self.inside.root c.lay_down-laid.new.root k (record { n = n; manifest = c.bytes.result.now }) blocks growing c.lay_down-laid.new.growing)) c.next_block-next.ensures.next c.in_err-laid.ensures.told)) in
    rw p.1
    (subst (λ (s : Store). Told old new (Publishes {T = ℕ} (Err p.0) s after (stored n (s.versions.next_block + length blocks) shape) blocks grown)) c.self.view_is
    (publish_failed_told before after (stored n (next + length blocks) shape) blocks grown c.one_column_is_spelled.ensures growing c.lay_down-laid.new.growing grows are p.0 old new read (version_same before after c.self.invariant c.prepare.ensures.same c.in_err-laid.ensures.stays)
    (same_current before.versions after.versions c.prepare.ensures.same) (subst (λ (l : List Growing). All (IsLeft c.self.inside.kept (blocks_growing l)) c.forget.new.self) (c.as_slice.ensures.value ∙ sym c.as_mut_slice.ensures.value) c.forget.ensures.left)
    (subst (λ (f : PublishFault). Told old new (LaysDown {T = Unit {0}} (Err f) c.self.inside.root c.lay_down-laid.new.root next (stored n (next + length blocks) shape) blocks growing c.lay_down-laid.new.growing)) (sym p.2) told)))

pub add_row-requires-clause-may : goal.add_row-requires-clause-may
add_row-requires-clause-may g c =
    let before : Store = record { root = c.self.inside.root; versions = c.self.inside.catalog; kept = c.self.inside.kept } in
    let blocks = c.args.blocks.now in
    let shape = c.args.shape.now in
    let n = c.args.n in
    let may = subst (λ (s : Store). MayPublish s.versions n shape (length blocks)) (sym c.self.view_is) c.requires.may in
    subst (λ (l : List TableParts). MayAdd c.prepare.new.catalog n l) (sym c.in_ok-manifest.ensures.copy)
    (may_add before c.self.invariant n shape (length blocks) may c.prepare.new.catalog c.prepare.ensures.same c.in_ok-manifest.ensures.room)

pub invariant_of-self-2 : goal.invariant_of-self-2
invariant_of-self-2 g c =
    let before : Store = record { root = c.self.inside.root; versions = c.self.inside.catalog; kept = c.self.inside.kept } in
    let blocks = c.args.blocks.now in
    let shape = c.args.shape.now in
    let n = c.args.n in
    let may = subst (λ (s : Store). MayPublish s.versions n shape (length blocks)) (sym c.self.view_is) c.requires.may in
    let adds = subst (λ (l : List TableParts). Adds c.prepare.new.catalog c.add_row.new.catalog n l c.add_row.result) c.in_ok-manifest.ensures.copy c.add_row.ensures.added in
    store_added before c.self.invariant n shape (length blocks) may c.prepare.new.catalog c.prepare.ensures.same (record { root = c.lay_down-laid.new.root; versions = c.add_row.new.catalog; kept = c.keep.new.self }) c.add_row.result adds c.in_ok-laid.ensures.turned

pub returns-clause-told : goal.returns-clause-told
returns-clause-told g c =
    let before : Store = record { root = c.self.inside.root; versions = c.self.inside.catalog; kept = c.self.inside.kept } in
    let v = c.self.inside.catalog in
    let next = v.next_block in
    let blocks = c.args.blocks.now in
    let grown = c.args.grown.now in
    let growing = c.as_mut_slice.result.now in
    let shape = c.args.shape.now in
    let n = c.args.n in
    let grows = subst (λ (s : Store). All (MayGrow s.versions) grown) (sym c.self.view_is) c.requires.grows in
    let are = subst (λ (l : List Growing). AreGrowing v grown l) (sym c.as_mut_slice.ensures.value) (subst (λ (s : Store). AreGrowing s.versions grown c.in_ok-growing.growing.items) (sym c.self.view_is) c.in_ok-growing.ensures.growing) in
    let old = (g.V.Volume.storage c.args.volume.now).disk in
    let read = subst (λ (l : List Growing). IfSome old (λ disk. AreTails (length grown) before grown l (reads_of disk))) (sym c.as_mut_slice.ensures.value) (subst (λ (s : Store). IfSome old (λ disk. AreTails (length grown) s grown c.in_ok-growing.growing.items (reads_of disk))) (sym c.self.view_is) c.in_ok-growing.ensures.told) in
    let new = (g.V.Volume.storage c.lay_down-laid.new.volume).disk in
    let whole : c.bytes.result.now ≡ manifest_bytes (manifest_in (next + length blocks) shape) = c.bytes.ensures.same ∙ c.in_ok-manifest.ensures.manifest in
    let may = subst (λ (s : Store). MayPublish s.versions n shape (length blocks)) (sym c.self.view_is) c.requires.may in
    let after : Store = record { root = c.lay_down-laid.new.root; versions = c.add_row.new.catalog; kept = c.keep.new.self } in
    let adds = subst (λ (l : List TableParts). Adds c.prepare.new.catalog c.add_row.new.catalog n l c.add_row.result) c.in_ok-manifest.ensures.copy c.add_row.ensures.added in
    let told = subst (λ (o : Option Disk). Told o new (LaysDown {T = Unit {0}} (Ok c.in_ok-laid.field-0) c.self.inside.root c.lay_down-laid.new.root next (stored n (next + length blocks) shape) blocks growing c.lay_down-laid.new.growing)) c.in_ok-growing.ensures.stays
    (subst (λ (m : List ℕ). Told (g.V.Volume.storage c.read_tails.new.volume).disk new (LaysDown {T = Unit {0}} (Ok c.in_ok-laid.field-0) c.self.inside.root c.lay_down-laid.new.root next (record { n = n; manifest = m }) blocks growing c.lay_down-laid.new.growing)) whole
    (subst (λ (k : ℕ). Told (g.V.Volume.storage c.read_tails.new.volume).disk new (LaysDown {T = Unit {0}} (Ok c.in_ok-laid.field-0) c.self.inside.root c.lay_down-laid.new.root k (record { n = n; manifest = c.bytes.result.now }) blocks growing c.lay_down-laid.new.growing)) c.next_block-next.ensures.next c.in_ok-laid.ensures.told)) in
    subst (λ (s : Store). Told old new (Publishes {T = ℕ} (Ok c.add_row.result) s after (stored n (s.versions.next_block + length blocks) shape) blocks grown)) c.self.view_is
    (publish_done_told before after (stored n (next + length blocks) shape) blocks grown c.one_column_is_spelled.ensures growing c.lay_down-laid.new.growing grows are c.in_ok-laid.field-0 c.add_row.result old new read
    (version_added before c.self.invariant n shape (length blocks) may c.prepare.new.catalog c.prepare.ensures.same after c.add_row.result adds c.in_ok-laid.ensures.turned)
    (record {
      n = n;
      shape = shape;
      count = length blocks;
      may = may;
      current = now_current before c.self.invariant n shape (length blocks) may c.prepare.new.catalog c.prepare.ensures.same after c.add_row.result adds c.in_ok-laid.ensures.turned;
      later = omega (arith, now_next before c.self.invariant n shape (length blocks) may c.prepare.new.catalog c.prepare.ensures.same after c.add_row.result adds c.in_ok-laid.ensures.turned);
      mid = c.forget.new.self;
      left = subst (λ (l : List Growing). All (IsLeft c.self.inside.kept (blocks_growing l)) c.forget.new.self) (c.as_slice.ensures.value ∙ sym c.as_mut_slice.ensures.value) c.forget.ensures.left;
      kept = subst (λ (l : List Growing). All (λ k. Contains c.forget.new.self k ⊎ Contains (tails_in l) k) c.keep.new.self) (take_at c.lay_down-laid.new.growing _ _ (c.lay_down-laid.auto.growing ∙ c.as_mut_slice.ensures.len)) c.keep.ensures.kept;
    })
    told)
