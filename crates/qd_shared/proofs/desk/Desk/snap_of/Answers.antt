use Rattle.std.proofs.Common.{◌≡◌, ◌∙◌, List, Option, Some, IfSome, length, ◌≤◌, ℕ, sym, subst, ap}
use Rattle.qd_base.specs.declared.op.Entry.{Entry}
use Rattle.qd_base.specs.Lawful.{AreSchemas}
use Rattle.qd_base.specs.Replay.{first}
use Rattle.qd_catalog.specs.Versions.{version_at}
use Rattle.qd_manifest.specs.declared.shape.TableParts.{TableParts}
use Rattle.qd_manifest.specs.Spelling.{schemas_in}
use Rattle.qd_versions.specs.Stores.{AreTables}
use Rattle.qd_shared.specs.Desks.{Desk}
use Rattle.qd_shared.specs.Snaps.{AreHeld}
use Rattle.qd_shared.proofs.Desking.{snap_held}
use Rattle.qd_shared.proofs.desk.Desk.snap_of.Goals as goal

pub schemas_of-requires : goal.schemas_of-requires
schemas_of-requires g c =
    let (x, at, n) = c.requires.live in
    let here : version_at c.self.inside.store.store.versions.versions c.args.row ≡ Some x = subst (λ (d : Desk). version_at d.owned.store.versions.versions c.args.row ≡ Some x) (sym c.self.view_is) at in
    record { schemas = subst (λ (l : List TableParts). AreSchemas (schemas_in l)) (sym (c.shape_of-shape.ensures.shape x here)) (c.keeps_its_law.ensures.versions.tables c.args.row x here).schemas }

pub returns-clause-within : goal.returns-clause-within
returns-clause-within g c =
    let (x, at, n) = c.requires.live in
    let here : version_at c.self.inside.store.store.versions.versions c.args.row ≡ Some x = subst (λ (d : Desk). version_at d.owned.store.versions.versions c.args.row ≡ Some x) (sym c.self.view_is) at in
    subst (λ (d : Desk). c.args.n ≤ length d.owned.store.sequence.refs) c.self.view_is
    (subst (λ (k : ℕ). k ≤ length c.self.inside.store.store.sequence.refs) n (c.keeps_its_law.ensures.book.shown c.args.row x here))

pub returns-clause-copied : goal.returns-clause-copied
returns-clause-copied g c =
    let (x, at, n) = c.requires.live in
    let here : version_at c.self.inside.store.store.versions.versions c.args.row ≡ Some x = subst (λ (d : Desk). version_at d.owned.store.versions.versions c.args.row ≡ Some x) (sym c.self.view_is) at in
    let same = c.in_ok-copy.ensures.same ∙ c.shape_of-shape.ensures.shape x here in
    record {
      schemas = c.in_ok-schemas.ensures.schemas ∙ ap (λ (l : List TableParts). schemas_in l) (sym c.in_ok-copy.ensures.same);
      tables = subst AreTables (sym same) (c.keeps_its_law.ensures.versions.tables c.args.row x here);
      held = subst (λ (o : Option (List Entry)). IfSome o (λ h. (c.args.n ≤ length h) × AreHeld c.in_ok-copy.field-0 (first h c.args.n))) (ap (λ (d : Desk). d.history) c.self.view_is)
          (subst (λ (l : List TableParts). IfSome c.self.inside.telling.history (λ h. (c.args.n ≤ length h) × AreHeld l (first h c.args.n))) (sym same)
          (subst (λ (k : ℕ). IfSome c.self.inside.telling.history (λ h. (k ≤ length h) × AreHeld x.shape (first h k))) n
          (snap_held c.self.inside.telling.history c.self.inside.store c.args.row x here c.self.invariant.told)));
    }
