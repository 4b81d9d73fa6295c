use Rattle.std.proofs.Common.{List, Option, IfSome, ◌∙◌, sym, subst, ap}
use Rattle.qd_base.specs.declared.op.Entry.{Entry}
use Rattle.qd_store.specs.Owned.{Store}
use Rattle.qd_versions.specs.Stores as versions
use Rattle.qd_volume.specs.Calls.{Storage}
use Rattle.qd_volume.specs.Disk.{Disk}
use Rattle.qd_store_backend.specs.Backs.{Back, back_shown, current, left_of, n_in}
use Rattle.qd_store_backend.specs.Volumes.{KeepsTold}
use Rattle.qd_store_backend.proofs.Keeping.{keeps_told}
use Rattle.qd_store_backend.proofs.back.StoreBack.into_volume.Goals as goal

pub returns-clause-kept : goal.returns-clause-kept
returns-clause-kept g c =
    let p = c.self.inside.parts in
    let same = c.into_store-store.ensures.store in
    let keeps = keeps_told c.stores_are_whole.ensures.law p.owned (subst (λ (o : Store). versions.IsStore o.store.versions) same c.keeps_its_law.ensures.versions) p.history c.is_told.ensures.told (left_of c.self.inside.left.history) c.self.invariant.left in
    let volume = ap (λ (s : Storage). s.disk) (c.into_volume.ensures.volume ∙ ap (λ (o : Store). o.storage) same) in
    subst (λ (b : Back). IfSome b.parts.history (λ (h : List Entry). KeepsTold (g.V.Volume.storage c.into_volume.result).disk h (back_shown b).pending (back_shown b).known)) c.self.view_is
    (subst (λ (d : Option Disk). IfSome p.history (λ (h : List Entry). KeepsTold d h (left_of c.self.inside.left.history) (n_in (current p.owned.store)))) (sym volume) keeps)
