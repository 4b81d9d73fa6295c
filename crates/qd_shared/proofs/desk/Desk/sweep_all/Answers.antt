use Rattle.std.proofs.Common.{◌≡◌, ℕ, true, Bool, List, Option, IfSome, Result, IfOk, sym, subst}
use Rattle.qd_base.specs.declared.limits.Limits.{Limits}
use Rattle.qd_base.specs.declared.op.Entry.{Entry}
use Rattle.qd_catalog.specs.Versions.{Sweeps}
use Rattle.qd_io.specs.declared.fault.IoFault.{IoFault}
use Rattle.qd_store_backend.specs.Backs.{AreUsual, IsTold}
use Rattle.qd_shared.proofs.Desking.{stays_told}
use Rattle.qd_shared.proofs.Sweeping.{removed_more, swept_more}
use Rattle.qd_shared.proofs.desk.Desk.sweep_all.Goals as goal

pub sweeps-preserved : goal.sweeps-preserved
sweeps-preserved g c =
    let e = c.sweep.ensures in
    let v = c.sweeps.invariant in
    let s = (subst (λ (r : Result Bool IoFault). IfOk r (λ swept. swept ≡ true → (block : ℕ) × Sweeps c.sweeps.self-inside.store.store.versions.versions c.sweep.new.self.store.versions.versions block)) c.in-Ok-true.is e.swept) (let t : c.in-Ok-true.field-0 ≡ true = search in t) in (
      swept_more c.self.inside.store c.sweeps.self-inside.store c.sweep.new.self v.0 e.limits e.sequence e.told c.sweep.result e.swept e.idle e.same e.counted,
      v.1,
      removed_more c.self.inside.store c.sweeps.self-inside.store c.sweep.new.self c.self.inside.removed c.sweeps.self-inside.removed c.saturating_add-self-inside.result s.0 s.1 c.saturating_add-self-inside.ensures v.2,
    )

pub invariant_of-self : goal.invariant_of-self
invariant_of-self g c =
    let e = c.sweep.ensures in
    let v = c.sweeps.invariant in
    let old = c.self.inside.store in
    let m = swept_more old c.sweeps.self-inside.store c.sweep.new.self v.0 e.limits e.sequence e.told c.sweep.result e.swept e.idle e.same e.counted in
    record {
      usual = subst (λ (l : Limits). AreUsual l) (sym m.limits) c.self.invariant.usual;
      told = stays_told c.sweeps.self-inside.telling.history old c.sweep.new.self m.told (subst (λ (o : Option (List Entry)). IfSome o (IsTold old)) (sym v.1) c.self.invariant.told);
    }
