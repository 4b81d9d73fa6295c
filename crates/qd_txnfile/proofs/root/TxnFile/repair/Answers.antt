use Rattle.std.proofs.Common.{◌≡◌, inl, inr, refl, sym, ap, ◌∙◌, subst, Ok, Err}
use Rattle.std.proofs.lemmas.Result.{err_from_is_err_and}
use Rattle.qd_io.specs.declared.fault.IoFault.{IoFault}
use Rattle.qd_durable.specs.Moments.{Told}
use Rattle.qd_txnfile.specs.declared.half.Other.TheVariants as other
use Rattle.qd_txnfile.specs.Calls.{Repairs}
use Rattle.qd_txnfile.specs.States.{IsDirty, Root, with_other}
use Rattle.qd_txnfile.specs.Versions.{file_of}
use Rattle.qd_txnfile.proofs.Images.{dirty_is}
use Rattle.qd_txnfile.proofs.Steps.{root_of}
use Rattle.qd_txnfile.proofs.ToldLemmas.{repair_done_told, repair_failed_told, repair_none_told}
use Rattle.qd_txnfile.proofs.root.TxnFile.repair.Goals as goal

pub returns-in_err-write_through-in-Opening-clause-stays : goal.returns-in_err-write_through-in-Opening-clause-stays
returns-in_err-write_through-in-Opening-clause-stays g c =
    let p = err_from_is_err_and c.from_residual.result c.from_residual.ensures.1 in
    rw p.1 (subst (λ (r : Root). IsDirty r.other) c.self.view_is (subst (λ k. IsDirty k) (sym c.in-Opening.is) tt), refl)

pub returns-in_err-write_through-in-Opening-clause-told : goal.returns-in_err-write_through-in-Opening-clause-told
returns-in_err-write_through-in-Opening-clause-told g c =
    let p = err_from_is_err_and c.from_residual.result c.from_residual.ensures.1 in
    let d = dirty_is c.self.inside.other (subst (λ k. IsDirty k) (sym c.in-Opening.is) tt) in
    let e : c.args.self.now ≡ root_of c.self.inside.current c.self.inside.n (other.Opening d.0) = sym c.self.view_is ∙ ap (λ k. root_of c.self.inside.current c.self.inside.n k) d.1 in
    rw p.1
    (subst (λ (r : Root). Told (g.V.Volume.storage c.args.volume.now).disk (g.V.Volume.storage c.write_through.new.volume).disk (Repairs {T = Unit {0}} {E = IoFault} (Err p.0) r r)) (sym e)
    (repair_failed_told c.self.inside.current c.self.inside.n _ (c.file.ensures.number ∙ ap file_of c.other.ensures.other) _ _ d.0 c.in_err-write_through-in-Opening.field-0.0 p.0 c.in_err-write_through-in-Opening.ensures.told))

pub returns-in_ok-write_through-in-Opening-clause-clean : goal.returns-in_ok-write_through-in-Opening-clause-clean
returns-in_ok-write_through-in-Opening-clause-clean g c =
    inl (subst (λ (r : Root). IsDirty r.other) c.self.view_is (subst (λ k. IsDirty k) (sym c.in-Opening.is) tt), ap (λ (r : Root). with_other r other.Closed) c.self.view_is)

pub returns-in_ok-write_through-in-Opening-clause-told : goal.returns-in_ok-write_through-in-Opening-clause-told
returns-in_ok-write_through-in-Opening-clause-told g c =
    let d = dirty_is c.self.inside.other (subst (λ k. IsDirty k) (sym c.in-Opening.is) tt) in
    let e : c.args.self.now ≡ root_of c.self.inside.current c.self.inside.n (other.Opening d.0) = sym c.self.view_is ∙ ap (λ k. root_of c.self.inside.current c.self.inside.n k) d.1 in
    subst (λ (r : Root). Told (g.V.Volume.storage c.args.volume.now).disk (g.V.Volume.storage c.write_through.new.volume).disk (Repairs {T = Unit {0}} {E = IoFault} (Ok tt) r (root_of c.self.inside.current c.self.inside.n other.Closed))) (sym e)
    (repair_done_told c.self.inside.current c.self.inside.n _ (c.file.ensures.number ∙ ap file_of c.other.ensures.other) _ _ d.0 c.in_ok-write_through-in-Opening.field-0 c.in_ok-write_through-in-Opening.ensures.told)

pub returns-in_default : goal.returns-in_default
returns-in_default g c =
    let clean = λ (d : IsDirty c.args.self.now.other). let is = dirty_is c.self.inside.other (subst (λ (r : Root). IsDirty r.other) (sym c.self.view_is) d) in absurd (c.in_default.not-Opening is.0 is.1) in
    record { clean = inr (clean, refl); stays = tt; told = repair_none_told tt c.args.self.now _ clean; counted = refl }
