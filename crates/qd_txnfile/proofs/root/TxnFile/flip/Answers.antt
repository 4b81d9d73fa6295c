use Rattle.std.proofs.Common.{◌≡◌, sym, ap, ◌∙◌, subst, Ok, Err}
use Rattle.std.proofs.lemmas.Result.{err_from_is_err_and}
use Rattle.qd_io.specs.declared.fault.IoFault.{IoFault}
use Rattle.qd_durable.specs.Moments.{Told}
use Rattle.qd_txnfile.specs.declared.half.Half.{Half}
use Rattle.qd_txnfile.specs.declared.half.Other.TheVariants as other
use Rattle.qd_txnfile.specs.Calls.{Flips}
use Rattle.qd_txnfile.specs.States.{IsNewer, IsWritten, Root, with_next, with_opening}
use Rattle.qd_txnfile.specs.Versions.{file_of, other_of}
use Rattle.qd_txnfile.proofs.Images.{written_is}
use Rattle.qd_txnfile.proofs.Steps.{root_of}
use Rattle.qd_txnfile.proofs.ToldLemmas.{flip_done_told, flip_failed_told}
use Rattle.qd_txnfile.proofs.root.TxnFile.flip.Goals as goal

pub invariant_of-self : goal.invariant_of-self
invariant_of-self g c = subst (λ k. IsNewer c.self.inside.n k) c.in-Written.is c.self.invariant

pub returns-in_err-write_through-in-Written-clause-stays : goal.returns-in_err-write_through-in-Written-clause-stays
returns-in_err-write_through-in-Written-clause-stays g c =
    let p = err_from_is_err_and c.from_residual.result c.from_residual.ensures.1 in
    let e : c.args.self.now ≡ root_of c.self.inside.current c.self.inside.n (other.Written c.in-Written.n) = sym c.self.view_is ∙ ap (λ k. root_of c.self.inside.current c.self.inside.n k) c.in-Written.is in
    rw p.1 (ap with_opening (sym e))

pub returns-in_err-write_through-in-Written-clause-told : goal.returns-in_err-write_through-in-Written-clause-told
returns-in_err-write_through-in-Written-clause-told g c =
    let p = err_from_is_err_and c.from_residual.result c.from_residual.ensures.1 in
    let e : c.args.self.now ≡ root_of c.self.inside.current c.self.inside.n (other.Written c.in-Written.n) = sym c.self.view_is ∙ ap (λ k. root_of c.self.inside.current c.self.inside.n k) c.in-Written.is in
    rw p.1
    (subst (λ (r : Root). Told (g.V.Volume.storage c.args.volume.now).disk (g.V.Volume.storage c.write_through.new.volume).disk (Flips {T = Unit {0}} {E = IoFault} (Err p.0) r (root_of c.self.inside.current c.self.inside.n (other.Opening c.in-Written.n)))) (sym e)
    (flip_failed_told c.self.inside.current c.self.inside.n _ (c.file.ensures.number ∙ ap file_of c.other.ensures.other) _ _ c.in-Written.n c.in_err-write_through-in-Written.field-0.0 p.0 c.in_err-write_through-in-Written.ensures.told))

pub returns-in_ok-write_through-in-Written-clause-turned : goal.returns-in_ok-write_through-in-Written-clause-turned
returns-in_ok-write_through-in-Written-clause-turned g c =
    let e : c.args.self.now ≡ root_of c.self.inside.current c.self.inside.n (other.Written c.in-Written.n) = sym c.self.view_is ∙ ap (λ k. root_of c.self.inside.current c.self.inside.n k) c.in-Written.is in
    ap (λ h. root_of h c.in-Written.n other.Older) c.other-self-inside.ensures.other ∙ ap with_next (sym e)

pub returns-in_ok-write_through-in-Written-clause-told : goal.returns-in_ok-write_through-in-Written-clause-told
returns-in_ok-write_through-in-Written-clause-told g c =
    let e : c.args.self.now ≡ root_of c.self.inside.current c.self.inside.n (other.Written c.in-Written.n) = sym c.self.view_is ∙ ap (λ k. root_of c.self.inside.current c.self.inside.n k) c.in-Written.is in
    subst (λ (h : Half). Told (g.V.Volume.storage c.args.volume.now).disk (g.V.Volume.storage c.write_through.new.volume).disk (Flips {T = Unit {0}} {E = IoFault} (Ok tt) c.args.self.now (root_of h c.in-Written.n other.Older))) (sym c.other-self-inside.ensures.other)
    (subst (λ (r : Root). Told (g.V.Volume.storage c.args.volume.now).disk (g.V.Volume.storage c.write_through.new.volume).disk (Flips {T = Unit {0}} {E = IoFault} (Ok tt) r (root_of (other_of c.self.inside.current) c.in-Written.n other.Older))) (sym e)
    (flip_done_told c.self.inside.current c.self.inside.n _ (c.file.ensures.number ∙ ap file_of c.other.ensures.other) _ _ c.in-Written.n c.in_ok-write_through-in-Written.field-0 c.in_ok-write_through-in-Written.ensures.told))

pub returns-in_default : goal.returns-in_default
returns-in_default g c =
    let is = written_is c.self.inside.other (subst (λ (r : Root). IsWritten r.other) (sym c.self.view_is) c.requires.written) in
    absurd (c.in_default.not-Written is.0 is.1)
