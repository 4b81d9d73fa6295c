use Rattle.std.proofs.Common.{◌≡◌, refl, sym, ap, ◌∙◌, subst}
use Rattle.std.proofs.lemmas.Result.{err_from_is_err_and}
use Rattle.qd_durable.specs.Moments.{Told}
use Rattle.qd_txnfile.specs.declared.half.Other.TheVariants as other
use Rattle.qd_txnfile.specs.Calls.{Closes}
use Rattle.qd_txnfile.specs.States.{IsDirty, Root, with_other}
use Rattle.qd_txnfile.specs.Versions.{file_of}
use Rattle.qd_txnfile.proofs.Steps.{root_of}
use Rattle.qd_txnfile.proofs.ToldLemmas.{closes_done_told, closes_failed_told, closes_none_told}
use Rattle.qd_txnfile.proofs.root.TxnFile.close_older.Goals as goal

pub returns-in_err-write_through-in-Older-clause-stays : goal.returns-in_err-write_through-in-Older-clause-stays
returns-in_err-write_through-in-Older-clause-stays g c =
    let p = err_from_is_err_and c.from_residual.result c.from_residual.ensures.1 in
    rw p.1 (refl, ap (λ (r : Root). r.other) (sym c.self.view_is) ∙ c.in-Older.is)

pub returns-in_err-write_through-in-Older-clause-told : goal.returns-in_err-write_through-in-Older-clause-told
returns-in_err-write_through-in-Older-clause-told g c =
    let e : c.args.self.now ≡ root_of c.self.inside.current c.self.inside.n other.Older = sym c.self.view_is ∙ ap (λ k. root_of c.self.inside.current c.self.inside.n k) c.in-Older.is in
    subst (λ (r : Root). Told (g.V.Volume.storage c.args.volume.now).disk (g.V.Volume.storage c.write_through.new.volume).disk (Closes r r)) (sym e)
    (closes_failed_told c.self.inside.current c.self.inside.n _ (c.file-older.ensures.number ∙ ap file_of c.other.ensures.other) _ _ c.in_err-write_through-in-Older.field-0.0 c.in_err-write_through-in-Older.ensures.told)

pub returns-in_ok-write_through-in-Older-clause-closed : goal.returns-in_ok-write_through-in-Older-clause-closed
returns-in_ok-write_through-in-Older-clause-closed g c = ap (λ (r : Root). with_other r other.Closed) c.self.view_is

pub returns-in_ok-write_through-in-Older-clause-told : goal.returns-in_ok-write_through-in-Older-clause-told
returns-in_ok-write_through-in-Older-clause-told g c =
    let e : c.args.self.now ≡ root_of c.self.inside.current c.self.inside.n other.Older = sym c.self.view_is ∙ ap (λ k. root_of c.self.inside.current c.self.inside.n k) c.in-Older.is in
    subst (λ (r : Root). Told (g.V.Volume.storage c.args.volume.now).disk (g.V.Volume.storage c.write_through.new.volume).disk (Closes r (root_of c.self.inside.current c.self.inside.n other.Closed))) (sym e)
    (closes_done_told c.self.inside.current c.self.inside.n _ (c.file-older.ensures.number ∙ ap file_of c.other.ensures.other) _ _ c.in_ok-write_through-in-Older.field-0 c.in_ok-write_through-in-Older.ensures.told)

pub returns-in_default : goal.returns-in_default
returns-in_default g c = record {
  closed = ap (λ (r : Root). with_other r other.Closed) c.self.view_is;
  stays = tt;
  told = subst (λ (r : Root). Told (g.V.Volume.storage c.args.volume.now).disk (g.V.Volume.storage c.args.volume.now).disk (Closes r (root_of c.self.inside.current c.self.inside.n other.Closed))) c.self.view_is
      (closes_none_told c.self.inside.current c.self.inside.n c.self.inside.other _ (λ d. c.requires.clean (subst (λ (r : Root). IsDirty r.other) c.self.view_is d)) c.in_default.not-Older);
  counted = refl;
}
