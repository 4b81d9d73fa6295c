use Rattle.std.proofs.Common.{◌≡◌, inl, inr, sym, ap, ◌∙◌, subst, arith, take, drop}
use Rattle.std.proofs.lemmas.Result.{err_from_is_err_and}
use Rattle.qd_durable.specs.Moments.{Told}
use Rattle.qd_txnfile.specs.declared.half.Other.TheVariants as other
use Rattle.qd_txnfile.specs.Calls.{Closes, WritesBody}
use Rattle.qd_txnfile.specs.States.{Root, with_other}
use Rattle.qd_txnfile.specs.Versions.{Version, file_of, other_of}
use Rattle.qd_txnfile.proofs.Steps.{front_of, root_of}
use Rattle.qd_txnfile.proofs.ToldLemmas.{body_done_told, body_failed_told, body_not_begun_told}
use Rattle.qd_txnfile.proofs.root.TxnFile.write_body.Goals as goal

pub returns-in_err-close_older-clause-stays : goal.returns-in_err-close_older-clause-stays
returns-in_err-close_older-clause-stays g c =
    let p = err_from_is_err_and c.from_residual.result c.from_residual.ensures.1 in
    let stays = c.in_err-close_older.ensures.stays in
    rw p.1 (inl (stays.0 ∙ ap (λ k. with_other c.args.self.now k) stays.1))

pub returns-in_err-close_older-clause-told : goal.returns-in_err-close_older-clause-told
returns-in_err-close_older-clause-told g c =
    let old = (g.V.Volume.storage c.args.volume.now).disk in
    let new = (g.V.Volume.storage c.close_older.new.volume).disk in
    let now = c.args.self.now in
    let next : Version = record { n = c.args.n; manifest = c.args.manifest.now } in
    let stays = c.in_err-close_older.ensures.stays in
    let e : now ≡ root_of now.current now.n other.Older = ap (λ k. with_other now k) stays.1 in
    subst (λ (r : Root). Told old new (WritesBody now r next)) (sym stays.0)
    (subst (λ (r : Root). Told old new (WritesBody r r next)) (sym e)
    (body_not_begun_told now.current now.n next old new
    (subst (λ (r : Root). Told old new (Closes r r)) e (subst (λ (r : Root). Told old new (Closes now r)) stays.0 c.in_err-close_older.ensures.told))))

pub returns-in_err-write_both-clause-stays : goal.returns-in_err-write_both-clause-stays
returns-in_err-write_both-clause-stays g c =
    let p = err_from_is_err_and c.from_residual-in_err-write_both.result c.from_residual-in_err-write_both.ensures.1 in
    rw p.1 (inr c.in_ok-close_older.ensures.closed)

pub returns-in_err-write_both-clause-told : goal.returns-in_err-write_both-clause-told
returns-in_err-write_both-clause-told g c =
    let old = (g.V.Volume.storage c.args.volume.now).disk in
    let mid = (g.V.Volume.storage c.close_older.new.volume).disk in
    let new = (g.V.Volume.storage c.write_both.new.volume).disk in
    let now = c.args.self.now in
    let next : Version = record { n = c.args.n; manifest = c.args.manifest.now } in
    let closed = c.in_ok-close_older.ensures.closed in
    subst (λ (r : Root). Told old new (WritesBody now r next)) (sym closed)
    (body_failed_told now.current now.n now.other next c.file-file.result (c.file-file.ensures.number ∙ ap file_of (c.other.ensures.other ∙ ap (λ (r : Root). other_of r.current) c.self.view_is)) (omega (arith, c.ranges.n.fits)) (omega arith) c.requires.newer
    (take 16 (drop 1 c.head_of-head.result)) (front_of next c.head_of-head.result c.head_of-head.ensures.bytes) old mid new
    (subst (λ (r : Root). Told old mid (Closes now r)) closed c.in_ok-close_older.ensures.told) c.in_err-write_both.field-0.0 c.in_err-write_both.ensures.told)

pub invariant_of-self : goal.invariant_of-self
invariant_of-self g c = omega (arith, ap (λ (r : Root). r.n) (c.self-2.view_is ∙ c.in_ok-close_older.ensures.closed), c.requires.newer)

pub returns-clause-written : goal.returns-clause-written
returns-clause-written g c = ap (λ (r : Root). with_other r (other.Written c.args.n)) (c.self-2.view_is ∙ c.in_ok-close_older.ensures.closed)

pub returns-clause-told : goal.returns-clause-told
returns-clause-told g c =
    let old = (g.V.Volume.storage c.args.volume.now).disk in
    let mid = (g.V.Volume.storage c.close_older.new.volume).disk in
    let new = (g.V.Volume.storage c.write_both.new.volume).disk in
    let now = c.args.self.now in
    let next : Version = record { n = c.args.n; manifest = c.args.manifest.now } in
    let closed = c.in_ok-close_older.ensures.closed in
    subst (λ (r : Root). Told old new (WritesBody now r next)) (sym (ap (λ (r : Root). with_other r (other.Written c.args.n)) (c.self-2.view_is ∙ closed)))
    (body_done_told now.current now.n now.other next c.file-file.result (c.file-file.ensures.number ∙ ap file_of (c.other.ensures.other ∙ ap (λ (r : Root). other_of r.current) c.self.view_is)) (omega (arith, c.ranges.n.fits)) (omega arith) c.requires.newer
    (take 16 (drop 1 c.head_of-head.result)) (front_of next c.head_of-head.result c.head_of-head.ensures.bytes) old mid new
    (subst (λ (r : Root). Told old mid (Closes now r)) closed c.in_ok-close_older.ensures.told) c.in_ok-write_both.field-0 c.in_ok-write_both.ensures.told)
