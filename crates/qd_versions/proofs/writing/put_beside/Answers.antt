use Rattle.std.proofs.lemmas.Result.{err_from_is_err_and}
use Rattle.qd_txnfile.specs.Versions.{Version}
use Rattle.qd_versions.proofs.ToldLemmas.{beside_not_put_told, beside_told}
use Rattle.qd_versions.proofs.writing.put_beside.Goals as goal

pub returns-in_err-put_files-clause-told : goal.returns-in_err-put_files-clause-told
returns-in_err-put_files-clause-told g c =
    let p = err_from_is_err_and c.from_residual.result c.from_residual.ensures.1 in
    let v : Version = record { n = c.args.n; manifest = c.args.manifest.now } in
    rw p.1 (beside_not_put_told c.args.root.now c.args.next v c.args.blocks.now c.args.growing.now c.put_files.new.growing c.requires.fit c.in_err-put_files.field-0.0 p.0 _ _ c.in_err-put_files.ensures.told)

pub returns-clause-told : goal.returns-clause-told
returns-clause-told g c =
    let v : Version = record { n = c.args.n; manifest = c.args.manifest.now } in
    beside_told c.args.root.now c.args.next v c.args.blocks.now c.args.growing.now c.put_files.new.growing c.requires.fit c.write_body.new.self c.in_ok-put_files.ensures.few c.in_ok-put_files.field-0 c.write_body.result _ _ _ c.write_body.ensures.stays c.in_ok-put_files.ensures.told c.write_body.ensures.told
