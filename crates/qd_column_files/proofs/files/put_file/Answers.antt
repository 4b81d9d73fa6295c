use Rattle.qd_io.specs.declared.fault.IoFault.{IoFault}
use Rattle.qd_column_files.proofs.Below.{file_put_told}
use Rattle.qd_column_files.proofs.files.put_file.Goals as goal

pub returns-clause-told : goal.returns-clause-told
returns-clause-told g c = file_put_told (Unit {0}) IoFault c.args.file c.args.at c.args.bytes.now _ _ c.write_through.result c.requires.reach c.write_through.ensures.told
