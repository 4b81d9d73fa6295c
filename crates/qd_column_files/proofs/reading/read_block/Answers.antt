use Rattle.std.proofs.Common.{◌≡◌, ◌∙◌, ◌+◌, List, [], ◌∷◌, ◌++◌, length, Ok, Err, IfSome, sym, ap, subst, arith}
use Rattle.std.proofs.lemmas.List.{length_push}
use Rattle.std.proofs.lemmas.Result.{err_from_is_err_and}
use Rattle.qd_block.specs.Blocks.{Block}
use Rattle.qd_column.specs.Cells.{CellsOf}
use Rattle.qd_durable.specs.declared.fault.LogFault.{LogFault}
use Rattle.qd_volume.specs.Disk.{reads_of}
use Rattle.qd_column_files.specs.Reading.{AreColumnsOf, AreGiven, HoldsColumns, IsBlockRead}
use Rattle.qd_column_files.proofs.BlockLemmas.{told_failed, told_made, told_more}
use Rattle.qd_column_files.proofs.GivenLemmas.{given_more}
use Rattle.qd_column_files.proofs.MadeLemmas.{more_columns}
use Rattle.qd_column_files.proofs.reading.read_block.Goals as goal

pub returns-in_err-column-clause-told : goal.returns-in_err-column-clause-told
returns-in_err-column-clause-told g c =
    let p = err_from_is_err_and c.from_residual.result c.from_residual.ensures.1 in
    let s = c.args.schema.now in
    let inv = c.loop-col.invariant in
    rw p.1
    (subst (λ (f : LogFault). IfSome (g.V.Volume.storage c.args.volume.now).disk (λ disk. IsBlockRead (Err f) s c.args.part (reads_of disk))) (sym p.2)
    (told_failed s c.args.part c.requires.part c.loop-col.col c.loop-col-test.true c.loop-col.columns inv.each inv.count _ _ c.in_err-column.field-0.0 inv.stays inv.told c.in_err-column.ensures.told))

pub loop-col-preserved : goal.loop-col-preserved
loop-col-preserved g c =
    let s = c.args.schema.now in
    let p = c.args.part in
    let inv = c.loop-col.invariant in
    let column = c.in_ok-column.column in
    let pushed : c.push.new.self ≡ c.loop-col.columns ++ column ∷ [] = c.in_ok-push.ensures.ok in
    record {
      count = ap (λ (cs : List CellsOf). length cs) pushed ∙ length_push c.loop-col.columns column ∙ ap (λ n. n + 1) inv.count;
      few = omega arith;
      each = subst (λ (cs : List CellsOf). AreColumnsOf s p cs) (sym pushed) (more_columns s p c.loop-col.columns column c.loop-col.col inv.each inv.count c.in_ok-column.ensures.fit);
      given = subst (λ (cs : List CellsOf). AreGiven g.V.Volume.gives p.block cs) (sym pushed) (given_more g.V.Volume.gives p.block c.loop-col.columns column c.loop-col.col inv.given inv.count c.in_ok-column.ensures.given);
      told = subst (λ (cs : List CellsOf). IfSome (g.V.Volume.storage c.args.volume.now).disk (λ disk. HoldsColumns p.block cs (reads_of disk))) (sym pushed)
          (told_more s p c.requires.part c.loop-col.col c.loop-col-test.true c.loop-col.columns inv.each inv.count _ _ column inv.stays inv.told c.in_ok-column.ensures.told);
      stays = c.in_ok-column.ensures.stays ∙ inv.stays;
      counted = c.in_ok-column.ensures.counted ∙ inv.counted;
    }

pub returns-clause-told : goal.returns-clause-told
returns-clause-told g c =
    let s = c.args.schema.now in
    let p = c.args.part in
    let inv = c.loop-col.invariant in
    let all : length c.loop-col.columns ≡ p.cols = omega arith in
    subst (λ (b : Block). IfSome (g.V.Volume.storage c.args.volume.now).disk (λ disk. IsBlockRead (Ok b) s p (reads_of disk))) (sym c.block_from.ensures.made)
    (told_made s p c.loop-col.columns c.requires.schema c.requires.part all inv.each _ inv.told)

pub returns-clause-given : goal.returns-clause-given
returns-clause-given g c = record { columns = c.loop-col.columns; each = c.loop-col.invariant.given; made = c.block_from.ensures.made }
