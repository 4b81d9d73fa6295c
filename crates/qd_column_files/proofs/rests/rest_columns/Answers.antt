use Rattle.std.proofs.Common.{◌≡◌, ◌∙◌, ◌+◌, List, [], ◌∷◌, ◌++◌, length, IfSome, sym, ap, subst, arith}
use Rattle.std.proofs.lemmas.List.{length_push}
use Rattle.qd_column.specs.Cells.{CellsOf}
use Rattle.qd_volume.specs.Disk.{reads_of}
use Rattle.qd_column_files.specs.Rests.{AreRestsGiven, AreTimedRests}
use Rattle.qd_column_files.proofs.GivenLemmas.{more_given}
use Rattle.qd_column_files.proofs.RestMade.{AreRests, more_timed, one_more}
use Rattle.qd_column_files.proofs.rests.rest_columns.Goals as goal

pub loop-col-preserved : goal.loop-col-preserved
loop-col-preserved g c =
    let s = c.args.schema.now in
    let p = c.args.part in
    let times = c.args.times.now in
    let skip = c.args.skip in
    let inv = c.loop-col.invariant in
    let column = c.in-Some.column in
    let pushed : c.push.new.self ≡ c.loop-col.columns ++ column ∷ [] = c.in_ok-push-in-Some.ensures.ok in
    record {
      count = ap (λ (cs : List CellsOf). length cs) pushed ∙ length_push c.loop-col.columns column ∙ ap (λ n. n + 1) inv.count;
      few = omega arith;
      each = subst (λ (cs : List CellsOf). AreTimedRests s p times skip cs) (sym pushed) (more_timed s p times skip c.loop-col.columns column c.loop-col.col inv.each inv.count (rw c.in-Some.is at c.in_ok-column.ensures.fit));
      given = subst (λ (cs : List CellsOf). AreRestsGiven g.V.Volume.gives s p.block skip cs) (sym pushed) (more_given g.V.Volume.gives s p.block skip c.loop-col.columns column c.loop-col.col inv.given inv.count (rw c.in-Some.is at c.in_ok-column.ensures.given));
      told = subst (λ (cs : List CellsOf). IfSome (g.V.Volume.storage c.args.volume.now).disk (λ disk. AreRests s p times skip (c.loop-col.col + 1) cs (reads_of disk))) (sym pushed)
          (one_more s p times skip c.loop-col.col _ _ c.loop-col.columns column inv.stays inv.told (rw c.in-Some.is at c.in_ok-column.ensures.told));
      stays = c.in_ok-column.ensures.stays ∙ inv.stays;
      counted = c.in_ok-column.ensures.counted ∙ inv.counted;
    }
