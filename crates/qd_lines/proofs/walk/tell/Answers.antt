use Rattle.std.proofs.Common.{◌∙◌, ap, subst}
use Rattle.std.proofs.lemmas.Result.{on_ok_weaker}
use Rattle.qd_base.specs.Schemas.{schema_of}
use Rattle.qd_lines.specs.Cells.{row_of}
use Rattle.qd_lines.specs.Sinks.{with_row}
use Rattle.qd_lines.specs.Walks.{opened}
use Rattle.qd_lines.proofs.WalkLemmas.{alone_drawn, columns_drawn, told}
use Rattle.qd_lines.proofs.walk.tell.Goals as goal

pub returns : goal.returns
returns g c =
    record {
      told = λ schemas now p is ops h.
          let row = c.args.row.now in
          let place = c.args.place in
          let draft = c.args.draft.now in
          let o = schema_of schemas row.table in
          let name = place.name.now in
          let keeps = c.requires.keeps in
          let added = c.as_slice.ensures.items in
          let begun = opened place.fresh name c.as_slice.result.now c.args.stamp.now ops in
          let one = c.in_ok-open.ensures.opened ops h in
          let two = c.in_ok-begin_row.ensures.ok begun one in
          let three = c.in_ok-push_row.ensures.cells schemas now p is name begun two in
          on_ok_weaker c.end_row.result
          (λ k. subst (g.T.OpSink.taken c.end_row.new.self)
          (ap (λ cs. with_row name (row_of o now row) (opened place.fresh name cs c.args.stamp.now ops)) added
          ∙ told o now row place.fresh name draft.added c.args.stamp.now ops p.fresh p.spelled c.requires.stamp (alone_drawn schemas row place draft keeps.0 p c.requires.draws keeps.1) (columns_drawn schemas row place draft keeps.0 p c.requires.draws keeps.1)) k)
          (c.end_row.ensures.ok (with_row name (row_of o now row) begun) three);
    }
