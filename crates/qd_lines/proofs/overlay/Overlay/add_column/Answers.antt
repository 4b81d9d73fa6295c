use Rattle.std.proofs.Common.{sym}
use Rattle.std.proofs.lemmas.Result.{on_ok_weaker}
use Rattle.qd_base.proofs.Tables.{column_added, table_within}
use Rattle.qd_base.specs.declared.op.Op.TheVariants as op
use Rattle.qd_base.specs.Schemas.{schemas_step}
use Rattle.qd_lines.proofs.OverlayLemmas.{none_recalled, widened-at}
use Rattle.qd_lines.proofs.overlay.Overlay.add_column.Goals as goal

pub add_column-requires : goal.add_column-requires
add_column-requires c = record { there = table_within c.args.self.now.own c.args.table.now c.in-Some.i c.in-Some.ensures.position }

pub returns-in-Some : goal.returns-in-Some
returns-in-Some c =
    record {
      ok = λ all covers.
          on_ok_weaker c.add_column.result
          (λ pushed. record {
            shown =
                rw (column_added c.args.self.now.own c.add_column.new.self c.args.table.now c.args.col.now c.in_ok-col.col c.in-Some.i c.in-Some.ensures.position c.in_ok-col.ensures.same pushed)
                (widened-at c.args.table.now c.args.col.now c.args.self.now.base.now c.args.self.now.own all c.args.self.now.tables covers.shown c.in-Some.i c.in-Some.ensures.position);
            recent = tt;
            spots = none_recalled 256 c.add_column.new.self c.args.self.now.base.now (schemas_step all (op.AddColumn c.args.table.now c.args.col.now));
          })
          c.add_column.ensures.ok;
    }

pub returns-in-None : goal.returns-in-None
returns-in-None c =
    record {
      ok = λ all covers.
          on_ok_weaker c.widen.result
          (λ shown. record { shown = rw (sym c.in_ok-col.ensures.same) shown; recent = tt; spots = none_recalled 256 c.widen.new.own c.args.self.now.base.now (schemas_step all (op.AddColumn c.args.table.now c.args.col.now)) })
          (c.widen.ensures.ok all c.args.self.now.tables covers.shown);
    }
