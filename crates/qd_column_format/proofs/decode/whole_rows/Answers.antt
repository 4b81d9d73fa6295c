use Rattle.std.proofs.Common.{sym, subst, arith}
use Rattle.qd_base.specs.declared.schema.ColType.TheVariants as kind
use Rattle.qd_column_format.specs.declared.fault.ColumnFault.{ColumnFault}
use Rattle.qd_column_format.specs.Reading.{IsFault}
use Rattle.qd_column_format.proofs.DamageLemmas.{long_cut, time_cut}
use Rattle.qd_column_format.proofs.decode.whole_rows.Goals as goal

pub returns-then-there-rows-clause-long : goal.returns-then-there-rows-clause-long
returns-then-there-rows-clause-long c = λ aux. subst (λ (e : ColumnFault). IsFault kind.Long c.args.rows c.args.main.now aux e) (sym c.cut_main.ensures.damage) (long_cut c.args.rows c.args.main.now aux (λ i. omega (arith, c.type_inv.main i)) c.if-there-rows.true)

pub returns-then-there-rows-clause-time : goal.returns-then-there-rows-clause-time
returns-then-there-rows-clause-time c = λ aux. subst (λ (e : ColumnFault). IsFault kind.Time c.args.rows c.args.main.now aux e) (sym c.cut_main.ensures.damage) (time_cut c.args.rows c.args.main.now aux (λ i. omega (arith, c.type_inv.main i)) c.if-there-rows.true)
