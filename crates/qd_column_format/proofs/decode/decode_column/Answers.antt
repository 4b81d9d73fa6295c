use Rattle.std.proofs.Common.{◌≡◌, ◌∙◌, ℕ, List, length, sym, subst}
use Rattle.std.proofs.lemmas.Result.{IfOk-weaker}
use Rattle.qd_base.specs.declared.schema.ColType.{ColType}
use Rattle.qd_base.specs.declared.schema.ColType.TheVariants as kind
use Rattle.qd_column.specs.Cells.{CellsOf}
use Rattle.qd_column_format.specs.declared.fault.ColumnFault.{ColumnFault}
use Rattle.qd_column_format.specs.Spelling.{SpellsColumn}
use Rattle.qd_column_format.specs.Reading.{IsReadColumn, IsFault, IsUnspelled}
use Rattle.qd_column_format.proofs.ReadLemmas.{err_weaker, fault_unspelled}
use Rattle.qd_column_format.proofs.decode.decode_column.Goals as goal

pub returns-in-Long-clause-kind : goal.returns-in-Long-clause-kind
returns-in-Long-clause-kind g c = IfOk-weaker c.decode_longs.result (λ (column : CellsOf). (aux : List ℕ) → IsReadColumn kind.Long c.args.rows c.args.main.now aux column) (λ (column : CellsOf). column.kind ≡ c.args.kind) (λ column h. (h c.args.aux.now).kind ∙ sym c.in-Long.is) c.decode_longs.ensures.ok

pub returns-in-Long-clause-rows : goal.returns-in-Long-clause-rows
returns-in-Long-clause-rows g c = IfOk-weaker c.decode_longs.result (λ (column : CellsOf). (aux : List ℕ) → IsReadColumn kind.Long c.args.rows c.args.main.now aux column) (λ (column : CellsOf). length column.cells ≡ c.args.rows) (λ column h. (h c.args.aux.now).rows) c.decode_longs.ensures.ok

pub returns-in-Long-clause-spelled : goal.returns-in-Long-clause-spelled
returns-in-Long-clause-spelled g c = IfOk-weaker c.decode_longs.result (λ (column : CellsOf). (aux : List ℕ) → IsReadColumn kind.Long c.args.rows c.args.main.now aux column) (λ (column : CellsOf). SpellsColumn c.args.main.now c.args.aux.now column) (λ column h. (h c.args.aux.now).spelled) c.decode_longs.ensures.ok

pub returns-in-Long-clause-damaged : goal.returns-in-Long-clause-damaged
returns-in-Long-clause-damaged g c = err_weaker c.decode_longs.result (λ (e : ColumnFault). (aux : List ℕ) → IsFault kind.Long c.args.rows c.args.main.now aux e) (λ (e : ColumnFault). IsFault c.args.kind c.args.rows c.args.main.now c.args.aux.now e) (λ e h. subst (λ (k : ColType). IsFault k c.args.rows c.args.main.now c.args.aux.now e) (sym c.in-Long.is) (h c.args.aux.now)) c.decode_longs.ensures.err

pub returns-in-Long-clause-unspelled : goal.returns-in-Long-clause-unspelled
returns-in-Long-clause-unspelled g c = err_weaker c.decode_longs.result (λ (e : ColumnFault). (aux : List ℕ) → IsFault kind.Long c.args.rows c.args.main.now aux e) (λ (e : ColumnFault). IsUnspelled c.args.kind c.args.rows c.args.main.now c.args.aux.now e) (λ e h. subst (λ (k : ColType). IsUnspelled k c.args.rows c.args.main.now c.args.aux.now e) (sym c.in-Long.is) (fault_unspelled kind.Long c.args.rows c.args.main.now c.args.aux.now e (h c.args.aux.now))) c.decode_longs.ensures.err

pub returns-in-Bool-clause-kind : goal.returns-in-Bool-clause-kind
returns-in-Bool-clause-kind g c = IfOk-weaker c.decode_truths.result (λ (column : CellsOf). (aux : List ℕ) → IsReadColumn kind.Bool c.args.rows c.args.main.now aux column) (λ (column : CellsOf). column.kind ≡ c.args.kind) (λ column h. (h c.args.aux.now).kind ∙ sym c.in-Bool.is) c.decode_truths.ensures.ok

pub returns-in-Bool-clause-rows : goal.returns-in-Bool-clause-rows
returns-in-Bool-clause-rows g c = IfOk-weaker c.decode_truths.result (λ (column : CellsOf). (aux : List ℕ) → IsReadColumn kind.Bool c.args.rows c.args.main.now aux column) (λ (column : CellsOf). length column.cells ≡ c.args.rows) (λ column h. (h c.args.aux.now).rows) c.decode_truths.ensures.ok

pub returns-in-Bool-clause-spelled : goal.returns-in-Bool-clause-spelled
returns-in-Bool-clause-spelled g c = IfOk-weaker c.decode_truths.result (λ (column : CellsOf). (aux : List ℕ) → IsReadColumn kind.Bool c.args.rows c.args.main.now aux column) (λ (column : CellsOf). SpellsColumn c.args.main.now c.args.aux.now column) (λ column h. (h c.args.aux.now).spelled) c.decode_truths.ensures.ok

pub returns-in-Bool-clause-damaged : goal.returns-in-Bool-clause-damaged
returns-in-Bool-clause-damaged g c = err_weaker c.decode_truths.result (λ (e : ColumnFault). (aux : List ℕ) → IsFault kind.Bool c.args.rows c.args.main.now aux e) (λ (e : ColumnFault). IsFault c.args.kind c.args.rows c.args.main.now c.args.aux.now e) (λ e h. subst (λ (k : ColType). IsFault k c.args.rows c.args.main.now c.args.aux.now e) (sym c.in-Bool.is) (h c.args.aux.now)) c.decode_truths.ensures.err

pub returns-in-Bool-clause-unspelled : goal.returns-in-Bool-clause-unspelled
returns-in-Bool-clause-unspelled g c = err_weaker c.decode_truths.result (λ (e : ColumnFault). (aux : List ℕ) → IsFault kind.Bool c.args.rows c.args.main.now aux e) (λ (e : ColumnFault). IsUnspelled c.args.kind c.args.rows c.args.main.now c.args.aux.now e) (λ e h. subst (λ (k : ColType). IsUnspelled k c.args.rows c.args.main.now c.args.aux.now e) (sym c.in-Bool.is) (fault_unspelled kind.Bool c.args.rows c.args.main.now c.args.aux.now e (h c.args.aux.now))) c.decode_truths.ensures.err

pub returns-in-Symbol-clause-kind : goal.returns-in-Symbol-clause-kind
returns-in-Symbol-clause-kind g c = IfOk-weaker c.decode_symbols.result (λ (column : CellsOf). IsReadColumn kind.Symbol c.args.rows c.args.main.now c.args.aux.now column) (λ (column : CellsOf). column.kind ≡ c.args.kind) (λ column h. h.kind ∙ sym c.in-Symbol.is) c.decode_symbols.ensures.ok

pub returns-in-Symbol-clause-rows : goal.returns-in-Symbol-clause-rows
returns-in-Symbol-clause-rows g c = IfOk-weaker c.decode_symbols.result (λ (column : CellsOf). IsReadColumn kind.Symbol c.args.rows c.args.main.now c.args.aux.now column) (λ (column : CellsOf). length column.cells ≡ c.args.rows) (λ column h. h.rows) c.decode_symbols.ensures.ok

pub returns-in-Symbol-clause-spelled : goal.returns-in-Symbol-clause-spelled
returns-in-Symbol-clause-spelled g c = IfOk-weaker c.decode_symbols.result (λ (column : CellsOf). IsReadColumn kind.Symbol c.args.rows c.args.main.now c.args.aux.now column) (λ (column : CellsOf). SpellsColumn c.args.main.now c.args.aux.now column) (λ column h. h.spelled) c.decode_symbols.ensures.ok

pub returns-in-Symbol-clause-damaged : goal.returns-in-Symbol-clause-damaged
returns-in-Symbol-clause-damaged g c = err_weaker c.decode_symbols.result (λ (e : ColumnFault). IsFault kind.Symbol c.args.rows c.args.main.now c.args.aux.now e) (λ (e : ColumnFault). IsFault c.args.kind c.args.rows c.args.main.now c.args.aux.now e) (λ e h. subst (λ (k : ColType). IsFault k c.args.rows c.args.main.now c.args.aux.now e) (sym c.in-Symbol.is) h) c.decode_symbols.ensures.err

pub returns-in-Symbol-clause-unspelled : goal.returns-in-Symbol-clause-unspelled
returns-in-Symbol-clause-unspelled g c = err_weaker c.decode_symbols.result (λ (e : ColumnFault). IsFault kind.Symbol c.args.rows c.args.main.now c.args.aux.now e) (λ (e : ColumnFault). IsUnspelled c.args.kind c.args.rows c.args.main.now c.args.aux.now e) (λ e h. subst (λ (k : ColType). IsUnspelled k c.args.rows c.args.main.now c.args.aux.now e) (sym c.in-Symbol.is) (fault_unspelled kind.Symbol c.args.rows c.args.main.now c.args.aux.now e h)) c.decode_symbols.ensures.err

pub returns-in-Varchar-clause-kind : goal.returns-in-Varchar-clause-kind
returns-in-Varchar-clause-kind g c = IfOk-weaker c.decode_texts.result (λ (column : CellsOf). IsReadColumn kind.Varchar c.args.rows c.args.main.now c.args.aux.now column) (λ (column : CellsOf). column.kind ≡ c.args.kind) (λ column h. h.kind ∙ sym c.in-Varchar.is) c.decode_texts.ensures.ok

pub returns-in-Varchar-clause-rows : goal.returns-in-Varchar-clause-rows
returns-in-Varchar-clause-rows g c = IfOk-weaker c.decode_texts.result (λ (column : CellsOf). IsReadColumn kind.Varchar c.args.rows c.args.main.now c.args.aux.now column) (λ (column : CellsOf). length column.cells ≡ c.args.rows) (λ column h. h.rows) c.decode_texts.ensures.ok

pub returns-in-Varchar-clause-spelled : goal.returns-in-Varchar-clause-spelled
returns-in-Varchar-clause-spelled g c = IfOk-weaker c.decode_texts.result (λ (column : CellsOf). IsReadColumn kind.Varchar c.args.rows c.args.main.now c.args.aux.now column) (λ (column : CellsOf). SpellsColumn c.args.main.now c.args.aux.now column) (λ column h. h.spelled) c.decode_texts.ensures.ok

pub returns-in-Varchar-clause-damaged : goal.returns-in-Varchar-clause-damaged
returns-in-Varchar-clause-damaged g c = err_weaker c.decode_texts.result (λ (e : ColumnFault). IsFault kind.Varchar c.args.rows c.args.main.now c.args.aux.now e) (λ (e : ColumnFault). IsFault c.args.kind c.args.rows c.args.main.now c.args.aux.now e) (λ e h. subst (λ (k : ColType). IsFault k c.args.rows c.args.main.now c.args.aux.now e) (sym c.in-Varchar.is) h) c.decode_texts.ensures.err

pub returns-in-Varchar-clause-unspelled : goal.returns-in-Varchar-clause-unspelled
returns-in-Varchar-clause-unspelled g c = err_weaker c.decode_texts.result (λ (e : ColumnFault). IsFault kind.Varchar c.args.rows c.args.main.now c.args.aux.now e) (λ (e : ColumnFault). IsUnspelled c.args.kind c.args.rows c.args.main.now c.args.aux.now e) (λ e h. subst (λ (k : ColType). IsUnspelled k c.args.rows c.args.main.now c.args.aux.now e) (sym c.in-Varchar.is) (fault_unspelled kind.Varchar c.args.rows c.args.main.now c.args.aux.now e h)) c.decode_texts.ensures.err

pub returns-in-Time-clause-kind : goal.returns-in-Time-clause-kind
returns-in-Time-clause-kind g c = IfOk-weaker c.decode_times.result (λ (column : CellsOf). (aux : List ℕ) → IsReadColumn kind.Time c.args.rows c.args.main.now aux column) (λ (column : CellsOf). column.kind ≡ c.args.kind) (λ column h. (h c.args.aux.now).kind ∙ sym c.in-Time.is) c.decode_times.ensures.ok

pub returns-in-Time-clause-rows : goal.returns-in-Time-clause-rows
returns-in-Time-clause-rows g c = IfOk-weaker c.decode_times.result (λ (column : CellsOf). (aux : List ℕ) → IsReadColumn kind.Time c.args.rows c.args.main.now aux column) (λ (column : CellsOf). length column.cells ≡ c.args.rows) (λ column h. (h c.args.aux.now).rows) c.decode_times.ensures.ok

pub returns-in-Time-clause-spelled : goal.returns-in-Time-clause-spelled
returns-in-Time-clause-spelled g c = IfOk-weaker c.decode_times.result (λ (column : CellsOf). (aux : List ℕ) → IsReadColumn kind.Time c.args.rows c.args.main.now aux column) (λ (column : CellsOf). SpellsColumn c.args.main.now c.args.aux.now column) (λ column h. (h c.args.aux.now).spelled) c.decode_times.ensures.ok

pub returns-in-Time-clause-damaged : goal.returns-in-Time-clause-damaged
returns-in-Time-clause-damaged g c = err_weaker c.decode_times.result (λ (e : ColumnFault). (aux : List ℕ) → IsFault kind.Time c.args.rows c.args.main.now aux e) (λ (e : ColumnFault). IsFault c.args.kind c.args.rows c.args.main.now c.args.aux.now e) (λ e h. subst (λ (k : ColType). IsFault k c.args.rows c.args.main.now c.args.aux.now e) (sym c.in-Time.is) (h c.args.aux.now)) c.decode_times.ensures.err

pub returns-in-Time-clause-unspelled : goal.returns-in-Time-clause-unspelled
returns-in-Time-clause-unspelled g c = err_weaker c.decode_times.result (λ (e : ColumnFault). (aux : List ℕ) → IsFault kind.Time c.args.rows c.args.main.now aux e) (λ (e : ColumnFault). IsUnspelled c.args.kind c.args.rows c.args.main.now c.args.aux.now e) (λ e h. subst (λ (k : ColType). IsUnspelled k c.args.rows c.args.main.now c.args.aux.now e) (sym c.in-Time.is) (fault_unspelled kind.Time c.args.rows c.args.main.now c.args.aux.now e (h c.args.aux.now))) c.decode_times.ensures.err
