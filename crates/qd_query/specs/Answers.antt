-- What a statement is answered, what a plan is answered over tables, and SHOW PARTITIONS.
use Rattle.std.specs.Prelude.{ℕ, ◌≤◌, nat_le, if◌then◌else◌, List, [], All, length, map, Option, Some, None, Result, Ok, Err, slice_index_or}
use Rattle.qd_base.specs.declared.code.Code.TheVariants as code
use Rattle.qd_base.specs.declared.limits.TheConstants.{MAX_RESULT_BYTES, MAX_TIME}
use Rattle.qd_base.specs.declared.request.Table.{Table}
use Rattle.qd_base.specs.Laws.{IsInOrder}
use Rattle.qd_base.specs.Rows.{Row, time_of}
use Rattle.qd_base.specs.Codes.{number_of}
use Rattle.qd_base.specs.Database.{Database, StoredTable}
use Rattle.qd_sql_ast.specs.declared.tree.Sampled.{Sampled}
use Rattle.qd_sql_ast.specs.declared.tree.Stmt.{Stmt}
use Rattle.qd_sql_ast.specs.declared.tree.Stmt.TheVariants as is
use Rattle.qd_print.specs.Printed.{csv}
use Rattle.qd_meaning.specs.declared.parts.AskPlan.{AskPlan}
use Rattle.qd_meaning.specs.declared.parts.JoinSpec.{JoinSpec}
use Rattle.qd_meaning.specs.declared.refusal.Refusal.{Refusal}
use Rattle.qd_meaning.specs.Answer as meaning
use Rattle.qd_meaning.specs.declared.parts.Work.{Work}
use Rattle.qd_meaning.specs.declared.parts.Work.TheVariants as work
use Rattle.qd_meaning.specs.Refusals.{judged, least}
use Rattle.qd_meaning.specs.Partitions.{partitions}
use Rattle.qd_order.specs.Cuts.{shown_rows}
use Rattle.qd_sample.specs.Sampling.{FillsFit, IsOffset}
use Rattle.qd_scan.specs.Sources.{no_table}
use Rattle.qd_time.specs.Buckets.{IsStride}
use Rattle.qd_query.specs.declared.answer.Answer.{Answer}
use Rattle.qd_query.specs.declared.answer.Answer.TheVariants as answer

-- a table, or the refusal in its place
abbrev pub given : Result Table Refusal → Answer
given (Ok t) = answer.Rows t
given (Err r) = answer.Refused (number_of r.code) r.place

-- what a statement is answered over a database: its plain meaning
abbrev pub answer_of : Database → Stmt → Answer
answer_of db s = given (meaning.answer db s)

-- a table, or that it has more bytes as CSV than a result may have
abbrev pub sized : Table → Answer
sized t = if nat_le (length (csv t)) MAX_RESULT_BYTES then answer.Rows t else answer.Refused (number_of code.ResultTooLarge) 0

-- a table by its position, and the right table of a join
abbrev pub table_in : Database → ℕ → StoredTable
table_in db table = slice_index_or db table no_table

abbrev pub right_in : Database → Option (ℕ × JoinSpec) → Option StoredTable
right_in db None = None
right_in db (Some j) = Some (table_in db j.0)

-- what a plan is answered over the rows that its work makes: their table, or what these rows alone show
abbrev pub answer_over : AskPlan → List Row → Answer
answer_over p rows = given (judged (least (meaning.rows_faults p rows)) (meaning.finished p rows))

abbrev pub plan_answer : AskPlan → Option StoredTable → Option StoredTable → Answer
plan_answer p left right = answer_over p (meaning.work_rows p left right)

abbrev pub show_answer : StoredTable → Answer
show_answer t = sized (partitions t)

-- work that can be done: a sample has a stride and an offset in range, and one fill, or one for each aggregate
abbrev pub IsWork : Work → Type 0
IsWork (work.Plain es) = Unit {0}
IsWork (work.Group spec) = Unit {0}
IsWork (work.Sample spec) = IsStride spec.stride × IsOffset spec.offset × FillsFit spec

-- the stride of SAMPLE BY, where there is one, is in range
abbrev pub HasStride : Option Sampled → Type 0
HasStride None = Unit {0}
HasStride (Some s) = IsStride (record { n = s.stride.count; unit = s.stride.unit })

abbrev pub StrideIn : Stmt → Type 0
StrideIn (is.Query q) = HasStride q.sampled
StrideIn (is.Show name place) = Unit {0}
StrideIn (is.Create c) = Unit {0}
StrideIn (is.Insert i) = Unit {0}
StrideIn (is.Alter a) = Unit {0}

-- rows in order of time, of which a column is named, up to the greatest timestamp
pub record AreTimed (time_col : ℕ) (rows : List Row) : Type 0 where
  pub order : IsInOrder time_col rows
  pub timely : All (λ row. time_of time_col row ≤ MAX_TIME) rows

-- the table of a plan's output rows at some positions
abbrev pub table_at : AskPlan → List Row → List ℕ → Table
table_at p rows ps = record { cols = p.out; rows = map (λ i. slice_index_or (shown_rows p rows) i []) ps }
