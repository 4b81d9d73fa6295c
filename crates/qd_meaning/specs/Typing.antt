-- The class of an expression, the tree that it becomes, and the refusals of types on the way. QuestDB documentation, "Data types",
-- "Operators" and "Timestamps": beside a time a text or a number of the statement is a time itself.
use Rattle.std.specs.Prelude.{ℕ, Bool, true, false, ◌&&◌, if◌then◌else◌, List, [], ◌∷◌, ◌++◌, map, Option, Some, None, Result, Ok, Err, ℤ, pos, neg_ℤ}
use Rattle.std.specs.List.{list_all, flat_map}
use Rattle.qd_base.specs.declared.code.Code.TheVariants as code
use Rattle.qd_base.specs.declared.cell.Cell.{Cell}
use Rattle.qd_base.specs.declared.cell.Cell.TheVariants as cell
use Rattle.qd_base.specs.declared.schema.ColType.{ColType}
use Rattle.qd_base.specs.declared.schema.ColType.TheVariants as kind
use Rattle.qd_base.specs.declared.schema.Col.{Col}
use Rattle.qd_sql_ast.specs.declared.tree.Lit.{Lit}
use Rattle.qd_sql_ast.specs.declared.tree.Lit.TheVariants as lit
use Rattle.qd_time.specs.declared.fault.TimeFault.{TimeFault}
use Rattle.qd_value.specs.declared.bound.Arithmetic.{Arithmetic}
use Rattle.qd_value.specs.declared.bound.Comparison.{Comparison}
use Rattle.qd_value.specs.declared.bound.Comparison.TheVariants as asks
use Rattle.qd_value.specs.declared.bound.Bound.{Bound}
use Rattle.qd_value.specs.declared.bound.Bound.TheVariants as is
use Rattle.qd_value.specs.declared.bound.Operand.{Operand, roll-Operand}
use Rattle.qd_value.specs.Cells.{Class, number, truth, text, time}
use Rattle.qd_meaning.specs.declared.refusal.Refusal.{Refusal}
use Rattle.qd_meaning.specs.Refusals.{at, unless}
use Rattle.qd_meaning.specs.TimeTexts.{time_of_text, time_of_number, interval_of_text}

-- What an expression is beside its value: a column as it stands; a text or a number of the statement, with its offset, which is
-- that of its sign where it has one; or anything else. Brackets change nothing.
pub data Form : Type 0 where
  Plain : ℕ → Col → Form
  TextAt : List ℕ → ℕ → Form
  NumberAt : ℤ → Bool → ℕ → Form
  Other : Form

-- an expression of a statement: its class, or none where it goes with each class as NULL does; its tree; its form; its refusals
pub record Typed : Type 0 where
  pub class : Option Class
  pub bound : Bound
  pub form : Form
  pub faults : List Refusal

abbrev pub class_of_kind : ColType → Class
class_of_kind kind.Long = number
class_of_kind kind.Bool = truth
class_of_kind kind.Symbol = text
class_of_kind kind.Varchar = text
class_of_kind kind.Time = time

abbrev pub same_class : Class → Class → Bool
same_class number number = true
same_class truth truth = true
same_class text text = true
same_class time time = true
same_class _ _ = false

-- whether an expression of a class may stand where a class is asked for
abbrev pub fits : Class → Option Class → Bool
fits c None = true
fits c (Some d) = same_class c d

-- whether two may be compared
abbrev pub agree : Option Class → Option Class → Bool
agree None d = true
agree (Some c) d = fits c d

-- whether two may be told which is less
abbrev pub has_order : Option Class → Bool
has_order None = true
has_order (Some number) = true
has_order (Some truth) = false
has_order (Some text) = false
has_order (Some time) = true

-- ---- literals

-- a literal: its class, its cell, its form and its refusals
pub record Constant : Type 0 where
  pub class : Option Class
  pub cell : Cell
  pub form : Form
  pub faults : List Refusal

abbrev pub constant : Option Class → Cell → Form → Constant
constant class c form = record { class = class; cell = c; form = form; faults = [] }

abbrev pub constant_null : Constant
constant_null = constant None cell.Null Other

abbrev pub constant_truth : Bool → Constant
constant_truth b = constant (Some truth) (cell.Bool b) Other

abbrev pub constant_number : ℤ → Bool → ℕ → Constant
constant_number n signed place = constant (Some number) (cell.Long n) (NumberAt n signed place)

abbrev pub constant_text : List ℕ → ℕ → Constant
constant_text bytes place = constant (Some text) (cell.Text bytes) (TextAt bytes place)

-- the time that a text or a number names, or the refusal of it
abbrev pub time_cell : Result ℕ TimeFault → Cell
time_cell (Ok t) = cell.Time t
time_cell (Err e) = cell.Null

abbrev pub time_faults : Result ℕ TimeFault → ℕ → List Refusal
time_faults (Ok t) place = []
time_faults (Err e) place = at code.TimeLiteral place

abbrev pub constant_time : Result ℕ TimeFault → ℕ → Constant
constant_time t place = record { class = Some time; cell = time_cell t; form = Other; faults = time_faults t place }

-- a literal as it stands beside a time
abbrev pub time_by : Form → Option Constant
time_by (Plain n col) = None
time_by (TextAt bytes place) = Some (constant_time (time_of_text bytes) place)
time_by (NumberAt n signed place) = Some (constant_time (time_of_number n) place)
time_by Other = None

abbrev pub constant_of : Lit → Constant
constant_of (lit.Number n) = constant_number (pos n.value) false n.at
constant_of (lit.Minus minus n) = constant_number (neg_ℤ (pos n.value)) true minus
constant_of (lit.Text t) = constant_text t.text t.at
constant_of (lit.True place) = constant_truth true
constant_of (lit.False place) = constant_truth false
constant_of (lit.Null place) = constant_null

abbrev pub literal : Constant → Typed
literal c = record { class = c.class; bound = is.Literal c.cell; form = c.form; faults = c.faults }

abbrev pub literal_or : Typed → Option Constant → Typed
literal_or x None = x
literal_or x (Some c) = literal c

abbrev pub constant_or : Constant → Option Constant → Constant
constant_or x None = x
constant_or x (Some c) = c

abbrev pub is_time : Option Class → Bool
is_time None = false
is_time (Some c) = same_class time c

-- an expression, and a literal, as it stands beside something of a class
abbrev pub beside : Option Class → Typed → Typed
beside class x = if is_time class then literal_or x (time_by x.form) else x

abbrev pub constant_beside : Option Class → Constant → Constant
constant_beside class x = if is_time class then constant_or x (time_by x.form) else x

-- ---- operators

-- a minus in front of a number of the statement is its sign
abbrev pub negated_by : Form → Typed → ℕ → Typed
negated_by (NumberAt n false place) x minus = literal (constant_number (neg_ℤ n) true minus)
negated_by (NumberAt n true place) x minus = record { class = Some number; bound = is.Negated x.bound; form = Other; faults = x.faults }
negated_by _ x minus = record { class = Some number; bound = is.Negated x.bound; form = Other; faults = unless (fits number x.class) code.Types minus ++ x.faults }

abbrev pub negated : Typed → ℕ → Typed
negated x minus = negated_by x.form x minus

-- an operator with its offset and what stands behind it
abbrev pub Link : Type 0
Link = Arithmetic × ℕ × Typed

abbrev pub operand : Link → Operand
operand l = roll-Operand (record { op = l.0; right = l.2.bound })

-- each operator stands between numbers
abbrev pub chain_faults : Option Class → List Link → List Refusal
chain_faults left [] = []
chain_faults left (l ∷ ls) = unless (fits number left && fits number l.2.class) code.Types l.1 ++ l.2.faults ++ chain_faults (Some number) ls

abbrev pub chained : Typed → List Link → Typed
chained x [] = x
chained x (l ∷ ls) = record {
  class = Some number;
  bound = is.Chain x.bound (map operand (l ∷ ls));
  form = Other;
  faults = x.faults ++ chain_faults x.class (l ∷ ls);
}

-- `=` and its opposite stand between two of one class, an ordering between numbers or between times
abbrev pub may_compare : Comparison → Option Class → Option Class → Bool
may_compare asks.Equal c d = agree c d
may_compare asks.NotEqual c d = agree c d
may_compare _ c d = agree c d && has_order c && has_order d

abbrev pub compared_as : Comparison → ℕ → Typed → Typed → Typed
compared_as op place x y = record {
  class = Some truth;
  bound = is.Compare op x.bound y.bound;
  form = Other;
  faults = unless (may_compare op x.class y.class) code.Types place ++ x.faults ++ y.faults;
}

abbrev pub compared : Comparison → ℕ → Typed → Typed → Typed
compared op place x y = compared_as op place (beside y.class x) (beside x.class y)

-- all are of one class
abbrev pub agree_all : List (Option Class) → Bool
agree_all [] = true
agree_all (c ∷ cs) = list_all (agree c) cs && agree_all cs

abbrev pub among : Typed → ℕ → List Constant → Typed
among x place items = record {
  class = Some truth;
  bound = is.InList x.bound (map (λ (i : Constant). i.cell) items);
  form = Other;
  faults = unless (agree_all (x.class ∷ map (λ (i : Constant). i.class) items)) code.Types place ++ x.faults ++ flat_map (λ (i : Constant). i.faults) items;
}

abbrev pub in_list : Typed → ℕ → List Lit → Typed
in_list x place lits = among x place (map (λ (l : Lit). constant_beside x.class (constant_of l)) lits)

abbrev pub within : Typed → ℕ → ℕ → Result (ℕ × ℕ) TimeFault → Typed
within x word place (Ok i) = record { class = Some truth; bound = is.InInterval x.bound i.0 i.1; form = Other; faults = unless (fits time x.class) code.Types word ++ x.faults }
within x word place (Err e) = record { class = Some truth; bound = is.InInterval x.bound 0 0; form = Other; faults = unless (fits time x.class) code.Types word ++ x.faults ++ at code.TimeLiteral place }

abbrev pub in_text : Typed → ℕ → List ℕ → ℕ → Typed
in_text x word bytes place = within x word place (interval_of_text bytes)

abbrev pub is_null : Typed → Typed
is_null x = record { class = Some truth; bound = is.IsNull x.bound; form = Other; faults = x.faults }

abbrev pub opposite : Typed → Typed
opposite x = record { class = Some truth; bound = is.Not x.bound; form = Other; faults = x.faults }

-- NOT stands before a truth value
abbrev pub not_of : Typed → ℕ → Typed
not_of x word = record { class = Some truth; bound = is.Not x.bound; form = Other; faults = unless (fits truth x.class) code.Types word ++ x.faults }

-- a word with its offset and what stands behind it
abbrev pub Part : Type 0
Part = ℕ × Typed

abbrev pub part_bound : Part → Bound
part_bound p = p.1.bound

-- each AND and each OR stands between truth values
abbrev pub truth_faults : Option Class → List Part → List Refusal
truth_faults left [] = []
truth_faults left (p ∷ ps) = unless (fits truth left && fits truth p.1.class) code.Types p.0 ++ p.1.faults ++ truth_faults (Some truth) ps

abbrev pub joined_by : (List Bound → Bound) → Typed → List Part → Typed
joined_by make x [] = x
joined_by make x (p ∷ ps) = record {
  class = Some truth;
  bound = make (x.bound ∷ map part_bound (p ∷ ps));
  form = Other;
  faults = x.faults ++ truth_faults x.class (p ∷ ps);
}

-- a column by its position
abbrev pub plain_column : ℕ × Col → Typed
plain_column c = record { class = Some (class_of_kind c.1.kind); bound = is.Column c.0; form = Plain c.0 c.1; faults = [] }
