-- One step of the binding of expressions over what is seen of their parts.
use Rattle.std.specs.Prelude.{ℕ, Bool, true, false, not, ◌&&◌, ◌||◌, if◌then◌else◌, List, [], ◌∷◌, ◌++◌, Option, Some, None, Result, Ok, Err, ℤ, neg_ℤ}
use Rattle.qd_base.specs.declared.code.Code.TheVariants as code
use Rattle.qd_base.specs.declared.cell.Cell.{Cell}
use Rattle.qd_base.specs.declared.cell.Cell.TheVariants as cell
use Rattle.qd_time.specs.declared.fault.TimeFault.{TimeFault}
use Rattle.qd_value.specs.declared.bound.Arithmetic.{Arithmetic}
use Rattle.qd_value.specs.declared.bound.Comparison.{Comparison}
use Rattle.qd_value.specs.declared.bound.Comparison.TheVariants as asks
use Rattle.qd_value.specs.declared.bound.Bound.{Bound}
use Rattle.qd_value.specs.declared.bound.Bound.TheVariants as is
use Rattle.qd_value.specs.declared.bound.Operand.{Operand, roll-Operand}
use Rattle.qd_meaning.specs.declared.refusal.Refusal.{Refusal}
use Rattle.qd_meaning.specs.Refusals.{least, sooner, unless}
use Rattle.qd_meaning.specs.TimeTexts.{time_of_number, interval_of_text}
use Rattle.qd_meaning.specs.Typing.{time_cell, time_faults}
use Rattle.qd_bind.specs.declared.class.Class.{Class}
use Rattle.qd_bind.specs.declared.class.Class.TheVariants as of
use Rattle.qd_bind.specs.declared.typed.Form.{Form}
use Rattle.qd_bind.specs.declared.typed.Form.TheVariants as form
use Rattle.qd_bind.specs.declared.typed.Typed.{Typed}
use Rattle.qd_bind.specs.declared.typed.Constant.{Constant}
use Rattle.qd_bind.specs.declared.chains.Chain.{Chain}
use Rattle.qd_bind.specs.declared.chains.Junction.{Junction}
use Rattle.qd_bind.specs.declared.lists.Listing.{Listing}

-- ---- classes

abbrev pub agrees : Class → Class → Bool
agrees of.Any d = true
agrees c of.Any = true
agrees of.Number of.Number = true
agrees of.Truth of.Truth = true
agrees of.Text of.Text = true
agrees of.Time of.Time = true
agrees _ _ = false

abbrev pub has_order : Class → Bool
has_order of.Any = true
has_order of.Number = true
has_order of.Truth = false
has_order of.Text = false
has_order of.Time = true

abbrev pub with : Class → Class → Class
with of.Any d = d
with c d = c

-- ---- literals

abbrev pub literal : Class → Cell → Form → Typed
literal class c form = record { class = class; bound = is.Literal c; form = form; fault = None }

abbrev pub time : Cell → Option Refusal → Typed
time c fault = record { class = of.Time; bound = is.Literal c; form = form.Other; fault = fault }

-- a literal that stands for a moment
abbrev pub timed : Result ℕ TimeFault → ℕ → Typed
timed t place = time (time_cell t) (least (time_faults t place))

-- the moment that a literal names as it stands beside a time
abbrev pub moment_in : Form → Option (Result ℕ TimeFault × ℕ)
moment_in (form.Column n col) = None
moment_in (form.Text t place) = Some (t, place)
moment_in (form.Number n signed place) = Some (time_of_number n, place)
moment_in form.Other = None

abbrev pub timed_or : Typed → Option (Result ℕ TimeFault × ℕ) → Typed
timed_or x None = x
timed_or x (Some m) = timed m.0 m.1

abbrev pub beside : Class → Typed → Typed
beside of.Time x = timed_or x (moment_in x.form)
beside _ x = x

abbrev pub truth : Bound → Option Refusal → Typed
truth bound fault = record { class = of.Truth; bound = bound; form = form.Other; fault = fault }

-- ---- operators

abbrev pub refused : Bool → ℕ → Option Refusal → Option Refusal
refused holds place fault = sooner (least (unless holds code.Types place)) fault

abbrev pub sign_fault_by : Form → Typed → ℕ → Option Refusal
sign_fault_by (form.Number n true place) x minus = x.fault
sign_fault_by _ x minus = refused (agrees of.Number x.class) minus x.fault

abbrev pub sign_fault : Typed → ℕ → Option Refusal
sign_fault x minus = sign_fault_by x.form x minus

abbrev pub opposite_in : Form → Option ℤ
opposite_in (form.Number n false place) = Some (neg_ℤ n)
opposite_in _ = None

abbrev pub negation : Typed → ℕ → Typed
negation x minus = record { class = of.Number; bound = is.Negated x.bound; form = form.Other; fault = sign_fault x minus }

abbrev pub negated_or : Option ℤ → Typed → ℕ → Typed
negated_or None x minus = negation x minus
negated_or (Some n) x minus = literal of.Number (cell.Long n) (form.Number n true minus)

abbrev pub negated : Typed → ℕ → Typed
negated x minus = negated_or (opposite_in x.form) x minus

abbrev pub not_of : Typed → ℕ → Typed
not_of x word = record { class = of.Truth; bound = is.Not x.bound; form = form.Other; fault = refused (agrees of.Truth x.class) word x.fault }

abbrev pub opposite : Typed → Typed
opposite x = record { class = of.Truth; bound = is.Not x.bound; form = form.Other; fault = x.fault }

abbrev pub is_null : Typed → Typed
is_null x = record { class = of.Truth; bound = is.IsNull x.bound; form = form.Other; fault = x.fault }

abbrev pub may_compare : Comparison → Class → Class → Bool
may_compare asks.Equal c d = agrees c d
may_compare asks.NotEqual c d = agrees c d
may_compare _ c d = agrees c d && has_order c && has_order d

abbrev pub compared_as : Comparison → ℕ → Typed → Typed → Typed
compared_as op place x y = record {
  class = of.Truth;
  bound = is.Compare op x.bound y.bound;
  form = form.Other;
  fault = sooner (refused (may_compare op x.class y.class) place x.fault) y.fault;
}

abbrev pub compared : Comparison → ℕ → Typed → Typed → Typed
compared op place x y = compared_as op place (beside y.class x) (beside x.class y)

-- the word or sign nearest to what stands behind it comes first
abbrev pub behind : (Typed → ℕ → Typed) → Typed → List ℕ → Typed
behind one x [] = x
behind one x (place ∷ places) = one (behind one x places) place

-- ---- chains of operators

abbrev pub chain_of : Typed → Chain
chain_of x = record { first = x.bound; operands = []; class = x.class; fault = x.fault }

abbrev pub chained_on : Chain → Arithmetic → ℕ → Typed → Chain
chained_on c op place y = record {
  first = c.first;
  operands = c.operands ++ roll-Operand (record { op = op; right = y.bound }) ∷ [];
  class = of.Number;
  fault = sooner c.fault (refused (agrees of.Number c.class && agrees of.Number y.class) place y.fault);
}

abbrev pub chain_typed : Chain → Typed
chain_typed c = record { class = of.Number; bound = is.Chain c.first c.operands; form = form.Other; fault = c.fault }

-- ---- AND and OR

abbrev pub junction_of : Typed → Junction
junction_of x = record { parts = x.bound ∷ []; class = x.class; fault = x.fault }

abbrev pub joined_on : Junction → ℕ → Typed → Junction
joined_on j place y = record {
  parts = j.parts ++ y.bound ∷ [];
  class = of.Truth;
  fault = sooner j.fault (refused (agrees of.Truth j.class && agrees of.Truth y.class) place y.fault);
}

abbrev pub junction_typed : (List Bound → Bound) → Junction → Typed
junction_typed make j = record { class = of.Truth; bound = make j.parts; form = form.Other; fault = j.fault }

-- ---- IN

abbrev pub within : Typed → ℕ → ℕ → Result (ℕ × ℕ) TimeFault → Typed
within x word place (Ok i) = record { class = of.Truth; bound = is.InInterval x.bound i.0 i.1; form = form.Other; fault = refused (agrees of.Time x.class) word x.fault }
within x word place (Err e) = record {
  class = of.Truth;
  bound = is.InInterval x.bound 0 0;
  form = form.Other;
  fault = sooner (refused (agrees of.Time x.class) word x.fault) (Some (record { code = code.TimeLiteral; place = place }));
}

abbrev pub in_text : Typed → ℕ → List ℕ → ℕ → Typed
in_text x word bytes place = within x word place (interval_of_text bytes)

abbrev pub listing_of : Class → Listing
listing_of class = record { cells = []; class = class; agree = true; fault = None }

abbrev pub listed_on : Listing → Constant → Listing
listed_on l c = record {
  cells = l.cells ++ c.cell ∷ [];
  class = with l.class c.class;
  agree = l.agree && agrees l.class c.class;
  fault = sooner l.fault c.fault;
}

abbrev pub among : Typed → ℕ → Listing → Typed
among x place l = record {
  class = of.Truth;
  bound = is.InList x.bound l.cells;
  form = form.Other;
  fault = sooner (refused l.agree place x.fault) l.fault;
}
