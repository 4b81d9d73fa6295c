-- A list of literals behind IN, from left to right.
use Rattle.std.specs.Prelude.{ℕ, ℤ, pos, neg_ℤ, true, false, List, [], ◌∷◌, map, fold, None, Result}
use Rattle.qd_base.specs.declared.cell.Cell.{Cell}
use Rattle.qd_base.specs.declared.cell.Cell.TheVariants as cell
use Rattle.qd_time.specs.declared.fault.TimeFault.{TimeFault}
use Rattle.qd_sql_ast.specs.declared.tree.Lit.{Lit}
use Rattle.qd_sql_ast.specs.declared.tree.Lit.TheVariants as lit
use Rattle.qd_meaning.specs.Refusals.{least}
use Rattle.qd_meaning.specs.TimeTexts.{time_of_text, time_of_number}
use Rattle.qd_meaning.specs.Typing.{time_cell, time_faults}
use Rattle.qd_bind.specs.declared.class.Class.{Class}
use Rattle.qd_bind.specs.declared.class.Class.TheVariants as of
use Rattle.qd_bind.specs.declared.typed.Constant.{Constant}
use Rattle.qd_bind.specs.declared.lists.Listing.{Listing}
use Rattle.qd_bind.specs.Steps.{listing_of, listed_on}

abbrev pub plain : Class → Cell → Constant
plain class c = record { class = class; cell = c; fault = None }

abbrev pub timed : Result ℕ TimeFault → ℕ → Constant
timed t place = record { class = of.Time; cell = time_cell t; fault = least (time_faults t place) }

abbrev pub number : Class → ℤ → ℕ → Constant
number of.Time n place = timed (time_of_number n) place
number _ n place = plain of.Number (cell.Long n)

abbrev pub text : Class → List ℕ → ℕ → Constant
text of.Time bytes place = timed (time_of_text bytes) place
text _ bytes place = plain of.Text (cell.Text bytes)

abbrev pub constant : Class → Lit → Constant
constant class (lit.Number n) = number class (pos n.value) n.at
constant class (lit.Minus minus n) = number class (neg_ℤ (pos n.value)) minus
constant class (lit.Text t) = text class t.text t.at
constant class (lit.True place) = plain of.Truth (cell.Bool true)
constant class (lit.False place) = plain of.Truth (cell.Bool false)
constant class (lit.Null place) = plain of.Any cell.Null

-- each literal, with the class of what is tested in front
abbrev pub listing : Class → List Lit → Listing
listing class lits = fold listed_on (listing_of class) (map (constant class) lits)
