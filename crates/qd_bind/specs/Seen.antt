-- What the values of this crate are of the definitions: a bound expression without its list of refusals, in whose place stands the
-- one that is answered, and with the moments that its literals name read already.
use Rattle.std.specs.Prelude.{ℕ, Bool, List, [], ◌∷◌, ◌++◌, map, Option, Some, None}
use Rattle.std.specs.Option.{option_map}
use Rattle.qd_base.specs.declared.schema.Col.{Col}
use Rattle.qd_base.specs.declared.schema.Schema.{Schema}
use Rattle.qd_value.specs.Cells.{number, truth, text, time}
use Rattle.qd_value.specs.Cells as cells
use Rattle.qd_meaning.specs.Refusals.{least}
use Rattle.qd_meaning.specs.TimeTexts.{time_of_text}
use Rattle.qd_meaning.specs.Scopes as scopes
use Rattle.qd_meaning.specs.Scopes.{scope_column}
use Rattle.qd_meaning.specs.Typing as typing
use Rattle.qd_meaning.specs.Typing.{Plain, TextAt, NumberAt, Other}
use Rattle.qd_bind.specs.declared.class.Class.{Class}
use Rattle.qd_bind.specs.declared.class.Class.TheVariants as is
use Rattle.qd_bind.specs.declared.typed.Form.{Form}
use Rattle.qd_bind.specs.declared.typed.Form.TheVariants as form
use Rattle.qd_bind.specs.declared.typed.Typed.{Typed}
use Rattle.qd_bind.specs.declared.typed.Constant.{Constant}

abbrev pub class : Option cells.Class → Class
class None = is.Any
class (Some number) = is.Number
class (Some truth) = is.Truth
class (Some text) = is.Text
class (Some time) = is.Time

abbrev pub shape : typing.Form → Form
shape (Plain n col) = form.Column n col
shape (TextAt bytes place) = form.Text (time_of_text bytes) place
shape (NumberAt n signed place) = form.Number n signed place
shape Other = form.Other

abbrev pub typed : typing.Typed → Typed
typed t = record { class = class t.class; bound = t.bound; form = shape t.form; fault = least t.faults }

abbrev pub constant : typing.Constant → Constant
constant c = record { class = class c.class; cell = c.cell; fault = least c.faults }
