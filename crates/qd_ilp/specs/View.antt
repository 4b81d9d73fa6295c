-- What a batch lends, as the definitions have it.
use Rattle.std.specs.Prelude.{ℕ, zero, suc, List, [], ◌∷◌}
use Rattle.qd_ilp.specs.declared.view.ValueView.{ValueView}
use Rattle.qd_ilp.specs.declared.view.ValueView.TheVariants as lent
use Rattle.qd_ilp.specs.declared.view.ItemView.{ItemView}
use Rattle.qd_ilp.specs.Value.{Value, Tag, Text, Long, Huge, Truth, Other}
use Rattle.qd_ilp.specs.Line.{Item, Line, Blank, Gives}

abbrev pub value_of : ValueView → Value
value_of (lent.Tag text) = Tag text.now
value_of (lent.Text text) = Text text.now
value_of (lent.Long number) = Long number
value_of lent.Huge = Huge
value_of (lent.Truth truth) = Truth truth
value_of lent.Other = Other

abbrev pub item_of : ItemView → Item
item_of item = record { name = item.name.now; value = value_of item.value }

-- how many lines give a row
abbrev pub rows_among : List Line → ℕ
rows_among [] = 0
rows_among (Blank ∷ lines) = rows_among lines
rows_among (Gives row ∷ lines) = suc (rows_among lines)

-- the lines behind the first rows
abbrev pub behind_rows : ℕ → List Line → List Line
behind_rows zero lines = lines
behind_rows (suc n) [] = []
behind_rows (suc n) (Blank ∷ lines) = behind_rows (suc n) lines
behind_rows (suc n) (Gives row ∷ lines) = behind_rows n lines
