-- What is known of a line when some of its tags and fields have been gone over.
use Rattle.std.specs.Prelude.{◌≡◌, ℕ, ◌+◌, ◌<◌, ◌≤◌, Bool, true, false, not, ◌&&◌, ◌⊎◌, List, ◌++◌, Option, map, length, position, find, All, Contains}
use Rattle.std.specs.List.{list_any, IsDistinct, AllByRecursion}
use Rattle.qd_base.specs.declared.limits.TheConstants.{MAX_COLUMNS}
use Rattle.qd_base.specs.declared.schema.Col.{Col}
use Rattle.qd_base.specs.Names.{IsColumnName}
use Rattle.qd_base.specs.Schemas.{same_name}
use Rattle.qd_ilp.specs.Line.{Item}
use Rattle.qd_ilp.specs.Transaction.{is_float, is_huge, is_long_text, kind_of, misfits, name_at, with_items}
use Rattle.qd_lines.specs.declared.draft.Columns.{Columns}
use Rattle.qd_lines.specs.declared.draft.Faults.{Faults}
use Rattle.qd_lines.specs.declared.draft.Draft.{Draft}

-- the name of the designated timestamp
abbrev pub time_name : Columns → List ℕ
time_name c = name_at c.cols.now c.time

-- the columns' names are distinct, and the designated one is among them
pub record IsUsable (cols : List Col) (time : ℕ) : Type 0 where
  pub distinct : IsDistinct (λ (a : Col) (b : Col). same_name a.name b.name) cols
  pub there : time < length cols

abbrev pub Usable : Columns → Type 0
Usable c = IsUsable c.cols.now c.time

-- the columns have names that columns may have
abbrev pub AreNamed : Columns → Type 0
AreNamed c = All (λ (x : Col). IsColumnName x.name) c.cols.now

-- the column that an item makes
abbrev pub column_made : Item → Col
column_made i = record { name = i.name; kind = kind_of i.value }

-- the place of the first item that names a column
abbrev pub mark : List Item → Col → Option ℕ
mark items c = position (λ (i : Item). same_name c.name i.name) items

-- an item's value doesn't fit the type of its column
abbrev pub clashes_in : List Col → List ℕ → Item → Bool
clashes_in cols time i = not (same_name time i.name) && misfits (find (λ c. same_name c.name i.name) cols) i.value

-- what is wrong with values alone
pub record ValuesSeen (items : List Item) (f : Faults) : Type 0 where
  pub float : f.float ≡ list_any (λ (i : Item). is_float i.value) items
  pub huge : f.huge ≡ list_any (λ (i : Item). is_huge i.value) items
  pub long : f.long ≡ list_any (λ (i : Item). is_long_text i.value) items

-- an item has a name that no column has
pub record NamesSeen (items : List Item) (bad : Bool) : Type 0 where
  pub one : bad ≡ true → (item : Item) × Contains items item × (IsColumnName item.name → ⊥)
  pub none : bad ≡ false → All (λ (i : Item). IsColumnName i.name) items

-- two items have one name, or one names the designated timestamp
abbrev pub AreTwice : List ℕ → List Item → Type 0
AreTwice time items = (IsDistinct (λ (i j : Item). same_name i.name j.name) items → ⊥) ⊎ (list_any (λ (i : Item). same_name time i.name) items ≡ true)

pub record TwiceSeen (time : List ℕ) (items : List Item) (twice : Bool) : Type 0 where
  pub some : twice ≡ true → AreTwice time items
  pub none : twice ≡ false → IsDistinct (λ (i j : Item). same_name i.name j.name) items × (list_any (λ (i : Item). same_name time i.name) items ≡ false)

-- the columns after these items, and which of them each names
pub record Marked (cols : List Col) (time : List ℕ) (items : List Item) (added : List Col) (marks : List (Option ℕ)) (twice : Bool) : Type 0 where
  pub cols_after : cols ++ added ≡ with_items cols items
  pub distinct : IsDistinct (λ (a : Col) (b : Col). same_name a.name b.name) (cols ++ added)
  pub marks_are : marks ≡ map (mark items) (cols ++ added)
  pub covers : AllByRecursion (λ (i : Item). list_any (λ (c : Col). same_name c.name i.name) (cols ++ added) ≡ true) items
  pub names_twice : TwiceSeen time items twice

-- A draft of a line after these items. Where there are too many columns, it goes on with their values and names alone.
pub record Draws (c : Columns) (items : List Item) (d : Draft) : Type 0 where
  pub values : ValuesSeen items d.faults
  pub names : NamesSeen items d.faults.name
  pub clashes : d.faults.clash ≡ list_any (clashes_in c.cols.now (time_name c)) items
  pub sized : length d.marks.items ≡ length c.cols.now + length d.added
  pub few : length c.cols.now + length d.added ≤ MAX_COLUMNS → Marked c.cols.now (time_name c) items d.added d.marks.items d.faults.twice
  pub many : MAX_COLUMNS < length c.cols.now + length d.added → MAX_COLUMNS < length (with_items c.cols.now items)
