-- How a tag or a field is written with every escape that it needs.
use Rattle.std.specs.Prelude.{◌≡◌, ℕ, Bool, true, false, not, ◌||◌, ◌==◌, List, [], ◌∷◌, ◌++◌, Option, Some, None, if◌then◌else◌}
use Rattle.std.specs.List.{list_all}
use Rattle.qd_ilp.specs.Cut.{begins, is_special, is_quoted_special}
use Rattle.qd_ilp.specs.Value.{Value, Tag, Text, Moment, bare, is_empty, is_stamp, stamp}
use Rattle.qd_ilp.specs.Line.{Item, Row}
use Rattle.qd_ilp.specs.Grammar.{IsSome}

-- a backslash before each byte that it makes plain
abbrev pub escaped : (ℕ → Bool) → List ℕ → List ℕ
escaped special [] = []
escaped special (b ∷ bs) = if special b then 92 ∷ b ∷ escaped special bs else b ∷ escaped special bs

-- bytes without LF and CR, which no name and no tag's value has
abbrev pub is_one_line : List ℕ → Bool
is_one_line w = list_all (λ b. not (b == 10 || b == 13)) w

-- bytes that end no value
abbrev pub is_word : List ℕ → Bool
is_word w = list_all (λ b. not (b == 44 || b == 32 || b == 10 || b == 13)) w

-- a value that is no text, in these bytes
abbrev pub IsBare : Value → List ℕ → Type 0
IsBare v w = (v ≡ bare w) × IsSome w × (is_word w ≡ true) × (begins 34 w ≡ false)

-- a tag's value, and a field's, in these bytes
abbrev pub TagIn : Value → List ℕ → Type 0
TagIn (Tag tag) bytes = (bytes ≡ escaped is_special tag) × IsSome tag × (is_one_line tag ≡ true)
TagIn _ bytes = ⊥

abbrev pub FieldIn : Value → List ℕ → Type 0
FieldIn (Text text) bytes = bytes ≡ 34 ∷ (escaped is_quoted_special text ++ 34 ∷ [])
FieldIn (Tag tag) bytes = ⊥
FieldIn v bytes = IsBare v bytes

abbrev pub ValueIn : Bool → Value → List ℕ → Type 0
ValueIn true v bytes = TagIn v bytes
ValueIn false v bytes = FieldIn v bytes

-- a tag or a field in these bytes: its name, an equals sign and its value
abbrev pub ItemIn : Bool → Item → List ℕ → Type 0
ItemIn tag item bytes = (value : List ℕ) × (bytes ≡ escaped is_special item.name ++ 61 ∷ value) × IsSome item.name × (is_one_line item.name ≡ true) × ValueIn tag item.value value

-- items in these bytes, each behind a comma
abbrev pub ItemsIn : Bool → List Item → List ℕ → Type 0
ItemsIn tag [] bytes = bytes ≡ []
ItemsIn tag (item ∷ items) bytes = (one more : List ℕ) × (bytes ≡ 44 ∷ (one ++ more)) × ItemIn tag item one × ItemsIn tag items more

-- fields in these bytes, behind a space, where there are any
abbrev pub FieldsIn : List Item → List ℕ → Type 0
FieldsIn [] bytes = bytes ≡ []
FieldsIn (field ∷ fields) bytes = (one more : List ℕ) × (bytes ≡ 32 ∷ (one ++ more)) × ItemIn false field one × ItemsIn false fields more

-- a stamp in these bytes, behind a space, where there is one
abbrev pub StampIn : Option Moment → List ℕ → Type 0
StampIn None bytes = bytes ≡ []
StampIn (Some moment) bytes = (w : List ℕ) × (bytes ≡ 32 ∷ w) × (moment ≡ stamp w) × (is_stamp w ≡ true)

-- A row as a line: its table, its tags, its fields and its stamp, with every escape that they need. It has a tag or a
-- field.
abbrev pub RowIn : Row → List ℕ → Type 0
RowIn row bytes =
    (tags fields : List Item) × (tagged fielded stamped : List ℕ) × (bytes ≡ escaped is_special row.table ++ (tagged ++ (fielded ++ stamped))) × IsSome row.table × (is_one_line row.table ≡ true) × ItemsIn true tags tagged
    × FieldsIn fields fielded × StampIn row.moment stamped × (row.items ≡ tags ++ fields) × (is_empty (tags ++ fields) ≡ false)
