-- The grammar of lines. `X text value rest` says that the text is a spelling of the value, and then the rest. InfluxDB
-- line protocol reference: syntax, special characters, naming restrictions; the escapes are this project's profile.
use Rattle.std.specs.Prelude.{◌≡◌, ℕ, zero, suc, Bool, true, false, ◌==◌, ◌⊎◌, List, [], ◌∷◌, ◌++◌, Option, Some, None, length, take, ◌-◌}
use Rattle.std.specs.Str.{is_utf8}
use Rattle.qd_ilp.specs.Cut.{begins, at_end, is_special, is_quoted_special, escapes, stops, ends_word}
use Rattle.qd_ilp.specs.Value.{Value, Tag, Text, Moment, bare, is_empty, is_stamp, stamp}
use Rattle.qd_ilp.specs.Line.{Item, Row, Line, Blank, Gives}

-- a byte of a name: behind a backslash where that makes it plain, else as it is
abbrev pub NameByte : List ℕ → ℕ → List ℕ → Type 0
NameByte text b more = ((text ≡ 92 ∷ b ∷ more) × (is_special b ≡ true)) ⊎ ((text ≡ b ∷ more) × (stops text ≡ false) × (escapes is_special text ≡ false))

-- A table's name, a name or a tag's value: its bytes, up to a separator or the end of the line.
abbrev pub Name : List ℕ → List ℕ → List ℕ → Type 0
Name text [] rest = (text ≡ rest) × (stops text ≡ true)
Name text (b ∷ name) rest = (more : List ℕ) × NameByte text b more × Name more name rest

-- a byte of a quoted text
abbrev pub QuotedByte : List ℕ → ℕ → List ℕ → Type 0
QuotedByte text b more = ((text ≡ 92 ∷ b ∷ more) × (is_quoted_special b ≡ true)) ⊎ ((text ≡ b ∷ more) × ((b == 34) ≡ false) × (escapes is_quoted_special text ≡ false))

-- a quoted text, from behind its opening quote, over the ends of lines
abbrev pub Quoted : List ℕ → List ℕ → List ℕ → Type 0
Quoted text [] rest = text ≡ 34 ∷ rest
Quoted text (b ∷ quoted) rest = (more : List ℕ) × QuotedByte text b more × Quoted more quoted rest

-- a value that is no text: its bytes, up to a comma, a space or the end of the line
abbrev pub Word : List ℕ → List ℕ → List ℕ → Type 0
Word text [] rest = (text ≡ rest) × (ends_word text ≡ true)
Word text (b ∷ word) rest = (more : List ℕ) × (text ≡ b ∷ more) × (ends_word text ≡ false) × Word more word rest

-- what is not empty
abbrev pub IsSome : List ℕ → Type 0
IsSome w = is_empty w ≡ false

-- the value of a tag, and that of a field: a quoted text, or another value
abbrev pub TagValue : List ℕ → Value → List ℕ → Type 0
TagValue text v rest = (tag : List ℕ) × (v ≡ Tag tag) × Name text tag rest × IsSome tag

abbrev pub FieldValue : List ℕ → Value → List ℕ → Type 0
FieldValue text v rest = ((quoted more : List ℕ) × (v ≡ Text quoted) × (text ≡ 34 ∷ more) × Quoted more quoted rest) ⊎ ((w : List ℕ) × (v ≡ bare w) × Word text w rest × IsSome w × (begins 34 text ≡ false))

abbrev pub HasValue : Bool → List ℕ → Value → List ℕ → Type 0
HasValue true text v rest = TagValue text v rest
HasValue false text v rest = FieldValue text v rest

-- a name, an equals sign and a value
abbrev pub IsItem : Bool → List ℕ → Item → List ℕ → Type 0
IsItem tag text item rest = (more : List ℕ) × Name text item.name (61 ∷ more) × IsSome item.name × HasValue tag more item.value rest

-- items, each behind a comma
abbrev pub Items : Bool → List ℕ → List Item → List ℕ → Type 0
Items tag text [] rest = (text ≡ rest) × (begins 44 text ≡ false)
Items tag text (item ∷ items) rest = (more next : List ℕ) × (text ≡ 44 ∷ more) × IsItem tag more item next × Items tag next items rest

-- items, parted by commas
abbrev pub Parted : Bool → List ℕ → List Item → List ℕ → Type 0
Parted tag text [] rest = ⊥
Parted tag text (item ∷ items) rest = (next : List ℕ) × IsItem tag text item next × Items tag next items rest

-- spaces, as many as there are
abbrev pub spaces : ℕ → List ℕ
spaces zero = []
spaces (suc n) = 32 ∷ spaces n

abbrev pub Spaced : List ℕ → List ℕ → Type 0
Spaced text rest = (n : ℕ) × (text ≡ spaces n ++ rest) × (begins 32 rest ≡ false)

-- the end of a line: the end of the text, LF, or CR and LF
abbrev pub EndsLine : List ℕ → List ℕ → Type 0
EndsLine text rest = ((text ≡ []) × (rest ≡ [])) ⊎ ((text ≡ 10 ∷ rest) ⊎ (text ≡ 13 ∷ 10 ∷ rest))

-- behind tags and fields: spaces or none, and the end of the line; or spaces, a stamp, spaces or none, and the end
abbrev pub Tail : List ℕ → Option Moment → List ℕ → Type 0
Tail text None rest = (end : List ℕ) × Spaced text end × EndsLine end rest
Tail text (Some moment) rest =
    (more w behind end : List ℕ) × (begins 32 text ≡ true) × Spaced text more × Word more w behind × (is_stamp w ≡ true) × (moment ≡ stamp w) × Spaced behind end × EndsLine end rest

-- behind the tags: fields behind spaces, or none
abbrev pub Fields : List ℕ → List Item → Option Moment → List ℕ → Type 0
Fields text [] moment rest = Tail text moment rest
Fields text (field ∷ fields) moment rest =
    (more next : List ℕ) × (begins 32 text ≡ true) × Spaced text more × Parted false more (field ∷ fields) next × Tail next moment rest

-- A line that gives a row: its table, its tags, its fields and its stamp. It has a tag or a field.
abbrev pub IsRow : List ℕ → Row → List ℕ → Type 0
IsRow text row rest =
    (tags fields : List Item) × (named behind : List ℕ) × Name text row.table named × IsSome row.table × Items true named tags behind × Fields behind fields row.moment rest × (row.items ≡ tags ++ fields)
    × (is_empty (tags ++ fields) ≡ false)

-- anything up to the end of the line
abbrev pub Comment : List ℕ → List ℕ → List ℕ → Type 0
Comment text [] rest = (text ≡ rest) × (at_end text ≡ true)
Comment text (b ∷ bs) rest = (more : List ℕ) × (text ≡ b ∷ more) × (at_end text ≡ false) × Comment more bs rest

-- a line and its end: nothing but spaces; a comment, which begins with `#`; or a line that gives a row
abbrev pub IsLine : List ℕ → Line → List ℕ → Type 0
IsLine text Blank rest =
    ((end : List ℕ) × Spaced text end × EndsLine end rest)
    ⊎ ((comment end : List ℕ) × (begins 35 text ≡ true) × Comment text comment end × EndsLine end rest)
IsLine text (Gives row) rest = (begins 35 text ≡ false) × IsRow text row rest

-- a line whose bytes are UTF-8
abbrev pub ReadsLine : List ℕ → Line → List ℕ → Type 0
ReadsLine text line rest = IsLine text line rest × (is_utf8 (take (length text - length rest) text) ≡ true)
