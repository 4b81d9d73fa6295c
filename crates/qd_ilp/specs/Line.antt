-- What a line says, and how it is read from left to right: each part gives its value and the text behind it.
use Rattle.std.specs.Prelude.{ℕ, zero, suc, ◌-◌, Bool, true, false, not, ◌||◌, ◌&&◌, List, [], ◌∷◌, ◌++◌, ◌==◌, length, take, drop, Option, Some, None, if◌then◌else◌}
use Rattle.std.specs.Str.{is_utf8}
use Rattle.qd_ilp.specs.Cut.{◌>>=◌, begins, at_end, cut, word, closed}
use Rattle.qd_ilp.specs.Value.{Value, Tag, Text, Moment, bare, is_empty, is_stamp, stamp}

-- a tag or a field: the name of a column and its value
pub record Item : Type 0 where
  pub name : List ℕ
  pub value : Value

-- a line that gives a row: its table, its tags and then its fields, and its stamp where it has one
pub record Row : Type 0 where
  pub table : List ℕ
  pub items : List Item
  pub moment : Option Moment

-- an empty line, one of spaces and a comment give no row
pub data Line : Type 0 where
  Blank : Line
  Gives : (row : Row) → Line

-- A tag's value is not empty. A field's is a quoted text, or another value, which is not empty.
unfoldable pub value_at : Bool → List ℕ → Option (Value × List ℕ)
value_at true text = let c = cut false text in if is_empty c.0 then None else Some (Tag c.0, c.1)
value_at false text =
    if begins 34 text then closed false (drop 1 text) >>= (λ c. Some (Text c.0, c.1))
    else let w = word text in if is_empty w.0 then None else Some (bare w.0, w.1)

-- name=value
unfoldable pub item_at : Bool → List ℕ → Option (Item × List ℕ)
item_at tag text =
    let c = cut false text in
    if is_empty c.0 || not (begins 61 c.1) then None else value_at tag (drop 1 c.1) >>= (λ v. Some (record { name = c.0; value = v.0 }, v.1))

-- tags, or fields, parted by commas: at most so many
unfoldable pub items_at : Bool → ℕ → List ℕ → Option (List Item × List ℕ)
items_at tag zero text = None
items_at tag (suc most) text =
    item_at tag text >>= (λ i. if begins 44 i.1 then items_at tag most (drop 1 i.1) >>= (λ r. Some (i.0 ∷ r.0, r.1)) else Some (i.0 ∷ [], i.1))

-- the text behind spaces, of which there may be none
unfoldable pub after_spaces : List ℕ → List ℕ
after_spaces [] = []
after_spaces (b ∷ bs) = if b == 32 then after_spaces bs else b ∷ bs

-- the text behind the end of a line, where one stands
abbrev pub behind_end : List ℕ → Option (List ℕ)
behind_end [] = Some []
behind_end (b ∷ bs) = if b == 10 then Some bs else if b == 13 && begins 10 bs then Some (drop 1 bs) else None

-- a stamp, with spaces behind it or none, and the end of the line
unfoldable pub stamp_at : List ℕ → Option (Option Moment × List ℕ)
stamp_at text = let w = word text in if is_stamp w.0 then behind_end (after_spaces w.1) >>= (λ rest. Some (Some (stamp w.0), rest)) else None

-- behind the tags or the fields: spaces and a stamp or neither, and the end of the line
unfoldable pub tail_at : List ℕ → Option (Option Moment × List ℕ)
tail_at text =
    if at_end (after_spaces text) then behind_end (after_spaces text) >>= (λ rest. Some (None, rest))
    else if begins 32 text then stamp_at (after_spaces text)
    else None

-- tags, each behind a comma
unfoldable pub tags_at : List ℕ → Option (List Item × List ℕ)
tags_at text = if begins 44 text then items_at true (length (drop 1 text)) (drop 1 text) else Some ([], text)

-- behind the tags: fields and a stamp, a stamp alone, or nothing
pub record Rest : Type 0 where
  pub fields : List Item
  pub moment : Option Moment
  pub after : List ℕ

abbrev pub or_else : {A : Type 0} → Option A → Option A → Option A
or_else (Some x) o = Some x
or_else None o = o

unfoldable pub fields_at : List ℕ → Option Rest
fields_at text =
    if begins 32 text then
    items_at false (length (after_spaces text)) (after_spaces text) >>= (λ i. tail_at i.1 >>= (λ t. Some (record { fields = i.0; moment = t.0; after = t.1 })))
    else None

unfoldable pub rest_at : List ℕ → Option Rest
rest_at text = or_else (tail_at text >>= (λ t. Some (record { fields = []; moment = t.0; after = t.1 }))) (fields_at text)

-- a line that gives a row has a tag or a field at least
unfoldable pub row_at : List ℕ → Option (Row × List ℕ)
row_at text =
    let c = cut false text in
    if is_empty c.0 then None
    else tags_at c.1 >>= (λ t. rest_at t.1 >>= (λ r. if is_empty (t.0 ++ r.fields) then None else Some (record { table = c.0; items = t.0 ++ r.fields; moment = r.moment }, r.after)))

-- the text from the end of this line on
unfoldable pub to_end : List ℕ → List ℕ
to_end [] = []
to_end (b ∷ bs) = if at_end (b ∷ bs) then b ∷ bs else to_end bs

-- a line and the text behind its end: a comment, nothing but spaces, or a line that gives a row
unfoldable pub line_at : List ℕ → Option (Line × List ℕ)
line_at text =
    let blank = if begins 35 text then to_end text else after_spaces text in
    if at_end blank then behind_end blank >>= (λ rest. Some (Blank, rest))
    else row_at text >>= (λ r. Some (Gives r.0, r.1))

-- The bytes of a line are UTF-8.
unfoldable pub read_line : List ℕ → Option (Line × List ℕ)
read_line text = line_at text >>= (λ l. if is_utf8 (take (length text - length l.1) text) then Some l else None)
