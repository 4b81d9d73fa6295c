-- Results as JSON (RFC 8259), without blanks.
use Rattle.std.specs.Prelude.{ℕ, ◌/◌, ◌%◌, Bool, true, false, ◌||◌, ◌==◌, nat_lt, nat_le, List, [], ◌∷◌, ◌++◌, codes, length, map, if◌then◌else◌}
use Rattle.std.specs.List.{flat_map, join_with_byte}
use Rattle.std.specs.Fmt.{decimal, digit_glyph, signed_decimal}
use Rattle.qd_base.specs.declared.limits.TheConstants.{MAX_TIME}
use Rattle.qd_base.specs.declared.cell.Cell.{Cell}
use Rattle.qd_base.specs.declared.cell.Cell.TheVariants as cell
use Rattle.qd_base.specs.declared.schema.Col.{Col}
use Rattle.qd_base.specs.declared.schema.ColType.{ColType}
use Rattle.qd_base.specs.declared.schema.ColType.TheVariants as kind
use Rattle.qd_base.specs.declared.request.Table.{Table}
use Rattle.qd_time.specs.Printed.{time_text}

-- a byte that doesn't stand in a string by itself: a control byte, a quote, a backslash
abbrev pub needs_escape : ℕ → Bool
needs_escape b = nat_lt b 32 || b == 34 || b == 92

-- what stands for a byte in a string: its code below 32, a backslash before a quote and a backslash, else itself
abbrev pub escaped : ℕ → List ℕ
escaped b =
    if nat_lt b 32 then codes "\\u00" ++ digit_glyph false (b / 16) ∷ digit_glyph false (b % 16) ∷ []
    else (if b == 34 || b == 92 then 92 ∷ b ∷ [] else b ∷ [])

-- a text as a string
abbrev pub json_text : List ℕ → List ℕ
json_text text = 34 ∷ (flat_map escaped text ++ 34 ∷ [])

abbrev pub json_truth : Bool → List ℕ
json_truth true = codes "true"
json_truth false = codes "false"

-- a time is a text; a number that is no time of the product is null
abbrev pub json_cell : Cell → List ℕ
json_cell cell.Null = codes "null"
json_cell (cell.Long x) = signed_decimal x
json_cell (cell.Bool b) = json_truth b
json_cell (cell.Text t) = json_text t
json_cell (cell.Time t) = if nat_le t MAX_TIME then json_text (time_text t) else codes "null"

abbrev pub kind_name : ColType → List ℕ
kind_name kind.Long = codes "LONG"
kind_name kind.Bool = codes "BOOLEAN"
kind_name kind.Symbol = codes "SYMBOL"
kind_name kind.Varchar = codes "VARCHAR"
kind_name kind.Time = codes "TIMESTAMP"

-- values with commas between them
abbrev pub listed : List (List ℕ) → List ℕ
listed values = join_with_byte 44 values

abbrev pub json_column : Col → List ℕ
json_column col = codes "{\"name\":" ++ json_text col.name ++ codes ",\"type\":\"" ++ kind_name col.kind ++ codes "\"}"

abbrev pub json_row : List Cell → List ℕ
json_row row = codes "[" ++ listed (map json_cell row) ++ codes "]"

-- the answer of a statement over the first n transactions
abbrev pub json_rows : (statement : List ℕ) (n : ℕ) → Table → List ℕ
json_rows statement n table =
    codes "{\"query\":" ++ json_text statement
    ++ codes ",\"columns\":[" ++ listed (map json_column table.cols)
    ++ codes "],\"dataset\":[" ++ listed (map json_row table.rows)
    ++ codes "],\"count\":" ++ decimal (length table.rows)
    ++ codes ",\"txn\":" ++ decimal n ++ codes "}"

abbrev pub json_txn : ℕ → List ℕ
json_txn n = codes "{\"txn\":" ++ decimal n ++ codes "}"

abbrev pub json_refusal : (code place : ℕ) → List ℕ
json_refusal code place = codes "{\"code\":" ++ decimal code ++ codes ",\"place\":" ++ decimal place ++ codes "}"

-- a refusal over the first n transactions
abbrev pub json_query_refusal : (n code place : ℕ) → List ℕ
json_query_refusal n code place =
    codes "{\"code\":" ++ decimal code ++ codes ",\"place\":" ++ decimal place ++ codes ",\"txn\":" ++ decimal n ++ codes "}"

-- stored bytes that break their layout
abbrev pub json_damage : (file at : ℕ) → List ℕ
json_damage file at = codes "{\"file\":" ++ decimal file ++ codes ",\"at\":" ++ decimal at ++ codes "}"
