-- How results and replies are printed. CSV is that of RFC 4180 with a header line, lines that end with LF, and quotes
-- only where they are needed; the reply lines are this project's own.
use Rattle.std.specs.Prelude.{ℕ, Bool, true, false, ◌||◌, List, [], ◌∷◌, ◌++◌, ◌==◌, nat_le, codes, length, map, if◌then◌else◌}
use Rattle.std.specs.List.{flat_map, list_any, join_with_byte}
use Rattle.std.specs.Fmt.{decimal, signed_decimal}
use Rattle.qd_base.specs.declared.limits.TheConstants.{MAX_TIME}
use Rattle.qd_base.specs.declared.cell.Cell.{Cell}
use Rattle.qd_base.specs.declared.cell.Cell.TheVariants as cell
use Rattle.qd_base.specs.declared.schema.Col.{Col}
use Rattle.qd_base.specs.declared.request.Table.{Table}
use Rattle.qd_base.specs.declared.request.Reply.{Reply}
use Rattle.qd_base.specs.declared.request.Reply.TheVariants as reply
use Rattle.qd_time.specs.Printed.{time_text}

-- a text stands in quotes where it is empty or holds a quote, a comma, CR or LF
abbrev pub needs_quotes : List ℕ → Bool
needs_quotes text = length text == 0 || list_any (λ b. b == 34 || b == 44 || b == 13 || b == 10) text

-- a text in double quotes, each quote in it doubled
abbrev pub quoted : List ℕ → List ℕ
quoted text = 34 ∷ (flat_map (λ b. if b == 34 then 34 ∷ 34 ∷ [] else b ∷ []) text ++ 34 ∷ [])

abbrev pub csv_text : List ℕ → List ℕ
csv_text text = if needs_quotes text then quoted text else text

abbrev pub csv_truth : Bool → List ℕ
csv_truth true = codes "true"
csv_truth false = codes "false"

-- NULL is empty, and so is a number that is no time of the product
abbrev pub csv_cell : Cell → List ℕ
csv_cell cell.Null = []
csv_cell (cell.Long x) = signed_decimal x
csv_cell (cell.Bool b) = csv_truth b
csv_cell (cell.Text t) = csv_text t
csv_cell (cell.Time t) = if nat_le t MAX_TIME then time_text t else []

-- fields parted by commas, and LF
abbrev pub csv_line : List (List ℕ) → List ℕ
csv_line fields = join_with_byte 44 fields ++ 10 ∷ []

-- a header line with the columns' names, then a line for each row
abbrev pub csv : Table → List ℕ
csv table = csv_line (map (λ (c : Col). csv_text c.name) table.cols) ++ flat_map (λ (row : List Cell). csv_line (map csv_cell row)) table.rows

-- a reply is a line, and behind that of rows stands their CSV
abbrev pub reply_bytes : Reply → List ℕ
reply_bytes (reply.Done n) = codes "K " ++ decimal n ++ 10 ∷ []
reply_bytes (reply.Rows n table) = codes "R " ++ decimal n ++ 32 ∷ (decimal (length (csv table)) ++ 10 ∷ csv table)
reply_bytes (reply.Applied n) = codes "A " ++ decimal n ++ 10 ∷ []
reply_bytes (reply.Refused code place) = codes "E " ++ decimal code ++ 32 ∷ (decimal place ++ 10 ∷ [])
reply_bytes (reply.QueryRefused n code place) = codes "F " ++ decimal n ++ 32 ∷ (decimal code ++ 32 ∷ (decimal place ++ 10 ∷ []))
reply_bytes (reply.Damaged file at) = codes "D " ++ decimal file ++ 32 ∷ (decimal at ++ 10 ∷ [])
reply_bytes reply.Bye = codes "X" ++ 10 ∷ []
