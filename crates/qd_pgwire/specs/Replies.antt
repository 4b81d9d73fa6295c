-- What the server writes: the messages of a reply (PostgreSQL documentation, "Frontend/Backend Protocol", "Message Flow" and
-- "Message Formats").
use Rattle.std.specs.Prelude.{ℕ, Bool, true, false, ◌||◌, ◌==◌, nat_le, if◌then◌else◌, List, [], ◌∷◌, ◌++◌, codes, length, flat_map}
use Rattle.std.specs.Fmt.{decimal, signed_decimal}
use Rattle.qd_base.specs.declared.limits.TheConstants.{MAX_TIME}
use Rattle.qd_base.specs.declared.cell.Cell.{Cell}
use Rattle.qd_base.specs.declared.cell.Cell.TheVariants as cell
use Rattle.qd_base.specs.declared.schema.Col.{Col}
use Rattle.qd_base.specs.declared.schema.ColType.{ColType}
use Rattle.qd_base.specs.declared.schema.ColType.TheVariants as kind
use Rattle.qd_base.specs.declared.request.Table.{Table}
use Rattle.qd_base.specs.declared.request.Reply.{Reply}
use Rattle.qd_base.specs.declared.request.Reply.TheVariants as reply
use Rattle.qd_base.specs.declared.unit.TimeUnit.TheVariants.{Micro}
use Rattle.qd_time.specs.Calendar.{civil_of}
use Rattle.qd_time.specs.Printed.{text_to}
use Rattle.qd_pgwire.specs.declared.limits.TheConstants.{EXTENDED_CODE}
use Rattle.qd_pgwire.specs.Messages.{message, string, u16_bytes, u32_bytes}

-- ReadyForQuery: idle, outside a transaction block
abbrev pub ready_for_query : List ℕ
ready_for_query = message 90 (codes "I")

-- the one byte that says that the connection goes on without encryption
abbrev pub no_encryption : List ℕ
no_encryption = codes "N"

-- EmptyQueryResponse, and then ReadyForQuery
abbrev pub empty_query : List ℕ
empty_query = message 73 [] ++ ready_for_query

-- ParameterStatus
abbrev pub parameter : (name value : List ℕ) → List ℕ
parameter name value = message 83 (string name ++ string value)

-- What the server tells of itself when a session starts (PostgreSQL documentation, "Message Flow", "Start-up" and "Asynchronous
-- Operations"), each a name and a value: the version, by whose number drivers ask which features are there; that texts are
-- UTF-8 and times ISO 8601, in UTC; that times are integers, and a backslash in a text stands for itself.
abbrev pub settings : List (List ℕ × List ℕ)
settings =
    (codes "server_version", codes "14.0 (Bontayug)")
    ∷ (codes "server_encoding", codes "UTF8")
    ∷ (codes "client_encoding", codes "UTF8")
    ∷ (codes "DateStyle", codes "ISO, YMD")
    ∷ (codes "TimeZone", codes "UTC")
    ∷ (codes "integer_datetimes", codes "on")
    ∷ (codes "standard_conforming_strings", codes "on")
    ∷ []

-- The answer to a start: AuthenticationOk; the settings, where the start names parameters; and ReadyForQuery.
abbrev pub told : Bool → List ℕ
told false = []
told true = flat_map (λ s. parameter s.0 s.1) settings

abbrev pub welcome : Bool → List ℕ
welcome names = message 82 (u32_bytes 0) ++ told names ++ ready_for_query

-- CommandComplete
abbrev pub complete : List ℕ → List ℕ
complete tag = message 67 (string tag)

-- ErrorResponse: the severity, the code of an internal error, and the message. What stands before the text of its message is
-- the same in each.
abbrev pub error_head : List ℕ
error_head = 83 ∷ (string (codes "ERROR") ++ 67 ∷ (string (codes "XX000") ++ 77 ∷ []))

abbrev pub error : List ℕ → List ℕ
error text = message 69 ((error_head ++ string text) ++ 0 ∷ [])

-- the types of columns by the numbers of PostgreSQL's catalogue pg_type: int8, bool, varchar and timestamp; and their sizes in
-- bytes, where -1, as two bytes, is a size that varies
abbrev pub type_of : ColType → ℕ
type_of kind.Long = 20
type_of kind.Bool = 16
type_of kind.Symbol = 1043
type_of kind.Varchar = 1043
type_of kind.Time = 1114

abbrev pub size_of : ColType → ℕ
size_of kind.Long = 8
size_of kind.Bool = 1
size_of kind.Symbol = 65535
size_of kind.Varchar = 65535
size_of kind.Time = 8

-- -1 in four bytes
abbrev pub minus_one : List ℕ
minus_one = 255 ∷ 255 ∷ 255 ∷ 255 ∷ []

-- What a row description says of a column: its name; that it is of no stored table, and of no column of one; its type and
-- size; no modifier of the type; that its values are texts.
abbrev pub column_field : Col → List ℕ
column_field col =
    string col.name ++ u32_bytes 0 ++ u16_bytes 0 ++ u32_bytes (type_of col.kind) ++ u16_bytes (size_of col.kind) ++ minus_one ++ u16_bytes 0

-- RowDescription
abbrev pub row_description : List Col → List ℕ
row_description cols = message 84 (u16_bytes (length cols) ++ flat_map column_field cols)

-- a value: its length, and its text; NULL has the length -1
abbrev pub value : List ℕ → List ℕ
value text = u32_bytes (length text) ++ text

abbrev pub truth : Bool → List ℕ
truth true = codes "t"
truth false = codes "f"

-- a moment as `2024-01-31 23:59:59.999999`
abbrev pub moment_text : ℕ → List ℕ
moment_text ts = text_to Micro 32 (civil_of ts)

-- the value of a cell; a number that is no time of the product is NULL
abbrev pub cell_value : Cell → List ℕ
cell_value cell.Null = minus_one
cell_value (cell.Long x) = value (signed_decimal x)
cell_value (cell.Bool b) = value (truth b)
cell_value (cell.Text t) = value t
cell_value (cell.Time t) = if nat_le t MAX_TIME then value (moment_text t) else minus_one

-- DataRow
abbrev pub data_row : List Cell → List ℕ
data_row row = message 68 (u16_bytes (length row) ++ flat_map cell_value row)

-- the rows of a query over the first n transactions, whose number is told as a parameter
abbrev pub query_rows : ℕ → Table → List ℕ
query_rows n table =
    parameter (codes "txn") (decimal n) ++ row_description table.cols ++ flat_map data_row table.rows
    ++ complete (codes "SELECT " ++ decimal (length table.rows)) ++ ready_for_query

-- a write that is transaction n
abbrev pub done : ℕ → List ℕ
done n = complete (codes "TXN " ++ decimal n) ++ ready_for_query

-- the texts of errors: a refusal, one over the first n transactions, and stored bytes that break their layout
abbrev pub refusal_text : (code place : ℕ) → List ℕ
refusal_text code place = codes "code " ++ decimal code ++ codes " place " ++ decimal place

abbrev pub query_refusal_text : (n code place : ℕ) → List ℕ
query_refusal_text n code place = refusal_text code place ++ codes " txn " ++ decimal n

abbrev pub damage_text : (file at : ℕ) → List ℕ
damage_text file at = codes "damaged " ++ decimal file ++ codes " " ++ decimal at

-- the connection ends behind bytes that are no message, and where nothing serves it
abbrev pub is_last : ℕ → Bool
is_last code = code == 1 || code == 50

abbrev pub refused : (code place : ℕ) → List ℕ
refused code place = error (refusal_text code place) ++ (if is_last code then [] else ready_for_query)

-- The messages of a reply.
abbrev pub pg_reply : Reply → List ℕ
pg_reply (reply.Done n) = done n
pg_reply (reply.Applied n) = done n
pg_reply (reply.Rows n table) = query_rows n table
pg_reply (reply.Refused code place) = refused code place
pg_reply (reply.QueryRefused n code place) = error (query_refusal_text n code place) ++ ready_for_query
pg_reply (reply.Damaged file at) = error (damage_text file at) ++ ready_for_query
pg_reply reply.Bye = []

-- what is said of a message of the extended query, which isn't served; Sync asks for ReadyForQuery
abbrev pub not_served : List ℕ
not_served = error (refusal_text EXTENDED_CODE 0)
