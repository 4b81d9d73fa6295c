-- Messages of PostgreSQL's protocol 3.0 (PostgreSQL documentation, "Frontend/Backend Protocol", "Message Formats"), and what
-- stands at the front of the bytes that a client sends. Numbers have their highest byte first.
use Rattle.std.specs.Prelude.{ℕ, ◌+◌, ◌-◌, Bool, not, ◌&&◌, ◌||◌, ◌==◌, nat_lt, nat_le, if◌then◌else◌, List, [], ◌∷◌, ◌++◌, length, flat_map, take, drop, slice_index, Option, Some, None}
use Rattle.std.specs.Int.{w16, w32, to_be_bytes, from_be_bytes}
use Rattle.std.specs.List.{list_any}
use Rattle.qd_pgwire.specs.declared.limits.TheConstants.{BARE_START_LENGTH, CANCEL_CODE, ENCRYPT_CODE, GSS_CODE, MAX_MESSAGE_LENGTH, MAX_START_LENGTH, MIN_START_LENGTH, PROTOCOL_CODE}
use Rattle.qd_pgwire.specs.declared.found.Kind.{Kind}
use Rattle.qd_pgwire.specs.declared.found.Kind.TheVariants as kind
use Rattle.qd_pgwire.specs.declared.found.Mode.{Mode}
use Rattle.qd_pgwire.specs.declared.found.Mode.TheVariants as mode
use Rattle.qd_pgwire.specs.declared.found.Found.{Found}
use Rattle.qd_pgwire.specs.declared.found.Found.TheVariants as found

-- a number in two bytes, in four bytes
abbrev pub u16_bytes : ℕ → List ℕ
u16_bytes n = to_be_bytes w16 n

abbrev pub u32_bytes : ℕ → List ℕ
u32_bytes n = to_be_bytes w32 n

-- the number that four bytes spell, from an offset on
abbrev pub u32_at : ℕ → List ℕ → ℕ
u32_at at bytes = from_be_bytes w32 (drop at bytes)

-- A message: the byte of its type, the length of what follows, itself with it, and its body.
abbrev pub message : ℕ → List ℕ → List ℕ
message type body = type ∷ (u32_bytes (4 + length body) ++ body)

-- a text, and the zero byte that ends it
abbrev pub string : List ℕ → List ℕ
string text = text ++ 0 ∷ []

-- the bytes are a text and one zero byte, their last
abbrev pub is_string : List ℕ → Bool
is_string bytes =
    nat_lt 0 (length bytes) && (slice_index bytes (length bytes - 1) == 0)
    && not (list_any (λ b. b == 0) (take (length bytes - 1) bytes))

-- Which message a byte begins: Query `Q`; Terminate `X`; Parse `P`, Bind `B`, Describe `D`, Execute `E` and Close `C` of the
-- extended query; Flush `H`; Sync `S`.
abbrev pub is_extended : ℕ → Bool
is_extended byte = byte == 80 || byte == 66 || byte == 68 || byte == 69 || byte == 67

abbrev pub kind_of : ℕ → Option Kind
kind_of byte =
    if byte == 81 then Some kind.Query
    else (if byte == 88 then Some kind.Terminate
    else (if is_extended byte then Some kind.Extended
    else (if byte == 72 then Some kind.Flush
    else (if byte == 83 then Some kind.Sync
    else None))))

-- the bytes of a message between two offsets
abbrev pub between : ℕ → ℕ → List ℕ → List ℕ
between start end bytes = take (end - start) (drop start bytes)

-- StartupMessage: a length, itself with it, the code of the protocol's version, and parameters, each the strings of a name and of
-- a value, with one zero byte behind the last
abbrev pub named : List (List ℕ × List ℕ) → List ℕ
named parameters = flat_map (λ p. string p.0 ++ string p.1) parameters ++ 0 ∷ []

abbrev pub startup : List (List ℕ × List ℕ) → List ℕ
startup parameters = u32_bytes (8 + length (named parameters)) ++ u32_bytes PROTOCOL_CODE ++ named parameters

-- Whether a start of this length names parameters: where there are none it ends behind that zero byte, or before it.
abbrev pub names_parameters : ℕ → Bool
names_parameters len = nat_lt BARE_START_LENGTH len

-- A connection begins with a length, itself with it, and a code: that of the protocol's version, of a request for encryption,
-- by SSL or by GSSAPI, or of a request to cancel. A request to cancel is taken by its code alone.
abbrev pub start_with : (len code there : ℕ) → Found
start_with len code there =
    if code == CANCEL_CODE then found.Whole kind.Cancel 8
    else (if (code == ENCRYPT_CODE || code == GSS_CODE) && len == 8 then found.Whole kind.Encrypt 8
    else (if code == PROTOCOL_CODE && nat_le MIN_START_LENGTH len && nat_le len MAX_START_LENGTH
    then (if nat_lt there len then found.Short else found.Whole (kind.Start (names_parameters len)) len)
    else found.Wrong))

abbrev pub first_start : List ℕ → Found
first_start bytes = if nat_lt (length bytes) 8 then found.Short else start_with (u32_at 0 bytes) (u32_at 4 bytes) (length bytes)

-- a message that has come whole; a query is a text
abbrev pub whole_of : Kind → ℕ → List ℕ → Found
whole_of kind.Query size body = if is_string body then found.Whole kind.Query size else found.Wrong
whole_of k size body = found.Whole k size

abbrev pub message_with : Option Kind → ℕ → List ℕ → Found
message_with None len bytes = found.Wrong
message_with (Some k) len bytes =
    if nat_lt len 4 || nat_lt MAX_MESSAGE_LENGTH len then found.Wrong
    else (if nat_lt (length bytes) (1 + len) then found.Short else whole_of k (1 + len) (between 5 (1 + len) bytes))

abbrev pub first_message : List ℕ → Found
first_message bytes = if nat_lt (length bytes) 5 then found.Short else message_with (kind_of (slice_index bytes 0)) (u32_at 1 bytes) bytes

-- what stands at the front of the bytes
abbrev pub first : Mode → List ℕ → Found
first mode.Starting bytes = first_start bytes
first mode.Ready bytes = first_message bytes
first mode.Skipping bytes = first_message bytes

-- the text of a query of so many bytes: what stands before its zero byte
abbrev pub text_in : ℕ → List ℕ → List ℕ
text_in size bytes = between 5 (size - 1) bytes
