-- What the fields of a head say. Names are compared without regard to ASCII case (RFC 9110, section 5.1).
use Rattle.std.specs.Prelude.{ℕ, Bool, ◌&&◌, ◌||◌, nat_lt, nat_le, List, length, codes, map, count_by, if◌then◌else◌, Option, Some, None, option_map}
use Rattle.std.specs.List.{find, list_all, list_any}
use Rattle.std.specs.Char.{is_ascii_digit}
use Rattle.std.specs.Str.{str_eq_ignore_ascii_case}
use Rattle.std.specs.Str.Parse.{digits_value}
use Rattle.httparse.specs.Grammar.{RequestHead}
use Rattle.httparse.specs.Spans.{name_and_value}
use Rattle.qd_http.specs.declared.limits.TheConstants.{MAX_BODY_BYTES}

-- a field: its name, and its value without the white space around it
abbrev pub Pair : Type 0
Pair = List ℕ × List ℕ

abbrev pub pairs_of : RequestHead → List Pair
pairs_of head = map name_and_value head.fields

abbrev pub is_named : List ℕ → Pair → Bool
is_named name field = str_eq_ignore_ascii_case field.0 name

-- the number that a length writes: 1 to 8 decimal digits, and no more than a body may have
abbrev pub size_of : List ℕ → Option ℕ
size_of value =
    if nat_lt 0 (length value) && nat_le (length value) 8 && list_all is_ascii_digit value && nat_le (digits_value 10 value) MAX_BODY_BYTES
    then Some (digits_value 10 value) else None

-- the value of the first field of a name
abbrev pub value_of : List ℕ → List Pair → Option (List ℕ)
value_of name fields = option_map (λ field. field.1) (find (is_named name) fields)

-- the length that a value gives, or 0 where there is none
abbrev pub size_in : Option (List ℕ) → Option ℕ
size_in None = Some 0
size_in (Some value) = size_of value

-- The length of a request's body (RFC 9112, section 6): that of its one Content-Length, or 0 without one. A second one, another
-- value and a Transfer-Encoding give none.
abbrev pub body_size : List Pair → Option ℕ
body_size fields =
    if list_any (is_named (codes "transfer-encoding")) fields || nat_lt 1 (count_by (is_named (codes "content-length")) fields)
    then None else size_in (value_of (codes "content-length") fields)

-- a field asks for the end of the connection (RFC 9112, section 9.6)
abbrev pub is_close : Pair → Bool
is_close field = is_named (codes "connection") field && str_eq_ignore_ascii_case field.1 (codes "close")

abbrev pub closes : List Pair → Bool
closes fields = list_any is_close fields
