-- What the value of a field says, and what a stamp does. InfluxDB line protocol reference: booleans, integers,
-- timestamps. The range of a LONG is QuestDB's: its least 64-bit number stands for NULL.
use Rattle.std.specs.Prelude.{ℕ, ◌+◌, ◌-◌, ◌*◌, ◌/◌, Bool, true, false, not, ◌||◌, ◌&&◌, List, [], ◌∷◌, ◌==◌, nat_le, length, take, drop, fold, codes, if◌then◌else◌, pos, ℤ, neg_ℤ}
use Rattle.std.specs.List.{list_all}
use Rattle.std.specs.Str.{bytes_eq}
use Rattle.qd_base.specs.declared.limits.TheConstants.{MAX_NUMBER, MAX_TIME}
use Rattle.qd_ilp.specs.Cut.{begins}

-- A tag's value, or that of a field: a quoted text, a LONG, a number past the range of one, a truth word, or something
-- else, which no column takes.
pub data Value : Type 0 where
  Tag : (text : List ℕ) → Value
  Text : (text : List ℕ) → Value
  Long : (number : ℤ) → Value
  Huge : Value
  Truth : (truth : Bool) → Value
  Other : Value

-- the moment of a stamp in microseconds since 1970, or one that is no timestamp of the product
pub data Moment : Type 0 where
  At : (micros : ℕ) → Moment
  Outside : Moment

-- the texts are one of these
abbrev pub is_true : List ℕ → Bool
is_true w = bytes_eq w (codes "t") || bytes_eq w (codes "T") || bytes_eq w (codes "true") || bytes_eq w (codes "True") || bytes_eq w (codes "TRUE")

abbrev pub is_false : List ℕ → Bool
is_false w = bytes_eq w (codes "f") || bytes_eq w (codes "F") || bytes_eq w (codes "false") || bytes_eq w (codes "False") || bytes_eq w (codes "FALSE")

-- a decimal digit, and the number that digits spell
abbrev pub is_digit : ℕ → Bool
is_digit b = nat_le 48 b && nat_le b 57

abbrev pub is_empty : {T : Type 0} → List T → Bool
is_empty [] = true
is_empty (x ∷ xs) = false

abbrev pub are_digits : List ℕ → Bool
are_digits ds = not (is_empty ds) && list_all is_digit ds

abbrev pub number_of : List ℕ → ℕ
number_of ds = fold (λ n b. 10 * n + (b - 48)) 0 ds

-- without the sign
abbrev pub unsigned : List ℕ → List ℕ
unsigned w = if begins 45 w then drop 1 w else w

-- a LONG is digits with an `i` behind them, and a minus sign before them or none
abbrev pub long_digits : List ℕ → List ℕ
long_digits w = take (length (unsigned w) - 1) (unsigned w)

abbrev pub is_long : List ℕ → Bool
is_long w = begins 105 (drop (length (unsigned w) - 1) (unsigned w)) && are_digits (long_digits w)

abbrev pub long_of : Bool → ℕ → Value
long_of negative n = if nat_le n MAX_NUMBER then Long (if negative then neg_ℤ (pos n) else pos n) else Huge

-- what a value says that is no text
unfoldable pub bare : List ℕ → Value
bare w =
    if is_true w then Truth true
    else if is_false w then Truth false
    else if is_long w then long_of (begins 45 w) (number_of (long_digits w))
    else Other

-- A stamp is digits with a minus sign before them or none: nanoseconds since 1970, floored to microseconds. Below 0 the
-- floor lies below 0 too, and is no timestamp.
abbrev pub is_stamp : List ℕ → Bool
is_stamp w = are_digits (unsigned w)

abbrev pub moment_of : Bool → ℕ → Moment
moment_of negative nanos = if negative && not (nanos == 0) then Outside else if nat_le (nanos / 1000) MAX_TIME then At (nanos / 1000) else Outside

-- what a stamp begins with: a digit or a minus sign
abbrev pub is_numeral : ℕ → Bool
is_numeral b = b == 45 || is_digit b

abbrev pub begins_numeral : List ℕ → Bool
begins_numeral [] = false
begins_numeral (b ∷ bs) = is_numeral b

unfoldable pub stamp : List ℕ → Moment
stamp w = moment_of (begins 45 w) (number_of (unsigned w))
