-- The steps that each rule of the grammar is made of. A rule reads from the front of a list of tokens: it gives what it
-- reads and the tokens behind, or the offset of the first token that no text has there, or none at the text's end, or that
-- brackets nest too deep before.
use Rattle.std.specs.Prelude.{◌≡◌, ℕ, zero, suc, length, ◌+◌, ◌-◌, ◌*◌, Bool, true, false, not, ◌&&◌, ◌||◌, ◌==◌, min, if◌then◌else◌, List, [], ◌∷◌, ◌++◌, map, fold, take, slice_index, Option, Some, None, Result, Ok, Err}
use Rattle.std.specs.Str.{str_eq_ignore_ascii_case}
use denote.Enum.Bare.{sameb}
use Rattle.qd_base.specs.declared.limits.TheConstants.{MAX_NUMBER}
use Rattle.qd_base.specs.declared.unit.TimeUnit.{TimeUnit}
use Rattle.qd_base.specs.declared.unit.TimeUnit.TheVariants as every
use Rattle.qd_sql_lexer.specs.contracts.token.Kind.{the_type}
use Rattle.qd_sql_lexer.specs.declared.token.Kind.{Kind}
use Rattle.qd_sql_lexer.specs.declared.token.Kind.TheVariants as kind
use Rattle.qd_sql_lexer.specs.declared.token.Token.{Token}
use Rattle.qd_sql_ast.specs.declared.stop.Halt.{Halt}
use Rattle.qd_sql_ast.specs.declared.stop.Halt.TheVariants as halt
use Rattle.qd_sql_ast.specs.declared.stop.Stop.{Stop}
use Rattle.qd_sql_ast.specs.declared.stop.Stop.TheVariants as stop
use Rattle.qd_sql_ast.specs.declared.step.TheConstants.{RESERVED}
use Rattle.qd_sql_ast.specs.declared.tree.Name.{Name}
use Rattle.qd_sql_ast.specs.declared.tree.Number.{Number}
use Rattle.qd_sql_ast.specs.declared.tree.StrideOf.{StrideOf}
use Rattle.qd_sql_ast.specs.declared.tree.Text.{Text}
use Rattle.qd_sql_lexer.specs.Tokens as tokens
use Rattle.qd_sql_ast.specs.Ranges as range
use Rattle.qd_sql_ast.specs.Ranges.{magnitude}
use Rattle.qd_sql_lexer.specs.Tokens.{Lexeme}

abbrev pub seen : Token → Lexeme
seen t = tokens.seen t

abbrev pub lexemes : List Token → List Lexeme
lexemes ts = map tokens.seen ts

-- what a rule gives
abbrev pub Read : Type 0 → Type 0
Read A = Result (A × List Lexeme) Halt

infixl 10 ◌>>=◌
abbrev pub ◌>>=◌ : {A B : Type 0} → Result A Halt → (A → Result B Halt) → Result B Halt
(Ok x) >>= f = f x
(Err e) >>= f = Err e

-- what a function returned, and the tokens that it left, are what reading gives, unless memory ran out
abbrev pub Reads : {A : Type 0} → Read A → Result A Stop → List Lexeme → Type 0
Reads read (Ok x) new = read ≡ Ok (x, new)
Reads read (Err stop.Memory) new = Unit {0}
Reads read (Err (stop.Halted why)) new = read ≡ Err why

-- the same, where something may be taken
abbrev pub Takes : {A : Type 0} → Option A → Option (A × List Lexeme) → List Lexeme → List Lexeme → Type 0
Takes None read old new = (read ≡ None) × (new ≡ old)
Takes (Some x) read old new = read ≡ Some (x, new)

-- where something was taken, and else
abbrev pub if_taken : {A B : Type 0} → Option (A × List Lexeme) → ((A × List Lexeme) → B) → B → B
if_taken None then_so else_so = else_so
if_taken (Some x) then_so else_so = then_so x

-- no text goes on with these tokens
unfoldable pub stuck : List Lexeme → Halt
stuck [] = halt.At None
stuck (t ∷ ts) = halt.At (Some t.at)

unfoldable pub same_kind : Kind → Kind → Bool
same_kind = sameb the_type

-- a sign at the front, and what is behind it
unfoldable pub sign : Kind → List Lexeme → Option (ℕ × List Lexeme)
sign k [] = None
sign k (t ∷ ts) = if same_kind t.kind k then Some (t.at, ts) else None

-- nothing is left
unfoldable pub end : List Lexeme → Read (Unit {0})
end [] = Ok (tt, [])
end (t ∷ ts) = Err (stuck (t ∷ ts))

unfoldable pub sees : Kind → List Lexeme → Bool
sees k [] = false
sees k (t ∷ ts) = same_kind t.kind k

unfoldable pub is_word : List ℕ → Lexeme → Bool
is_word w t = same_kind t.kind kind.Word && str_eq_ignore_ascii_case t.content w

-- a word at the front, and what is behind it
unfoldable pub word : List ℕ → List Lexeme → Option (ℕ × List Lexeme)
word w [] = None
word w (t ∷ ts) = if is_word w t then Some (t.at, ts) else None

-- the same, with the tokens that are left
unfoldable pub may : List ℕ → List Lexeme → Option ℕ × List Lexeme
may w ts = if_taken (word w ts) (λ x. (Some x.0, x.1)) (None, ts)

-- a word with a bracket behind it, and what is behind both
unfoldable pub call : List ℕ → List Lexeme → Option (ℕ × List Lexeme)
call w [] = None
call w (t ∷ []) = None
call w (t ∷ u ∷ ts) = if is_word w t && same_kind u.kind kind.Open then Some (t.at, ts) else None

-- a word and another one behind it, and what is behind both
unfoldable pub two_words : List ℕ → List ℕ → List Lexeme → Option (ℕ × List Lexeme)
two_words v w [] = None
two_words v w (t ∷ []) = None
two_words v w (t ∷ u ∷ ts) = if is_word v t && is_word w u then Some (t.at, ts) else None

abbrev pub wanted : List Lexeme → Option (ℕ × List Lexeme) → Read ℕ
wanted ts None = Err (stuck ts)
wanted ts (Some x) = Ok x

-- a sign, a word that must stand at the front
unfoldable pub want : Kind → List Lexeme → Read ℕ
want k ts = wanted ts (sign k ts)

unfoldable pub want_word : List ℕ → List Lexeme → Read ℕ
want_word w ts = wanted ts (word w ts)

abbrev pub is_among : List (List ℕ) → List ℕ → Bool
is_among [] content = false
is_among (w ∷ ws) content = if str_eq_ignore_ascii_case content w then true else is_among ws content

unfoldable pub is_reserved : List ℕ → Bool
is_reserved content = is_among (map (λ w. w.0.now) RESERVED) content

-- a word that isn't reserved, or a name in quotes
unfoldable pub is_name : Lexeme → Bool
is_name t = same_kind t.kind kind.Quoted || (same_kind t.kind kind.Word && not (is_reserved t.content))

unfoldable pub name : List Lexeme → Read Name
name [] = Err (stuck [])
name (t ∷ ts) = if is_name t then Ok (record { at = t.at; text = t.content }, ts) else Err (stuck (t ∷ ts))

unfoldable pub sees_name : List Lexeme → Bool
sees_name [] = false
sees_name (t ∷ ts) = is_name t

-- the value of digits so far and one more; no value above the greatest number is told apart
unfoldable pub next_value : ℕ → ℕ → ℕ
next_value value b = min (10 * value + (b - 48)) (MAX_NUMBER + 1)

abbrev pub number_of : List ℕ → ℕ
number_of digits = fold next_value 0 digits

unfoldable pub number : List Lexeme → Read Number
number [] = Err (stuck [])
number (t ∷ ts) = if same_kind t.kind kind.Number then Ok (record { at = t.at; value = magnitude (number_of t.content) }, ts) else Err (stuck (t ∷ ts))

abbrev pub begins_two : ℕ → Bool → Bool
begins_two b is_second = b == 39 && not is_second

-- the count of a stride stands before its last byte, and its unit is that byte's
unfoldable pub stride_count : List ℕ → ℕ
stride_count content = number_of (take (length content - 1) content)

abbrev pub unit_of : ℕ → TimeUnit
unit_of b =
    if b == 85 then every.Micro else (if b == 84 then every.Milli else (if b == 115 then every.Second else (if b == 109 then every.Minute
    else (if b == 104 then every.Hour else (if b == 100 then every.Day else (if b == 77 then every.Month else every.Year))))))

unfoldable pub stride_unit : List ℕ → TimeUnit
stride_unit content = unit_of (slice_index content (length content - 1))

unfoldable pub stride : List Lexeme → Read StrideOf
stride [] = Err (stuck [])
stride (t ∷ ts) =
    if same_kind t.kind kind.Stride then Ok (record { at = t.at; count = range.stride_count (stride_count t.content); unit = stride_unit t.content }, ts) else Err (stuck (t ∷ ts))

-- one quote for each two; the test says that the first of two went before
unfoldable pub unquoted_from : Bool → List ℕ → List ℕ
unquoted_from is_second [] = []
unquoted_from is_second (b ∷ rest) = if begins_two b is_second then unquoted_from true rest else b ∷ unquoted_from false rest

abbrev pub unquoted : List ℕ → List ℕ
unquoted content = unquoted_from false content

abbrev pub IsTxt : {E : Type 0} → Result (List ℕ) E → List ℕ → Type 0
IsTxt (Ok found) bytes = found ≡ bytes
IsTxt (Err e) bytes = Unit {0}

unfoldable pub text : List Lexeme → Read Text
text [] = Err (stuck [])
text (t ∷ ts) = if same_kind t.kind kind.Text then Ok (record { at = t.at; text = unquoted t.content }, ts) else Err (stuck (t ∷ ts))

-- One or more with commas between, behind those that were found. The number bounds the turns: each takes a token.
unfoldable pub list_from : {A : Type 0} → (List Lexeme → Read A) → ℕ → List A → List Lexeme → Read (List A)
list_from item zero found ts = Err (stuck ts)
list_from item (suc n) found ts =
    item ts >>= λ x. if_taken (sign kind.Comma x.1) (λ comma. list_from item n (found ++ x.0 ∷ []) comma.1) (Ok (found ++ x.0 ∷ [], x.1))

abbrev pub list : {A : Type 0} → (List Lexeme → Read A) → List Lexeme → Read (List A)
list item ts = list_from item (length ts) [] ts

-- What stands behind each operator, as often as one comes, behind those that were found.
unfoldable pub links_from : {A B : Type 0} → (List Lexeme → Option (A × List Lexeme)) → (A → List Lexeme → Read B) → ℕ → List B → List Lexeme → Read (List B)
links_from op item zero found ts = Ok (found, ts)
links_from op item (suc n) found ts =
    if_taken (op ts) (λ x. item x.0 x.1 >>= λ y. links_from op item n (found ++ y.0 ∷ []) y.1) (Ok (found, ts))

abbrev pub links : {A B : Type 0} → (List Lexeme → Option (A × List Lexeme)) → (A → List Lexeme → Read B) → List Lexeme → Read (List B)
links op item ts = links_from op item (length ts) [] ts

-- The offsets of a sign or word that stands any number of times, behind those that were found.
unfoldable pub offsets_from : (List Lexeme → Option (ℕ × List Lexeme)) → ℕ → List ℕ → List Lexeme → List ℕ × List Lexeme
offsets_from one zero found ts = (found, ts)
offsets_from one (suc n) found ts = if_taken (one ts) (λ x. offsets_from one n (found ++ x.0 ∷ []) x.1) (found, ts)

abbrev pub offsets : (List Lexeme → Option (ℕ × List Lexeme)) → List Lexeme → List ℕ × List Lexeme
offsets one ts = offsets_from one (length ts) [] ts
