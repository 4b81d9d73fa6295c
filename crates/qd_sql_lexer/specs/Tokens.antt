-- The tokens of a text of SQL. The words, names, texts, numbers and signs are those of QuestDB's SQL reference; which
-- bytes are none is this project's own rule.
use Rattle.std.specs.Prelude.{◌≡◌, ◌≢◌, ◌<◌, ℕ, zero, suc, ◌+◌, ◌-◌, Bool, true, false, not, ◌&&◌, ◌||◌, ◌==◌, nat_lt, if◌then◌else◌, List, [], ◌∷◌, length, take, drop, slice_index, Option, Some, None}
use Rattle.std.specs.List.{prefix_len}
use Rattle.std.specs.Char.{is_ascii_digit, is_ascii_alphabetic, is_ascii_alphanumeric}
use Rattle.std.specs.Str.Lossy.{utf8_valid_len}
use Rattle.qd_sql_lexer.specs.declared.token.Kind.{Kind}
use Rattle.qd_sql_lexer.specs.declared.token.Kind.TheVariants as kind
use Rattle.qd_sql_lexer.specs.declared.token.Token.{Token}
use Rattle.qd_sql_lexer.specs.declared.cut.Class.{Class}
use Rattle.qd_sql_lexer.specs.declared.cut.Class.TheVariants as class
use Rattle.qd_sql_lexer.specs.declared.cut.Cut.{Cut}

-- a token, and where it stands in the text
pub record Lexeme : Type 0 where
  pub kind : Kind
  pub at : ℕ
  pub end : ℕ
  pub content : List ℕ

abbrev pub seen : Token → Lexeme
seen t = record { kind = t.kind; at = t.at; end = t.end; content = t.content.now }

-- what stands at the front of a text: a token, or where there is no kind a blank or a comment
pub record Piece : Type 0 where
  pub kind : Option Kind
  pub len : ℕ
  pub content : List ℕ

abbrev pub seen_cut : Cut → Piece
seen_cut c = record { kind = c.kind; len = c.len; content = c.content.now }

abbrev pub token : List ℕ → Kind → ℕ → Piece
token text k n = record { kind = Some k; len = n; content = take n text }

abbrev pub gap : ℕ → Piece
gap n = record { kind = None; len = n; content = [] }

-- a bad token takes all that is left
abbrev pub bad : List ℕ → Piece
bad text = token text kind.Bad (length text)

-- space, tab, CR and LF
abbrev pub is_blank : ℕ → Bool
is_blank b = b == 32 || b == 9 || b == 13 || b == 10

abbrev pub is_in : Class → ℕ → Bool
is_in class.Word b = is_ascii_alphanumeric b || b == 95
is_in class.Digit b = is_ascii_digit b
is_in class.Name b = not (b == 34)
is_in class.Line b = not (b == 10)

-- how many bytes of a class a text begins with
abbrev pub run : Class → List ℕ → ℕ
run c text = prefix_len (is_in c) text

-- all bytes that may stand in a word
unfoldable pub word : List ℕ → Piece
word text = token text kind.Word (run class.Word text)

-- U T s m h d M y
abbrev pub is_unit : ℕ → Bool
is_unit b = b == 85 || b == 84 || b == 115 || b == 109 || b == 104 || b == 100 || b == 77 || b == 121

-- digits that touch no other byte of a word, or only the letter of a unit
unfoldable pub digits : List ℕ → Piece
digits text =
    let count = run class.Digit text in
    let whole = run class.Word text in
    if whole == count then token text kind.Number count
    else (if whole == count + 1 && nat_lt count (length text) && is_unit (slice_index text count) then token text kind.Stride whole else bad text)

abbrev pub is_text : List ℕ → Bool
is_text bytes = utf8_valid_len bytes == length bytes

-- a name up to the next double quote, which is not empty and has no escape
unfoldable pub quoted : List ℕ → List ℕ → Piece
quoted text rest =
    let count = run class.Name rest in
    if nat_lt 0 count && nat_lt count (length rest) && is_text (take count rest) then record { kind = Some kind.Quoted; len = count + 2; content = take count rest } else bad text

-- How many bytes stand before the quote that closes a text, where so many went before. Two quotes close nothing; the
-- test says that the byte is the second of two.
unfoldable pub closing : Bool → ℕ → List ℕ → Option ℕ
closing is_second n [] = None
closing true n (b ∷ rest) = closing false (n + 1) rest
closing false n (b ∷ rest) = if b == 39 && not (slice_index rest 0 == 39) then Some n else closing (b == 39) (n + 1) rest

abbrev pub quote_to : List ℕ → List ℕ → Option ℕ → Piece
quote_to text rest None = bad text
quote_to text rest (Some count) = if is_text (take count rest) then record { kind = Some kind.Text; len = count + 2; content = take count rest } else bad text

-- a text up to the quote that closes it
unfoldable pub quote : List ℕ → List ℕ → Piece
quote text rest = quote_to text rest (closing false 0 rest)

-- how many bytes of a comment are UTF-8, up to the line's end
unfoldable pub comment : List ℕ → ℕ
comment text = utf8_valid_len (take (run class.Line text) text)

abbrev pub short_sign : ℕ → Option Kind
short_sign b =
    if b == 40 then Some kind.Open else (if b == 41 then Some kind.Close else (if b == 44 then Some kind.Comma else (if b == 59 then Some kind.Semicolon
    else (if b == 46 then Some kind.Dot else (if b == 42 then Some kind.Star else (if b == 43 then Some kind.Plus else (if b == 45 then Some kind.Minus
    else (if b == 47 then Some kind.Slash else (if b == 37 then Some kind.Percent else (if b == 61 then Some kind.Equal else (if b == 60 then Some kind.Less
    else (if b == 62 then Some kind.Greater else None))))))))))))

abbrev pub short_token : List ℕ → Option Kind → Piece
short_token text None = bad text
short_token text (Some k) = token text k 1

-- the sign of two bytes, where there is one, else that of one byte
unfoldable pub sign : List ℕ → Piece
sign text =
    let b = slice_index text 0 in
    let c = slice_index text 1 in
    if (b == 33 && c == 61) || (b == 60 && c == 62) then token text kind.NotEqual 2
    else (if b == 60 && c == 61 then token text kind.LessEqual 2
    else (if b == 62 && c == 61 then token text kind.GreaterEqual 2
    else short_token text (short_sign b)))

-- what begins with no letter, digit or blank
unfoldable pub mark : List ℕ → Piece
mark text =
    let b = slice_index text 0 in
    if b == 34 then quoted text (drop 1 text)
    else (if b == 39 then quote text (drop 1 text)
    else (if b == 45 && slice_index text 1 == 45 then gap (2 + comment (drop 2 text))
    else sign text))

-- what stands at the front of a text that isn't empty
unfoldable pub cut_at : List ℕ → Piece
cut_at text =
    let b = slice_index text 0 in
    if is_ascii_alphabetic b || b == 95 then word text
    else (if is_ascii_digit b then digits text
    else (if is_blank b then gap 1
    else mark text))

-- with the token in front, where a piece is one
abbrev pub with_piece : ℕ → Piece → List Lexeme → List Lexeme
with_piece at p rest = lexemes p.kind where
  lexemes : Option Kind → List Lexeme
  lexemes None = rest
  lexemes (Some k) = record { kind = k; at = at; end = at + p.len; content = p.content } ∷ rest

-- the tokens from an offset on, where this many bytes still belong to the piece before
unfoldable pub tokens_from : ℕ → ℕ → List ℕ → List Lexeme
tokens_from n at [] = []
tokens_from (suc n) at (b ∷ rest) = tokens_from n (at + 1) rest
tokens_from zero at (b ∷ rest) = with_piece at (cut_at (b ∷ rest)) (tokens_from ((cut_at (b ∷ rest)).len - 1) (at + 1) rest)

-- the tokens of a text
unfoldable pub tokens : List ℕ → List Lexeme
tokens text = tokens_from 0 0 text

-- The text from this offset on is cut into pieces of these lengths, none of them empty and each what stands at the front of
-- what is left; the tokens are the pieces that are neither a blank nor a comment.
abbrev pub Cuts : List ℕ → ℕ → List ℕ → List Lexeme → Type 0
Cuts [] at text ts = (text ≡ []) × (ts ≡ [])
Cuts (n ∷ lens) at text ts =
    (more : List Lexeme) × (text ≢ []) × (0 < n) × (n ≡ (cut_at text).len) × (ts ≡ with_piece at (cut_at text) more) × Cuts lens (at + n) (drop n text) more

-- these are the tokens of a text, however it is read
abbrev pub AreTokens : List ℕ → List Lexeme → Type 0
AreTokens text ts = (lens : List ℕ) × Cuts lens 0 text ts

abbrev pub TextsHaveTokens : Type 0
TextsHaveTokens = (text : List ℕ) → AreTokens text (tokens text)

abbrev pub TokensAreTheOnlyOnes : Type 0
TokensAreTheOnlyOnes = (text : List ℕ) (ts : List Lexeme) → AreTokens text ts → ts ≡ tokens text
