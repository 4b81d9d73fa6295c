-- What a whole text of SQL says: its statement, or why it is refused.
use Rattle.std.specs.Prelude.{◌≡◌, ℕ, Bool, false, not, ◌&&◌, ◌||◌, ◌==◌, nat_lt, if◌then◌else◌, List, [], ◌∷◌, length, codes, Option, Some, None, unwrap_or, Result, Ok, Err}
use Rattle.qd_base.specs.declared.code.Code.{Code}
use Rattle.qd_base.specs.declared.code.Code.TheVariants as code
use Rattle.qd_sql_lexer.specs.declared.token.Kind.TheVariants as kind
use Rattle.qd_sql_ast.specs.declared.stop.Halt.{Halt}
use Rattle.qd_sql_ast.specs.declared.stop.Halt.TheVariants as halt
use Rattle.qd_sql.specs.declared.stmt.SqlFault.{SqlFault}
use Rattle.qd_sql.specs.declared.stmt.SqlFault.TheVariants as fault
use Rattle.qd_base.specs.declared.limits.TheConstants.{MAX_NUMBER, MAX_STRIDE}
use Rattle.qd_sql_ast.specs.declared.tree.Stmt.{Stmt}
use Rattle.qd_sql_ast.specs.declared.tree.Stmt.TheVariants as is
use Rattle.qd_sql_lexer.specs.Tokens.{Lexeme, tokens}
use Rattle.qd_sql_ast.specs.Steps.{Read, ◌>>=◌, if_taken, is_word, same_kind, number_of, stride_count, end, sign, two_words, word}
use Rattle.qd_sql_ast.specs.Writes.{alter, create, insert, show}
use Rattle.qd_sql.specs.Queries.{query}

-- query | "CREATE" create | "INSERT" insert | "SHOW" show | "ALTER" "TABLE" alter
unfoldable pub statement : List Lexeme → Read Stmt
statement ts =
    if_taken (word (codes "CREATE") ts) (λ x. create x.1 >>= λ s. Ok (is.Create s.0, s.1))
    (if_taken (word (codes "INSERT") ts) (λ x. insert x.1 >>= λ s. Ok (is.Insert s.0, s.1))
    (if_taken (word (codes "SHOW") ts) (λ x. show x.1 >>= λ s. Ok (is.Show s.0.text s.0.at, s.1))
    (if_taken (two_words (codes "ALTER") (codes "TABLE") ts) (λ x. alter x.1 >>= λ s. Ok (is.Alter s.0, s.1))
    (query ts >>= λ s. Ok (is.Query s.0, s.1)))))

-- [";"] and nothing behind it
unfoldable pub ended : List Lexeme → Read (Unit {0})
ended ts = if_taken (sign kind.Semicolon ts) (λ x. end x.1) (end ts)

-- statement [";"]
unfoldable pub whole_text : List Lexeme → Read Stmt
whole_text ts = do
  found ← statement ts
  done ← ended found.1
  Ok (found.0, done.1)

-- DELETE DROP EXPLAIN REFRESH TRUNCATE UPDATE VACUUM WITH
unfoldable pub is_unbuilt_word : Lexeme → Bool
is_unbuilt_word t =
    is_word (codes "DELETE") t || is_word (codes "DROP") t || is_word (codes "EXPLAIN") t || is_word (codes "REFRESH") t || is_word (codes "TRUNCATE") t
    || is_word (codes "UPDATE") t || is_word (codes "VACUUM") t || is_word (codes "WITH") t

-- CREATE ALTER
unfoldable pub changes_tables : Lexeme → Bool
changes_tables t = is_word (codes "CREATE") t || is_word (codes "ALTER") t

-- a word of the first comes first, or one of the others before a token that isn't TABLE
unfoldable pub is_unbuilt : List Lexeme → Bool
is_unbuilt [] = false
is_unbuilt (t ∷ []) = is_unbuilt_word t
is_unbuilt (t ∷ u ∷ ts) = is_unbuilt_word t || (changes_tables t && not (is_word (codes "TABLE") u))

abbrev pub is_far_count : ℕ → Bool
is_far_count count = count == 0 || nat_lt MAX_STRIDE count

-- a number above the greatest, or a stride's count that is 0 or above the greatest
unfoldable pub is_far : Lexeme → Bool
is_far t =
    if same_kind t.kind kind.Number then nat_lt MAX_NUMBER (number_of t.content)
    else (if same_kind t.kind kind.Stride then is_far_count (stride_count t.content) else false)

-- the offset of the first such token
abbrev pub far_number : List Lexeme → Option ℕ
far_number [] = None
far_number (t ∷ ts) = if is_far t then Some t.at else far_number ts

abbrev pub in_range : Stmt → Option ℕ → Result Stmt SqlFault
in_range s None = Ok s
in_range s (Some place) = Err (fault.Refused code.NumberRange place)

-- the answer to a text of this length that has no statement
abbrev pub halted : ℕ → Halt → SqlFault
halted len halt.TooDeep = fault.TooDeep
halted len (halt.At place) = fault.Refused code.SqlSyntax (unwrap_or place len)

-- the statement of a text of this length that has these tokens, or its refusal
abbrev pub judged : ℕ → List Lexeme → Read Stmt → Result Stmt SqlFault
judged len ts (Ok x) = in_range x.0 (far_number ts)
judged len ts (Err why) = Err (halted len why)

abbrev pub statement_at : ℕ → List Lexeme → Result Stmt SqlFault
statement_at len ts = if is_unbuilt ts then Err (fault.Refused code.NotBuilt 0) else judged len ts (whole_text ts)

-- The statement of a text, or its refusal: first for what is not built, then for what is no statement or nests too deep,
-- then for a number out of its range.
abbrev pub statement_of : List ℕ → Result Stmt SqlFault
statement_of text = statement_at (length text) (tokens text)

-- what was answered is so, unless memory ran out
abbrev pub Answers : Result Stmt SqlFault → Result Stmt SqlFault → Type 0
Answers (Ok s) given = given ≡ Ok s
Answers (Err fault.Memory) given = Unit {0}
Answers (Err fault.TooDeep) given = given ≡ Err fault.TooDeep
Answers (Err (fault.Refused why place)) given = given ≡ Err (fault.Refused why place)

-- the tokens are those of this statement, and of nothing else
abbrev pub IsRead : List Lexeme → Stmt → Type 0
IsRead ts s = whole_text ts ≡ Ok (s, [])

-- what a text is: a statement, refused, or nested too deep
abbrev pub IsStatement : List ℕ → Stmt → Type 0
IsStatement text s = statement_of text ≡ Ok s

abbrev pub IsRefused : List ℕ → Code → ℕ → Type 0
IsRefused text why place = statement_of text ≡ Err (fault.Refused why place)

abbrev pub IsTooDeep : List ℕ → Type 0
IsTooDeep text = statement_of text ≡ Err fault.TooDeep
