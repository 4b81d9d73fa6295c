-- What holds of every list of tokens, and of every text.
use Rattle.std.specs.Prelude.{◌≡◌, ◌<◌, ◌≤◌, ◌*◌, ℕ, ◌⊎◌, ◌↔◌, true, false, List, [], ◌∷◌, ◌++◌, length, None}
use Rattle.qd_base.specs.declared.code.Code.TheVariants as code
use Rattle.qd_base.specs.declared.limits.TheConstants.{MAX_NESTING}
use Rattle.qd_sql_ast.specs.declared.tree.Insert.{Insert}
use Rattle.qd_sql_ast.specs.declared.tree.Stmt.{Stmt}
use Rattle.qd_sql_ast.specs.declared.tree.Stmt.TheVariants as is
use Rattle.qd_sql_lexer.specs.declared.token.Kind.TheVariants as kind
use Rattle.qd_sql_lexer.specs.Tokens.{Lexeme, tokens}
use Rattle.qd_sql_ast.specs.Steps.{same_kind}
use Rattle.qd_sql_ast.specs.Nesting.{brackets_in}
use Rattle.qd_sql.specs.Statement.{IsRead, IsStatement, IsRefused, IsTooDeep, is_unbuilt, far_number}
use Rattle.qd_sql_laws.specs.Grammar.{ReadsShallowSql, ReadsSql, CanGoOnShallow, CanGoOn}

-- a text is built, its tokens are a statement by the grammar, and no number is out of its range
pub record IsByGrammar (text : List ℕ) (s : Stmt) : Type 0 where
  pub built : is_unbuilt (tokens text) ≡ false
  pub read : ReadsShallowSql (tokens text) s
  pub in_range : far_number (tokens text) ≡ None

-- Tokens are one statement by the grammar or none, and are read so where its brackets nest no deeper than the limit. A text is a
-- statement exactly where its tokens are; one that is refused for its syntax has none; and one that has a statement nests too
-- deep exactly where the brackets of that statement nest deeper than the limit.
pub record GrammarDecides : Type 0 where
  pub one_statement : (ts : List Lexeme) (a b : Stmt) → ReadsSql ts a → ReadsSql ts b → a ≡ b
  pub read : (ts : List Lexeme) (s : Stmt) → IsRead ts s ↔ ReadsShallowSql ts s
  pub shallow : (ts : List Lexeme) (s : Stmt) → ReadsShallowSql ts s ↔ (ReadsSql ts s × (brackets_in s ≤ MAX_NESTING))
  pub statements : (text : List ℕ) (s : Stmt) → IsStatement text s ↔ IsByGrammar text s
  pub only_statement : (text : List ℕ) (a b : Stmt) → IsStatement text a → ReadsSql (tokens text) b → b ≡ a
  pub refused : (text : List ℕ) (place : ℕ) (s : Stmt) → IsRefused text code.SqlSyntax place → ReadsSql (tokens text) s → ⊥
  pub too_deep : (text : List ℕ) (s : Stmt) → IsTooDeep text → ReadsSql (tokens text) s → MAX_NESTING < brackets_in s
  pub deeper : (text : List ℕ) (s : Stmt) → is_unbuilt (tokens text) ≡ false → ReadsSql (tokens text) s → MAX_NESTING < brackets_in s → IsTooDeep text

-- the offset of the first of these tokens, or the text's length where there is none
abbrev pub place_of : List Lexeme → ℕ → ℕ
place_of [] len = len
place_of (t ∷ ts) len = t.at

-- no statement has these tokens behind those in front: none at all where they are all, and else none with the first of them
abbrev pub GoesNoFurther : List Lexeme → List Lexeme → Type 0
GoesNoFurther front [] = (s : Stmt) → ReadsSql front s → ⊥
GoesNoFurther front (t ∷ behind) = CanGoOn (front ++ t ∷ []) → ⊥

-- tokens stop being a beginning of a statement at a place
pub record StopsAt (ts : List Lexeme) (len place : ℕ) : Type 0 where
  pub front : List Lexeme
  pub behind : List Lexeme
  pub whole : ts ≡ front ++ behind
  pub place_is : place ≡ place_of behind len
  pub goes_on : CanGoOnShallow front
  pub no_further : GoesNoFurther front behind

-- A text is refused for its syntax exactly where its tokens stop being a beginning, unless it nests too deep before. Bytes
-- that are no token begin nothing.
pub record PlacesAreExact : Type 0 where
  pub stops : (text : List ℕ) (place : ℕ) → IsRefused text code.SqlSyntax place → (is_unbuilt (tokens text) ≡ false) × StopsAt (tokens text) (length text) place
  pub refused : (text : List ℕ) (place : ℕ) → is_unbuilt (tokens text) ≡ false → StopsAt (tokens text) (length text) place
      → IsRefused text code.SqlSyntax place ⊎ IsTooDeep text
  pub bad_token : (front : List Lexeme) (t : Lexeme) → same_kind t.kind kind.Bad ≡ true → CanGoOn (front ++ t ∷ []) → ⊥

-- An INSERT has no more rows than a quarter of its text's bytes: each row is a bracket, a literal, a bracket and a comma at least.
abbrev pub InsertsAreShort : Type 0
InsertsAreShort = (text : List ℕ) (i : Insert) → IsStatement text (is.Insert i) → 4 * length i.tuples ≤ length text
