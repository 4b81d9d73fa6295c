-- What holds of every text.
use Rattle.std.specs.Prelude.{◌≡◌, ℕ, ◌⊎◌, ◌↔◌, true, false, List, length, Option, Some, None, unwrap_or, Err}
use Rattle.qd_base.specs.declared.code.Code.{Code}
use Rattle.qd_base.specs.declared.code.Code.TheVariants as code
use Rattle.qd_sql_ast.specs.declared.stop.Halt.TheVariants as halt
use Rattle.qd_sql_ast.specs.declared.tree.Stmt.{Stmt}
use Rattle.qd_sql_lexer.specs.Tokens.{tokens}
use Rattle.qd_sql.specs.Statement.{IsRead, IsStatement, IsRefused, IsTooDeep, is_unbuilt, far_number, whole_text}

-- one answer, and no more
pub record TextsAreAnswered : Type 0 where
  pub one_statement : (text : List ℕ) (a b : Stmt) → IsStatement text a → IsStatement text b → a ≡ b
  pub one_refusal : (text : List ℕ) (a b : Code) (i j : ℕ) → IsRefused text a i → IsRefused text b j → (a ≡ b) × (i ≡ j)
  pub never_both : (text : List ℕ) (s : Stmt) (why : Code) (place : ℕ) → IsStatement text s → IsRefused text why place → ⊥
  pub answered : (text : List ℕ) → ((s : Stmt) × IsStatement text s) ⊎ (((why : Code) × (place : ℕ) × IsRefused text why place) ⊎ IsTooDeep text)

-- a statement is built, is read from the tokens, and has no number out of its range
pub record Stands (text : List ℕ) (s : Stmt) : Type 0 where
  pub built : is_unbuilt (tokens text) ≡ false
  pub read : IsRead (tokens text) s
  pub in_range : far_number (tokens text) ≡ None

abbrev pub StatementsStand : Type 0
StatementsStand = (text : List ℕ) (s : Stmt) → IsStatement text s ↔ Stands text s

-- why a text is refused with a code at a place: the first of these that it has
abbrev pub Cause : List ℕ → Code → ℕ → Type 0
Cause text code.NotBuilt place = (is_unbuilt (tokens text) ≡ true) × (place ≡ 0)
Cause text code.SqlSyntax place =
    (is_unbuilt (tokens text) ≡ false) × ((at : Option ℕ) × (whole_text (tokens text) ≡ Err (halt.At at)) × (place ≡ unwrap_or at (length text)))
Cause text code.NumberRange place =
    (is_unbuilt (tokens text) ≡ false) × ((s : Stmt) × IsRead (tokens text) s) × (far_number (tokens text) ≡ Some place)
Cause text other place = ⊥

abbrev pub RefusalsHaveCauses : Type 0
RefusalsHaveCauses = (text : List ℕ) (why : Code) (place : ℕ) → IsRefused text why place ↔ Cause text why place
