-- The rules of expressions, over what an expression in brackets is: for each rule a case for each of its alternatives.
use Rattle.std.specs.Prelude.{ℕ, List, codes}
use Rattle.qd_sql_lexer.specs.declared.token.Kind.TheVariants as kind
use Rattle.qd_sql_ast.specs.declared.tree.AddOp.{AddOp}
use Rattle.qd_sql_ast.specs.declared.tree.AddOp.TheVariants as add
use Rattle.qd_sql_ast.specs.declared.tree.MulOp.{MulOp}
use Rattle.qd_sql_ast.specs.declared.tree.MulOp.TheVariants as mul
use Rattle.qd_sql_ast.specs.declared.tree.Cmp.{Cmp}
use Rattle.qd_sql_ast.specs.declared.tree.Cmp.TheVariants as compare
use Rattle.qd_sql_ast.specs.declared.tree.Column.{Column}
use Rattle.qd_sql_ast.specs.declared.tree.Expr.{Expr, roll-Expr}
use Rattle.qd_sql_ast.specs.declared.tree.OrConj.{OrConj, roll-OrConj}
use Rattle.qd_sql_ast.specs.declared.tree.Conj.{Conj, roll-Conj}
use Rattle.qd_sql_ast.specs.declared.tree.AndNeg.{AndNeg, roll-AndNeg}
use Rattle.qd_sql_ast.specs.declared.tree.Neg.{Neg, roll-Neg}
use Rattle.qd_sql_ast.specs.declared.tree.Test.{Test, roll-Test}
use Rattle.qd_sql_ast.specs.declared.tree.Check.{Check}
use Rattle.qd_sql_ast.specs.declared.tree.Check.TheVariants as asks
use Rattle.qd_sql_ast.specs.declared.tree.Plus.{Plus, roll-Plus}
use Rattle.qd_sql_ast.specs.declared.tree.AddTerm.{AddTerm, roll-AddTerm}
use Rattle.qd_sql_ast.specs.declared.tree.Term.{Term, roll-Term}
use Rattle.qd_sql_ast.specs.declared.tree.MulSigned.{MulSigned, roll-MulSigned}
use Rattle.qd_sql_ast.specs.declared.tree.Signed.{Signed, roll-Signed}
use Rattle.qd_sql_ast.specs.declared.tree.Prime.{Prime}
use Rattle.qd_sql_ast.specs.declared.tree.Prime.TheVariants as is
use Rattle.qd_sql_ast.specs.declared.tree.Lit.{Lit}
use Rattle.qd_sql_ast.specs.declared.tree.Number.{Number}
use Rattle.qd_sql_ast.specs.declared.tree.Text.{Text}
use Rattle.qd_sql_lexer.specs.Tokens.{Lexeme}
use Rattle.qd_sql_laws.specs.Parts.{◌⋅◌, Optional, Each, Commas, Nothing, Sign, SignAt, Word, WordAt, IsName, IsNumber, IsText}
use Rattle.qd_sql_laws.specs.WriteRules.{IsLit}

-- column = name ["." name]
abbrev pub IsColumn : Column → List Lexeme → Type 0
IsColumn c = IsName c.first ⋅ Optional (λ n. Sign kind.Dot ⋅ IsName n) c.second

-- cmp = "=" | "!=" | "<>" | "<" | "<=" | ">" | ">="
abbrev pub IsCmp : Cmp → ℕ → List Lexeme → Type 0
IsCmp compare.Equal at = SignAt kind.Equal at
IsCmp compare.NotEqual at = SignAt kind.NotEqual at
IsCmp compare.Less at = SignAt kind.Less at
IsCmp compare.LessEqual at = SignAt kind.LessEqual at
IsCmp compare.Greater at = SignAt kind.Greater at
IsCmp compare.GreaterEqual at = SignAt kind.GreaterEqual at

-- "+" | "-"
abbrev pub IsAddOp : AddOp → ℕ → List Lexeme → Type 0
IsAddOp add.Plus at = SignAt kind.Plus at
IsAddOp add.Minus at = SignAt kind.Minus at

-- "*" | "/" | "%"
abbrev pub IsMulOp : MulOp → ℕ → List Lexeme → Type 0
IsMulOp mul.Times at = SignAt kind.Star at
IsMulOp mul.Divide at = SignAt kind.Slash at
IsMulOp mul.Remainder at = SignAt kind.Percent at

-- prime = Number | Text | "TRUE" | "FALSE" | "NULL" | column | "(" expr ")"
pub data IsPrime (Inner : Expr → List Lexeme → Type 0) : Prime → List Lexeme → Type 0 where
  number : (n : Number) (ts : List Lexeme) → IsNumber n ts → IsPrime Inner (is.Number n) ts
  text : (t : Text) (ts : List Lexeme) → IsText t ts → IsPrime Inner (is.Text t) ts
  true_word : (at : ℕ) (ts : List Lexeme) → WordAt (codes "TRUE") at ts → IsPrime Inner (is.True at) ts
  false_word : (at : ℕ) (ts : List Lexeme) → WordAt (codes "FALSE") at ts → IsPrime Inner (is.False at) ts
  null_word : (at : ℕ) (ts : List Lexeme) → WordAt (codes "NULL") at ts → IsPrime Inner (is.Null at) ts
  column : (c : Column) (ts : List Lexeme) → IsColumn c ts → IsPrime Inner (is.Column c) ts
  bracket : (e : Expr) (ts : List Lexeme) → (Sign kind.Open ⋅ Inner e ⋅ Sign kind.Close) ts → IsPrime Inner (is.Bracket e) ts

-- sign = "-" sign | prime
pub data IsSigned (Inner : Expr → List Lexeme → Type 0) : Signed → List Lexeme → Type 0 where
  signed : (minuses : List ℕ) (prime : Prime) (ts : List Lexeme) → (Each (SignAt kind.Minus) minuses ⋅ IsPrime Inner prime) ts
      → IsSigned Inner (roll-Signed (record { minuses = minuses; prime = prime })) ts

-- ("*"|"/"|"%") sign
pub data IsMulSigned (Inner : Expr → List Lexeme → Type 0) : MulSigned → List Lexeme → Type 0 where
  multiplied : (op : MulOp) (at : ℕ) (signed : Signed) (ts : List Lexeme) → (IsMulOp op at ⋅ IsSigned Inner signed) ts
      → IsMulSigned Inner (roll-MulSigned (record { op = op; at = at; signed = signed })) ts

-- term = sign {("*"|"/"|"%") sign}
pub data IsTerm (Inner : Expr → List Lexeme → Type 0) : Term → List Lexeme → Type 0 where
  term : (first : Signed) (more : List MulSigned) (ts : List Lexeme) → (IsSigned Inner first ⋅ Each (IsMulSigned Inner) more) ts
      → IsTerm Inner (roll-Term (record { first = first; more = more })) ts

-- ("+"|"-") term
pub data IsAddTerm (Inner : Expr → List Lexeme → Type 0) : AddTerm → List Lexeme → Type 0 where
  added : (op : AddOp) (at : ℕ) (term : Term) (ts : List Lexeme) → (IsAddOp op at ⋅ IsTerm Inner term) ts
      → IsAddTerm Inner (roll-AddTerm (record { op = op; at = at; term = term })) ts

-- plus = term {("+"|"-") term}
pub data IsPlus (Inner : Expr → List Lexeme → Type 0) : Plus → List Lexeme → Type 0 where
  plus : (first : Term) (more : List AddTerm) (ts : List Lexeme) → (IsTerm Inner first ⋅ Each (IsAddTerm Inner) more) ts
      → IsPlus Inner (roll-Plus (record { first = first; more = more })) ts

-- [cmp plus | "IN" "(" lit {"," lit} ")" | "IN" Text | "IS" ["NOT"] "NULL"]
pub data IsCheck (Inner : Expr → List Lexeme → Type 0) : Check → List Lexeme → Type 0 where
  nothing : (ts : List Lexeme) → Nothing ts → IsCheck Inner asks.Nothing ts
  compares : (op : Cmp) (at : ℕ) (right : Plus) (ts : List Lexeme) → (IsCmp op at ⋅ IsPlus Inner right) ts → IsCheck Inner (asks.Compare op at right) ts
  in_list : (at : ℕ) (lits : List Lit) (ts : List Lexeme) → (WordAt (codes "IN") at ⋅ Sign kind.Open ⋅ Commas IsLit lits ⋅ Sign kind.Close) ts
      → IsCheck Inner (asks.InList at lits) ts
  in_text : (at : ℕ) (t : Text) (ts : List Lexeme) → (WordAt (codes "IN") at ⋅ IsText t) ts → IsCheck Inner (asks.InText at t) ts
  is_null : (at : ℕ) (ts : List Lexeme) → (WordAt (codes "IS") at ⋅ Word (codes "NULL")) ts → IsCheck Inner (asks.IsNull at) ts
  is_not_null : (at : ℕ) (ts : List Lexeme) → (WordAt (codes "IS") at ⋅ Word (codes "NOT") ⋅ Word (codes "NULL")) ts → IsCheck Inner (asks.IsNotNull at) ts

-- test = plus [cmp plus | "IN" "(" lit {"," lit} ")" | "IN" Text | "IS" ["NOT"] "NULL"]
pub data IsTest (Inner : Expr → List Lexeme → Type 0) : Test → List Lexeme → Type 0 where
  test : (left : Plus) (check : Check) (ts : List Lexeme) → (IsPlus Inner left ⋅ IsCheck Inner check) ts
      → IsTest Inner (roll-Test (record { left = left; check = check })) ts

-- neg = "NOT" neg | test
pub data IsNeg (Inner : Expr → List Lexeme → Type 0) : Neg → List Lexeme → Type 0 where
  neg : (nots : List ℕ) (test : Test) (ts : List Lexeme) → (Each (WordAt (codes "NOT")) nots ⋅ IsTest Inner test) ts
      → IsNeg Inner (roll-Neg (record { nots = nots; test = test })) ts

-- "AND" neg
pub data IsAndNeg (Inner : Expr → List Lexeme → Type 0) : AndNeg → List Lexeme → Type 0 where
  and_neg : (at : ℕ) (neg : Neg) (ts : List Lexeme) → (WordAt (codes "AND") at ⋅ IsNeg Inner neg) ts
      → IsAndNeg Inner (roll-AndNeg (record { at = at; neg = neg })) ts

-- conj = neg {"AND" neg}
pub data IsConj (Inner : Expr → List Lexeme → Type 0) : Conj → List Lexeme → Type 0 where
  conj : (first : Neg) (more : List AndNeg) (ts : List Lexeme) → (IsNeg Inner first ⋅ Each (IsAndNeg Inner) more) ts
      → IsConj Inner (roll-Conj (record { first = first; more = more })) ts

-- "OR" conj
pub data IsOrConj (Inner : Expr → List Lexeme → Type 0) : OrConj → List Lexeme → Type 0 where
  or_conj : (at : ℕ) (conj : Conj) (ts : List Lexeme) → (WordAt (codes "OR") at ⋅ IsConj Inner conj) ts
      → IsOrConj Inner (roll-OrConj (record { at = at; conj = conj })) ts

-- expr = conj {"OR" conj}
pub data IsExpr (Inner : Expr → List Lexeme → Type 0) : Expr → List Lexeme → Type 0 where
  expr : (first : Conj) (more : List OrConj) (ts : List Lexeme) → (IsConj Inner first ⋅ Each (IsOrConj Inner) more) ts
      → IsExpr Inner (roll-Expr (record { first = first; more = more })) ts
