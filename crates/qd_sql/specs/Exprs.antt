-- The rules of expressions.
use Rattle.std.specs.Prelude.{ℕ, zero, suc, if◌then◌else◌, List, codes, Option, Some, None, Ok, Err}
use Rattle.qd_sql_lexer.specs.declared.token.Kind.TheVariants as kind
use Rattle.qd_sql_ast.specs.declared.stop.Halt.TheVariants as halt
use Rattle.qd_sql_ast.specs.declared.tree.AddOp.{AddOp}
use Rattle.qd_sql_ast.specs.declared.tree.AddOp.TheVariants as add
use Rattle.qd_sql_ast.specs.declared.tree.MulOp.{MulOp}
use Rattle.qd_sql_ast.specs.declared.tree.MulOp.TheVariants as mul
use Rattle.qd_sql_ast.specs.declared.tree.Cmp.{Cmp}
use Rattle.qd_sql_ast.specs.declared.tree.Cmp.TheVariants as compare
use Rattle.qd_sql_ast.specs.declared.tree.Column.{Column}
use Rattle.qd_sql_ast.specs.declared.tree.Expr.{Expr, roll-Expr}
use Rattle.qd_sql_ast.specs.declared.tree.OrConj.{OrConj, roll-OrConj}
use Rattle.qd_sql_ast.specs.declared.tree.Conj.{Conj, roll-Conj}
use Rattle.qd_sql_ast.specs.declared.tree.AndNeg.{AndNeg, roll-AndNeg}
use Rattle.qd_sql_ast.specs.declared.tree.Neg.{Neg, roll-Neg}
use Rattle.qd_sql_ast.specs.declared.tree.Test.{Test, roll-Test}
use Rattle.qd_sql_ast.specs.declared.tree.Check.{Check}
use Rattle.qd_sql_ast.specs.declared.tree.Check.TheVariants as asks
use Rattle.qd_sql_ast.specs.declared.tree.Plus.{Plus, roll-Plus}
use Rattle.qd_sql_ast.specs.declared.tree.AddTerm.{AddTerm, roll-AddTerm}
use Rattle.qd_sql_ast.specs.declared.tree.Term.{Term, roll-Term}
use Rattle.qd_sql_ast.specs.declared.tree.MulSigned.{MulSigned, roll-MulSigned}
use Rattle.qd_sql_ast.specs.declared.tree.Signed.{Signed, roll-Signed}
use Rattle.qd_sql_ast.specs.declared.tree.Prime.{Prime}
use Rattle.qd_sql_ast.specs.declared.tree.Prime.TheVariants as is
use Rattle.qd_sql_lexer.specs.Tokens.{Lexeme}
use Rattle.qd_sql_ast.specs.Steps.{Read, ◌>>=◌, if_taken, links, offsets, sees, sign, word, want, want_word, name, number, text}
use Rattle.qd_sql_ast.specs.Writes.{lits}

-- name ["." name]
unfoldable pub column : List Lexeme → Read Column
column ts =
    name ts >>= λ first. if_taken (sign kind.Dot first.1)
    (λ dot. name dot.1 >>= λ second. Ok (record { first = first.0; second = Some second.0 }, second.1))
    (Ok (record { first = first.0; second = None }, first.1))

-- "=" | "!=" | "<>" | "<" | "<=" | ">" | ">="
unfoldable pub cmp : List Lexeme → Option ((Cmp × ℕ) × List Lexeme)
cmp ts =
    if_taken (sign kind.Equal ts) (λ x. Some ((compare.Equal, x.0), x.1))
    (if_taken (sign kind.NotEqual ts) (λ x. Some ((compare.NotEqual, x.0), x.1))
    (if_taken (sign kind.Less ts) (λ x. Some ((compare.Less, x.0), x.1))
    (if_taken (sign kind.LessEqual ts) (λ x. Some ((compare.LessEqual, x.0), x.1))
    (if_taken (sign kind.Greater ts) (λ x. Some ((compare.Greater, x.0), x.1))
    (if_taken (sign kind.GreaterEqual ts) (λ x. Some ((compare.GreaterEqual, x.0), x.1)) None)))))

-- "+" | "-"
unfoldable pub add_op : List Lexeme → Option ((AddOp × ℕ) × List Lexeme)
add_op ts =
    if_taken (sign kind.Plus ts) (λ x. Some ((add.Plus, x.0), x.1))
    (if_taken (sign kind.Minus ts) (λ x. Some ((add.Minus, x.0), x.1)) None)

-- "*" | "/" | "%"
unfoldable pub mul_op : List Lexeme → Option ((MulOp × ℕ) × List Lexeme)
mul_op ts =
    if_taken (sign kind.Star ts) (λ x. Some ((mul.Times, x.0), x.1))
    (if_taken (sign kind.Slash ts) (λ x. Some ((mul.Divide, x.0), x.1))
    (if_taken (sign kind.Percent ts) (λ x. Some ((mul.Remainder, x.0), x.1)) None))

-- "(" lit {"," lit} ")" | Text, behind IN
unfoldable pub among : ℕ → List Lexeme → Read Check
among at ts =
    if sees kind.Text ts then (text ts >>= λ t. Ok (asks.InText at t.0, t.1))
    else (want kind.Open ts >>= λ open_bracket. lits open_bracket.1 >>= λ found. want kind.Close found.1 >>= λ close. Ok (asks.InList at found.0, close.1))

-- ["NOT"] "NULL", behind IS
unfoldable pub null_check : ℕ → List Lexeme → Read Check
null_check at ts =
    if_taken (word (codes "NOT") ts)
    (λ x. want_word (codes "NULL") x.1 >>= λ null. Ok (asks.IsNotNull at, null.1))
    (want_word (codes "NULL") ts >>= λ null. Ok (asks.IsNull at, null.1))

-- {"NOT"}, {"-"}
unfoldable pub nots : List Lexeme → Read (List ℕ)
nots ts = Ok (offsets (word (codes "NOT")) ts)

unfoldable pub minuses : List Lexeme → Read (List ℕ)
minuses ts = Ok (offsets (sign kind.Minus) ts)

-- The rules, over what reads an expression in brackets.
-- expr ")"
unfoldable pub bracket : (List Lexeme → Read Expr) → List Lexeme → Read Prime
bracket inner ts = do
  found ← inner ts
  close ← want kind.Close found.1
  Ok (is.Bracket found.0, close.1)

-- Number | Text | "TRUE" | "FALSE" | "NULL" | column | "(" expr ")"
unfoldable pub prime : (List Lexeme → Read Expr) → List Lexeme → Read Prime
prime inner ts =
    if sees kind.Number ts then (number ts >>= λ n. Ok (is.Number n.0, n.1))
    else (if sees kind.Text ts then (text ts >>= λ t. Ok (is.Text t.0, t.1))
    else (if_taken (word (codes "TRUE") ts) (λ x. Ok (is.True x.0, x.1))
    (if_taken (word (codes "FALSE") ts) (λ x. Ok (is.False x.0, x.1))
    (if_taken (word (codes "NULL") ts) (λ x. Ok (is.Null x.0, x.1))
    (if_taken (sign kind.Open ts) (λ x. bracket inner x.1)
    (column ts >>= λ c. Ok (is.Column c.0, c.1)))))))

-- {"-"} prime
unfoldable pub signed : (List Lexeme → Read Expr) → List Lexeme → Read Signed
signed inner ts = do
  before ← minuses ts
  found ← prime inner before.1
  Ok (roll-Signed (record { minuses = before.0; prime = found.0 }), found.1)

-- ("*"|"/"|"%") sign
abbrev pub mul_signed : (List Lexeme → Read Expr) → MulOp × ℕ → List Lexeme → Read MulSigned
mul_signed inner op ts = signed inner ts >>= λ x. Ok (roll-MulSigned (record { op = op.0; at = op.1; signed = x.0 }), x.1)

unfoldable pub multiplied : (List Lexeme → Read Expr) → List Lexeme → Read (List MulSigned)
multiplied inner ts = links mul_op (mul_signed inner) ts

-- sign {("*"|"/"|"%") sign}
unfoldable pub term : (List Lexeme → Read Expr) → List Lexeme → Read Term
term inner ts = do
  first ← signed inner ts
  more ← multiplied inner first.1
  Ok (roll-Term (record { first = first.0; more = more.0 }), more.1)

-- ("+"|"-") term
abbrev pub add_term : (List Lexeme → Read Expr) → AddOp × ℕ → List Lexeme → Read AddTerm
add_term inner op ts = term inner ts >>= λ x. Ok (roll-AddTerm (record { op = op.0; at = op.1; term = x.0 }), x.1)

unfoldable pub added : (List Lexeme → Read Expr) → List Lexeme → Read (List AddTerm)
added inner ts = links add_op (add_term inner) ts

-- term {("+"|"-") term}
unfoldable pub plus : (List Lexeme → Read Expr) → List Lexeme → Read Plus
plus inner ts = do
  first ← term inner ts
  more ← added inner first.1
  Ok (roll-Plus (record { first = first.0; more = more.0 }), more.1)

-- [cmp plus | "IN" "(" lit {"," lit} ")" | "IN" Text | "IS" ["NOT"] "NULL"]
unfoldable pub check : (List Lexeme → Read Expr) → List Lexeme → Read Check
check inner ts =
    if_taken (cmp ts) (λ op. plus inner op.1 >>= λ right. Ok (asks.Compare op.0.0 op.0.1 right.0, right.1))
    (if_taken (word (codes "IN") ts) (λ x. among x.0 x.1)
    (if_taken (word (codes "IS") ts) (λ x. null_check x.0 x.1)
    (Ok (asks.Nothing, ts))))

-- plus check
unfoldable pub one_test : (List Lexeme → Read Expr) → List Lexeme → Read Test
one_test inner ts = do
  left ← plus inner ts
  found ← check inner left.1
  Ok (roll-Test (record { left = left.0; check = found.0 }), found.1)

-- {"NOT"} test
unfoldable pub neg : (List Lexeme → Read Expr) → List Lexeme → Read Neg
neg inner ts = do
  before ← nots ts
  found ← one_test inner before.1
  Ok (roll-Neg (record { nots = before.0; test = found.0 }), found.1)

-- "AND" neg
abbrev pub and_neg : (List Lexeme → Read Expr) → ℕ → List Lexeme → Read AndNeg
and_neg inner at ts = neg inner ts >>= λ x. Ok (roll-AndNeg (record { at = at; neg = x.0 }), x.1)

unfoldable pub ands : (List Lexeme → Read Expr) → List Lexeme → Read (List AndNeg)
ands inner ts = links (word (codes "AND")) (and_neg inner) ts

-- neg {"AND" neg}
unfoldable pub conj : (List Lexeme → Read Expr) → List Lexeme → Read Conj
conj inner ts = do
  first ← neg inner ts
  more ← ands inner first.1
  Ok (roll-Conj (record { first = first.0; more = more.0 }), more.1)

-- "OR" conj
abbrev pub or_conj : (List Lexeme → Read Expr) → ℕ → List Lexeme → Read OrConj
or_conj inner at ts = conj inner ts >>= λ x. Ok (roll-OrConj (record { at = at; conj = x.0 }), x.1)

unfoldable pub ors : (List Lexeme → Read Expr) → List Lexeme → Read (List OrConj)
ors inner ts = links (word (codes "OR")) (or_conj inner) ts

-- conj {"OR" conj}
unfoldable pub expr_at : (List Lexeme → Read Expr) → List Lexeme → Read Expr
expr_at inner ts = do
  first ← conj inner ts
  more ← ors inner first.1
  Ok (roll-Expr (record { first = first.0; more = more.0 }), more.1)

-- an expression whose brackets nest less deep than a number
unfoldable pub expr : ℕ → List Lexeme → Read Expr
expr zero ts = Err halt.TooDeep
expr (suc depth) ts = expr_at (expr depth) ts
