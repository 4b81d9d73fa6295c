-- The codes that lines are refused with.
use Rattle.std.proofs.Common.{◌≡◌, ℕ, ◌+◌, Bool, true, false, inl, inr, List, [], ◌∷◌, Result, Ok, Err, sym, ap, subst, arith}
use Rattle.qd_base.specs.Codes.{number_of}
use Rattle.qd_base.specs.declared.code.Code.{Code}
use Rattle.qd_base.specs.declared.code.Code.TheVariants as code
use Rattle.qd_base.specs.declared.op.Entry.{Entry}
use Rattle.qd_base.specs.declared.schema.Schema.{Schema}
use Rattle.qd_ilp.specs.Line.{Line, Row, Blank, Gives}
use Rattle.qd_ilp.specs.Transaction.{HasCode, Refuses, Says, Work, work_in}
use Rattle.qd_session.specs.Allowed.{IsLineCode}

row_code : (schemas : List Schema) (cells now : ℕ) (row : Row) (c : Code) → HasCode schemas cells now row c → IsLineCode (number_of c)
row_code schemas cells now row code.FloatField h = (omega arith, omega arith)
row_code schemas cells now row code.NumberRange h = (omega arith, omega arith)
row_code schemas cells now row code.Name h = (omega arith, omega arith)
row_code schemas cells now row code.TypeClash h = (omega arith, omega arith)
row_code schemas cells now row code.TimeRange h = (omega arith, omega arith)
row_code schemas cells now row code.Columns h = (omega arith, omega arith)
row_code schemas cells now row code.Tables h = (omega arith, omega arith)
row_code schemas cells now row code.DuplicateColumn h = (omega arith, omega arith)
row_code schemas cells now row code.TextTooLong h = (omega arith, omega arith)
row_code schemas cells now row code.TooManyCells h = (omega arith, omega arith)
row_code schemas cells now row code.Frame h = absurd h
row_code schemas cells now row code.LineSyntax h = absurd h
row_code schemas cells now row code.SqlSyntax h = absurd h
row_code schemas cells now row code.UnknownTable h = absurd h
row_code schemas cells now row code.UnknownColumn h = absurd h
row_code schemas cells now row code.Types h = absurd h
row_code schemas cells now row code.TableExists h = absurd h
row_code schemas cells now row code.Keys h = absurd h
row_code schemas cells now row code.TooManyBuckets h = absurd h
row_code schemas cells now row code.ResultTooLarge h = absurd h
row_code schemas cells now row code.TimeLiteral h = absurd h
row_code schemas cells now row code.NotBuilt h = absurd h
row_code schemas cells now row code.Ambiguous h = absurd h
row_code schemas cells now row code.Clock h = absurd h
row_code schemas cells now row code.NoWorker h = absurd h
row_code schemas cells now row code.Full h = absurd h
row_code schemas cells now row code.Volume h = absurd h
row_code schemas cells now row code.NoRow h = absurd h
row_code schemas cells now row code.Memory h = absurd h

line_code : (now : ℕ) (w : Work) (line : Line) (c : Code) → Refuses now w line c → IsLineCode (number_of c)
line_code now w Blank c h = absurd h
line_code now w (Gives row) c h = row_code w.schemas w.cells now row c h.0

abbrev code_in : Code → Result Entry (Code × ℕ) → Code
code_in other (Ok e) = other
code_in other (Err refusal) = refusal.0

-- the code of a refusal of lines is one of lines
pub says_code : (now : ℕ) (w : Work) (number : ℕ) (lines : List Line) (whole : Bool) (c : Code) (n : ℕ) → Says now w number lines whole (Err (c, n)) → IsLineCode (number_of c)
says_code now w number [] true c n h = absurd (cc (h))
says_code now w number [] false c n h =
    let same : c ≡ code.LineSyntax = ap (code_in c) h in
    subst (λ (x : Code). IsLineCode (number_of x)) (sym same) (omega arith, omega arith)
says_code now w number (line ∷ lines) whole c n (inl (d, refuses, is)) =
    let same : c ≡ d = ap (code_in c) is in
    subst (λ (x : Code). IsLineCode (number_of x)) (sym same) (line_code now w line d refuses)
says_code now w number (line ∷ lines) whole c n (inr (none, more)) = says_code now (work_in now w line) (number + 1) lines whole c n more
