-- Lines have one answer, and always one.
use Rattle.std.proofs.Common.{◌≡◌, ℕ, ◌+◌, ◌≤◌, ◌⊎◌, inl, inr, Bool, true, false, cond, eqb, List, [], ◌∷◌, refl, sym, ap, ◌∙◌, arith}
use Rattle.std.specs.Prelude.{Result, Ok, Err}
use Rattle.qd_base.specs.declared.code.Code.{Code}
use Rattle.qd_base.specs.declared.code.Code.TheVariants as code
use Rattle.qd_base.specs.declared.schema.Schema.{Schema}
use Rattle.qd_base.specs.declared.op.Entry.{Entry}
use Rattle.qd_base.specs.Codes.{number_of}
use Rattle.qd_ilp.specs.Line.{Row, Line, Blank, Gives}
use Rattle.qd_ilp.specs.Transaction.{LeastCode, Refuses, Says, Work, work_in}
use Rattle.qd_lines.specs.Codes.{IsCodeless}
use Rattle.qd_lines.proofs.CleanLemmas.{coded}

-- the code of a number
code_at : ℕ → List Code → Code
code_at n [] = code.Frame
code_at n (c ∷ cs) = cond (eqb (number_of c) n) c (code_at n cs)

every : List Code
every =
    code.Frame ∷ code.LineSyntax ∷ code.FloatField ∷ code.NumberRange ∷ code.Name ∷ code.TypeClash ∷ code.TimeRange ∷ code.Columns ∷ code.Tables ∷ code.DuplicateColumn ∷ code.TextTooLong ∷ code.TooManyCells
    ∷ code.SqlSyntax ∷ code.UnknownTable ∷ code.UnknownColumn ∷ code.Types ∷ code.TableExists ∷ code.Keys ∷ code.TooManyBuckets ∷ code.ResultTooLarge ∷ code.TimeLiteral ∷ code.NotBuilt ∷ code.Ambiguous ∷ code.Clock ∷ code.NoWorker
    ∷ code.Full ∷ code.Volume ∷ code.NoRow ∷ code.Memory ∷ []

coded_back : (c : Code) → code_at (number_of c) every ≡ c
unfolding code_at every
coded_back code.Frame = refl
coded_back code.LineSyntax = refl
coded_back code.FloatField = refl
coded_back code.NumberRange = refl
coded_back code.Name = refl
coded_back code.TypeClash = refl
coded_back code.TimeRange = refl
coded_back code.Columns = refl
coded_back code.Tables = refl
coded_back code.DuplicateColumn = refl
coded_back code.TextTooLong = refl
coded_back code.TooManyCells = refl
coded_back code.SqlSyntax = refl
coded_back code.UnknownTable = refl
coded_back code.UnknownColumn = refl
coded_back code.Types = refl
coded_back code.TableExists = refl
coded_back code.Keys = refl
coded_back code.TooManyBuckets = refl
coded_back code.ResultTooLarge = refl
coded_back code.TimeLiteral = refl
coded_back code.NotBuilt = refl
coded_back code.Ambiguous = refl
coded_back code.Clock = refl
coded_back code.NoWorker = refl
coded_back code.Full = refl
coded_back code.Volume = refl
coded_back code.NoRow = refl
coded_back code.Memory = refl

-- codes of one number are one
one_code : (c d : Code) → number_of c ≡ number_of d → c ≡ d
one_code c d e = sym (coded_back c) ∙ ap (λ n. code_at n every) e ∙ coded_back d

pub one_least : (schemas : List Schema) (cells now : ℕ) (row : Row) (c d : Code) → LeastCode schemas cells now row c → LeastCode schemas cells now row d → c ≡ d
one_least schemas cells now row c d h k = one_code c d (let le : number_of c ≤ number_of d = h.1 d k.0 in let ge : number_of d ≤ number_of c = k.1 c h.0 in omega arith)

one_refusal : (now : ℕ) (w : Work) (line : Line) (c d : Code) → Refuses now w line c → Refuses now w line d → c ≡ d
one_refusal now w Blank c d h k = absurd h
one_refusal now w (Gives row) c d h k = one_least w.schemas w.cells now row c d h k

pub one_answer : (now : ℕ) (w : Work) (number : ℕ) (lines : List Line) (whole : Bool) (a b : Result Entry (Code × ℕ)) → Says now w number lines whole a → Says now w number lines whole b → a ≡ b
one_answer now w number [] true a b h k = h ∙ sym k
one_answer now w number [] false a b h k = h ∙ sym k
one_answer now w number (line ∷ lines) whole a b (inl h) (inl k) =
    let answer : Code → Result Entry (Code × ℕ) = λ c. Err (c, number) in
    h.2 ∙ ap answer (one_refusal now w line h.0 k.0 h.1 k.1) ∙ sym k.2
one_answer now w number (line ∷ lines) whole a b (inl h) (inr k) = absurd (k.0 h.0 h.1)
one_answer now w number (line ∷ lines) whole a b (inr h) (inl k) = absurd (h.0 k.0 k.1)
one_answer now w number (line ∷ lines) whole a b (inr h) (inr k) = one_answer now (work_in now w line) (number + 1) lines whole a b h.1 k.1

-- a line is refused, or it isn't
pub refused : (now : ℕ) (w : Work) (line : Line) → ((c : Code) × Refuses now w line c) ⊎ ((c : Code) → Refuses now w line c → ⊥)
refused now w Blank = inr (λ c h. h)
refused now w (Gives row) = go (coded w.schemas w.cells now row)
  where
    go : ((c : Code) × LeastCode w.schemas w.cells now row c) ⊎ IsCodeless w.schemas w.cells now row → ((c : Code) × Refuses now w (Gives row) c) ⊎ ((c : Code) → Refuses now w (Gives row) c → ⊥)
    go (inl h) = inl h
    go (inr none) = inr (λ c h. none c h.0)

-- a line that isn't refused has no code
pub none_refused : (now : ℕ) (w : Work) (row : Row) → ((c : Code) → Refuses now w (Gives row) c → ⊥) → IsCodeless w.schemas w.cells now row
none_refused now w row f = go (coded w.schemas w.cells now row)
  where
    go : ((c : Code) × LeastCode w.schemas w.cells now row c) ⊎ IsCodeless w.schemas w.cells now row → IsCodeless w.schemas w.cells now row
    go (inl h) = absurd (f h.0 h.1)
    go (inr none) = none

pub answered : (now : ℕ) (w : Work) (number : ℕ) (lines : List Line) (whole : Bool) → (answer : Result Entry (Code × ℕ)) × Says now w number lines whole answer
answered now w number [] true = (Ok (record { ops = w.ops }), refl)
answered now w number [] false = (Err (code.LineSyntax, number), refl)
answered now w number (line ∷ lines) whole = go (refused now w line) (answered now (work_in now w line) (number + 1) lines whole)
  where
    go : ((c : Code) × Refuses now w line c) ⊎ ((c : Code) → Refuses now w line c → ⊥) → (answer : Result Entry (Code × ℕ)) × Says now (work_in now w line) (number + 1) lines whole answer → (answer : Result Entry (Code × ℕ)) × Says now w number (line ∷ lines) whole answer
    go (inl h) rest = (Err (h.0, number), inl (h.0, h.1, refl))
    go (inr none) rest = (rest.0, inr (none, rest.1))
