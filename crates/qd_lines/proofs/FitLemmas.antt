-- What a transaction or a refusal has to do with the lines.
use Rattle.std.proofs.Common.{◌≡◌, ℕ, ◌+◌, ◌<◌, ◌≤◌, inl, inr, Bool, true, false, List, [], ◌∷◌, ◌++◌, Option, Some, None, Result, Ok, Err, length, drop, refl, ap, ◌∙◌, arith, fold}
use Rattle.std.specs.List.{sum_by}
use Rattle.std.proofs.lemmas.List.Sums.{sum_by-cons, sum_by-append}
use Rattle.qd_base.specs.declared.code.Code.{Code}
use Rattle.qd_base.specs.declared.schema.Col.{Col}
use Rattle.qd_base.specs.declared.schema.Schema.{Schema}
use Rattle.qd_base.specs.declared.op.Op.TheVariants as op
use Rattle.qd_base.specs.declared.op.Entry.{Entry}
use Rattle.qd_base.specs.Rows.{Row as Cells}
use Rattle.qd_base.specs.Schemas.{schema_of}
use Rattle.qd_ilp.specs.Line.{Row, Line, Blank, Gives}
use Rattle.qd_ilp.specs.Transaction.{Says, Work, line_ops, start, transaction_of_lines, with_items, work_in}
use Rattle.qd_lines.specs.Laws.{rows_in, rows_given}
use Rattle.qd_lines.proofs.JoinLemmas.{grown-rows}
use Rattle.qd_lines.proofs.SchemaLemmas.{adds}

abbrev Answer : Type 0
Answer = Result Entry (Code × ℕ)

-- ---- a transaction

ok_err : (e : Entry) (x : Code × ℕ) → (let a : Answer = Ok e in a) ≡ Err x → ⊥
ok_err e x h = cc

ok_ok : (e f : Entry) → (let a : Answer = Ok e in a) ≡ Ok f → e ≡ f
ok_ok e f h = ap (entry_of e) h
  where
    entry_of : Entry → Answer → Entry
    entry_of d (Ok x) = x
    entry_of d (Err x) = d

worked : (now : ℕ) (w : Work) (number : ℕ) (lines : List Line) (whole : Bool) (entry : Entry) → Says now w number lines whole (Ok entry) → (whole ≡ true) × (entry ≡ record { ops = (fold (work_in now) w lines).ops })
worked now w number [] true entry says = (refl, ok_ok entry (record { ops = w.ops }) says)
worked now w number [] false entry says = absurd (ok_err entry _ says)
worked now w number (line ∷ lines) whole entry (inl h) = absurd (ok_err entry (h.0, number) h.2)
worked now w number (line ∷ lines) whole entry (inr h) = worked now (work_in now w line) (number + 1) lines whole entry h.1

pub made : (now number : ℕ) (schemas : List Schema) (lines : List Line) (whole : Bool) (entry : Entry) → Says now (start schemas) number lines whole (Ok entry) → (whole ≡ true) × (entry ≡ transaction_of_lines schemas now lines)
made now number schemas lines whole entry says = worked now (start schemas) number lines whole entry says

adds-rows : (name : List ℕ) (cs : List Col) → sum_by rows_in (adds name cs) ≡ 0
adds-rows name [] = refl
adds-rows name (c ∷ cs) = let a = sum_by-cons rows_in (op.AddColumn name c) (adds name cs) in let b = adds-rows name cs in omega arith

-- a line inserts one row
line-rows : (o : Option Schema) (now : ℕ) (row : Row) → sum_by rows_in (line_ops o now row) ≡ 1
line-rows None now row = refl
line-rows (Some s) now row =
    let cs : List Col = drop (length s.cols) (with_items s.cols row.items) in
    one s.name cs _ (adds-rows s.name cs)
  where
    one : (name : List ℕ) (cs : List Col) (cells : Cells) → sum_by rows_in (adds name cs) ≡ 0 → sum_by rows_in (adds name cs ++ op.Insert name (cells ∷ []) ∷ []) ≡ 1
    one name cs cells none = sum_by-append rows_in (adds name cs) (op.Insert name (cells ∷ []) ∷ []) ∙ (let e = none in omega arith)

worked-rows : (now : ℕ) (w : Work) (lines : List Line) → sum_by rows_in (fold (work_in now) w lines).ops ≡ sum_by rows_in w.ops + sum_by rows_given lines
worked-rows now w [] = omega arith
worked-rows now w (Blank ∷ lines) = let a = worked-rows now w lines in let b = sum_by-cons rows_given Blank lines in omega arith
worked-rows now w (Gives row ∷ lines) =
    let a = worked-rows now (work_in now w (Gives row)) lines in
    let b = sum_by-cons rows_given (Gives row) lines in
    let c = grown-rows w.ops (line_ops (schema_of w.schemas row.table) now row) in
    let d = line-rows (schema_of w.schemas row.table) now row in
    omega arith

pub rows : (now number : ℕ) (schemas : List Schema) (lines : List Line) (whole : Bool) (entry : Entry) → Says now (start schemas) number lines whole (Ok entry) → sum_by rows_in entry.ops ≡ sum_by rows_given lines
rows now number schemas lines whole entry says =
    ap (λ (e : Entry). sum_by rows_in e.ops) (made now number schemas lines whole entry says).1 ∙ (let a = worked-rows now (start schemas) lines in omega arith)

-- ---- a refusal

err_err : (x y : Code × ℕ) → (let a : Answer = Err x in a) ≡ Err y → x.1 ≡ y.1
err_err x y h = ap number_in h
  where
    number_in : Answer → ℕ
    number_in (Ok e) = 0
    number_in (Err z) = z.1

pub named : (now : ℕ) (w : Work) (number : ℕ) (lines : List Line) (whole : Bool) (c : Code) (n : ℕ) → Says now w number lines whole (Err (c, n)) → (number ≤ n) × (n ≤ number + length lines)
named now w number [] true c n says = absurd cc
named now w number [] false c n says = let same = err_err (c, n) _ says in (omega arith, omega arith)
named now w number (line ∷ lines) whole c n (inl h) = let same = err_err (c, n) (h.0, number) h.2 in (omega arith, omega arith)
named now w number (line ∷ lines) whole c n (inr h) = let rest = named now (work_in now w line) (number + 1) lines whole c n h.1 in (omega arith, omega arith)

pub early : (now : ℕ) (w : Work) (number : ℕ) (lines more : List Line) (whole all : Bool) (c : Code) (n : ℕ) → n < number + length lines → Says now w number lines whole (Err (c, n)) → Says now w number (lines ++ more) all (Err (c, n))
early now w number [] more true all c n lt says = absurd cc
early now w number [] more false all c n lt says = let same = err_err (c, n) _ says in absurd (omega arith)
early now w number (line ∷ lines) more whole all c n lt (inl h) = inl h
early now w number (line ∷ lines) more whole all c n lt (inr h) = inr (h.0, early now (work_in now w line) (number + 1) lines more whole all c n (omega arith) h.1)
