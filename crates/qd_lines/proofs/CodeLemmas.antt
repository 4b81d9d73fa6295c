-- The first code that is found is the least.
use Rattle.std.proofs.Common.{◌≡◌, ℕ, ◌-◌, ◌≤◌, ◌&&◌, leb, ltb, length, IfNone, Bool, true, false, cond, List, Option, Some, None, refl, sym, ap, ◌∙◌, arith, true≢false}
use Rattle.std.specs.Bool.{Decides}
use Rattle.std.proofs.lemmas.Bool.{ltb-false, leb-false}
use Rattle.std.proofs.lemmas.Option.{none-some}
use Rattle.qd_base.specs.declared.limits.TheConstants.{MAX_BATCH_CELLS, MAX_COLUMNS, MAX_TABLES}
use Rattle.qd_lines.specs.declared.codes.Place.{Place}
use Rattle.qd_lines.specs.declared.draft.Draft.{Draft}
use Rattle.qd_base.specs.declared.code.Code.{Code}
use Rattle.qd_base.specs.declared.code.Code.TheVariants as code
use Rattle.qd_base.specs.declared.schema.Schema.{Schema}
use Rattle.qd_base.specs.Codes.{number_of}
use Rattle.qd_ilp.specs.Line.{Row}
use Rattle.qd_ilp.specs.Transaction.{HasCode}
use Rattle.qd_lines.specs.declared.codes.Found.{Found}
use Rattle.qd_lines.specs.Codes.{first_of, Finds, IsCodeOf, KeepsTo}

module _ (schemas : List Schema) (cells now : ℕ) (row : Row) where
  -- a line has each of its codes, or none where each is told not to be there
  each_code : (P : Code → Type 0)
      → (HasCode schemas cells now row code.FloatField → P code.FloatField)
      → (HasCode schemas cells now row code.NumberRange → P code.NumberRange)
      → (HasCode schemas cells now row code.Name → P code.Name)
      → (HasCode schemas cells now row code.TypeClash → P code.TypeClash)
      → (HasCode schemas cells now row code.TimeRange → P code.TimeRange)
      → (HasCode schemas cells now row code.Columns → P code.Columns)
      → (HasCode schemas cells now row code.Tables → P code.Tables)
      → (HasCode schemas cells now row code.DuplicateColumn → P code.DuplicateColumn)
      → (HasCode schemas cells now row code.TextTooLong → P code.TextTooLong)
      → (HasCode schemas cells now row code.TooManyCells → P code.TooManyCells)
      → (k : Code) → HasCode schemas cells now row k → P k
  each_code P a b c d e f g h i j code.Frame x = absurd x
  each_code P a b c d e f g h i j code.LineSyntax x = absurd x
  each_code P a b c d e f g h i j code.FloatField x = a x
  each_code P a b c d e f g h i j code.NumberRange x = b x
  each_code P a b c d e f g h i j code.Name x = c x
  each_code P a b c d e f g h i j code.TypeClash x = d x
  each_code P a b c d e f g h i j code.TimeRange x = e x
  each_code P a b c d e f g h i j code.Columns x = f x
  each_code P a b c d e f g h i j code.Tables x = g x
  each_code P a b c d e f g h i j code.DuplicateColumn x = h x
  each_code P a b c d e f g h i j code.TextTooLong x = i x
  each_code P a b c d e f g h i j code.TooManyCells x = j x
  each_code P a b c d e f g h i j code.SqlSyntax x = absurd x
  each_code P a b c d e f g h i j code.UnknownTable x = absurd x
  each_code P a b c d e f g h i j code.UnknownColumn x = absurd x
  each_code P a b c d e f g h i j code.Types x = absurd x
  each_code P a b c d e f g h i j code.TableExists x = absurd x
  each_code P a b c d e f g h i j code.Keys x = absurd x
  each_code P a b c d e f g h i j code.TooManyBuckets x = absurd x
  each_code P a b c d e f g h i j code.ResultTooLarge x = absurd x
  each_code P a b c d e f g h i j code.TimeLiteral x = absurd x
  each_code P a b c d e f g h i j code.NotBuilt x = absurd x
  each_code P a b c d e f g h i j code.Ambiguous x = absurd x
  each_code P a b c d e f g h i j code.Clock x = absurd x
  each_code P a b c d e f g h i j code.NoWorker x = absurd x
  each_code P a b c d e f g h i j code.Full x = absurd x
  each_code P a b c d e f g h i j code.Volume x = absurd x
  each_code P a b c d e f g h i j code.NoRow x = absurd x
  each_code P a b c d e f g h i j code.Memory x = absurd x

  -- a code that is found not to be there
  not_there : (b : Bool) (P Q : Type 0) → Decides b P → b ≡ false → P → Q
  not_there b P Q d e x = absurd (true≢false (sym (d.1 x) ∙ e))

  pub code_is : (f : Found) → Finds schemas cells now row f → IsCodeOf schemas cells now row (first_of f)
  code_is f h = go f.float f.huge f.name f.clash f.time f.columns f.tables f.twice f.long f.cells refl refl refl refl refl refl refl refl refl refl
    where
      go : (b0 b1 b2 b3 b4 b5 b6 b7 b8 b9 : Bool) → f.float ≡ b0 → f.huge ≡ b1 → f.name ≡ b2 → f.clash ≡ b3 → f.time ≡ b4 → f.columns ≡ b5 → f.tables ≡ b6 → f.twice ≡ b7 → f.long ≡ b8 → f.cells ≡ b9
          → IsCodeOf schemas cells now row (cond b0 (Some code.FloatField) (cond b1 (Some code.NumberRange) (cond b2 (Some code.Name) (cond b3 (Some code.TypeClash) (cond b4 (Some code.TimeRange) (cond b5 (Some code.Columns) (cond b6 (Some code.Tables) (cond b7 (Some code.DuplicateColumn) (cond b8 (Some code.TextTooLong) (cond b9 (Some code.TooManyCells) (None)))))))))))
      go true b1 b2 b3 b4 b5 b6 b7 b8 b9 e0 e1 e2 e3 e4 e5 e6 e7 e8 e9 = record { least = (h.float.0 e0, each_code (λ k. 12 ≤ number_of k) (λ x. omega arith) (λ x. omega arith) (λ x. omega arith) (λ x. omega arith) (λ x. omega arith) (λ x. omega arith) (λ x. omega arith) (λ x. omega arith) (λ x. omega arith) (λ x. omega arith)); none = tt }
      go false true b2 b3 b4 b5 b6 b7 b8 b9 e0 e1 e2 e3 e4 e5 e6 e7 e8 e9 = record { least = (h.huge.0 e1, each_code (λ k. 13 ≤ number_of k) (λ x. not_there f.float _ _ h.float e0 x) (λ x. omega arith) (λ x. omega arith) (λ x. omega arith) (λ x. omega arith) (λ x. omega arith) (λ x. omega arith) (λ x. omega arith) (λ x. omega arith) (λ x. omega arith)); none = tt }
      go false false true b3 b4 b5 b6 b7 b8 b9 e0 e1 e2 e3 e4 e5 e6 e7 e8 e9 = record { least = (h.name.0 e2, each_code (λ k. 14 ≤ number_of k) (λ x. not_there f.float _ _ h.float e0 x) (λ x. not_there f.huge _ _ h.huge e1 x) (λ x. omega arith) (λ x. omega arith) (λ x. omega arith) (λ x. omega arith) (λ x. omega arith) (λ x. omega arith) (λ x. omega arith) (λ x. omega arith)); none = tt }
      go false false false true b4 b5 b6 b7 b8 b9 e0 e1 e2 e3 e4 e5 e6 e7 e8 e9 = record { least = (h.clash.0 e3, each_code (λ k. 15 ≤ number_of k) (λ x. not_there f.float _ _ h.float e0 x) (λ x. not_there f.huge _ _ h.huge e1 x) (λ x. not_there f.name _ _ h.name e2 x) (λ x. omega arith) (λ x. omega arith) (λ x. omega arith) (λ x. omega arith) (λ x. omega arith) (λ x. omega arith) (λ x. omega arith)); none = tt }
      go false false false false true b5 b6 b7 b8 b9 e0 e1 e2 e3 e4 e5 e6 e7 e8 e9 = record { least = (h.time.0 e4, each_code (λ k. 16 ≤ number_of k) (λ x. not_there f.float _ _ h.float e0 x) (λ x. not_there f.huge _ _ h.huge e1 x) (λ x. not_there f.name _ _ h.name e2 x) (λ x. not_there f.clash _ _ h.clash e3 x) (λ x. omega arith) (λ x. omega arith) (λ x. omega arith) (λ x. omega arith) (λ x. omega arith) (λ x. omega arith)); none = tt }
      go false false false false false true b6 b7 b8 b9 e0 e1 e2 e3 e4 e5 e6 e7 e8 e9 = record { least = (h.columns.0 e5, each_code (λ k. 17 ≤ number_of k) (λ x. not_there f.float _ _ h.float e0 x) (λ x. not_there f.huge _ _ h.huge e1 x) (λ x. not_there f.name _ _ h.name e2 x) (λ x. not_there f.clash _ _ h.clash e3 x) (λ x. not_there f.time _ _ h.time e4 x) (λ x. omega arith) (λ x. omega arith) (λ x. omega arith) (λ x. omega arith) (λ x. omega arith)); none = tt }
      go false false false false false false true b7 b8 b9 e0 e1 e2 e3 e4 e5 e6 e7 e8 e9 = record { least = (h.tables.0 e6, each_code (λ k. 18 ≤ number_of k) (λ x. not_there f.float _ _ h.float e0 x) (λ x. not_there f.huge _ _ h.huge e1 x) (λ x. not_there f.name _ _ h.name e2 x) (λ x. not_there f.clash _ _ h.clash e3 x) (λ x. not_there f.time _ _ h.time e4 x) (λ x. not_there f.columns _ _ h.columns e5 x) (λ x. omega arith) (λ x. omega arith) (λ x. omega arith) (λ x. omega arith)); none = tt }
      go false false false false false false false true b8 b9 e0 e1 e2 e3 e4 e5 e6 e7 e8 e9 = record { least = ((h.twice e5).0 e7, each_code (λ k. 19 ≤ number_of k) (λ x. not_there f.float _ _ h.float e0 x) (λ x. not_there f.huge _ _ h.huge e1 x) (λ x. not_there f.name _ _ h.name e2 x) (λ x. not_there f.clash _ _ h.clash e3 x) (λ x. not_there f.time _ _ h.time e4 x) (λ x. not_there f.columns _ _ h.columns e5 x) (λ x. not_there f.tables _ _ h.tables e6 x) (λ x. omega arith) (λ x. omega arith) (λ x. omega arith)); none = tt }
      go false false false false false false false false true b9 e0 e1 e2 e3 e4 e5 e6 e7 e8 e9 = record { least = (h.long.0 e8, each_code (λ k. 20 ≤ number_of k) (λ x. not_there f.float _ _ h.float e0 x) (λ x. not_there f.huge _ _ h.huge e1 x) (λ x. not_there f.name _ _ h.name e2 x) (λ x. not_there f.clash _ _ h.clash e3 x) (λ x. not_there f.time _ _ h.time e4 x) (λ x. not_there f.columns _ _ h.columns e5 x) (λ x. not_there f.tables _ _ h.tables e6 x) (λ x. not_there f.twice _ _ (h.twice e5) e7 x) (λ x. omega arith) (λ x. omega arith)); none = tt }
      go false false false false false false false false false true e0 e1 e2 e3 e4 e5 e6 e7 e8 e9 = record { least = ((h.many e5).0 e9, each_code (λ k. 21 ≤ number_of k) (λ x. not_there f.float _ _ h.float e0 x) (λ x. not_there f.huge _ _ h.huge e1 x) (λ x. not_there f.name _ _ h.name e2 x) (λ x. not_there f.clash _ _ h.clash e3 x) (λ x. not_there f.time _ _ h.time e4 x) (λ x. not_there f.columns _ _ h.columns e5 x) (λ x. not_there f.tables _ _ h.tables e6 x) (λ x. not_there f.twice _ _ (h.twice e5) e7 x) (λ x. not_there f.long _ _ h.long e8 x) (λ x. omega arith)); none = tt }
      go false false false false false false false false false false e0 e1 e2 e3 e4 e5 e6 e7 e8 e9 = record { least = tt; none = each_code (λ k. ⊥) (λ x. not_there f.float _ _ h.float e0 x) (λ x. not_there f.huge _ _ h.huge e1 x) (λ x. not_there f.name _ _ h.name e2 x) (λ x. not_there f.clash _ _ h.clash e3 x) (λ x. not_there f.time _ _ h.time e4 x) (λ x. not_there f.columns _ _ h.columns e5 x) (λ x. not_there f.tables _ _ h.tables e6 x) (λ x. not_there f.twice _ _ (h.twice e5) e7 x) (λ x. not_there f.long _ _ h.long e8 x) (λ x. not_there f.cells _ _ (h.many e5) e9 x) }

-- what isn't found where no code is
pub none_found : (f : Found) → first_of f ≡ None → (f.columns ≡ false) × (f.tables ≡ false) × (f.twice ≡ false) × (f.cells ≡ false)
none_found f e = go f.float f.huge f.name f.clash f.time f.columns f.tables f.twice f.long f.cells e
  where
    go : (b0 b1 b2 b3 b4 b5 b6 b7 b8 b9 : Bool) → cond b0 (Some code.FloatField) (cond b1 (Some code.NumberRange) (cond b2 (Some code.Name) (cond b3 (Some code.TypeClash) (cond b4 (Some code.TimeRange) (cond b5 (Some code.Columns) (cond b6 (Some code.Tables) (cond b7 (Some code.DuplicateColumn) (cond b8 (Some code.TextTooLong) (cond b9 (Some code.TooManyCells) (None)))))))))) ≡ None → (b5 ≡ false) × (b6 ≡ false) × (b7 ≡ false) × (b9 ≡ false)
    go true b1 b2 b3 b4 b5 b6 b7 b8 b9 e = absurd (none-some code.FloatField (sym e))
    go false true b2 b3 b4 b5 b6 b7 b8 b9 e = absurd (none-some code.NumberRange (sym e))
    go false false true b3 b4 b5 b6 b7 b8 b9 e = absurd (none-some code.Name (sym e))
    go false false false true b4 b5 b6 b7 b8 b9 e = absurd (none-some code.TypeClash (sym e))
    go false false false false true b5 b6 b7 b8 b9 e = absurd (none-some code.TimeRange (sym e))
    go false false false false false true b6 b7 b8 b9 e = absurd (none-some code.Columns (sym e))
    go false false false false false false true b7 b8 b9 e = absurd (none-some code.Tables (sym e))
    go false false false false false false false true b8 b9 e = absurd (none-some code.DuplicateColumn (sym e))
    go false false false false false false false false true b9 e = absurd (none-some code.TextTooLong (sym e))
    go false false false false false false false false false true e = absurd (none-some code.TooManyCells (sym e))
    go false false false false false false false false false false e = (refl, refl, refl, refl)

-- a line without a code keeps to the limits
pub keeps : (p : Place) (d : Draft) (cells : ℕ) (f : Found) → cells ≤ MAX_BATCH_CELLS → f.columns ≡ ltb MAX_COLUMNS (length d.marks.items) → f.cells ≡ ltb (MAX_BATCH_CELLS - cells) (length d.marks.items) → f.tables ≡ (p.fresh && leb MAX_TABLES p.tables) → f.twice ≡ d.faults.twice
    → (o : Option Code) → o ≡ first_of f → IfNone o (KeepsTo p d cells)
keeps p d cells f le columns fits tables twice (Some c) e = tt
keeps p d cells f le columns fits tables twice None e =
    let no = none_found f (sym e) in
    let short : length d.marks.items ≤ MAX_COLUMNS = ltb-false MAX_COLUMNS (length d.marks.items) (sym columns ∙ no.0) in
    let some : length d.marks.items ≤ MAX_BATCH_CELLS - cells = ltb-false (MAX_BATCH_CELLS - cells) (length d.marks.items) (sym fits ∙ no.3) in
    record {
      few = short;
      once = sym twice ∙ no.2;
      room = λ is. let free : leb MAX_TABLES p.tables ≡ false = ap (λ b. b && leb MAX_TABLES p.tables) (sym is) ∙ sym tables ∙ no.1 in let lt = leb-false MAX_TABLES p.tables free in omega arith;
      fits = omega (arith, le);
    }
