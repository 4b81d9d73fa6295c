-- The interval of times that WHERE fixes by its top terms: comparisons of the designated timestamp with a moment, and IN an
-- interval. QuestDB documentation, "Interval scan".
use Rattle.std.specs.Prelude.{ℕ, ◌-◌, ◌==◌, ◌<◌, ◌≤◌, Bool, false, List, [], ◌∷◌, Option, Some, None, All, IfSome}
use Rattle.std.specs.Bool.{OnTrue}
use Rattle.qd_base.specs.declared.cell.Cell.TheVariants as cell
use Rattle.qd_base.specs.declared.limits.TheConstants.{MAX_TIME}
use Rattle.qd_value.specs.declared.bound.Bound.{Bound, out-Bound}
use Rattle.qd_value.specs.declared.bound.Bound.TheOpen.{Bound-F}
use Rattle.qd_value.specs.declared.bound.Bound.TheVariants as is
use Rattle.qd_value.specs.declared.bound.Comparison.{Comparison}
use Rattle.qd_value.specs.declared.bound.Comparison.TheVariants as asks
use Rattle.qd_value.specs.declared.bound.Operand.{Operand}

-- ---- comparisons with a moment

-- how one bounds times from below; `!=` doesn't
abbrev pub IsFrom : Comparison → (moment t : ℕ) → Type 0
IsFrom asks.Equal m t = m ≤ t
IsFrom asks.Greater m t = m < t
IsFrom asks.GreaterEqual m t = m ≤ t
IsFrom _ m t = Unit {0}

-- and from above; `<` moment 0 allows moment 0
abbrev pub IsTo : Comparison → (moment t : ℕ) → Type 0
IsTo asks.Equal m t = t ≤ m
IsTo asks.Less m t = t ≤ m - 1
IsTo asks.LessEqual m t = t ≤ m
IsTo _ m t = Unit {0}

-- the comparison that holds of two values where this one holds of them in the other order
abbrev pub turned : Comparison → Comparison
turned asks.Equal = asks.Equal
turned asks.NotEqual = asks.NotEqual
turned asks.Less = asks.Greater
turned asks.LessEqual = asks.GreaterEqual
turned asks.Greater = asks.Less
turned asks.GreaterEqual = asks.LessEqual

-- ---- tests

-- whether an expression is a column, and the moment that a literal is
abbrev pub is_column : ℕ → Bound → Bool
is_column col (is.Column at) = at == col
is_column col _ = false

abbrev pub moment_in : Bound → Option ℕ
moment_in (is.Literal (cell.Time t)) = Some t
moment_in _ = None

-- A test allows a time to a column, as far as bounds of one side go, `IsFrom` or `IsTo`: those of a comparison of the column
-- with a moment, on either side of it, and of IN an interval. Any other test allows all.
abbrev pub FormAllows : (Comparison → ℕ → ℕ → Type 0) → (col : ℕ) → Bound-F Bound Operand → (t : ℕ) → Type 0
FormAllows Side col (Bound-F.InInterval x lo hi) t = OnTrue (is_column col x) (Side asks.GreaterEqual lo t × Side asks.LessEqual hi t)
FormAllows Side col (Bound-F.Compare op x y) t = OnTrue (is_column col x) (IfSome (moment_in y) (λ m. Side op m t)) × OnTrue (is_column col y) (IfSome (moment_in x) (λ m. Side (turned op) m t))
FormAllows Side col _ t = Unit {0}

abbrev pub TestAllows : (Comparison → ℕ → ℕ → Type 0) → (col : ℕ) → Bound → (t : ℕ) → Type 0
TestAllows Side col test t = FormAllows Side col (out-Bound test) t

-- the terms of an AND; any other test is its only term
abbrev pub terms_by : Bound → Bound-F Bound Operand → List Bound
terms_by test (Bound-F.All terms) = terms
terms_by test _ = test ∷ []

abbrev pub terms_of : Bound → List Bound
terms_of test = terms_by test (out-Bound test)

abbrev pub TermsAllow : (Comparison → ℕ → ℕ → Type 0) → (col : ℕ) → List Bound → (t : ℕ) → Type 0
TermsAllow Side col terms t = All (λ term. TestAllows Side col term t) terms

-- ---- WHERE

abbrev pub WhereAllows : (Comparison → ℕ → ℕ → Type 0) → (col : ℕ) → Option Bound → (t : ℕ) → Type 0
WhereAllows Side col None t = Unit {0}
WhereAllows Side col (Some test) t = TermsAllow Side col (terms_of test) t

-- a time of the interval, and one that isn't past its end
abbrev pub IsWithin : (col : ℕ) → Option Bound → (t : ℕ) → Type 0
IsWithin col keep t = WhereAllows IsFrom col keep t × WhereAllows IsTo col keep t × (t ≤ MAX_TIME)

abbrev pub IsByTheEnd : (col : ℕ) → Option Bound → (t : ℕ) → Type 0
IsByTheEnd col keep t = WhereAllows IsTo col keep t × (t ≤ MAX_TIME)

-- the times from `lo` to `hi` are allowed, as far as the bounds of each side go
pub record AreAllowed (from to : ℕ → Type 0) (lo hi : ℕ) : Type 0 where
  pub low : (t : ℕ) → t ≤ MAX_TIME → lo ≤ t → from t
  pub high : (t : ℕ) → t ≤ hi → to t
