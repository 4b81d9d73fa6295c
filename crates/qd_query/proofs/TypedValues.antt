-- The value of an expression is NULL or of the expression's class.
use Rattle.std.proofs.Common.{◌≡◌, ℕ, zero, suc, ◌+◌, ◌⊎◌, inl, inr, Bool, true, false, List, [], ◌∷◌, map, Option, Some, None, Result, Ok, Err, ℤ, refl, sym, ap, ◌∙◌, subst, arith, true≢false}
use Rattle.std.specs.Prelude.{if◌then◌else◌, not, slice_get, unsigned_abs, neg_ℤ, ◌+ℤ◌, ◌-ℤ◌, ◌*ℤ◌, int_div, int_rem, pos}
use Rattle.std.specs.Ordering.{int_eq}
use Rattle.std.specs.List.{AllZip, AllByRecursion, list_all, list_any}
use Rattle.std.proofs.lemmas.Bool.{cases_lt}
use Rattle.qd_base.specs.declared.cell.Cell.{Cell}
use Rattle.qd_base.specs.declared.cell.Cell.TheVariants as cell
use Rattle.qd_base.specs.declared.limits.TheConstants.{MAX_NUMBER}
use Rattle.qd_base.specs.declared.schema.Col.{Col}
use Rattle.qd_base.specs.declared.schema.ColType.{ColType}
use Rattle.qd_base.specs.Rows.{Row, cell_at, cell_eq}
use Rattle.qd_sql_ast.specs.declared.tree.Column.{Column}
use Rattle.qd_time.specs.declared.fault.TimeFault.{TimeFault}
use Rattle.qd_value.specs.declared.bound.Arithmetic.{Arithmetic}
use Rattle.qd_value.specs.declared.bound.Arithmetic.TheVariants as does
use Rattle.qd_value.specs.declared.bound.Bound.{Bound}
use Rattle.qd_value.specs.declared.bound.Bound.TheFolds.{fold-roll-Bound}
use Rattle.qd_value.specs.declared.bound.Bound.TheOpen.{Bound-F}
use Rattle.qd_value.specs.declared.bound.Bound.TheVariants as is
use Rattle.qd_value.specs.declared.bound.Bound.TheVariants.{rolls-Column}
use Rattle.qd_value.specs.declared.bound.Comparison.{Comparison}
use Rattle.qd_value.specs.Cells as cells
use Rattle.qd_value.specs.Cells.{Class, number, truth, class_of, long, on_numbers, arithmetic}
use Rattle.qd_value.specs.Value.{Step, operand_step, operand_value, passes, value, value_step}
use Rattle.qd_value.specs.Value as values
use Rattle.qd_value.proofs.Longs.{long_within, long_beyond}
use Rattle.qd_value.proofs.Values.{value-literal, value-negated, value-chain, value-compare, value-in_list, value-in_interval, value-is_null, value-not, value-all, value-any}
use Rattle.qd_meaning.specs.declared.refusal.Refusal.{Refusal}
use Rattle.qd_meaning.specs.Scopes.{Scope, ScopeColumn, found_from, is_named, resolved, resolved_to}
use Rattle.qd_meaning.specs.Typing as typing
use Rattle.qd_meaning.specs.Typing.{Constant, Form, Link, NumberAt, Other, Part, Plain, TextAt, Typed, among, chained, class_of_kind, compared, compared_as, constant_null, constant_of, constant_number, constant_text, constant_truth, in_list, in_text, joined_by, literal, negated, negated_by, not_of, operand, opposite, part_bound, plain_column, within}
use Rattle.qd_meaning.specs.Binding.{behind_all, column_or_null, named_column}

abbrev pub IsOfClass : Option Class → Cell → Type 0
IsOfClass class c = (class_of c ≡ None) ⊎ (class_of c ≡ class)

-- a cell that may stand in a column
abbrev pub MayStand : ColType → Cell → Type 0
MayStand k c = IsOfClass (Some (class_of_kind k)) c

abbrev pub FitsColumns : List Col → Row → Type 0
FitsColumns cols row = AllZip (λ (c : Col) (x : Cell). MayStand c.kind x) cols row

pub cell_fits : (cols : List Col) (row : Row) (n : ℕ) (c : Col) → FitsColumns cols row → slice_get cols n ≡ Some c → MayStand c.kind (cell_at row n)
cell_fits [] row n c h at = absurd (cc)
cell_fits (x ∷ xs) [] n c h at = absurd h
cell_fits (x ∷ xs) (y ∷ ys) zero c h at = let same : x ≡ c = cc in subst (λ (z : Col). MayStand z.kind y) same h.0
cell_fits (x ∷ xs) (y ∷ ys) (suc n) c h at = cell_fits xs ys n c h.1 at

-- ---- numbers

pub long_of : (x : ℤ) → IsOfClass (Some number) (long x)
long_of x = elim (cases_lt MAX_NUMBER (unsigned_abs x)) [
  | inl far ↦ inl (ap class_of (long_beyond x far))
  | inr near ↦ inr (ap class_of (long_within x near))
]

null_or : (b : Bool) (c : Cell) → IsOfClass (Some number) c → IsOfClass (Some number) (if b then cell.Null else c)
null_or true c h = inl refl
null_or false c h = h

on_numbers_of : (op : Arithmetic) (x y : ℤ) → IsOfClass (Some number) (on_numbers op x y)
on_numbers_of does.Plus x y = long_of (x +ℤ y)
on_numbers_of does.Minus x y = long_of (x -ℤ y)
on_numbers_of does.Times x y = long_of (x *ℤ y)
on_numbers_of does.Divide x y = null_or (int_eq y (pos 0)) (long (int_div x y)) (long_of (int_div x y))
on_numbers_of does.Remainder x y = null_or (int_eq y (pos 0)) (long (int_rem x y)) (long_of (int_rem x y))

arithmetic_of : (op : Arithmetic) (x y : Cell) → IsOfClass (Some number) (arithmetic op x y)
arithmetic_of op (cell.Long x) (cell.Long y) = on_numbers_of op x y
arithmetic_of op (cell.Long x) cell.Null = inl refl
arithmetic_of op (cell.Long x) (cell.Bool y) = inl refl
arithmetic_of op (cell.Long x) (cell.Text y) = inl refl
arithmetic_of op (cell.Long x) (cell.Time y) = inl refl
arithmetic_of op cell.Null y = inl refl
arithmetic_of op (cell.Bool x) y = inl refl
arithmetic_of op (cell.Text x) y = inl refl
arithmetic_of op (cell.Time x) y = inl refl

opposite_of : (x : Cell) → IsOfClass (Some number) (cells.negated x)
opposite_of (cell.Long x) = long_of (neg_ℤ x)
opposite_of cell.Null = inl refl
opposite_of (cell.Bool x) = inl refl
opposite_of (cell.Text x) = inl refl
opposite_of (cell.Time x) = inl refl

chain_of : (x : Cell) (steps : List Step) → IsOfClass (Some number) x → IsOfClass (Some number) (values.chained x steps)
chain_of x [] h = h
chain_of x (s ∷ ss) h = chain_of (arithmetic s.0 x s.1) ss (arithmetic_of s.0 x s.1)

-- ---- what an expression becomes

abbrev is_plain : Form → Bool
is_plain (Plain n c) = true
is_plain _ = false

no_plain : (f : Form) (n : ℕ) (c : Col) → is_plain f ≡ false → f ≡ Plain n c → ⊥
no_plain f n c other same = true≢false (sym (ap is_plain same) ∙ other)

-- its value on each row is of its class, and a column that stands by itself is one of the columns, with its class
pub record IsTyped (cols : List Col) (x : Typed) : Type 0 where
  pub of_class : (row : Row) → FitsColumns cols row → IsOfClass x.class (value x.bound row)
  pub plain : (n : ℕ) (c : Col) → x.form ≡ Plain n c → (x.class ≡ Some (class_of_kind c.kind)) × (slice_get cols n ≡ Some c)

module _ (cols : List Col) where
  any_other : (x : Typed) → is_plain x.form ≡ false → ((row : Row) → FitsColumns cols row → IsOfClass x.class (value x.bound row)) → IsTyped cols x
  any_other x other h = record { of_class = h; plain = λ n c same. absurd (no_plain x.form n c other same) }

  of_constant : (c : Constant) → is_plain c.form ≡ false → IsOfClass c.class c.cell → IsTyped cols (literal c)
  of_constant c other h = any_other (literal c) other (λ row fits. subst (IsOfClass c.class) (sym (value-literal c.cell row)) h)

  of_truth : (x : Typed) (b : Row → Bool) → is_plain x.form ≡ false → x.class ≡ Some truth → ((row : Row) → value x.bound row ≡ cell.Bool (b row)) → IsTyped cols x
  of_truth x b other class is_bool = any_other x other (λ row fits. inr (ap class_of (is_bool row) ∙ sym class))

  pub of_null : IsTyped cols (literal constant_null)
  of_null = of_constant constant_null refl (inl refl)

  pub of_bool : (b : Bool) → IsTyped cols (literal (constant_truth b))
  of_bool b = of_constant (constant_truth b) refl (inr refl)

  pub of_number : (n : ℤ) (signed : Bool) (place : ℕ) → IsTyped cols (literal (constant_number n signed place))
  of_number n signed place = of_constant (constant_number n signed place) refl (inr refl)

  pub of_text : (bytes : List ℕ) (place : ℕ) → IsTyped cols (literal (constant_text bytes place))
  of_text bytes place = of_constant (constant_text bytes place) refl (inr refl)

  -- ---- columns

  value-column : (n : ℕ) (row : Row) → value (is.Column n) row ≡ cell_at row n
  value-column n row = ap (λ (e : Bound). value e row) (sym (rolls-Column n)) ∙ fold-roll-Bound Cell Step (value_step row) operand_step (Bound-F.Column n)

  pub of_column : (n : ℕ) (c : Col) → slice_get cols n ≡ Some c → IsTyped cols (plain_column (n, c))
  of_column n c at = record {
    of_class = λ row fits. subst (IsOfClass (Some (class_of_kind c.kind))) (sym (value-column n row)) (cell_fits cols row n c fits at);
    plain = λ m d same. (let kinds : c ≡ d = cc in ap (λ (x : Col). Some (class_of_kind x.kind)) kinds, let place : n ≡ m = cc in let kinds : c ≡ d = cc in ap (slice_get cols) (sym place) ∙ at ∙ ap Some kinds);
  }

  of_found : (column : Option (ℕ × Col)) (faults : List Refusal) → ((c : ℕ × Col) → column ≡ Some c → slice_get cols c.0 ≡ Some c.1) → IsTyped cols (column_or_null column faults)
  of_found None faults h = record { of_class = of_null.of_class; plain = of_null.plain }
  of_found (Some c) faults h = (let is = of_column c.0 c.1 (h c refl) in record { of_class = is.of_class; plain = is.plain })

  -- ---- operators

  negated_of : (f : Form) (x : Typed) (minus : ℕ) → IsTyped cols (negated_by f x minus)
  negated_of (NumberAt n false place) x minus = of_number (neg_ℤ n) true minus
  negated_of (NumberAt n true place) x minus =
      any_other (negated_by (NumberAt n true place) x minus) refl (λ row fits. subst (IsOfClass (Some number)) (sym (value-negated x.bound row)) (opposite_of (value x.bound row)))
  negated_of (Plain n c) x minus = any_other (negated_by (Plain n c) x minus) refl (λ row fits. subst (IsOfClass (Some number)) (sym (value-negated x.bound row)) (opposite_of (value x.bound row)))
  negated_of (TextAt bytes place) x minus =
      any_other (negated_by (TextAt bytes place) x minus) refl (λ row fits. subst (IsOfClass (Some number)) (sym (value-negated x.bound row)) (opposite_of (value x.bound row)))
  negated_of Other x minus = any_other (negated_by Other x minus) refl (λ row fits. subst (IsOfClass (Some number)) (sym (value-negated x.bound row)) (opposite_of (value x.bound row)))

  pub of_minuses : (x : Typed) (places : List ℕ) → IsTyped cols x → IsTyped cols (behind_all negated x places)
  of_minuses x [] h = h
  of_minuses x (p ∷ ps) h = negated_of (behind_all negated x ps).form (behind_all negated x ps) p

  pub of_chain : (x : Typed) (links : List Link) → IsTyped cols x → IsTyped cols (chained x links)
  of_chain x [] h = h
  of_chain x (l ∷ ls) h =
      any_other (chained x (l ∷ ls)) refl
      (λ row fits.
      let s = operand_value row (operand l) in
      subst (IsOfClass (Some number)) (sym (value-chain x.bound (map operand (l ∷ ls)) row))
      (chain_of (arithmetic s.0 (value x.bound row) s.1) (map (operand_value row) (map operand ls)) (arithmetic_of s.0 (value x.bound row) s.1)))

  of_compared : (op : Comparison) (place : ℕ) (x y : Typed) → IsTyped cols (compared_as op place x y)
  of_compared op place x y = of_truth (compared_as op place x y) (λ row. cells.compares op (value x.bound row) (value y.bound row)) refl refl (value-compare op x.bound y.bound)

  pub of_comparison : (op : Comparison) (place : ℕ) (x y : Typed) → IsTyped cols (compared op place x y)
  of_comparison op place x y = of_compared op place (typing.beside y.class x) (typing.beside x.class y)

  pub of_list : (x : Typed) (place : ℕ) (items : List Constant) → IsTyped cols (among x place items)
  of_list x place items =
      of_truth (among x place items) (λ row. list_any (cell_eq (value x.bound row)) (map (λ (i : Constant). i.cell) items)) refl refl (value-in_list x.bound (map (λ (i : Constant). i.cell) items))

  pub of_interval : (x : Typed) (word place : ℕ) (r : Result (ℕ × ℕ) TimeFault) → IsTyped cols (within x word place r)
  of_interval x word place (Ok i) = of_truth (within x word place (Ok i)) (λ row. cells.is_within i.0 i.1 (value x.bound row)) refl refl (value-in_interval x.bound i.0 i.1)
  of_interval x word place (Err e) = of_truth (within x word place (Err e)) (λ row. cells.is_within 0 0 (value x.bound row)) refl refl (value-in_interval x.bound 0 0)

  pub of_is_null : (x : Typed) → IsTyped cols (typing.is_null x)
  of_is_null x = of_truth (typing.is_null x) (λ row. cells.is_null (value x.bound row)) refl refl (value-is_null x.bound)

  pub of_opposite : (x : Typed) → IsTyped cols (opposite x)
  of_opposite x = of_truth (opposite x) (λ row. not (passes x.bound row)) refl refl (value-not x.bound)

  not_one : (x : Typed) (word : ℕ) → IsTyped cols (not_of x word)
  not_one x word = of_truth (not_of x word) (λ row. not (passes x.bound row)) refl refl (value-not x.bound)

  pub of_nots : (x : Typed) (places : List ℕ) → IsTyped cols x → IsTyped cols (behind_all not_of x places)
  of_nots x [] h = h
  of_nots x (p ∷ ps) h = not_one (behind_all not_of x ps) p

  pub of_all : (x : Typed) (parts : List Part) → IsTyped cols x → IsTyped cols (joined_by is.All x parts)
  of_all x [] h = h
  of_all x (p ∷ ps) h =
      of_truth (joined_by is.All x (p ∷ ps)) (λ row. list_all (λ (e : Bound). passes e row) (x.bound ∷ map part_bound (p ∷ ps))) refl refl (value-all (x.bound ∷ map part_bound (p ∷ ps)))

  pub of_any : (x : Typed) (parts : List Part) → IsTyped cols x → IsTyped cols (joined_by is.Any x parts)
  of_any x [] h = h
  of_any x (p ∷ ps) h =
      of_truth (joined_by is.Any x (p ∷ ps)) (λ row. list_any (λ (e : Bound). passes e row) (x.bound ∷ map part_bound (p ∷ ps))) refl refl (value-any (x.bound ∷ map part_bound (p ∷ ps)))

-- ---- columns of a scope

abbrev pub columns_in : Scope → List Col
columns_in scope = map (λ (c : ScopeColumn). c.col) scope

found_there : (cols : List Col) (test : ScopeColumn → Bool) (n : ℕ) (scope : Scope) → ((k m : ℕ) (c : Col) → m ≡ n + k → slice_get (columns_in scope) k ≡ Some c → slice_get cols m ≡ Some c)
    → AllByRecursion (λ (x : ℕ × Col). slice_get cols x.0 ≡ Some x.1) (found_from test n scope)
found_there cols test n [] h = tt
found_there cols test n (c ∷ cs) h = by (test c) (found_there cols test (n + 1) cs (λ k m d at e. h (suc k) m d (omega arith) e))
  where
    by : (b : Bool) → AllByRecursion (λ (x : ℕ × Col). slice_get cols x.0 ≡ Some x.1) (found_from test (n + 1) cs)
        → AllByRecursion (λ (x : ℕ × Col). slice_get cols x.0 ≡ Some x.1) (if b then (n, c.col) ∷ found_from test (n + 1) cs else found_from test (n + 1) cs)
    by true rest = (h 0 n c.col (omega arith) refl, rest)
    by false rest = rest

resolved_there : (P : ℕ × Col → Type 0) (c : Column) (xs : List (ℕ × Col)) (x : ℕ × Col) → AllByRecursion P xs → (resolved_to c xs).column ≡ Some x → P x
resolved_there P c [] x h same = absurd (cc)
resolved_there P c (y ∷ []) x h same = subst P (let e : y ≡ x = cc in e) h.0
resolved_there P c (y ∷ z ∷ rest) x h same = subst P (let e : y ≡ x = cc in e) h.0

pub of_named : (scope : Scope) (c : Column) → IsTyped (columns_in scope) (named_column (resolved scope c))
of_named scope c =
    of_found (columns_in scope) (resolved scope c).column (resolved scope c).faults
    (λ x same. resolved_there (λ (y : ℕ × Col). slice_get (columns_in scope) y.0 ≡ Some y.1) c (found_from (is_named c.first c.second) 0 scope) x
    (found_there (columns_in scope) (is_named c.first c.second) 0 scope (λ k m d at e. subst (λ (i : ℕ). slice_get (columns_in scope) i ≡ Some d) (let same' : k ≡ m = omega arith in same') e)) same)
