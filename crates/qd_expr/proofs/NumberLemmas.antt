-- Numbers as columns keep them, and expressions of numbers over the rows of a run.
use Rattle.std.proofs.Common.{◌≡◌, ◌⊎◌, ℕ, zero, suc, ◌+◌, ◌-◌, ◌<◌, ◌≤◌, List, [], ◌∷◌, ◌++◌, length, map, take, get_or, refl, sym, ap, ◌∙◌, arith, subst, inl, inr, true≢false}
use Rattle.std.specs.Prelude.{Bool, true, false, cond, fold, replicate, ℤ, pos, ◌+ℤ◌, ◌-ℤ◌, ◌*ℤ◌, neg_ℤ, int_div, int_rem, unsigned_abs, FitsSigned, SomeIff, Some, None}
use Rattle.std.specs.Int.{w64}
use Rattle.std.specs.Cmp.{signed_Decides}
use Rattle.std.specs.List.{zip}
use Rattle.std.specs.Ordering.{int_eq}
use Rattle.std.proofs.lemmas.Bool.{cases_lt}
use Rattle.std.proofs.lemmas.List.{take_more}
use Rattle.std.proofs.lemmas.List.Sums.{fold-append}
use Rattle.qd_base.specs.declared.cell.Cell.{Cell}
use Rattle.qd_base.specs.declared.cell.Cell.TheVariants as cell
use Rattle.qd_base.specs.declared.limits.TheConstants.{MAX_NUMBER, NULL_LONG}
use Rattle.qd_base.specs.Rows.{Row}
use Rattle.qd_column.specs.Cells.{long_cell}
use Rattle.qd_rows.specs.declared.runs.Run.{Run}
use Rattle.qd_rows.specs.Runs.{Spot, places_of_run}
use Rattle.qd_rows.specs.Sets.{ResultRows, row_of_place}
use Rattle.qd_value.specs.declared.bound.Arithmetic.{Arithmetic}
use Rattle.qd_value.specs.declared.bound.Arithmetic.TheVariants as does
use Rattle.qd_value.specs.declared.bound.Bound.{Bound}
use Rattle.qd_value.specs.declared.bound.Bound.TheVariants as is
use Rattle.qd_value.specs.declared.bound.Operand.{Operand}
use Rattle.qd_value.specs.declared.bound.Bound.TheFolds.{fold_out-Operand}
use Rattle.qd_value.specs.declared.bound.Comparison.{Comparison}
use Rattle.qd_value.specs.Cells.{arithmetic, compares, long, negated, on_numbers}
use Rattle.qd_value.specs.Value.{Step, chained, operand_step, operand_value, value, value_step}
use Rattle.qd_value.proofs.Longs.{fitting, least, long_beyond, long_none, long_within}
use Rattle.qd_value.proofs.Values.{value-chain, value-literal, value-negated}
use Rattle.qd_expr.specs.Numbers.{chained_in_run, combined, kept, on_kept, opposite_kept}
use Rattle.qd_expr.specs.Passing.{values_in_run}
use Rattle.qd_expr.proofs.ListLemmas.{map-map, zip-images, zip-with}
use Rattle.qd_expr.proofs.RunLemmas.{constant_rows, map-same}

-- ---- what is kept of a number

least_far : unsigned_abs NULL_LONG ≡ MAX_NUMBER + 1
least_far = refl

not_least : (z : ℤ) → unsigned_abs z ≤ MAX_NUMBER → int_eq z NULL_LONG ≡ false
not_least z near = by (int_eq z NULL_LONG) refl
  where
    by : (t : Bool) → int_eq z NULL_LONG ≡ t → int_eq z NULL_LONG ≡ false
    by false e = e
    by true e = absurd (omega (arith, least_far, ap unsigned_abs ((signed_Decides z NULL_LONG).0 e), near))

-- a number in range is kept, and one out of range is NULL
long_kept : (z : ℤ) → long_cell (kept (long z)) ≡ long z
long_kept z =
    elim (cases_lt MAX_NUMBER (unsigned_abs z)) [
      | inl far ↦ subst (λ (c : Cell). long_cell (kept c) ≡ c) (sym (long_beyond z far)) refl
      | inr near ↦ subst (λ (c : Cell). long_cell (kept c) ≡ c) (sym (long_within z near)) (ap (λ t. cond t cell.Null (cell.Long z)) (not_least z near))
    ]

guarded_kept : (b : Bool) (z : ℤ) → long_cell (kept (cond b cell.Null (long z))) ≡ cond b cell.Null (long z)
guarded_kept true z = refl
guarded_kept false z = long_kept z

numbers_kept : (op : Arithmetic) (x y : ℤ) → long_cell (kept (on_numbers op x y)) ≡ on_numbers op x y
numbers_kept does.Plus x y = long_kept (x +ℤ y)
numbers_kept does.Minus x y = long_kept (x -ℤ y)
numbers_kept does.Times x y = long_kept (x *ℤ y)
numbers_kept does.Divide x y = guarded_kept (int_eq y (pos 0)) (int_div x y)
numbers_kept does.Remainder x y = guarded_kept (int_eq y (pos 0)) (int_rem x y)

pair_kept : (op : Arithmetic) (x y : ℤ) (s t : Bool) → long_cell (kept (arithmetic op (cond s cell.Null (cell.Long x)) (cond t cell.Null (cell.Long y)))) ≡ arithmetic op (cond s cell.Null (cell.Long x)) (cond t cell.Null (cell.Long y))
pair_kept op x y true t = refl
pair_kept op x y false true = refl
pair_kept op x y false false = numbers_kept op x y

one_kept : (x : ℤ) (t : Bool) → long_cell (kept (negated (cond t cell.Null (cell.Long x)))) ≡ negated (cond t cell.Null (cell.Long x))
one_kept x true = refl
one_kept x false = long_kept (neg_ℤ x)

-- what is kept of an exact result that fits, and of one that doesn't
pub kept_some : (n z : ℤ) → SomeIff (Some n) (FitsSigned w64 z) z → n ≡ kept (long z)
kept_some n z h = h.1 ∙ by (int_eq z NULL_LONG) refl
  where
    by : (t : Bool) → int_eq z NULL_LONG ≡ t → z ≡ kept (long z)
    by true e = (signed_Decides z NULL_LONG).0 e ∙ ap kept (sym (least z e))
    by false e = ap kept (sym (fitting z h.0 e))

pub kept_none : (z : ℤ) → SomeIff None (FitsSigned w64 z) z → NULL_LONG ≡ kept (long z)
kept_none z never = ap kept (long_none z never)

-- ---- lists of them

pub combined_kept : (op : Arithmetic) (xs ys : List ℤ) → map long_cell (map (λ (p : ℤ × ℤ). on_kept op p.0 p.1) (zip xs ys)) ≡ combined op (map long_cell xs) (map long_cell ys)
combined_kept op xs ys =
    map-map long_cell (λ (p : ℤ × ℤ). on_kept op p.0 p.1) (zip xs ys)
    ∙ map-same (λ (p : ℤ × ℤ). long_cell (on_kept op p.0 p.1)) (λ (p : ℤ × ℤ). arithmetic op (long_cell p.0) (long_cell p.1)) (zip xs ys) (λ p. pair_kept op p.0 p.1 (int_eq p.0 NULL_LONG) (int_eq p.1 NULL_LONG))
    ∙ zip-images (arithmetic op) long_cell xs ys

pub opposites_kept : (xs : List ℤ) → map long_cell (map opposite_kept xs) ≡ map negated (map long_cell xs)
opposites_kept xs =
    map-map long_cell opposite_kept xs
    ∙ map-same (λ (x : ℤ). long_cell (opposite_kept x)) (λ (x : ℤ). negated (long_cell x)) xs (λ x. one_kept x (int_eq x NULL_LONG))
    ∙ sym (map-map negated long_cell xs)

-- ---- expressions over the rows of a run

pub run-negated : (x : Bound) (s : ResultRows) (r : Run) → map negated (values_in_run x s r) ≡ values_in_run (is.Negated x) s r
run-negated x s r =
    map-map negated (λ p. value x (row_of_place s (p, None))) (places_of_run r)
    ∙ map-same (λ p. negated (value x (row_of_place s (p, None)))) (λ p. value (is.Negated x) (row_of_place s (p, None))) (places_of_run r) (λ p. sym (value-negated x (row_of_place s (p, None))))

operand_is : (o : Operand) (row : Row) → (o.op, value o.right row) ≡ operand_value row o
operand_is o row = sym (fold_out-Operand Cell Step (value_step row) operand_step o)

module _ (s : ResultRows) (r : Run) where
  chain_rows : (steps : List Operand) (f : Spot → Cell) → chained_in_run (map f (places_of_run r)) steps s r ≡ map (λ p. chained (f p) (map (operand_value (row_of_place s (p, None))) steps)) (places_of_run r)
  chain_rows [] f = refl
  chain_rows (o ∷ os) f =
      ap (λ (l : List Cell). chained_in_run l os s r) (zip-with (arithmetic o.op) f (λ p. value o.right (row_of_place s (p, None))) (places_of_run r))
      ∙ chain_rows os (λ p. arithmetic o.op (f p) (value o.right (row_of_place s (p, None))))
      ∙ map-same (λ p. chained (arithmetic o.op (f p) (value o.right (row_of_place s (p, None)))) (map (operand_value (row_of_place s (p, None))) os)) (λ p. chained (f p) (map (operand_value (row_of_place s (p, None))) (o ∷ os))) (places_of_run r)
      (λ p. ap (λ q. chained (arithmetic q.0 (f p) q.1) (map (operand_value (row_of_place s (p, None))) os)) (operand_is o (row_of_place s (p, None))))

  pub run-chain : (x : Bound) (steps : List Operand) → chained_in_run (values_in_run x s r) steps s r ≡ values_in_run (is.Chain x steps) s r
  run-chain x steps =
      chain_rows steps (λ p. value x (row_of_place s (p, None)))
      ∙ map-same (λ p. chained (value x (row_of_place s (p, None))) (map (operand_value (row_of_place s (p, None))) steps)) (λ p. value (is.Chain x steps) (row_of_place s (p, None))) (places_of_run r) (λ p. sym (value-chain x steps (row_of_place s (p, None))))

  -- one operator more
  pub chain_more : (firsts : List Cell) (steps : List Operand) (i : ℕ) (o : Operand) (found right next : List ℤ) → i < length steps → get_or steps i o ≡ o → map long_cell found ≡ chained_in_run firsts (take i steps) s r → map long_cell right ≡ values_in_run o.right s r
      → next ≡ map (λ (p : ℤ × ℤ). on_kept o.op p.0 p.1) (zip found right) → map long_cell next ≡ chained_in_run firsts (take (i + 1) steps) s r
  chain_more firsts steps i o found right next low at so_far one new =
      ap (map long_cell) new
      ∙ combined_kept o.op found right
      ∙ ap (λ (l : List Cell). combined o.op l (map long_cell right)) so_far
      ∙ ap (combined o.op (chained_in_run firsts (take i steps) s r)) one
      ∙ sym (fold-append (λ (l : List Cell) (x : Operand). combined x.op l (values_in_run x.right s r)) firsts (take i steps) (o ∷ []))
      ∙ ap (λ (x : Operand). chained_in_run firsts (take i steps ++ x ∷ []) s r) (sym at)
      ∙ ap (λ (os : List Operand). chained_in_run firsts os s r) (sym (take_more steps i o low))

  pub run_by_numbers : (op : Comparison) (x y : Bound) (xs ys : List ℤ) (found : List Bool) → map long_cell xs ≡ values_in_run x s r → map long_cell ys ≡ values_in_run y s r → found ≡ map (λ (p : ℤ × ℤ). compares op (long_cell p.0) (long_cell p.1)) (zip xs ys)
      → found ≡ map (λ p. compares op (value x (row_of_place s (p, None))) (value y (row_of_place s (p, None)))) (places_of_run r)
  run_by_numbers op x y xs ys found e d new =
      new
      ∙ zip-images (compares op) long_cell xs ys
      ∙ ap (λ (l : List Cell). map (λ (p : Cell × Cell). compares op p.0 p.1) (zip l (map long_cell ys))) e
      ∙ ap (λ (l : List Cell). map (λ (p : Cell × Cell). compares op p.0 p.1) (zip (values_in_run x s r) l)) d
      ∙ zip-with (compares op) (λ p. value x (row_of_place s (p, None))) (λ p. value y (row_of_place s (p, None))) (places_of_run r)

-- a number on each row
map-replicate : {X Y : Type 0} (f : X → Y) (n : ℕ) (x : X) → map f (replicate n x) ≡ replicate n (f x)
map-replicate f zero x = refl
map-replicate f (suc n) x = ap (λ l. f x ∷ l) (map-replicate f n x)

pub literal_rows : (y : ℤ) (r : Run) (n : ℕ) (items : List ℤ) → int_eq y NULL_LONG ≡ false → n ≡ r.to - r.from → items ≡ replicate n y → map long_cell items ≡ map (λ p. cell.Long y) (places_of_run r)
literal_rows y r n items e d new =
    ap (map long_cell) new ∙ map-replicate long_cell n y ∙ ap (λ t. replicate n (cond t cell.Null (cell.Long y))) e ∙ constant_rows (cell.Long y) r n d
