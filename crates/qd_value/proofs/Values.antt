-- The value of each form of an expression, by the values of its parts.
use Rattle.std.proofs.Common.{◌≡◌, ℕ, List, [], ◌∷◌, map, refl, sym, ap, ◌∙◌}
use Rattle.std.specs.Prelude.{not, ◌&&◌, ◌||◌}
use Rattle.std.specs.List.{list_all, list_any}
use Rattle.qd_base.specs.declared.cell.Cell.{Cell}
use Rattle.qd_base.specs.declared.cell.Cell.TheVariants as cell
use Rattle.qd_base.specs.Rows.{Row, cell_eq}
use Rattle.qd_value.specs.declared.bound.Arithmetic.{Arithmetic}
use Rattle.qd_value.specs.declared.bound.Comparison.{Comparison}
use Rattle.qd_value.specs.declared.bound.Bound.{Bound}
use Rattle.qd_value.specs.declared.bound.Bound.TheVariants as is
use Rattle.qd_value.specs.declared.bound.Bound.TheVariants.{rolls-Column, rolls-Literal, rolls-Negated, rolls-Chain, rolls-Compare, rolls-InList, rolls-InInterval, rolls-IsNull, rolls-Not, rolls-All, rolls-Any}
use Rattle.qd_value.specs.declared.bound.Bound.TheOpen.{Bound-F}
use Rattle.qd_value.specs.declared.bound.Bound.TheFolds.{fold-roll-Bound, fold-roll-Operand}
use Rattle.qd_value.specs.declared.bound.Operand.{Operand, roll-Operand}
use Rattle.qd_value.specs.Cells.{is_null, negated, compares, is_within, is_true}
use Rattle.qd_value.specs.Value.{Step, chained, value, value_step, operand_step, passes, operand_value}

pub value-literal : (c : Cell) (row : Row) → value (is.Literal c) row ≡ c
value-literal c row = ap (λ e. value e row) (sym (rolls-Literal c)) ∙ fold-roll-Bound Cell Step (value_step row) operand_step (Bound-F.Literal c)

pub value-negated : (x : Bound) (row : Row) → value (is.Negated x) row ≡ negated (value x row)
value-negated x row = ap (λ e. value e row) (sym (rolls-Negated x)) ∙ fold-roll-Bound Cell Step (value_step row) operand_step (Bound-F.Negated x)

pub value-chain : (x : Bound) (links : List Operand) (row : Row) → value (is.Chain x links) row ≡ chained (value x row) (map (operand_value row) links)
value-chain x links row = ap (λ e. value e row) (sym (rolls-Chain x links)) ∙ fold-roll-Bound Cell Step (value_step row) operand_step (Bound-F.Chain x links)

pub value-compare : (op : Comparison) (x y : Bound) (row : Row) → value (is.Compare op x y) row ≡ cell.Bool (compares op (value x row) (value y row))
value-compare op x y row = ap (λ e. value e row) (sym (rolls-Compare op x y)) ∙ fold-roll-Bound Cell Step (value_step row) operand_step (Bound-F.Compare op x y)

pub value-in_list : (x : Bound) (list : List Cell) (row : Row) → value (is.InList x list) row ≡ cell.Bool (list_any (cell_eq (value x row)) list)
value-in_list x list row = ap (λ e. value e row) (sym (rolls-InList x list)) ∙ fold-roll-Bound Cell Step (value_step row) operand_step (Bound-F.InList x list)

pub value-in_interval : (x : Bound) (lo hi : ℕ) (row : Row) → value (is.InInterval x lo hi) row ≡ cell.Bool (is_within lo hi (value x row))
value-in_interval x lo hi row = ap (λ e. value e row) (sym (rolls-InInterval x lo hi)) ∙ fold-roll-Bound Cell Step (value_step row) operand_step (Bound-F.InInterval x lo hi)

pub value-is_null : (x : Bound) (row : Row) → value (is.IsNull x) row ≡ cell.Bool (is_null (value x row))
value-is_null x row = ap (λ e. value e row) (sym (rolls-IsNull x)) ∙ fold-roll-Bound Cell Step (value_step row) operand_step (Bound-F.IsNull x)

pub value-not : (x : Bound) (row : Row) → value (is.Not x) row ≡ cell.Bool (not (passes x row))
value-not x row = ap (λ e. value e row) (sym (rolls-Not x)) ∙ fold-roll-Bound Cell Step (value_step row) operand_step (Bound-F.Not x)

truths : (xs : List Bound) (row : Row) → list_all is_true (map (λ e. value e row) xs) ≡ list_all (λ e. passes e row) xs
truths [] row = refl
truths (x ∷ xs) row = ap (λ t. passes x row && t) (truths xs row)

some_truth : (xs : List Bound) (row : Row) → list_any is_true (map (λ e. value e row) xs) ≡ list_any (λ e. passes e row) xs
some_truth [] row = refl
some_truth (x ∷ xs) row = ap (λ t. passes x row || t) (some_truth xs row)

pub value-all : (xs : List Bound) (row : Row) → value (is.All xs) row ≡ cell.Bool (list_all (λ e. passes e row) xs)
value-all xs row =
    ap (λ e. value e row) (sym (rolls-All xs)) ∙ fold-roll-Bound Cell Step (value_step row) operand_step (Bound-F.All xs) ∙ ap cell.Bool (truths xs row)

pub value-any : (xs : List Bound) (row : Row) → value (is.Any xs) row ≡ cell.Bool (list_any (λ e. passes e row) xs)
value-any xs row =
    ap (λ e. value e row) (sym (rolls-Any xs)) ∙ fold-roll-Bound Cell Step (value_step row) operand_step (Bound-F.Any xs) ∙ ap cell.Bool (some_truth xs row)

pub operand-value : (op : Arithmetic) (x : Bound) (row : Row) → operand_value row (roll-Operand (record { op = op; right = x })) ≡ (op, value x row)
operand-value op x row = fold-roll-Operand Cell Step (value_step row) operand_step (record { op = op; right = x })
