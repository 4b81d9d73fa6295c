-- What the trees of the worked examples become, in any scope.
use Rattle.std.proofs.Common.{◌≡◌, ℕ, List, [], ◌∷◌, false, sym, ap, ◌∙◌}
use Rattle.std.specs.Prelude.{pos}
use Rattle.qd_sql_ast.specs.declared.tree.AddOp.TheVariants as add
use Rattle.qd_sql_ast.specs.declared.tree.Check.{Check}
use Rattle.qd_sql_ast.specs.declared.tree.Check.TheVariants as checks
use Rattle.qd_sql_ast.specs.declared.tree.Cmp.{Cmp}
use Rattle.qd_sql_ast.specs.declared.tree.Column.{Column}
use Rattle.qd_sql_ast.specs.declared.tree.Lit.{Lit}
use Rattle.qd_sql_ast.specs.declared.tree.Number.{Number}
use Rattle.qd_sql_ast.specs.declared.tree.Plus.{Plus}
use Rattle.qd_sql_ast.specs.declared.tree.Prime.{Prime}
use Rattle.qd_sql_ast.specs.declared.tree.Prime.TheVariants as primes
use Rattle.qd_sql_ast.specs.declared.tree.Test.{roll-Test}
use Rattle.qd_sql_ast.specs.declared.tree.Text.{Text}
use Rattle.qd_value.specs.declared.bound.Arithmetic.TheVariants as does
use Rattle.qd_base.specs.declared.cell.Cell.{Cell}
use Rattle.qd_base.specs.Rows.{Row, cell_at}
use Rattle.qd_value.specs.declared.bound.Bound.{Bound}
use Rattle.qd_value.specs.declared.bound.Bound.TheVariants as bound
use Rattle.qd_value.specs.declared.bound.Bound.TheVariants.{rolls-Column}
use Rattle.qd_value.specs.declared.bound.Bound.TheOpen.{Bound-F}
use Rattle.qd_value.specs.declared.bound.Bound.TheFolds.{fold-roll-Bound}
use Rattle.qd_value.specs.Value.{Step, value, value_step, operand_step}
use Rattle.qd_meaning.specs.Scopes.{Scope, resolved}
use Rattle.qd_meaning.specs.Typing as typing
use Rattle.qd_meaning.specs.Typing.{Typed, Part, Link, literal, constant_number, constant_text, chained, compared, negated, joined_by, not_of}
use Rattle.qd_meaning.specs.Binding.{typed, typed_check, typed_neg, typed_plus, typed_prime, typed_term, typed_test, behind_all, comparison_of, named_column}
use Rattle.qd_meaning.specs.ExampleTrees as trees
use Rattle.qd_meaning.specs.ExampleTrees.{value_tree, test_tree, term_tree, minus_tree, neg_tree, value_only, comparison, sum, against_minus, both}
use Rattle.qd_meaning.proofs.BindingLemmas.{bindings-follow}

value-tree : (scope : Scope) (p : Prime) → typed_plus scope (value_tree p) ≡ typed_prime scope p
value-tree scope p = bindings-follow.plus scope _ [] ∙ bindings-follow.term scope _ [] ∙ bindings-follow.signed scope [] p

test-tree : (scope : Scope) (left : Plus) (check : Check) → typed scope (test_tree left check) ≡ typed_check scope check (typed_plus scope left)
test-tree scope left check = bindings-follow.expr scope _ [] ∙ bindings-follow.conj scope _ [] ∙ bindings-follow.neg scope [] _ ∙ bindings-follow.test scope left check

pub value-alone : (scope : Scope) (p : Prime) → typed scope (value_only p) ≡ typed_prime scope p
value-alone scope p = test-tree scope (value_tree p) checks.Nothing ∙ bindings-follow.alone scope (typed_plus scope (value_tree p)) ∙ value-tree scope p

pub column-alone : (scope : Scope) (c : Column) → typed scope (value_only (primes.Column c)) ≡ named_column (resolved scope c)
column-alone scope c = value-alone scope (primes.Column c) ∙ bindings-follow.column scope c

pub of-two : (scope : Scope) (x : Prime) (op : Cmp) (place : ℕ) (y : Prime) → typed scope (comparison x op place y) ≡ compared (comparison_of op) place (typed_prime scope x) (typed_prime scope y)
of-two scope x op place y =
    test-tree scope (value_tree x) (checks.Compare op place (value_tree y))
    ∙ bindings-follow.compare scope op place (value_tree y) (typed_plus scope (value_tree x))
    ∙ ap (λ (t : Typed). compared (comparison_of op) place t (typed_plus scope (value_tree y))) (value-tree scope x)
    ∙ ap (λ (t : Typed). compared (comparison_of op) place (typed_prime scope x) t) (value-tree scope y)

pub prime-column : (scope : Scope) (c : Column) → typed_prime scope (primes.Column c) ≡ named_column (resolved scope c)
prime-column = bindings-follow.column

pub prime-number : (scope : Scope) (n : Number) → typed_prime scope (primes.Number n) ≡ literal (constant_number (pos n.value) false n.at)
prime-number = bindings-follow.number

pub prime-text : (scope : Scope) (t : Text) → typed_prime scope (primes.Text t) ≡ literal (constant_text t.text t.at)
prime-text = bindings-follow.text

term-tree : (scope : Scope) (p : Prime) → typed_term scope (term_tree p) ≡ typed_prime scope p
term-tree scope p = bindings-follow.term scope _ [] ∙ bindings-follow.signed scope [] p

pub of-sum : (scope : Scope) (x : Prime) (place : ℕ) (y : Prime) → typed scope (sum x place y) ≡ chained (typed_prime scope x) ((does.Plus, place, typed_prime scope y) ∷ [])
of-sum scope x place y =
    test-tree scope _ checks.Nothing ∙ bindings-follow.alone scope _ ∙ bindings-follow.plus scope (term_tree x) _
    ∙ ap (λ (l : Link). chained (typed_term scope (term_tree x)) (l ∷ [])) (bindings-follow.add_term scope add.Plus place (term_tree y))
    ∙ ap (λ (t : Typed). chained t ((does.Plus, place, typed_term scope (term_tree y)) ∷ [])) (term-tree scope x)
    ∙ ap (λ (t : Typed). chained (typed_prime scope x) ((does.Plus, place, t) ∷ [])) (term-tree scope y)

minus-tree : (scope : Scope) (places : List ℕ) (p : Prime) → typed_plus scope (minus_tree places p) ≡ behind_all negated (typed_prime scope p) places
minus-tree scope places p = bindings-follow.plus scope _ [] ∙ bindings-follow.term scope _ [] ∙ bindings-follow.signed scope places p

pub of-minus : (scope : Scope) (x : Prime) (op : Cmp) (place : ℕ) (places : List ℕ) (y : Prime)
    → typed scope (against_minus x op place places y) ≡ compared (comparison_of op) place (typed_prime scope x) (behind_all negated (typed_prime scope y) places)
of-minus scope x op place places y =
    test-tree scope (value_tree x) (checks.Compare op place (minus_tree places y))
    ∙ bindings-follow.compare scope op place (minus_tree places y) (typed_plus scope (value_tree x))
    ∙ ap (λ (t : Typed). compared (comparison_of op) place t (typed_plus scope (minus_tree places y))) (value-tree scope x)
    ∙ ap (λ (t : Typed). compared (comparison_of op) place (typed_prime scope x) t) (minus-tree scope places y)

pub of-list : (scope : Scope) (x : Prime) (place : ℕ) (lits : List Lit) → typed scope (trees.in_list x place lits) ≡ typing.in_list (typed_prime scope x) place lits
of-list scope x place lits =
    test-tree scope (value_tree x) (checks.InList place lits) ∙ bindings-follow.in_list scope place lits (typed_plus scope (value_tree x))
    ∙ ap (λ (t : Typed). typing.in_list t place lits) (value-tree scope x)

pub of-interval : (scope : Scope) (x : Prime) (place at : ℕ) (bytes : List ℕ) → typed scope (trees.in_text x place at bytes) ≡ typing.in_text (typed_prime scope x) place bytes at
of-interval scope x place at bytes =
    test-tree scope (value_tree x) (checks.InText place (record { at = at; text = bytes })) ∙ bindings-follow.in_text scope place (record { at = at; text = bytes }) (typed_plus scope (value_tree x))
    ∙ ap (λ (t : Typed). typing.in_text t place bytes at) (value-tree scope x)

test-alone : (scope : Scope) (p : Prime) → typed_test scope (roll-Test (record { left = value_tree p; check = checks.Nothing })) ≡ typed_prime scope p
test-alone scope p = bindings-follow.test scope (value_tree p) checks.Nothing ∙ bindings-follow.alone scope _ ∙ value-tree scope p

neg-alone : (scope : Scope) (p : Prime) → typed_neg scope (neg_tree p) ≡ typed_prime scope p
neg-alone scope p = bindings-follow.neg scope [] _ ∙ test-alone scope p

pub of-both : (scope : Scope) (x : Prime) (place : ℕ) (y : Prime) → typed scope (both x place y) ≡ joined_by bound.All (typed_prime scope x) ((place, typed_prime scope y) ∷ [])
of-both scope x place y =
    bindings-follow.expr scope _ [] ∙ bindings-follow.conj scope (neg_tree x) _
    ∙ ap (λ (p : Part). joined_by bound.All (typed_neg scope (neg_tree x)) (p ∷ [])) (bindings-follow.and_neg scope place (neg_tree y))
    ∙ ap (λ (t : Typed). joined_by bound.All t ((place, typed_neg scope (neg_tree y)) ∷ [])) (neg-alone scope x)
    ∙ ap (λ (t : Typed). joined_by bound.All (typed_prime scope x) ((place, t) ∷ [])) (neg-alone scope y)

pub of-not : (scope : Scope) (place : ℕ) (p : Prime) → typed scope (trees.opposite place p) ≡ not_of (typed_prime scope p) place
of-not scope place p =
    bindings-follow.expr scope _ [] ∙ bindings-follow.conj scope _ [] ∙ bindings-follow.neg scope (place ∷ []) _ ∙ ap (λ (t : Typed). not_of t place) (test-alone scope p)

pub value-column : (n : ℕ) (row : Row) → value (bound.Column n) row ≡ cell_at row n
value-column n row = ap (λ (e : Bound). value e row) (sym (rolls-Column n)) ∙ fold-roll-Bound Cell Step (value_step row) operand_step (Bound-F.Column n)
