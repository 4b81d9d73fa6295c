-- Trees of queries for the worked examples.
use Rattle.std.specs.Prelude.{ℕ, List, [], ◌∷◌, Option, Some, None}
use Rattle.qd_sql_ast.specs.declared.tree.AddOp.TheVariants as add
use Rattle.qd_sql_ast.specs.declared.tree.AddTerm.{roll-AddTerm}
use Rattle.qd_sql_ast.specs.declared.tree.AndNeg.{roll-AndNeg}
use Rattle.qd_sql_ast.specs.declared.tree.Check.{Check}
use Rattle.qd_sql_ast.specs.declared.tree.Check.TheVariants as checks
use Rattle.qd_sql_ast.specs.declared.tree.Cmp.{Cmp}
use Rattle.qd_sql_ast.specs.declared.tree.Conj.{roll-Conj}
use Rattle.qd_sql_ast.specs.declared.tree.Expr.{Expr, roll-Expr}
use Rattle.qd_sql_ast.specs.declared.tree.Item.{Item}
use Rattle.qd_sql_ast.specs.declared.tree.JoinOf.TheVariants as join
use Rattle.qd_sql_ast.specs.declared.tree.Lit.{Lit}
use Rattle.qd_sql_ast.specs.declared.tree.Name.{Name}
use Rattle.qd_sql_ast.specs.declared.tree.Neg.{Neg, roll-Neg}
use Rattle.qd_sql_ast.specs.declared.tree.Plus.{Plus, roll-Plus}
use Rattle.qd_sql_ast.specs.declared.tree.Prime.{Prime}
use Rattle.qd_sql_ast.specs.declared.tree.Prime.TheVariants as primes
use Rattle.qd_sql_ast.specs.declared.tree.Query.{Query}
use Rattle.qd_sql_ast.specs.declared.tree.Selected.TheVariants as selected
use Rattle.qd_sql_ast.specs.declared.tree.Shown.{Shown}
use Rattle.qd_sql_ast.specs.declared.tree.Shown.TheVariants as shown
use Rattle.qd_sql_ast.specs.declared.tree.Signed.{roll-Signed}
use Rattle.qd_sql_ast.specs.declared.tree.Source.{Source}
use Rattle.qd_sql_ast.specs.declared.tree.Term.{Term, roll-Term}
use Rattle.qd_sql_ast.specs.declared.tree.Test.{roll-Test}
use Rattle.qd_meaning.specs.WriteExamples.{name}

-- ---- expressions

-- a value and nothing else
abbrev pub value_tree : Prime → Plus
value_tree p = roll-Plus (record { first = roll-Term (record { first = roll-Signed (record { minuses = []; prime = p }); more = [] }); more = [] })

-- one test and nothing else
abbrev pub test_tree : Plus → Check → Expr
test_tree left check = roll-Expr (record { first = roll-Conj (record { first = roll-Neg (record { nots = []; test = roll-Test (record { left = left; check = check }) }); more = [] }); more = [] })

abbrev pub value_only : Prime → Expr
value_only p = test_tree (value_tree p) checks.Nothing

abbrev pub comparison : Prime → Cmp → ℕ → Prime → Expr
comparison x op place y = test_tree (value_tree x) (checks.Compare op place (value_tree y))

-- a column by its name
abbrev pub named : ℕ → List ℕ → Prime
named place bytes = primes.Column (record { first = name place bytes; second = None })

-- a column by its table's name and its own
abbrev pub qualified : ℕ → List ℕ → ℕ → List ℕ → Prime
qualified place table at bytes = primes.Column (record { first = name place table; second = Some (name at bytes) })

abbrev pub number_tree : ℕ → ℕ → Prime
number_tree place n = primes.Number (record { at = place; value = n })

abbrev pub text_tree : ℕ → List ℕ → Prime
text_tree place bytes = primes.Text (record { at = place; text = bytes })

-- ---- queries

abbrev pub item : Shown → Item
item s = record { shown = s; alias = None }

abbrev pub column_item : ℕ → List ℕ → Item
column_item place bytes = item (shown.Expr (value_only (named place bytes)))

abbrev pub from_table : ℕ → List ℕ → Source
from_table place bytes = record { table = name place bytes; alias = None }

-- items of a table
abbrev pub select : List Item → Source → Query
select items source = record {
  selected = Some (selected.Items items);
  source = source;
  join = None;
  filter = None;
  latest = None;
  sampled = None;
  order = None;
  limit = None;
}

-- all columns of the rows of a table that pass a test
abbrev pub all_where : Source → ℕ → Expr → Query
all_where source place test = record {
  selected = None;
  source = source;
  join = None;
  filter = Some (record { at = place; test = test });
  latest = None;
  sampled = None;
  order = None;
  limit = None;
}

abbrev pub asof : Source → ℕ → Source → Option (List Name) → List Item → Query
asof left place right on items = record (select items left) { join = Some (record { of = join.Asof; at = place; right = right; on = on }) }

-- ---- more expressions

abbrev pub term_tree : Prime → Term
term_tree p = roll-Term (record { first = roll-Signed (record { minuses = []; prime = p }); more = [] })

-- x + y
abbrev pub sum : Prime → ℕ → Prime → Expr
sum x place y = test_tree (roll-Plus (record { first = term_tree x; more = roll-AddTerm (record { op = add.Plus; at = place; term = term_tree y }) ∷ [] })) checks.Nothing

-- minuses in front of a value
abbrev pub minus_tree : List ℕ → Prime → Plus
minus_tree places p = roll-Plus (record { first = roll-Term (record { first = roll-Signed (record { minuses = places; prime = p }); more = [] }); more = [] })

abbrev pub against_minus : Prime → Cmp → ℕ → List ℕ → Prime → Expr
against_minus x op place places y = test_tree (value_tree x) (checks.Compare op place (minus_tree places y))

abbrev pub in_list : Prime → ℕ → List Lit → Expr
in_list x place lits = test_tree (value_tree x) (checks.InList place lits)

abbrev pub in_text : Prime → ℕ → ℕ → List ℕ → Expr
in_text x place at bytes = test_tree (value_tree x) (checks.InText place (record { at = at; text = bytes }))

abbrev pub neg_tree : Prime → Neg
neg_tree p = roll-Neg (record { nots = []; test = roll-Test (record { left = value_tree p; check = checks.Nothing }) })

-- x AND y
abbrev pub both : Prime → ℕ → Prime → Expr
both x place y = roll-Expr (record { first = roll-Conj (record { first = neg_tree x; more = roll-AndNeg (record { at = place; neg = neg_tree y }) ∷ [] }); more = [] })

-- NOT x
abbrev pub opposite : ℕ → Prime → Expr
opposite place p = roll-Expr (record {
  first = roll-Conj (record { first = roll-Neg (record { nots = place ∷ []; test = roll-Test (record { left = value_tree p; check = checks.Nothing }) }); more = [] });
  more = [];
})
