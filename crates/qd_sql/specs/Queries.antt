-- The rules of queries.
use Rattle.std.specs.Prelude.{ℕ, ◌+◌, true, false, if◌then◌else◌, List, codes, Option, Some, None, Ok}
use Rattle.qd_sql_lexer.specs.declared.token.Kind.TheVariants as kind
use Rattle.qd_base.specs.declared.limits.TheConstants.{MAX_NESTING}
use Rattle.qd_sql_ast.specs.declared.tree.AggOf.{AggOf}
use Rattle.qd_sql_ast.specs.declared.tree.AggOf.TheVariants as agg
use Rattle.qd_sql_ast.specs.declared.tree.AlignTo.{AlignTo}
use Rattle.qd_sql_ast.specs.declared.tree.AlignTo.TheVariants as to
use Rattle.qd_sql_ast.specs.declared.tree.Column.{Column}
use Rattle.qd_sql_ast.specs.declared.tree.Expr.{Expr}
use Rattle.qd_sql_ast.specs.declared.tree.FillWith.{FillWith}
use Rattle.qd_sql_ast.specs.declared.tree.FillWith.TheVariants as with
use Rattle.qd_sql_ast.specs.declared.tree.Fills.{Fills}
use Rattle.qd_sql_ast.specs.declared.tree.Filter.{Filter}
use Rattle.qd_sql_ast.specs.declared.tree.Item.{Item}
use Rattle.qd_sql_ast.specs.declared.tree.Join.{Join}
use Rattle.qd_sql_ast.specs.declared.tree.JoinOf.{JoinOf}
use Rattle.qd_sql_ast.specs.declared.tree.JoinOf.TheVariants as side
use Rattle.qd_sql_ast.specs.declared.tree.Latest.{Latest}
use Rattle.qd_sql_ast.specs.declared.tree.Limit.{Limit}
use Rattle.qd_sql_ast.specs.declared.tree.Limit.TheVariants as rows
use Rattle.qd_sql_ast.specs.declared.tree.Name.{Name}
use Rattle.qd_sql_ast.specs.declared.tree.OrderKey.{OrderKey}
use Rattle.qd_sql_ast.specs.declared.tree.Query.{Query}
use Rattle.qd_sql_ast.specs.declared.tree.Sampled.{Sampled}
use Rattle.qd_sql_ast.specs.declared.tree.Selected.{Selected}
use Rattle.qd_sql_ast.specs.declared.tree.Selected.TheVariants as select
use Rattle.qd_sql_ast.specs.declared.tree.Shown.{Shown}
use Rattle.qd_sql_ast.specs.declared.tree.Shown.TheVariants as shows
use Rattle.qd_sql_ast.specs.declared.tree.Source.{Source}
use Rattle.qd_sql_ast.specs.declared.tree.Text.{Text}
use Rattle.qd_sql_lexer.specs.Tokens.{Lexeme}
use Rattle.qd_sql_ast.specs.Steps.{Read, ◌>>=◌, if_taken, list, call, may, sees_name, sign, word, want, want_word, name, number, stride, text}
use Rattle.qd_sql_ast.specs.Writes.{names_to_bracket}
use Rattle.qd_sql.specs.Exprs.{column, expr}

-- an expression: one level, and each bracket in it one more
unfoldable pub whole : List Lexeme → Read Expr
whole ts = expr (MAX_NESTING + 1) ts

-- ["*"] ")", behind `count(`
unfoldable pub count : ℕ → List Lexeme → Read Shown
count at ts =
    if_taken (sign kind.Star ts) (λ x. want kind.Close x.1 >>= λ close. Ok (shows.Count at, close.1))
    (want kind.Close ts >>= λ close. Ok (shows.Count at, close.1))

-- ("sum"|"min"|"max"|"first"|"last") "("
unfoldable pub agg_of : List Lexeme → Option ((AggOf × ℕ) × List Lexeme)
agg_of ts =
    if_taken (call (codes "sum") ts) (λ x. Some ((agg.Sum, x.0), x.1))
    (if_taken (call (codes "min") ts) (λ x. Some ((agg.Min, x.0), x.1))
    (if_taken (call (codes "max") ts) (λ x. Some ((agg.Max, x.0), x.1))
    (if_taken (call (codes "first") ts) (λ x. Some ((agg.First, x.0), x.1))
    (if_taken (call (codes "last") ts) (λ x. Some ((agg.Last, x.0), x.1)) None))))

-- expr ")"
unfoldable pub aggregate : AggOf → ℕ → List Lexeme → Read Shown
aggregate of at ts = do
  inner ← whole ts
  close ← want kind.Close inner.1
  Ok (shows.Agg of at inner.0, close.1)

-- agg | expr
unfoldable pub shown : List Lexeme → Read Shown
shown ts =
    if_taken (call (codes "count") ts) (λ x. count x.0 x.1)
    (if_taken (agg_of ts) (λ x. aggregate x.0.0 x.0.1 x.1)
    (whole ts >>= λ e. Ok (shows.Expr e.0, e.1)))

-- ["AS" name]
unfoldable pub named : List Lexeme → Read (Option Name)
named ts = if_taken (word (codes "AS") ts) (λ x. name x.1 >>= λ n. Ok (Some n.0, n.1)) (Ok (None, ts))

-- (agg | expr) ["AS" name]
unfoldable pub item : List Lexeme → Read Item
item ts = do
  what ← shown ts
  called ← named what.1
  Ok (record { shown = what.0; alias = called.0 }, called.1)

-- item {"," item}
unfoldable pub items : List Lexeme → Read (List Item)
items ts = list item ts

-- "*" | item {"," item}
unfoldable pub select_items : List Lexeme → Read Selected
select_items ts = if_taken (sign kind.Star ts) (λ x. Ok (select.All x.0, x.1)) (items ts >>= λ found. Ok (select.Items found.0, found.1))

-- select_items "FROM"
abbrev pub select_from : List Lexeme → Read (Option Selected)
select_from ts = do
  found ← select_items ts
  from ← want_word (codes "FROM") found.1
  Ok (Some found.0, from.1)

-- ["SELECT" select_from]
unfoldable pub selected : List Lexeme → Read (Option Selected)
selected ts = if_taken (word (codes "SELECT") ts) (λ x. select_from x.1) (Ok (None, ts))

-- [["AS"] name]
abbrev pub given : List Lexeme → Read (Option Name)
given ts = name ts >>= λ n. Ok (Some n.0, n.1)

unfoldable pub alias : List Lexeme → Read (Option Name)
alias ts = if_taken (word (codes "AS") ts) (λ x. given x.1) (if sees_name ts then given ts else Ok (None, ts))

-- name alias
unfoldable pub source : List Lexeme → Read Source
source ts = do
  table ← name ts
  called ← alias table.1
  Ok (record { table = table.0; alias = called.0 }, called.1)

-- ["ON" "(" name {"," name} ")"]
unfoldable pub join_keys : List Lexeme → Read (Option (List Name))
join_keys ts =
    if_taken (word (codes "ON") ts) (λ x. want kind.Open x.1 >>= λ open_bracket. names_to_bracket open_bracket.1 >>= λ found. Ok (Some found.0, found.1))
    (Ok (None, ts))

-- "JOIN" source join_keys
unfoldable pub joined : JoinOf → ℕ → List Lexeme → Read (Option Join)
joined of at ts = do
  join_word ← want_word (codes "JOIN") ts
  right ← source join_word.1
  keys_found ← join_keys right.1
  Ok (Some (record { of = of; at = at; right = right.0; on = keys_found.0 }), keys_found.1)

-- [("ASOF"|"LT") joined]
unfoldable pub join : List Lexeme → Read (Option Join)
join ts =
    if_taken (word (codes "ASOF") ts) (λ x. joined side.Asof x.0 x.1)
    (if_taken (word (codes "LT") ts) (λ x. joined side.Lt x.0 x.1) (Ok (None, ts)))

-- ["WHERE" expr]
unfoldable pub filter : List Lexeme → Read (Option Filter)
filter ts = if_taken (word (codes "WHERE") ts) (λ x. whole x.1 >>= λ e. Ok (Some (record { at = x.0; test = e.0 }), e.1)) (Ok (None, ts))

-- column {"," column}
unfoldable pub keys : List Lexeme → Read (List Column)
keys ts = list column ts

-- "ON" column "PARTITION" "BY" keys
abbrev pub latest_on : ℕ → List Lexeme → Read (Option Latest)
latest_on at ts = do
  on_word ← want_word (codes "ON") ts
  on ← column on_word.1
  partition ← want_word (codes "PARTITION") on.1
  by_word ← want_word (codes "BY") partition.1
  found ← keys by_word.1
  Ok (Some (record { at = at; on = on.0; keys = found.0 }), found.1)

-- ["LATEST" latest_on]
unfoldable pub latest : List Lexeme → Read (Option Latest)
latest ts = if_taken (word (codes "LATEST") ts) (λ x. latest_on x.0 x.1) (Ok (None, ts))

-- "NONE" | "NULL" | "PREV" | ["-"] Number
unfoldable pub fill : List Lexeme → Read FillWith
fill ts =
    if_taken (word (codes "NONE") ts) (λ x. Ok (with.Nothing x.0, x.1))
    (if_taken (word (codes "NULL") ts) (λ x. Ok (with.Null x.0, x.1))
    (if_taken (word (codes "PREV") ts) (λ x. Ok (with.Prev x.0, x.1))
    (if_taken (sign kind.Minus ts) (λ x. number x.1 >>= λ n. Ok (with.Minus x.0 n.0, n.1))
    (number ts >>= λ n. Ok (with.Number n.0, n.1)))))

-- fill {"," fill}
unfoldable pub fill_list : List Lexeme → Read (List FillWith)
fill_list ts = list fill ts

-- "(" fill_list ")"
abbrev pub filled : ℕ → List Lexeme → Read (Option Fills)
filled at ts = do
  open_bracket ← want kind.Open ts
  found ← fill_list open_bracket.1
  close ← want kind.Close found.1
  Ok (Some (record { at = at; fills = found.0 }), close.1)

-- ["FILL" filled]
unfoldable pub fills : List Lexeme → Read (Option Fills)
fills ts = if_taken (word (codes "FILL") ts) (λ x. filled x.0 x.1) (Ok (None, ts))

-- ["WITH" "OFFSET" Text]
unfoldable pub offset : List Lexeme → Read (Option Text)
offset ts =
    if_taken (word (codes "WITH") ts) (λ x. want_word (codes "OFFSET") x.1 >>= λ y. text y.1 >>= λ t. Ok (Some t.0, t.1)) (Ok (None, ts))

-- "CALENDAR" offset | "FIRST" "OBSERVATION"
abbrev pub aligned : List Lexeme → Read (Option AlignTo)
aligned ts =
    if_taken (word (codes "CALENDAR") ts) (λ x. offset x.1 >>= λ o. Ok (Some (to.Calendar o.0), o.1))
    (want_word (codes "FIRST") ts >>= λ x. want_word (codes "OBSERVATION") x.1 >>= λ y. Ok (Some to.First, y.1))

-- ["ALIGN" "TO" aligned]
unfoldable pub align : List Lexeme → Read (Option AlignTo)
align ts = if_taken (word (codes "ALIGN") ts) (λ x. want_word (codes "TO") x.1 >>= λ y. aligned y.1) (Ok (None, ts))

-- "BY" Stride fills align
abbrev pub sample_by : ℕ → List Lexeme → Read (Option Sampled)
sample_by at ts = do
  by_word ← want_word (codes "BY") ts
  every ← stride by_word.1
  gaps ← fills every.1
  start ← align gaps.1
  Ok (Some (record { at = at; stride = every.0; fills = gaps.0; align = start.0 }), start.1)

-- ["SAMPLE" sample_by]
unfoldable pub sampled : List Lexeme → Read (Option Sampled)
sampled ts = if_taken (word (codes "SAMPLE") ts) (λ x. sample_by x.0 x.1) (Ok (None, ts))

-- name ["ASC"|"DESC"]
unfoldable pub order_key : List Lexeme → Read OrderKey
order_key ts =
    name ts >>= λ n. if_taken (word (codes "DESC") n.1) (λ x. Ok (record { name = n.0; is_descending = true }, x.1))
    (Ok (record { name = n.0; is_descending = false }, (may (codes "ASC") n.1).1))

unfoldable pub order_keys : List Lexeme → Read (List OrderKey)
order_keys ts = list order_key ts

-- ["ORDER" "BY" order_key {"," order_key}]
unfoldable pub order : List Lexeme → Read (Option (List OrderKey))
order ts =
    if_taken (word (codes "ORDER") ts) (λ x. want_word (codes "BY") x.1 >>= λ y. order_keys y.1 >>= λ found. Ok (Some found.0, found.1)) (Ok (None, ts))

-- Number ["," Number]
abbrev pub limit_to : List Lexeme → Read (Option Limit)
limit_to ts =
    number ts >>= λ n. if_taken (sign kind.Comma n.1) (λ x. number x.1 >>= λ m. Ok (Some (rows.Between n.0 m.0), m.1)) (Ok (Some (rows.First n.0), n.1))

-- ["LIMIT" ("-" Number | limit_to)]
unfoldable pub limit : List Lexeme → Read (Option Limit)
limit ts =
    if_taken (word (codes "LIMIT") ts)
    (λ x. if_taken (sign kind.Minus x.1) (λ y. number y.1 >>= λ n. Ok (Some (rows.Last y.0 n.0), n.1)) (limit_to x.1))
    (Ok (None, ts))

-- ["SELECT" items "FROM"] source [join] ["WHERE" expr]
unfoldable pub rows_of : List Lexeme → Read (Option Selected × Source × Option Join × Option Filter)
rows_of ts = do
  what ← selected ts
  table ← source what.1
  second ← join table.1
  tested ← filter second.1
  Ok ((what.0, table.0, second.0, tested.0), tested.1)

-- [latest] [sample] [order] [limit]
unfoldable pub shape_of : List Lexeme → Read (Option Latest × Option Sampled × Option (List OrderKey) × Option Limit)
shape_of ts = do
  last_rows ← latest ts
  buckets ← sampled last_rows.1
  sorted ← order buckets.1
  cut ← limit sorted.1
  Ok ((last_rows.0, buckets.0, sorted.0, cut.0), cut.1)

-- rows_of shape_of
unfoldable pub query : List Lexeme → Read Query
query ts = do
  front ← rows_of ts
  behind ← shape_of front.1
  Ok (
    record {
      selected = front.0.0;
      source = front.0.1;
      join = front.0.2;
      filter = front.0.3;
      latest = behind.0.0;
      sampled = behind.0.1;
      order = behind.0.2;
      limit = behind.0.3;
    },
    behind.1,
  )
