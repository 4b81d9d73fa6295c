-- The rules of queries, over what an expression is.
use Rattle.std.specs.Prelude.{ℕ, Bool, true, false, List, codes}
use Rattle.qd_sql_lexer.specs.declared.token.Kind.TheVariants as kind
use Rattle.qd_sql_ast.specs.declared.tree.AggOf.{AggOf}
use Rattle.qd_sql_ast.specs.declared.tree.AggOf.TheVariants as agg
use Rattle.qd_sql_ast.specs.declared.tree.AlignTo.{AlignTo}
use Rattle.qd_sql_ast.specs.declared.tree.AlignTo.TheVariants as to
use Rattle.qd_sql_ast.specs.declared.tree.Expr.{Expr}
use Rattle.qd_sql_ast.specs.declared.tree.FillWith.{FillWith}
use Rattle.qd_sql_ast.specs.declared.tree.FillWith.TheVariants as with
use Rattle.qd_sql_ast.specs.declared.tree.Fills.{Fills}
use Rattle.qd_sql_ast.specs.declared.tree.Filter.{Filter}
use Rattle.qd_sql_ast.specs.declared.tree.Item.{Item}
use Rattle.qd_sql_ast.specs.declared.tree.Join.{Join}
use Rattle.qd_sql_ast.specs.declared.tree.JoinOf.{JoinOf}
use Rattle.qd_sql_ast.specs.declared.tree.JoinOf.TheVariants as side
use Rattle.qd_sql_ast.specs.declared.tree.Latest.{Latest}
use Rattle.qd_sql_ast.specs.declared.tree.Limit.{Limit}
use Rattle.qd_sql_ast.specs.declared.tree.Limit.TheVariants as rows
use Rattle.qd_sql_ast.specs.declared.tree.OrderKey.{OrderKey}
use Rattle.qd_sql_ast.specs.declared.tree.Query.{Query}
use Rattle.qd_sql_ast.specs.declared.tree.Sampled.{Sampled}
use Rattle.qd_sql_ast.specs.declared.tree.Selected.{Selected}
use Rattle.qd_sql_ast.specs.declared.tree.Selected.TheVariants as select
use Rattle.qd_sql_ast.specs.declared.tree.Shown.{Shown}
use Rattle.qd_sql_ast.specs.declared.tree.Shown.TheVariants as shows
use Rattle.qd_sql_ast.specs.declared.tree.Source.{Source}
use Rattle.qd_sql_lexer.specs.Tokens.{Lexeme}
use Rattle.qd_sql_laws.specs.Parts.{◌⋅◌, Perhaps, Optional, Commas, Sign, SignAt, Word, WordAt, IsName, IsNumber, IsStride, IsText}
use Rattle.qd_sql_laws.specs.WriteRules.{Names}
use Rattle.qd_sql_laws.specs.ExprRules.{IsColumn}

-- "sum"|"min"|"max"|"first"|"last"
abbrev pub agg_word : AggOf → List ℕ
agg_word agg.Sum = codes "sum"
agg_word agg.Min = codes "min"
agg_word agg.Max = codes "max"
agg_word agg.First = codes "first"
agg_word agg.Last = codes "last"

-- agg | expr, with agg = "count" "(" ["*"] ")" | ("sum"|"min"|"max"|"first"|"last") "(" expr ")"
abbrev pub IsShown : (Expr → List Lexeme → Type 0) → Shown → List Lexeme → Type 0
IsShown IsExpr (shows.Count at) = WordAt (codes "count") at ⋅ Sign kind.Open ⋅ Perhaps (Sign kind.Star) ⋅ Sign kind.Close
IsShown IsExpr (shows.Agg of at e) = WordAt (agg_word of) at ⋅ Sign kind.Open ⋅ IsExpr e ⋅ Sign kind.Close
IsShown IsExpr (shows.Expr e) = IsExpr e

-- item = (agg | expr) ["AS" name]
abbrev pub IsItem : (Expr → List Lexeme → Type 0) → Item → List Lexeme → Type 0
IsItem IsExpr i = IsShown IsExpr i.shown ⋅ Optional (λ n. Word (codes "AS") ⋅ IsName n) i.alias

-- items = "*" | item {"," item}
abbrev pub IsItems : (Expr → List Lexeme → Type 0) → Selected → List Lexeme → Type 0
IsItems IsExpr (select.All at) = SignAt kind.Star at
IsItems IsExpr (select.Items is) = Commas (IsItem IsExpr) is

-- source = name [["AS"] name]
abbrev pub IsSource : Source → List Lexeme → Type 0
IsSource s = IsName s.table ⋅ Optional (λ n. Perhaps (Word (codes "AS")) ⋅ IsName n) s.alias

-- "ASOF"|"LT"
abbrev pub join_word : JoinOf → List ℕ
join_word side.Asof = codes "ASOF"
join_word side.Lt = codes "LT"

-- join = ("ASOF"|"LT") "JOIN" source ["ON" "(" name {"," name} ")"]
abbrev pub IsJoin : Join → List Lexeme → Type 0
IsJoin j = WordAt (join_word j.of) j.at ⋅ Word (codes "JOIN") ⋅ IsSource j.right ⋅ Optional (λ ns. Word (codes "ON") ⋅ Names ns) j.on

-- "WHERE" expr
abbrev pub IsFilter : (Expr → List Lexeme → Type 0) → Filter → List Lexeme → Type 0
IsFilter IsExpr f = WordAt (codes "WHERE") f.at ⋅ IsExpr f.test

-- latest = "LATEST" "ON" column "PARTITION" "BY" column {"," column}
abbrev pub IsLatest : Latest → List Lexeme → Type 0
IsLatest l = WordAt (codes "LATEST") l.at ⋅ Word (codes "ON") ⋅ IsColumn l.on ⋅ Word (codes "PARTITION") ⋅ Word (codes "BY") ⋅ Commas IsColumn l.keys

-- fill = "NONE" | "NULL" | "PREV" | ["-"] Number
abbrev pub IsFill : FillWith → List Lexeme → Type 0
IsFill (with.Nothing at) = WordAt (codes "NONE") at
IsFill (with.Null at) = WordAt (codes "NULL") at
IsFill (with.Prev at) = WordAt (codes "PREV") at
IsFill (with.Number n) = IsNumber n
IsFill (with.Minus at n) = SignAt kind.Minus at ⋅ IsNumber n

-- "FILL" "(" fill {"," fill} ")"
abbrev pub IsFills : Fills → List Lexeme → Type 0
IsFills f = WordAt (codes "FILL") f.at ⋅ Sign kind.Open ⋅ Commas IsFill f.fills ⋅ Sign kind.Close

-- align = "CALENDAR" ["WITH" "OFFSET" Text] | "FIRST" "OBSERVATION"
abbrev pub IsAlign : AlignTo → List Lexeme → Type 0
IsAlign (to.Calendar offset) = Word (codes "CALENDAR") ⋅ Optional (λ t. Word (codes "WITH") ⋅ Word (codes "OFFSET") ⋅ IsText t) offset
IsAlign to.First = Word (codes "FIRST") ⋅ Word (codes "OBSERVATION")

-- sample = "SAMPLE" "BY" Stride ["FILL" "(" fill {"," fill} ")"] ["ALIGN" "TO" align]
abbrev pub IsSample : Sampled → List Lexeme → Type 0
IsSample s =
    WordAt (codes "SAMPLE") s.at ⋅ Word (codes "BY") ⋅ IsStride s.stride ⋅ Optional IsFills s.fills
    ⋅ Optional (λ a. Word (codes "ALIGN") ⋅ Word (codes "TO") ⋅ IsAlign a) s.align

-- ["ASC"|"DESC"]
abbrev pub IsWay : Bool → List Lexeme → Type 0
IsWay true = Word (codes "DESC")
IsWay false = Perhaps (Word (codes "ASC"))

-- name ["ASC"|"DESC"]
abbrev pub IsOrderKey : OrderKey → List Lexeme → Type 0
IsOrderKey k = IsName k.name ⋅ IsWay k.is_descending

-- order = "ORDER" "BY" name ["ASC"|"DESC"] {"," name ["ASC"|"DESC"]}
abbrev pub IsOrder : List OrderKey → List Lexeme → Type 0
IsOrder ks = Word (codes "ORDER") ⋅ Word (codes "BY") ⋅ Commas IsOrderKey ks

-- limit = "LIMIT" ("-" Number | Number ["," Number])
abbrev pub IsLimit : Limit → List Lexeme → Type 0
IsLimit (rows.First n) = Word (codes "LIMIT") ⋅ IsNumber n
IsLimit (rows.Last at n) = Word (codes "LIMIT") ⋅ SignAt kind.Minus at ⋅ IsNumber n
IsLimit (rows.Between n m) = Word (codes "LIMIT") ⋅ IsNumber n ⋅ Sign kind.Comma ⋅ IsNumber m

-- query = ["SELECT" items "FROM"] source [join] ["WHERE" expr] [latest] [sample] [order] [limit]
abbrev pub IsQuery : (Expr → List Lexeme → Type 0) → Query → List Lexeme → Type 0
IsQuery IsExpr q =
    Optional (λ s. Word (codes "SELECT") ⋅ IsItems IsExpr s ⋅ Word (codes "FROM")) q.selected ⋅ IsSource q.source ⋅ Optional IsJoin q.join
    ⋅ Optional (IsFilter IsExpr) q.filter ⋅ Optional IsLatest q.latest ⋅ Optional IsSample q.sampled ⋅ Optional IsOrder q.order ⋅ Optional IsLimit q.limit
