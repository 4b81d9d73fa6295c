-- Queries are read exactly.
use Rattle.std.proofs.Common.{◌≡◌, ℕ, ◌+◌, Bool, true, false, List, [], ◌∷◌, ◌++◌, Option, Some, None, Ok, refl, sym, ap, ◌∙◌, subst, inl, inr, codes, append-nil}
use Rattle.qd_sql_lexer.specs.declared.token.Kind.TheVariants as kind
use Rattle.qd_sql_lexer.specs.Tokens.{Lexeme}
use Rattle.qd_base.specs.declared.limits.TheConstants.{MAX_NESTING}
use Rattle.qd_sql_ast.specs.declared.tree.AlignTo.{AlignTo}
use Rattle.qd_sql_ast.specs.declared.tree.AlignTo.TheVariants as to
use Rattle.qd_sql_ast.specs.declared.tree.Column.{Column}
use Rattle.qd_sql_ast.specs.declared.tree.Expr.{Expr}
use Rattle.qd_sql_ast.specs.declared.tree.FillWith.{FillWith}
use Rattle.qd_sql_ast.specs.declared.tree.FillWith.TheVariants as with
use Rattle.qd_sql_ast.specs.declared.tree.Fills.{Fills}
use Rattle.qd_sql_ast.specs.declared.tree.Filter.{Filter}
use Rattle.qd_sql_ast.specs.declared.tree.Join.{Join}
use Rattle.qd_sql_ast.specs.declared.tree.JoinOf.{JoinOf}
use Rattle.qd_sql_ast.specs.declared.tree.JoinOf.TheVariants as side
use Rattle.qd_sql_ast.specs.declared.tree.Latest.{Latest}
use Rattle.qd_sql_ast.specs.declared.tree.Limit.{Limit}
use Rattle.qd_sql_ast.specs.declared.tree.Limit.TheVariants as rows
use Rattle.qd_sql_ast.specs.declared.tree.Name.{Name}
use Rattle.qd_sql_ast.specs.declared.tree.OrderKey.{OrderKey}
use Rattle.qd_sql_ast.specs.declared.tree.Sampled.{Sampled}
use Rattle.qd_sql_ast.specs.declared.tree.Source.{Source}
use Rattle.qd_sql_ast.specs.declared.tree.StrideOf.{StrideOf}
use Rattle.qd_sql_ast.specs.declared.tree.Text.{Text}
use Rattle.qd_sql_ast.specs.Steps.{Read, if_taken, may, sees_name, is_name, word}
use Rattle.qd_sql.specs.Queries.{named, alias, source, join_keys, joined, join, filter, keys, latest, fill, fill_list, fills, offset, aligned, align, sampled, order_key, order_keys, order, limit_to, limit}
use Rattle.qd_sql_laws.specs.Parts.{◌⋅◌, Perhaps, Optional, Commas, Word, IsName, IsNumber, IsText}
use Rattle.qd_sql_laws.specs.WriteRules.{Names}
use Rattle.qd_sql_laws.specs.ExprRules.{IsColumn}
use Rattle.qd_sql_laws.specs.QueryRules.{IsSource, IsJoin, IsFilter, IsLatest, IsFill, IsFills, IsAlign, IsSample, IsWay, IsOrderKey, IsOrder, IsLimit}
use Rattle.qd_sql_laws.proofs.Sorts.{Sort, is_in, compared, in_lists}
use Rattle.qd_sql_laws.proofs.Judging.{Rule}
use Rattle.qd_sql_laws.proofs.Combining.{Then, Or, Just, Token}
use Rattle.qd_sql_laws.proofs.Tokens.{SignQ, WordQ, NameQ, NumberQ, StrideQ, TextQ, signs, words}
use Rattle.qd_sql_laws.proofs.Repeating.{comma}
use Rattle.qd_sql_laws.proofs.Living.{Live, Image, mapped, form, same, tidy, just, seq, or, or_one, alone, choice, commas, a_sign, a_word, names as a_name, numbers as a_number, strides as a_stride, texts as a_text}
use Rattle.qd_sql_laws.proofs.WriteExact.{NamesRest, names_rest, or_nothing}
use Rattle.qd_sql_laws.proofs.ExprExact.{expr_last, dot, a_column}
use Rattle.qd_sql_laws.proofs.Depth.{Deep, a_whole}

-- an expression within the limit, and at any depth
abbrev pub Inner : Rule Expr
Inner = Deep (MAX_NESTING + 1)

-- ["AS" name]
abbrev NamedForm : Rule (Option Name)
NamedForm = Or (Then (Token (WordQ (codes "AS"))) (λ at. Image (λ n. Some n) (Token NameQ))) (Just None)

abbrev pub Named : Option Name → List Lexeme → Type 0
Named = Optional (λ n. Word (codes "AS") ⋅ IsName n)

to_named : (d : Bool) (c : Option Name) (ts : List Lexeme) → NamedForm d c ts → Named c ts
to_named d c ts (inl (at, o, r, p, (t, e, s), (n, q, x))) = subst (λ z. Named z ts) (sym q) (o, r, p, (t, e, s.0), x)
to_named d c ts (inr (q, r)) = subst (λ z. Named z ts) (sym q) r

from_named : (d : Bool) (c : Option Name) (ts : List Lexeme) → Named c ts → NamedForm d c ts
from_named d None ts r = inr (refl, r)
from_named d (Some n) ts (o, r, p, (t, e, s), x) = inl (t.at, o, r, p, (t, e, (s, refl)), (n, refl, x))

pub a_named : (n : ℕ) → Live n named (λ d. Named) (Sort.word (codes "AS") ∷ []) true (Sort.word (codes "AS") ∷ [])
unfolding named compared
a_named n = form to_named from_named (or (words (codes "AS")) (λ at. mapped (λ x. Some x) (a_name n)) (just n None) refl)

-- [["AS"] name]
abbrev AliasForm : Rule (Option Name)
AliasForm = Or (Then (Token (WordQ (codes "AS"))) (λ at. Image (λ n. Some n) (Token NameQ))) (Or (Image (λ n. Some n) (Token NameQ)) (Just None))

abbrev pub Alias : Option Name → List Lexeme → Type 0
Alias = Optional (λ n. Perhaps (Word (codes "AS")) ⋅ IsName n)

to_alias : (d : Bool) (c : Option Name) (ts : List Lexeme) → AliasForm d c ts → Alias c ts
to_alias d c ts (inl (at, o, r, p, (t, e, s), (n, q, x))) = subst (λ z. Alias z ts) (sym q) (o, r, p, inr (t, e, s.0), x)
to_alias d c ts (inr (inl (n, q, x))) = subst (λ z. Alias z ts) (sym q) ([], ts, refl, inl refl, x)
to_alias d c ts (inr (inr (q, r))) = subst (λ z. Alias z ts) (sym q) r

from_alias : (d : Bool) (c : Option Name) (ts : List Lexeme) → Alias c ts → AliasForm d c ts
from_alias d None ts r = inr (inr (refl, r))
from_alias d (Some n) ts (o, r, p, inl e, x) = inr (inl (n, refl, subst (λ z. IsName n z) (sym (p ∙ ap (λ z. z ++ r) e)) x))
from_alias d (Some n) ts (o, r, p, inr (t, e, s), x) = inl (t.at, o, r, p, (t, e, (s, refl)), (n, refl, x))

sees_some_name : (t : Lexeme) (ts : List Lexeme) → sees_name (t ∷ ts) ≡ is_in (Sort.name ∷ []) t
unfolding sees_name
sees_some_name t ts = or_nothing (is_name t)

sees_no_name : sees_name [] ≡ false
unfolding sees_name
sees_no_name = refl

abbrev pub alias_last : List Sort
alias_last = Sort.name ∷ Sort.word (codes "AS") ∷ []

pub an_alias : (n : ℕ) → Live n alias (λ d. Alias) (Sort.word (codes "AS") ∷ Sort.name ∷ []) true alias_last
unfolding alias compared
an_alias n =
    form to_alias from_alias
    (or (words (codes "AS")) (λ at. mapped (λ x. Some x) (a_name n)) (choice sees_name sees_no_name sees_some_name (mapped (λ x. Some x) (a_name n)) (just n None) refl) refl)

-- name alias
source_of : Name → Option Name → Source
source_of a c = record { table = a; alias = c }

pub a_source : (n : ℕ) → Live n source (λ d. IsSource) (Sort.name ∷ []) false alias_last
unfolding source source_of compared
a_source n =
    form (λ d c ts (v1, o1, r1, p1, x1, (v2, q, x2)). subst (λ z. IsSource z ts) (sym q) (o1, r1, p1, x1, x2))
    (λ d c ts (o1, r1, p1, x1, x2). (c.table, o1, r1, p1, x1, (c.alias, refl, x2)))
    (seq (a_name n) (λ a. mapped (source_of a) (an_alias n)) refl)

-- ["ON" "(" name {"," name} ")"]
abbrev Keys : Option (List Name) → List Lexeme → Type 0
Keys = Optional (λ ns. Word (codes "ON") ⋅ Names ns)

abbrev KeysForm : Rule (Option (List Name))
KeysForm = Or (Then (Token (WordQ (codes "ON"))) (λ at. Then (Token (SignQ kind.Open)) (λ o. Image (λ ns. Some ns) NamesRest))) (Just None)

to_join_keys : (d : Bool) (c : Option (List Name)) (ts : List Lexeme) → KeysForm d c ts → Keys c ts
to_join_keys d c ts (inl (v1, o1, r1, p1, (t1, e1, s1), (v2, o2, r2, p2, (t2, e2, s2), (v3, q, x3)))) = subst (λ z. Keys z ts) (sym q) (o1, r1, p1, (t1, e1, s1.0), (o2, r2, p2, (t2, e2, s2.0), x3))
to_join_keys d c ts (inr (q, r)) = subst (λ z. Keys z ts) (sym q) r

from_join_keys : (d : Bool) (c : Option (List Name)) (ts : List Lexeme) → Keys c ts → KeysForm d c ts
from_join_keys d None ts r = inr (refl, r)
from_join_keys d (Some c) ts (o1, r1, p1, (t1, e1, s1), (o2, r2, p2, (t2, e2, s2), x3)) = inl (t1.at, o1, r1, p1, (t1, e1, (s1, refl)), (t2.at, o2, r2, p2, (t2, e2, (s2, refl)), (c, refl, x3)))

the_join_keys : (n : ℕ) → Live n join_keys (λ d. Keys) (Sort.word (codes "ON") ∷ []) true (Sort.word (codes "ON") ∷ [])
unfolding join_keys compared
the_join_keys n = form to_join_keys from_join_keys (or (words (codes "ON")) (λ at. seq (a_sign n kind.Open refl) (λ o. mapped (λ ns. Some ns) (names_rest n)) refl) (just n None) refl)

-- "JOIN" source join_keys
join_of : JoinOf → ℕ → Source → Option (List Name) → Option Join
join_of of at right on = Some (record { of = of; at = at; right = right; on = on })

abbrev JoinedForm : JoinOf → ℕ → Rule (Option Join)
JoinedForm of at = Then (Token (WordQ (codes "JOIN"))) (λ j. Then (λ d. IsSource) (λ right. Image (join_of of at right) (λ d. Keys)))

abbrev pub join_last : List Sort
join_last = Sort.word (codes "ON") ∷ alias_last

the_joined : (n : ℕ) (of : JoinOf) (at : ℕ) → Live n (joined of at) (JoinedForm of at) (Sort.word (codes "JOIN") ∷ []) false join_last
unfolding joined join_of compared in_lists
the_joined n of at = tidy refl refl (seq (a_word n (codes "JOIN")) (λ j. seq (a_source n) (λ right. mapped (join_of of at right) (the_join_keys n)) refl) refl)

-- [("ASOF"|"LT") joined]
abbrev JoinForm : Rule (Option Join)
JoinForm = Or (Then (Token (WordQ (codes "ASOF"))) (λ at. JoinedForm side.Asof at)) (Or (Then (Token (WordQ (codes "LT"))) (λ at. JoinedForm side.Lt at)) (Just None))

to_join : (d : Bool) (c : Option Join) (ts : List Lexeme) → JoinForm d c ts → Optional IsJoin c ts
unfolding join_of
to_join d c ts (inl (at, o, r, p, w, (j, o₂, r₂, p₂, (t, e, s), (right, o₃, r₃, p₃, x, (on, q, y))))) = subst (λ z. Optional IsJoin z ts) (sym q) (o, r, p, w, (o₂, r₂, p₂, (t, e, s.0), (o₃, r₃, p₃, x, y)))
to_join d c ts (inr (inl (at, o, r, p, w, (j, o₂, r₂, p₂, (t, e, s), (right, o₃, r₃, p₃, x, (on, q, y)))))) =
    subst (λ z. Optional IsJoin z ts) (sym q) (o, r, p, w, (o₂, r₂, p₂, (t, e, s.0), (o₃, r₃, p₃, x, y)))
to_join d c ts (inr (inr (q, r))) = subst (λ z. Optional IsJoin z ts) (sym q) r

from_join_of : (d : Bool) (of : JoinOf) (at : ℕ) (right : Source) (on : Option (List Name)) (ts : List Lexeme)
    → IsJoin (record { of = of; at = at; right = right; on = on }) ts → JoinForm d (Some (record { of = of; at = at; right = right; on = on })) ts
unfolding join_of
from_join_of d side.Asof at right on ts (o, r, p, w, (o₂, r₂, p₂, (t, e, s), (o₃, r₃, p₃, x, y))) = inl (at, o, r, p, w, (t.at, o₂, r₂, p₂, (t, e, (s, refl)), (right, o₃, r₃, p₃, x, (on, refl, y))))
from_join_of d side.Lt at right on ts (o, r, p, w, (o₂, r₂, p₂, (t, e, s), (o₃, r₃, p₃, x, y))) = inr (inl (at, o, r, p, w, (t.at, o₂, r₂, p₂, (t, e, (s, refl)), (right, o₃, r₃, p₃, x, (on, refl, y)))))

from_join : (d : Bool) (c : Option Join) (ts : List Lexeme) → Optional IsJoin c ts → JoinForm d c ts
from_join d None ts r = inr (inr (refl, r))
from_join d (Some c) ts h = from_join_of d c.of c.at c.right c.on ts h

abbrev pub join_first : List Sort
join_first = Sort.word (codes "ASOF") ∷ Sort.word (codes "LT") ∷ []

abbrev pub joins_last : List Sort
joins_last = join_first ++ join_last

pub a_join : (n : ℕ) → Live n join (λ d. Optional IsJoin) join_first true joins_last
unfolding join compared in_lists
a_join n = tidy refl refl (form to_join from_join (or (words (codes "ASOF")) (λ at. the_joined n side.Asof at) (or (words (codes "LT")) (λ at. the_joined n side.Lt at) (just n None) refl) refl))

-- ["WHERE" expr]
filter_of : ℕ → Expr → Option Filter
filter_of at e = Some (record { at = at; test = e })

abbrev FilterForm : Rule (Option Filter)
FilterForm = Or (Then (Token (WordQ (codes "WHERE"))) (λ at. Image (filter_of at) Inner)) (Just None)

to_filter : (d : Bool) (c : Option Filter) (ts : List Lexeme) → FilterForm d c ts → Optional (IsFilter (Inner d)) c ts
unfolding filter_of
to_filter d c ts (inl (v1, o1, r1, p1, x1, (v2, q, x2))) = subst (λ z. Optional (IsFilter (Inner d)) z ts) (sym q) (o1, r1, p1, x1, x2)
to_filter d c ts (inr (q, r)) = subst (λ z. Optional (IsFilter (Inner d)) z ts) (sym q) r

from_filter : (d : Bool) (c : Option Filter) (ts : List Lexeme) → Optional (IsFilter (Inner d)) c ts → FilterForm d c ts
unfolding filter_of
from_filter d None ts r = inr (refl, r)
from_filter d (Some c) ts (o1, r1, p1, x1, x2) = inl (c.at, o1, r1, p1, x1, (c.test, refl, x2))

abbrev pub where_last : List Sort
where_last = Sort.word (codes "WHERE") ∷ expr_last

pub a_filter : (n : ℕ) → Live n filter (λ d. Optional (IsFilter (Inner d))) (Sort.word (codes "WHERE") ∷ []) true where_last
unfolding filter filter_of compared in_lists
a_filter n = tidy refl refl (form to_filter from_filter (or (words (codes "WHERE")) (λ at. mapped (filter_of at) (a_whole n)) (just n None) refl))

-- column {"," column}
the_keys : (n : ℕ) → Live n keys (λ d cs. Commas IsColumn cs) (Sort.name ∷ []) false (dot ++ comma)
unfolding keys compared
the_keys n = commas a_column refl n

-- ["LATEST" "ON" column "PARTITION" "BY" keys]
latest_of : ℕ → Column → List Column → Option Latest
latest_of at on cs = Some (record { at = at; on = on; keys = cs })

abbrev LatestForm : Rule (Option Latest)
LatestForm = Or (Then (Token (WordQ (codes "LATEST"))) (λ at. Then (Token (WordQ (codes "ON"))) (λ v2. Then (λ d. IsColumn) (λ on. Then (Token (WordQ (codes "PARTITION"))) (λ v4. Then (Token (WordQ (codes "BY"))) (λ v5. Image (latest_of at on) (λ d cs. Commas IsColumn cs))))))) (Just None)

to_latest : (d : Bool) (c : Option Latest) (ts : List Lexeme) → LatestForm d c ts → Optional IsLatest c ts
unfolding latest_of
to_latest d c ts (inl (v1, o1, r1, p1, x1, (v2, o2, r2, p2, (t2, e2, s2), (v3, o3, r3, p3, x3, (v4, o4, r4, p4, (t4, e4, s4), (v5, o5, r5, p5, (t5, e5, s5), (v6, q, x6))))))) = subst (λ z. Optional IsLatest z ts) (sym q) (o1, r1, p1, x1, (o2, r2, p2, (t2, e2, s2.0), (o3, r3, p3, x3, (o4, r4, p4, (t4, e4, s4.0), (o5, r5, p5, (t5, e5, s5.0), x6)))))
to_latest d c ts (inr (q, r)) = subst (λ z. Optional IsLatest z ts) (sym q) r

from_latest : (d : Bool) (c : Option Latest) (ts : List Lexeme) → Optional IsLatest c ts → LatestForm d c ts
unfolding latest_of
from_latest d None ts r = inr (refl, r)
from_latest d (Some c) ts (o1, r1, p1, x1, (o2, r2, p2, (t2, e2, s2), (o3, r3, p3, x3, (o4, r4, p4, (t4, e4, s4), (o5, r5, p5, (t5, e5, s5), x6))))) = inl (c.at, o1, r1, p1, x1, (t2.at, o2, r2, p2, (t2, e2, (s2, refl)), (c.on, o3, r3, p3, x3, (t4.at, o4, r4, p4, (t4, e4, (s4, refl)), (t5.at, o5, r5, p5, (t5, e5, (s5, refl)), (c.keys, refl, x6))))))

abbrev pub latest_last : List Sort
latest_last = Sort.word (codes "LATEST") ∷ Sort.sign kind.Dot ∷ comma

pub a_latest : (n : ℕ) → Live n latest (λ d. Optional IsLatest) (Sort.word (codes "LATEST") ∷ []) true latest_last
unfolding latest latest_of compared in_lists
a_latest n =
    tidy refl refl (form to_latest from_latest (or (words (codes "LATEST")) (λ at. seq (a_word n (codes "ON")) (λ x. seq (a_column n) (λ on. seq (a_word n (codes "PARTITION")) (λ y. seq (a_word n (codes "BY")) (λ z.
    mapped (latest_of at on) (the_keys n)) refl) refl) refl) refl) (just n None) refl))

-- fill
abbrev FillForm : Rule FillWith
FillForm =
    Or (Image with.Nothing (Token (WordQ (codes "NONE")))) (Or (Image with.Null (Token (WordQ (codes "NULL")))) (Or (Image with.Prev (Token (WordQ (codes "PREV"))))
    (Or (Then (Token (SignQ kind.Minus)) (λ at. Image (with.Minus at) (Token NumberQ))) (Image with.Number (Token NumberQ)))))

to_fill : (d : Bool) (c : FillWith) (ts : List Lexeme) → FillForm d c ts → IsFill c ts
to_fill d c ts (inl (at, q, x)) = subst (λ z. IsFill z ts) (sym q) x
to_fill d c ts (inr (inl (at, q, x))) = subst (λ z. IsFill z ts) (sym q) x
to_fill d c ts (inr (inr (inl (at, q, x)))) = subst (λ z. IsFill z ts) (sym q) x
to_fill d c ts (inr (inr (inr (inl (at, o, r, p, w, (n, q, x)))))) = subst (λ z. IsFill z ts) (sym q) (o, r, p, w, x)
to_fill d c ts (inr (inr (inr (inr (n, q, x))))) = subst (λ z. IsFill z ts) (sym q) x

from_fill : (d : Bool) (c : FillWith) (ts : List Lexeme) → IsFill c ts → FillForm d c ts
from_fill d (with.Nothing at) ts x = inl (at, refl, x)
from_fill d (with.Null at) ts x = inr (inl (at, refl, x))
from_fill d (with.Prev at) ts x = inr (inr (inl (at, refl, x)))
from_fill d (with.Number n) ts x = inr (inr (inr (inr (n, refl, x))))
from_fill d (with.Minus at n) ts (o, r, p, w, x) = inr (inr (inr (inl (at, o, r, p, w, (n, refl, x)))))

abbrev fill_first : List Sort
fill_first = Sort.word (codes "NONE") ∷ Sort.word (codes "NULL") ∷ Sort.word (codes "PREV") ∷ Sort.sign kind.Minus ∷ Sort.sign kind.Number ∷ []

a_fill : (n : ℕ) → Live n fill (λ d. IsFill) fill_first false []
unfolding fill compared
a_fill n =
    form to_fill from_fill
    (or_one (words (codes "NONE")) with.Nothing (or_one (words (codes "NULL")) with.Null (or_one (words (codes "PREV")) with.Prev
    (or (signs kind.Minus refl) (λ at. mapped (with.Minus at) (a_number n)) (mapped with.Number (a_number n)) refl) refl) refl) refl)

the_fills : (n : ℕ) → Live n fill_list (λ d cs. Commas IsFill cs) fill_first false comma
unfolding fill_list compared
the_fills n = commas a_fill refl n

-- ["FILL" "(" fill {"," fill} ")"]
fills_of : ℕ → List FillWith → Option Fills
fills_of at fs = Some (record { at = at; fills = fs })

abbrev FillsForm : Rule (Option Fills)
FillsForm = Or (Then (Token (WordQ (codes "FILL"))) (λ at. Then (Token (SignQ kind.Open)) (λ v2. Then (λ d cs. Commas IsFill cs) (λ fs. Image (λ v4. fills_of at fs) (Token (SignQ kind.Close)))))) (Just None)

to_fills : (d : Bool) (c : Option Fills) (ts : List Lexeme) → FillsForm d c ts → Optional IsFills c ts
unfolding fills_of
to_fills d c ts (inl (v1, o1, r1, p1, x1, (v2, o2, r2, p2, (t2, e2, s2), (v3, o3, r3, p3, x3, (v4, q, (t4, e4, s4)))))) = subst (λ z. Optional IsFills z ts) (sym q) (o1, r1, p1, x1, (o2, r2, p2, (t2, e2, s2.0), (o3, r3, p3, x3, (t4, e4, s4.0))))
to_fills d c ts (inr (q, r)) = subst (λ z. Optional IsFills z ts) (sym q) r

from_fills : (d : Bool) (c : Option Fills) (ts : List Lexeme) → Optional IsFills c ts → FillsForm d c ts
unfolding fills_of
from_fills d None ts r = inr (refl, r)
from_fills d (Some c) ts (o1, r1, p1, x1, (o2, r2, p2, (t2, e2, s2), (o3, r3, p3, x3, (t4, e4, s4)))) = inl (c.at, o1, r1, p1, x1, (t2.at, o2, r2, p2, (t2, e2, (s2, refl)), (c.fills, o3, r3, p3, x3, (t4.at, refl, (t4, e4, (s4, refl))))))

a_fills : (n : ℕ) → Live n fills (λ d. Optional IsFills) (Sort.word (codes "FILL") ∷ []) true (Sort.word (codes "FILL") ∷ [])
unfolding fills fills_of compared
a_fills n =
    form to_fills from_fills (or (words (codes "FILL")) (λ at. seq (a_sign n kind.Open refl) (λ o. seq (the_fills n) (λ fs. mapped (λ c. fills_of at fs) (a_sign n kind.Close refl)) refl) refl) (just n None) refl)

-- ["WITH" "OFFSET" Text]
abbrev Offset : Option Text → List Lexeme → Type 0
Offset = Optional (λ t. Word (codes "WITH") ⋅ Word (codes "OFFSET") ⋅ IsText t)

abbrev OffsetForm : Rule (Option Text)
OffsetForm = Or (Then (Token (WordQ (codes "WITH"))) (λ at. Then (Token (WordQ (codes "OFFSET"))) (λ v2. Image (λ t. Some t) (Token TextQ)))) (Just None)

to_offset : (d : Bool) (c : Option Text) (ts : List Lexeme) → OffsetForm d c ts → Offset c ts
to_offset d c ts (inl (v1, o1, r1, p1, (t1, e1, s1), (v2, o2, r2, p2, (t2, e2, s2), (v3, q, x3)))) = subst (λ z. Offset z ts) (sym q) (o1, r1, p1, (t1, e1, s1.0), (o2, r2, p2, (t2, e2, s2.0), x3))
to_offset d c ts (inr (q, r)) = subst (λ z. Offset z ts) (sym q) r

from_offset : (d : Bool) (c : Option Text) (ts : List Lexeme) → Offset c ts → OffsetForm d c ts
from_offset d None ts r = inr (refl, r)
from_offset d (Some c) ts (o1, r1, p1, (t1, e1, s1), (o2, r2, p2, (t2, e2, s2), x3)) = inl (t1.at, o1, r1, p1, (t1, e1, (s1, refl)), (t2.at, o2, r2, p2, (t2, e2, (s2, refl)), (c, refl, x3)))

an_offset : (n : ℕ) → Live n offset (λ d. Offset) (Sort.word (codes "WITH") ∷ []) true (Sort.word (codes "WITH") ∷ [])
unfolding offset compared
an_offset n = form to_offset from_offset (or (words (codes "WITH")) (λ at. seq (a_word n (codes "OFFSET")) (λ x. mapped (λ t. Some t) (a_text n)) refl) (just n None) refl)

-- "CALENDAR" offset | "FIRST" "OBSERVATION", behind "ALIGN" "TO"
abbrev AlignedForm : Rule (Option AlignTo)
AlignedForm =
    Or (Then (Token (WordQ (codes "CALENDAR"))) (λ at. Image (λ o. Some (to.Calendar o)) (λ d. Offset)))
    (Then (Token (WordQ (codes "FIRST"))) (λ at. Image (λ y. Some to.First) (Token (WordQ (codes "OBSERVATION")))))

aligned_exact : (n : ℕ) → Live n aligned AlignedForm (Sort.word (codes "CALENDAR") ∷ Sort.word (codes "FIRST") ∷ []) false (Sort.word (codes "WITH") ∷ [])
unfolding compared
aligned_exact n =
    or (words (codes "CALENDAR")) (λ at. mapped (λ o. Some (to.Calendar o)) (an_offset n)) (seq (a_word n (codes "FIRST")) (λ x. mapped (λ y. Some to.First) (a_word n (codes "OBSERVATION"))) refl) refl

-- ["ALIGN" "TO" aligned]
abbrev Aligned : Option AlignTo → List Lexeme → Type 0
Aligned = Optional (λ a. Word (codes "ALIGN") ⋅ Word (codes "TO") ⋅ IsAlign a)

abbrev AlignForm : Rule (Option AlignTo)
AlignForm = Or (Then (Token (WordQ (codes "ALIGN"))) (λ at. Then (Token (WordQ (codes "TO"))) (λ x. AlignedForm))) (Just None)

to_align : (d : Bool) (c : Option AlignTo) (ts : List Lexeme) → AlignForm d c ts → Aligned c ts
to_align d c ts (inl (v, o, r, p, (t, e, s), (v₂, o₂, r₂, p₂, (t₂, e₂, s₂), inl (v₃, o₃, r₃, p₃, (t₃, e₃, s₃), (a, q, x))))) =
    subst (λ z. Aligned z ts) (sym q) (o, r, p, (t, e, s.0), (o₂, r₂, p₂, (t₂, e₂, s₂.0), (o₃, r₃, p₃, (t₃, e₃, s₃.0), x)))
to_align d c ts (inl (v, o, r, p, (t, e, s), (v₂, o₂, r₂, p₂, (t₂, e₂, s₂), inr (v₃, o₃, r₃, p₃, (t₃, e₃, s₃), (a, q, (t₄, e₄, s₄)))))) =
    subst (λ z. Aligned z ts) (sym q) (o, r, p, (t, e, s.0), (o₂, r₂, p₂, (t₂, e₂, s₂.0), (o₃, r₃, p₃, (t₃, e₃, s₃.0), (t₄, e₄, s₄.0))))
to_align d c ts (inr (q, r)) = subst (λ z. Aligned z ts) (sym q) r

from_align : (d : Bool) (c : Option AlignTo) (ts : List Lexeme) → Aligned c ts → AlignForm d c ts
from_align d None ts r = inr (refl, r)
from_align d (Some (to.Calendar a)) ts (o, r, p, (t, e, s), (o₂, r₂, p₂, (t₂, e₂, s₂), (o₃, r₃, p₃, (t₃, e₃, s₃), x))) =
    inl (t.at, o, r, p, (t, e, (s, refl)), (t₂.at, o₂, r₂, p₂, (t₂, e₂, (s₂, refl)), inl (t₃.at, o₃, r₃, p₃, (t₃, e₃, (s₃, refl)), (a, refl, x))))
from_align d (Some to.First) ts (o, r, p, (t, e, s), (o₂, r₂, p₂, (t₂, e₂, s₂), (o₃, r₃, p₃, (t₃, e₃, s₃), (t₄, e₄, s₄)))) =
    inl (t.at, o, r, p, (t, e, (s, refl)), (t₂.at, o₂, r₂, p₂, (t₂, e₂, (s₂, refl)), inr (t₃.at, o₃, r₃, p₃, (t₃, e₃, (s₃, refl)), (t₄.at, refl, (t₄, e₄, (s₄, refl))))))

abbrev pub align_last : List Sort
align_last = Sort.word (codes "ALIGN") ∷ Sort.word (codes "WITH") ∷ []

an_align : (n : ℕ) → Live n align (λ d. Aligned) (Sort.word (codes "ALIGN") ∷ []) true align_last
unfolding align compared in_lists
an_align n = tidy refl refl (form to_align from_align (or (words (codes "ALIGN")) (λ at. seq (a_word n (codes "TO")) (λ x. aligned_exact n) refl) (just n None) refl))

-- ["SAMPLE" "BY" Stride fills align]
sample_of : ℕ → StrideOf → Option Fills → Option AlignTo → Option Sampled
sample_of at every gaps start = Some (record { at = at; stride = every; fills = gaps; align = start })

abbrev SampleForm : Rule (Option Sampled)
SampleForm = Or (Then (Token (WordQ (codes "SAMPLE"))) (λ at. Then (Token (WordQ (codes "BY"))) (λ v2. Then (Token StrideQ) (λ every. Then (λ d. Optional IsFills) (λ gaps. Image (sample_of at every gaps) (λ d. Aligned)))))) (Just None)

to_sampled : (d : Bool) (c : Option Sampled) (ts : List Lexeme) → SampleForm d c ts → Optional IsSample c ts
unfolding sample_of
to_sampled d c ts (inl (v1, o1, r1, p1, x1, (v2, o2, r2, p2, (t2, e2, s2), (v3, o3, r3, p3, x3, (v4, o4, r4, p4, x4, (v5, q, x5)))))) = subst (λ z. Optional IsSample z ts) (sym q) (o1, r1, p1, x1, (o2, r2, p2, (t2, e2, s2.0), (o3, r3, p3, x3, (o4, r4, p4, x4, x5))))
to_sampled d c ts (inr (q, r)) = subst (λ z. Optional IsSample z ts) (sym q) r

from_sampled : (d : Bool) (c : Option Sampled) (ts : List Lexeme) → Optional IsSample c ts → SampleForm d c ts
unfolding sample_of
from_sampled d None ts r = inr (refl, r)
from_sampled d (Some c) ts (o1, r1, p1, x1, (o2, r2, p2, (t2, e2, s2), (o3, r3, p3, x3, (o4, r4, p4, x4, x5)))) = inl (c.at, o1, r1, p1, x1, (t2.at, o2, r2, p2, (t2, e2, (s2, refl)), (c.stride, o3, r3, p3, x3, (c.fills, o4, r4, p4, x4, (c.align, refl, x5)))))

abbrev pub sample_last : List Sort
sample_last = Sort.word (codes "SAMPLE") ∷ Sort.word (codes "FILL") ∷ align_last

pub a_sample : (n : ℕ) → Live n sampled (λ d. Optional IsSample) (Sort.word (codes "SAMPLE") ∷ []) true sample_last
unfolding sampled sample_of compared in_lists
a_sample n =
    tidy refl refl (form to_sampled from_sampled (or (words (codes "SAMPLE")) (λ at. seq (a_word n (codes "BY")) (λ x. seq (a_stride n) (λ every. seq (a_fills n) (λ gaps. mapped (sample_of at every gaps) (an_align n)) refl) refl) refl)
    (just n None) refl))

-- name ["ASC"|"DESC"]
order_key_of : Name → Bool → OrderKey
order_key_of name down = record { name = name; is_descending = down }

abbrev OrderKeyForm : Rule OrderKey
OrderKeyForm =
    Then (Token NameQ) (λ n. Or (Image (λ at. order_key_of n true) (Token (WordQ (codes "DESC")))) (Or (Image (λ at. order_key_of n false) (Token (WordQ (codes "ASC")))) (Just (order_key_of n false))))

to_order_key : (d : Bool) (c : OrderKey) (ts : List Lexeme) → OrderKeyForm d c ts → IsOrderKey c ts
unfolding order_key_of
to_order_key d c ts (n, o, r, p, x, inl (at, q, (t, e, s))) = subst (λ z. IsOrderKey z ts) (sym q) (o, r, p, x, (t, e, s.0))
to_order_key d c ts (n, o, r, p, x, inr (inl (at, q, (t, e, s)))) = subst (λ z. IsOrderKey z ts) (sym q) (o, r, p, x, inr (t, e, s.0))
to_order_key d c ts (n, o, r, p, x, inr (inr (q, e))) = subst (λ z. IsOrderKey z ts) (sym q) (o, r, p, x, inl e)

from_way : (d : Bool) (n : Name) (down : Bool) (r : List Lexeme) → IsWay down r
    → Or (Image (λ at. order_key_of n true) (Token (WordQ (codes "DESC")))) (Or (Image (λ at. order_key_of n false) (Token (WordQ (codes "ASC")))) (Just (order_key_of n false))) d (record { name = n; is_descending = down }) r
unfolding order_key_of
from_way d n true r (t, e, s) = inl (t.at, refl, (t, e, (s, refl)))
from_way d n false r (inl e) = inr (inr (refl, e))
from_way d n false r (inr (t, e, s)) = inr (inl (t.at, refl, (t, e, (s, refl))))

from_order_key : (d : Bool) (c : OrderKey) (ts : List Lexeme) → IsOrderKey c ts → OrderKeyForm d c ts
from_order_key d c ts (o, r, p, x, h) = (c.name, o, r, p, x, from_way d c.name c.is_descending r h)

may_then : {A : Type 0} (x : A) (o : Option (ℕ × List Lexeme)) (ts : List Lexeme)
    → if_taken {B = Read A} o (λ y. Ok (x, y.1)) (Ok (x, ts)) ≡ Ok (x, (if_taken {B = Option ℕ × List Lexeme} o (λ y. (Some y.0, y.1)) (None, ts)).1)
may_then x None ts = refl
may_then x (Some y) ts = refl

may_stand : {A : Type 0} (x : A) (w : List ℕ) (ts : List Lexeme) → if_taken {B = Read A} (word w ts) (λ y. Ok (x, y.1)) (Ok (x, ts)) ≡ Ok (x, (may w ts).1)
unfolding may
may_stand x w ts = may_then x (word w ts) ts

abbrev order_key_last : List Sort
order_key_last = Sort.word (codes "DESC") ∷ Sort.word (codes "ASC") ∷ []

an_order_key : (n : ℕ) → Live n order_key (λ d. IsOrderKey) (Sort.name ∷ []) false order_key_last
unfolding order_key order_key_of compared in_lists
an_order_key n =
    tidy refl refl (form to_order_key from_order_key
    (seq (a_name n) (λ x. or_one (words (codes "DESC")) (λ at. order_key_of x true)
    (same (may_stand (order_key_of x false) (codes "ASC")) (or_one (words (codes "ASC")) (λ at. order_key_of x false) (just n (order_key_of x false)) refl)) refl) refl))

the_order_keys : (n : ℕ) → Live n order_keys (λ d cs. Commas IsOrderKey cs) (Sort.name ∷ []) false (order_key_last ++ comma)
unfolding order_keys compared
the_order_keys n = commas an_order_key refl n

-- ["ORDER" "BY" order_keys]
abbrev OrderForm : Rule (Option (List OrderKey))
OrderForm = Or (Then (Token (WordQ (codes "ORDER"))) (λ at. Then (Token (WordQ (codes "BY"))) (λ v2. Image (λ cs. Some cs) (λ d cs. Commas IsOrderKey cs)))) (Just None)

to_order : (d : Bool) (c : Option (List OrderKey)) (ts : List Lexeme) → OrderForm d c ts → Optional IsOrder c ts
to_order d c ts (inl (v1, o1, r1, p1, (t1, e1, s1), (v2, o2, r2, p2, (t2, e2, s2), (v3, q, x3)))) = subst (λ z. Optional IsOrder z ts) (sym q) (o1, r1, p1, (t1, e1, s1.0), (o2, r2, p2, (t2, e2, s2.0), x3))
to_order d c ts (inr (q, r)) = subst (λ z. Optional IsOrder z ts) (sym q) r

from_order : (d : Bool) (c : Option (List OrderKey)) (ts : List Lexeme) → Optional IsOrder c ts → OrderForm d c ts
from_order d None ts r = inr (refl, r)
from_order d (Some c) ts (o1, r1, p1, (t1, e1, s1), (o2, r2, p2, (t2, e2, s2), x3)) = inl (t1.at, o1, r1, p1, (t1, e1, (s1, refl)), (t2.at, o2, r2, p2, (t2, e2, (s2, refl)), (c, refl, x3)))

abbrev pub order_last : List Sort
order_last = Sort.word (codes "ORDER") ∷ Sort.word (codes "DESC") ∷ Sort.word (codes "ASC") ∷ comma

pub an_order : (n : ℕ) → Live n order (λ d. Optional IsOrder) (Sort.word (codes "ORDER") ∷ []) true order_last
unfolding order compared in_lists
an_order n = tidy refl refl (form to_order from_order (or (words (codes "ORDER")) (λ at. seq (a_word n (codes "BY")) (λ x. mapped (λ cs. Some cs) (the_order_keys n)) refl) (just n None) refl))

-- Number ["," Number]
abbrev LimitToForm : Rule (Option Limit)
LimitToForm = Then (Token NumberQ) (λ n. Or (Then (Token (SignQ kind.Comma)) (λ at. Image (λ m. Some (rows.Between n m)) (Token NumberQ))) (Just (Some (rows.First n))))

limit_to_exact : (n : ℕ) → Live n limit_to LimitToForm (Sort.sign kind.Number ∷ []) false comma
unfolding compared
limit_to_exact n = seq (a_number n) (λ x. or (signs kind.Comma refl) (λ at. mapped (λ m. Some (rows.Between x m)) (a_number n)) (just n (Some (rows.First x))) refl) refl

-- ["LIMIT" ("-" Number | limit_to)]
abbrev LimitForm : Rule (Option Limit)
LimitForm =
    Or (Then (Token (WordQ (codes "LIMIT"))) (λ x. Or (Then (Token (SignQ kind.Minus)) (λ at. Image (λ n. Some (rows.Last at n)) (Token NumberQ))) LimitToForm)) (Just None)

to_limit : (d : Bool) (c : Option Limit) (ts : List Lexeme) → LimitForm d c ts → Optional IsLimit c ts
to_limit d c ts (inl (v, o, r, p, (t, e, s), inl (at, o₂, r₂, p₂, m, (n, q, x)))) = subst (λ z. Optional IsLimit z ts) (sym q) (o, r, p, (t, e, s.0), (o₂, r₂, p₂, m, x))
to_limit d c ts (inl (v, o, r, p, (t, e, s), inr (n, o₂, r₂, p₂, x, inl (v₃, o₃, r₃, p₃, (t₃, e₃, s₃), (m, q, y))))) =
    subst (λ z. Optional IsLimit z ts) (sym q) (o, r, p, (t, e, s.0), (o₂, r₂, p₂, x, (o₃, r₃, p₃, (t₃, e₃, s₃.0), y)))
to_limit d c ts (inl (v, o, r, p, (t, e, s), inr (n, o₂, r₂, p₂, x, inr (q, f)))) = subst (λ z. Optional IsLimit z ts) (sym q) (o, r, p, (t, e, s.0), subst (λ z. IsNumber n z) (alone o₂ r₂ r p₂ f) x)
to_limit d c ts (inr (q, r)) = subst (λ z. Optional IsLimit z ts) (sym q) r

from_limit : (d : Bool) (c : Option Limit) (ts : List Lexeme) → Optional IsLimit c ts → LimitForm d c ts
from_limit d None ts r = inr (refl, r)
from_limit d (Some (rows.First n)) ts (o, r, p, (t, e, s), x) = inl (t.at, o, r, p, (t, e, (s, refl)), inr (n, r, [], sym (append-nil r), x, inr (refl, refl)))
from_limit d (Some (rows.Last at n)) ts (o, r, p, (t, e, s), (o₂, r₂, p₂, m, x)) = inl (t.at, o, r, p, (t, e, (s, refl)), inl (at, o₂, r₂, p₂, m, (n, refl, x)))
from_limit d (Some (rows.Between n m)) ts (o, r, p, (t, e, s), (o₂, r₂, p₂, x, (o₃, r₃, p₃, (t₃, e₃, s₃), y))) =
    inl (t.at, o, r, p, (t, e, (s, refl)), inr (n, o₂, r₂, p₂, x, inl (t₃.at, o₃, r₃, p₃, (t₃, e₃, (s₃, refl)), (m, refl, y))))

abbrev pub limit_last : List Sort
limit_last = Sort.word (codes "LIMIT") ∷ comma

pub a_limit : (n : ℕ) → Live n limit (λ d. Optional IsLimit) (Sort.word (codes "LIMIT") ∷ []) true limit_last
unfolding limit compared in_lists
a_limit n =
    tidy refl refl (form to_limit from_limit
    (or (words (codes "LIMIT")) (λ x. or (signs kind.Minus refl) (λ at. mapped (λ m. Some (rows.Last at m)) (a_number n)) (limit_to_exact n) refl) (just n None) refl))
