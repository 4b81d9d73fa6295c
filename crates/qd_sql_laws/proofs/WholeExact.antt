-- Whole texts are read exactly.
use Rattle.std.proofs.Common.{◌≡◌, ℕ, Bool, true, false, List, [], ◌∷◌, ◌++◌, length, Option, Some, None, Ok, refl, sym, subst, inl, inr, if◌then◌else◌, codes, arith, ap, ◌∙◌}
use Rattle.qd_sql_lexer.specs.declared.token.Kind.TheVariants as kind
use Rattle.qd_sql_lexer.specs.Tokens.{Lexeme}
use Rattle.qd_sql_ast.specs.declared.tree.Expr.{Expr}
use Rattle.qd_sql_ast.specs.declared.tree.Filter.{Filter}
use Rattle.qd_sql_ast.specs.declared.tree.Join.{Join}
use Rattle.qd_sql_ast.specs.declared.tree.Latest.{Latest}
use Rattle.qd_sql_ast.specs.declared.tree.Limit.{Limit}
use Rattle.qd_sql_ast.specs.declared.tree.OrderKey.{OrderKey}
use Rattle.qd_sql_ast.specs.declared.tree.Query.{Query}
use Rattle.qd_sql_ast.specs.declared.tree.Sampled.{Sampled}
use Rattle.qd_sql_ast.specs.declared.tree.Selected.{Selected}
use Rattle.qd_sql_ast.specs.declared.tree.Source.{Source}
use Rattle.qd_sql_ast.specs.declared.tree.Stmt.{Stmt}
use Rattle.qd_sql_ast.specs.declared.tree.Stmt.TheVariants as is
use Rattle.qd_sql_ast.specs.Steps.{Read, ◌>>=◌, if_taken, same_kind, is_name, is_word, end, stuck, sign, two_words}
use Rattle.qd_sql_ast.specs.Writes.{alter}
use Rattle.qd_sql.specs.Queries.{rows_of, shape_of, query}
use Rattle.qd_sql.specs.Statement.{statement, ended, whole_text}
use Rattle.qd_sql_laws.specs.Parts.{◌⋅◌, Perhaps, Optional, Sign}
use Rattle.qd_sql_laws.specs.QueryRules.{IsSource, IsJoin, IsFilter, IsLatest, IsSample, IsOrder, IsLimit, IsQuery}
use Rattle.qd_sql_laws.specs.Grammar.{IsStmt, IsSqlText, ReadsShallowSql, ReadsSql}
use Rattle.qd_sql_laws.proofs.Sorts.{AllGood, join_good, sign_good, Sort, Has, clash, apart, compared, in_lists, or_left, word_is_name}
use Rattle.qd_sql_laws.proofs.Judging.{Clear, first_of, heads, tails, Rule, Judges, alike}
use Rattle.qd_sql_laws.proofs.Combining.{Then, Or, Token, Follows}
use Rattle.qd_sql_laws.proofs.Tokens.{WordQ, words}
use Rattle.qd_sql_laws.proofs.Pairing.{Pair, double_words, or_pair}
use Rattle.qd_sql_laws.proofs.Repeating.{comma}
use Rattle.qd_sql_laws.proofs.Living.{Live, Image, mapped, form, tidy, seq, or}
use Rattle.qd_sql_laws.proofs.Regroup.{out_of, into}
use Rattle.qd_sql_laws.proofs.WriteExact.{CreateRest, a_create, InsertRest, an_insert, AlterRest, an_alter, ShowRest, a_show}
use Rattle.qd_sql_laws.proofs.QueryExact.{Inner, Alias, an_alias, a_source, join_first, joins_last, a_join, where_last, a_filter, latest_last, a_latest, sample_last, a_sample, order_last, an_order, limit_last, a_limit}
use Rattle.qd_sql_laws.proofs.ShownExact.{SelectedPart, a_selected}

-- ["SELECT" items "FROM"] source [join] ["WHERE" expr]
abbrev RowsPart : (Expr → List Lexeme → Type 0) → Option Selected × Source × Option Join × Option Filter → List Lexeme → Type 0
RowsPart I v = SelectedPart I v.0 ⋅ IsSource v.1 ⋅ Optional IsJoin v.2 ⋅ Optional (IsFilter I) v.3

abbrev rows_last : List Sort
rows_last = where_last ++ joins_last

the_rows : (n : ℕ) → Live n rows_of (λ d. RowsPart (Inner d)) (Sort.word (codes "SELECT") ∷ Sort.name ∷ []) false rows_last
unfolding rows_of compared in_lists
the_rows n =
    tidy refl refl (form (λ d c ts (v1, o1, r1, p1, x1, (v2, o2, r2, p2, x2, (v3, o3, r3, p3, x3, (v4, q, x4)))). subst (λ z. RowsPart (Inner d) z ts) (sym q) (o1, r1, p1, x1, (o2, r2, p2, x2, (o3, r3, p3, x3, x4))))
    (λ d c ts (o1, r1, p1, x1, (o2, r2, p2, x2, (o3, r3, p3, x3, x4))). (c.0, o1, r1, p1, x1, (c.1, o2, r2, p2, x2, (c.2, o3, r3, p3, x3, (c.3, refl, x4)))))
    (seq (a_selected n) (λ what. seq (a_source n) (λ table. seq (a_join n) (λ second. mapped (λ tested. (what, table, second, tested)) (a_filter n)) refl) refl) refl))

-- [latest] [sample] [order] [limit]
abbrev ShapePart : Option Latest × Option Sampled × Option (List OrderKey) × Option Limit → List Lexeme → Type 0
ShapePart v = Optional IsLatest v.0 ⋅ Optional IsSample v.1 ⋅ Optional IsOrder v.2 ⋅ Optional IsLimit v.3

abbrev shape_first : List Sort
shape_first = Sort.word (codes "LATEST") ∷ Sort.word (codes "SAMPLE") ∷ Sort.word (codes "ORDER") ∷ Sort.word (codes "LIMIT") ∷ []

abbrev shape_last : List Sort
shape_last = latest_last ++ sample_last ++ order_last ++ limit_last

the_shape : (n : ℕ) → Live n shape_of (λ d. ShapePart) shape_first true shape_last
unfolding shape_of compared in_lists
the_shape n =
    tidy refl refl (form (λ d c ts (v1, o1, r1, p1, x1, (v2, o2, r2, p2, x2, (v3, o3, r3, p3, x3, (v4, q, x4)))). subst (λ z. ShapePart z ts) (sym q) (o1, r1, p1, x1, (o2, r2, p2, x2, (o3, r3, p3, x3, x4))))
    (λ d c ts (o1, r1, p1, x1, (o2, r2, p2, x2, (o3, r3, p3, x3, x4))). (c.0, o1, r1, p1, x1, (c.1, o2, r2, p2, x2, (c.2, o3, r3, p3, x3, (c.3, refl, x4)))))
    (seq (a_latest n) (λ last_rows. seq (a_sample n) (λ buckets. seq (an_order n) (λ sorted. mapped (λ cut. (last_rows, buckets, sorted, cut)) (a_limit n)) refl) refl) refl))

-- a query
query_of : Option Selected × Source × Option Join × Option Filter → Option Latest × Option Sampled × Option (List OrderKey) × Option Limit → Query
query_of front behind =
    record {
      selected = front.0;
      source = front.1;
      join = front.2;
      filter = front.3;
      latest = behind.0;
      sampled = behind.1;
      order = behind.2;
      limit = behind.3;
    }

abbrev QueryForm : (Expr → List Lexeme → Type 0) → Query → List Lexeme → Type 0
QueryForm I c = RowsPart I (c.selected, c.source, c.join, c.filter) ⋅ ShapePart (c.latest, c.sampled, c.order, c.limit)

to_query : (I : Expr → List Lexeme → Type 0) (c : Query) (ts : List Lexeme) → QueryForm I c ts → IsQuery I c ts
to_query I c ts h = out_of (λ us h. out_of (λ us h. out_of (λ vs x. x) us h) us h) ts h

from_query : (I : Expr → List Lexeme → Type 0) (c : Query) (ts : List Lexeme) → IsQuery I c ts → QueryForm I c ts
from_query I c ts h = into (λ us h. into (λ us h. into (λ vs x. x) us h) us h) ts h

abbrev query_last : List Sort
query_last = shape_last ++ rows_last

query_exact : (n : ℕ) → Live n query (λ d. QueryForm (Inner d)) (Sort.word (codes "SELECT") ∷ Sort.name ∷ []) false query_last
unfolding query query_of compared in_lists
query_exact n =
    tidy refl refl (form (λ d c ts (v1, o1, r1, p1, x1, (v2, q, x2)). subst (λ z. QueryForm (Inner d) z ts) (sym q) (o1, r1, p1, x1, x2))
    (λ d c ts (o1, r1, p1, x1, x2). ((c.selected, c.source, c.join, c.filter), o1, r1, p1, x1, ((c.latest, c.sampled, c.order, c.limit), refl, x2)))
    (seq (the_rows n) (λ front. mapped (query_of front) (the_shape n)) refl))

a_query : (n : ℕ) → Live n query (λ d. IsQuery (Inner d)) (Sort.word (codes "SELECT") ∷ Sort.name ∷ []) false query_last
a_query n = form (λ d c ts h. to_query (Inner d) c ts h) (λ d c ts h. from_query (Inner d) c ts h) (query_exact n)

-- no query begins with the words ALTER TABLE
alter_word : List ℕ
alter_word = codes "ALTER"

table_word : List ℕ
table_word = codes "TABLE"

behind : {A B : List Lexeme → Type 0} (u : Lexeme) → ((ts : List Lexeme) → A (u ∷ ts) → ⊥) → ((ts : List Lexeme) → B (u ∷ ts) → ⊥) → (ts : List Lexeme) → (A ⋅ B) (u ∷ ts) → ⊥
behind {A} {B} u one two ts ([], r, p, a, b) = two ts (subst (λ z. B z) (sym p) b)
behind {A} {B} u one two ts (x ∷ o, r, p, a, b) = one o (subst (λ z. A (z ∷ o)) (heads u x ts (o ++ r) p) a)

not_of : (w : List ℕ) (ss : List Sort) (t : Lexeme) → clash (Sort.word w ∷ []) ss ≡ false → is_word w t ≡ true → Has ss t → ⊥
not_of w ss t unlike is h = apart (Sort.word w ∷ []) ss unlike t (or_left (is_word w t) false is) h

abbrev Joined : Bool → Query → List Lexeme → Type 0
Joined d c = Optional (IsFilter (Inner d)) c.filter ⋅ ShapePart (c.latest, c.sampled, c.order, c.limit)

abbrev Sourced : Bool → Query → List Lexeme → Type 0
Sourced d c = Optional IsJoin c.join ⋅ Joined d c

table_behind : (d : Bool) (c : Query) (u : Lexeme) → is_word table_word u ≡ true → (ts : List Lexeme) → (Alias c.source.alias ⋅ Sourced d c) (u ∷ ts) → ⊥
unfolding table_word compared
table_behind d c u is ts h =
    behind {A = Alias c.source.alias} {B = Sourced d c} u (λ us a. not_of table_word (Sort.word (codes "AS") ∷ Sort.name ∷ []) u refl is ((an_alias 0).exactly.starts d c.source.alias u us a))
    (behind {A = Optional IsJoin c.join} {B = Joined d c} u (λ us a. not_of table_word join_first u refl is ((a_join 0).exactly.starts d c.join u us a))
    (behind {A = Optional (IsFilter (Inner d)) c.filter} {B = ShapePart (c.latest, c.sampled, c.order, c.limit)} u
    (λ us a. not_of table_word (Sort.word (codes "WHERE") ∷ []) u refl is ((a_filter 0).exactly.starts d c.filter u us a))
    (λ us a. not_of table_word shape_first u refl is ((the_shape 0).exactly.starts d (c.latest, c.sampled, c.order, c.limit) u us a)))) ts h

sourced : (d : Bool) (c : Query) (t u : Lexeme) (ts us : List Lexeme) → is_word table_word u ≡ true → us ≡ t ∷ (u ∷ ts) → (IsSource c.source ⋅ Sourced d c) us → ⊥
sourced d c t u ts us is q (o, r, p, (one, named, e, (v, f, s), a), b) =
    let whole : t ∷ (u ∷ ts) ≡ v ∷ (named ++ r) = sym q ∙ p ∙ ap (λ z. z ++ r) (e ∙ ap (λ z. z ++ named) f) in
    table_behind d c u is ts (named, r, tails t v (u ∷ ts) (named ++ r) whole, a, b)

two_query : (d : Bool) (c : Query) (t u : Lexeme) (ts : List Lexeme) → is_word alter_word t ≡ true → is_word table_word u ≡ true → IsQuery (Inner d) c (t ∷ (u ∷ ts)) → ⊥
unfolding alter_word compared
two_query d c t u ts is table ([], r, p, a, b) = sourced d c t u ts r table (sym p) b
two_query d c t u ts is table (x ∷ o, r, p, a, b) =
    not_of alter_word (Sort.word (codes "SELECT") ∷ []) t refl is
    (subst (λ z. Has (Sort.word (codes "SELECT") ∷ []) z) (heads t x (u ∷ ts) (o ++ r) p) ((a_selected 0).exactly.starts d c.selected x o a))

-- and a name alone is one
lone_query : Lexeme → Query
lone_query t = record {
  selected = None;
  source = record { table = record { at = t.at; text = t.content }; alias = None };
  join = None;
  filter = None;
  latest = None;
  sampled = None;
  order = None;
  limit = None;
}

lone_reads : (t : Lexeme) → is_name t ≡ true → IsQuery (Inner false) (lone_query t) (t ∷ [])
unfolding lone_query
lone_reads t is =
    ([], t ∷ [], refl, refl, (t ∷ [], [], refl, (t ∷ [], [], refl, (t, refl, (is, refl)), refl), ([], [], refl, refl, ([], [], refl, refl, ([], [], refl, refl, ([], [], refl, refl, ([], [], refl, refl, refl)))))))

abbrev QueryRule : Rule Stmt
QueryRule = Image is.Query (λ d. IsQuery (Inner d))

abbrev AlterRule : Rule Stmt
AlterRule = Pair alter_word (Sort.word table_word) (λ at. Image is.Alter (λ d. AlterRest))

alter_free : (t : Lexeme) → is_word alter_word t ≡ true → (c : Stmt) × QueryRule false c (t ∷ [])
unfolding alter_word compared
alter_free t same = (is.Query (lone_query t), (lone_query t, refl, lone_reads t (word_is_name alter_word t refl same)))

an_alter_or_query : (n : ℕ) → Live n (λ ts. if_taken (two_words alter_word table_word ts) (λ x. alter x.1 >>= λ s. Ok (is.Alter s.0, s.1)) (query ts >>= λ s. Ok (is.Query s.0, s.1))) (Or AlterRule QueryRule)
    (Sort.word alter_word ∷ (Sort.word (codes "SELECT") ∷ Sort.name ∷ [])) false (query_last ++ (Sort.word table_word ∷ []))
an_alter_or_query n =
    or_pair (double_words alter_word table_word) (λ at. mapped is.Alter (an_alter n)) (mapped is.Query (a_query n))
    (λ d c t u ts is table (x, q, h). two_query d x t u ts is table h) alter_free

-- a statement
abbrev StmtForm : Rule Stmt
StmtForm =
    Or (Then (Token (WordQ (codes "CREATE"))) (λ at. Image is.Create (λ d. CreateRest)))
    (Or (Then (Token (WordQ (codes "INSERT"))) (λ at. Image is.Insert (λ d. InsertRest)))
    (Or (Then (Token (WordQ (codes "SHOW"))) (λ at. Image (λ x. is.Show x.text x.at) (λ d. ShowRest)))
    (Or AlterRule QueryRule)))

to_stmt : (d : Bool) (c : Stmt) (ts : List Lexeme) → StmtForm d c ts → IsStmt (Inner d) c ts
unfolding alter_word table_word
to_stmt d c ts (inl (at, o, r, p, (t, e, s), (x, q, h))) = subst (λ z. IsStmt (Inner d) z ts) (sym q) (o, r, p, (t, e, s.0), h)
to_stmt d c ts (inr (inl (at, o, r, p, (t, e, s), (x, q, h)))) = subst (λ z. IsStmt (Inner d) z ts) (sym q) (o, r, p, (t, e, s.0), h)
to_stmt d c ts (inr (inr (inl (at, o, r, p, (t, e, s), (x, q, h))))) = subst (λ z. IsStmt (Inner d) z ts) (sym q) (o, r, p, (t, e, s.0), h)
to_stmt d c ts (inr (inr (inr (inl (at, o, r, p, (t, e, s), (b, o₂, r₂, p₂, (t₂, e₂, s₂), (x, q, h))))))) =
    subst (λ z. IsStmt (Inner d) z ts) (sym q) (o, r, p, (t, e, s.0), (o₂, r₂, p₂, (t₂, e₂, s₂.0), h))
to_stmt d c ts (inr (inr (inr (inr (x, q, h))))) = subst (λ z. IsStmt (Inner d) z ts) (sym q) h

from_stmt : (d : Bool) (c : Stmt) (ts : List Lexeme) → IsStmt (Inner d) c ts → StmtForm d c ts
unfolding alter_word table_word
from_stmt d (is.Query x) ts h = inr (inr (inr (inr (x, refl, h))))
from_stmt d (is.Alter x) ts (o, r, p, (t, e, s), (o₂, r₂, p₂, (t₂, e₂, s₂), h)) =
    inr (inr (inr (inl (t.at, o, r, p, (t, e, (s, refl)), (t₂.at, o₂, r₂, p₂, (t₂, e₂, (s₂, refl)), (x, refl, h))))))
from_stmt d (is.Create x) ts (o, r, p, (t, e, s), h) = inl (t.at, o, r, p, (t, e, (s, refl)), (x, refl, h))
from_stmt d (is.Insert x) ts (o, r, p, (t, e, s), h) = inr (inl (t.at, o, r, p, (t, e, (s, refl)), (x, refl, h)))
from_stmt d (is.Show text at) ts (o, r, p, (t, e, s), h) = inr (inr (inl (t.at, o, r, p, (t, e, (s, refl)), (record { at = at; text = text }, refl, h))))

abbrev stmt_first : List Sort
stmt_first =
    Sort.word (codes "CREATE") ∷ Sort.word (codes "INSERT") ∷ Sort.word (codes "SHOW") ∷ Sort.word (codes "ALTER") ∷ Sort.word (codes "SELECT") ∷ Sort.name ∷ []

abbrev stmt_last : List Sort
stmt_last = Sort.word (codes "DEDUP") ∷ Sort.word (codes "WAL") ∷ Sort.word (codes "TABLE") ∷ comma ++ query_last

a_stmt : (n : ℕ) → Live n statement (λ d. IsStmt (Inner d)) stmt_first false stmt_last
unfolding statement alter_word table_word compared in_lists
a_stmt n =
    tidy refl refl (form to_stmt from_stmt
    (or (words (codes "CREATE")) (λ at. mapped is.Create (a_create n)) (or (words (codes "INSERT")) (λ at. mapped is.Insert (an_insert n))
    (or (words (codes "SHOW")) (λ at. mapped (λ x. is.Show x.text x.at) (a_show n)) (an_alter_or_query n) refl) refl) refl))

-- what may stand behind a statement
abbrev Done : Stmt → Rule Stmt
Done s d b ts = (b ≡ s) × Perhaps (Sign kind.Semicolon) ts

abbrev done : Stmt → List Lexeme → Read Stmt
done s ts = ended ts >>= λ x. Ok (s, x.1)

not_semicolon : (t : Lexeme) (more : List Lexeme) → same_kind t.kind kind.Semicolon ≡ false → Perhaps (Sign kind.Semicolon) (t ∷ more) → ⊥
not_semicolon t more isnt (inl e) = cc
not_semicolon t more isnt (inr (u, e, is)) = let q : u ≡ t = cc in let h : same_kind t.kind kind.Semicolon ≡ true = subst (λ z. same_kind z.kind kind.Semicolon ≡ true) q is in cc

two_tokens : (t u : Lexeme) (more : List Lexeme) → Perhaps (Sign kind.Semicolon) (t ∷ (u ∷ more)) → ⊥
two_tokens t u more (inl e) = cc
two_tokens t u more (inr (v, e, is)) = cc

behind_semicolon : (s : Stmt) (t : Lexeme) (ts : List Lexeme) → same_kind t.kind kind.Semicolon ≡ true → Judges (Done s) (t ∷ ts) (end ts >>= λ x. Ok (s, x.1))
unfolding end stuck
behind_semicolon s t [] is = (refl, (refl, inr (t, refl, is)), (λ b h. h.0))
behind_semicolon s t (u ∷ ts) is = (t ∷ [], u, ts, refl, refl, ([], s, (refl, inr (t, refl, is))), (λ (more, b, h). two_tokens t u more h.1))

done_at : (s : Stmt) (t : Lexeme) (ts : List Lexeme) (b : Bool) → same_kind t.kind kind.Semicolon ≡ b
    → Judges (Done s) (t ∷ ts) (if_taken {B = Read (Unit {0})} (if b then Some (t.at, ts) else None) (λ x. end x.1) (end (t ∷ ts)) >>= λ x. Ok (s, x.1))
unfolding end stuck
done_at s t ts true is = behind_semicolon s t ts is
done_at s t ts false isnt = ([], t, ts, refl, refl, ([], s, (refl, inl refl)), (λ (more, b, h). not_semicolon t more isnt h.1))

done_judged : (s : Stmt) (ts : List Lexeme) → Judges (Done s) ts (done s ts)
unfolding ended sign end
done_judged s [] = (refl, (refl, inl refl), (λ b h. h.0))
done_judged s (t ∷ ts) = done_at s t ts (same_kind t.kind kind.Semicolon) refl

no_semicolon : clash stmt_last (Sort.sign kind.Semicolon ∷ []) ≡ false
unfolding compared
no_semicolon = refl

done_parts : (s : Stmt) (d : Bool) (b : Stmt) (t : Lexeme) (ts : List Lexeme) → Done s d b (t ∷ ts) → Has stmt_last t → ⊥
done_parts s d b t ts (e, inl q) h = cc
done_parts s d b t ts (e, inr (u, q, is)) h =
    let same : u ≡ t = cc in
    apart stmt_last (Sort.sign kind.Semicolon ∷ []) no_semicolon t h (or_left (same_kind t.kind kind.Semicolon) false (subst (λ z. same_kind z.kind kind.Semicolon ≡ true) same is))

done_follows : (n : ℕ) → Follows n stmt_last done Done
done_follows n = record {
  goes = λ s ts fits. done_judged s ts;
  lives = λ s. (s, [], (refl, inl refl));
  deepens = λ s b ts h. h;
  parts = done_parts;
}

-- a text by the grammar: within the limit, and at any depth
abbrev pub Whole : Rule Stmt
Whole d s ts = IsSqlText (Inner d) s ts

pub judged : (ts : List Lexeme) → Judges Whole ts (whole_text ts)
unfolding whole_text
judged ts = alike Whole (Then (λ d. IsStmt (Inner d)) Done) ts _
    (λ b us (a, o, r, p, x, (e, y)). (o, r, p, subst (λ z. IsStmt (Inner false) z o) (sym e) x, y))
    (λ d b us same (o, r, p, x, y). (b, o, r, p, x, (refl, y)))
    ((a_stmt (length ts)).exactly.exact done Done (done_follows (length ts)) ts (omega arith))

pub deepen : (ts : List Lexeme) (s : Stmt) → ReadsShallowSql ts s → ReadsSql ts s
deepen ts s (o, r, p, x, y) = (o, r, p, (a_stmt 0).exactly.deepens s o x, y)

-- no bad token is in a statement
semicolon_clean : (ts : List Lexeme) → Perhaps (Sign kind.Semicolon) ts → AllGood ts
unfolding same_kind
semicolon_clean ts (inl e) = subst AllGood (sym e) tt
semicolon_clean ts (inr (t, e, is)) = subst AllGood (sym e) (sign_good kind.Semicolon refl t is, tt)

pub whole_clean : (ts : List Lexeme) (s : Stmt) → ReadsSql ts s → AllGood ts
whole_clean ts s (o, r, p, x, y) = join_good ts o r p ((a_stmt 0).exactly.clean true s o x) (semicolon_clean r y)

-- tokens are one statement at most
semicolon_clear : (ts : List Lexeme) → Perhaps (Sign kind.Semicolon) ts → Clear stmt_last ts
semicolon_clear ts (inl e) t f h = let q : first_of ts ≡ None = ap first_of e in cc
semicolon_clear ts (inr (u, e, is)) t f h =
    let q : first_of ts ≡ Some u = ap first_of e in
    let same : u ≡ t = cc in
    apart stmt_last (Sort.sign kind.Semicolon ∷ []) no_semicolon t h (or_left (same_kind t.kind kind.Semicolon) false (subst (λ z. same_kind z.kind kind.Semicolon ≡ true) same is))

pub one_deep : (ts : List Lexeme) (a b : Stmt) → ReadsSql ts a → ReadsSql ts b → a ≡ b
one_deep ts a b (o, r, p, x, y) (o', r', p', x', y') =
    ((a_stmt 0).exactly.unique true a b o o' r r' x x' (sym p ∙ p') (semicolon_clear r y) (semicolon_clear r' y')).0
