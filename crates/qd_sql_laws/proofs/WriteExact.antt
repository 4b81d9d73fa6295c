-- The statements that write are read exactly.
use Rattle.std.proofs.Common.{◌≡◌, ℕ, Bool, true, false, ◌||◌, List, [], ◌∷◌, ◌++◌, Option, Some, None, Ok, Err, refl, sym, ap, ◌∙◌, subst, inl, inr, codes}
use Rattle.qd_base.specs.declared.schema.ColType.{ColType}
use Rattle.qd_base.specs.declared.schema.ColType.TheVariants as type
use Rattle.qd_base.specs.declared.schema.PartUnit.{PartUnit}
use Rattle.qd_base.specs.declared.schema.PartUnit.TheVariants as part
use Rattle.qd_sql_lexer.specs.declared.token.Kind.{Kind}
use Rattle.qd_sql_lexer.specs.declared.token.Kind.TheVariants as kind
use Rattle.qd_sql_lexer.specs.Tokens.{Lexeme}
use Rattle.qd_sql_ast.specs.declared.tree.Name.{Name}
use Rattle.qd_sql_ast.specs.declared.tree.Lit.{Lit}
use Rattle.qd_sql_ast.specs.declared.tree.Lit.TheVariants as literal
use Rattle.qd_sql_ast.specs.declared.tree.Alter.{Alter}
use Rattle.qd_sql_ast.specs.declared.tree.Change.{Change}
use Rattle.qd_sql_ast.specs.declared.tree.Change.TheVariants as changes
use Rattle.qd_sql_ast.specs.declared.tree.ColumnDef.{ColumnDef}
use Rattle.qd_sql_ast.specs.declared.tree.Create.{Create}
use Rattle.qd_sql_ast.specs.declared.tree.Dedup.{Dedup}
use Rattle.qd_sql_ast.specs.declared.tree.Insert.{Insert}
use Rattle.qd_sql_ast.specs.declared.tree.Tuple.{Tuple}
use Rattle.qd_sql_ast.specs.Steps.{Read, ◌>>=◌, if_taken, same_kind, sees, may, word}
use Rattle.qd_sql_ast.specs.Writes.{lit, names, lits, names_to_bracket, kind as kind_of, column, columns, unit, keys, dedup, table_columns, create, listed, tuple, tuples, insert, added, dedup_change, change, alter, show}
use Rattle.qd_sql_laws.specs.Parts.{◌⋅◌, Optional, Commas, Sign, Word, WordAt, IsName}
use Rattle.qd_sql_laws.specs.WriteRules.{Names, IsKind, IsColumnDef, IsUnit, IsDedup, IsLit, IsTuple, IsChange}
use Rattle.qd_sql_laws.proofs.Sorts.{Sort, is_in, compared}
use Rattle.qd_sql_laws.proofs.Judging.{Rule}
use Rattle.qd_sql_laws.proofs.Combining.{Then, Or, Just, Token}
use Rattle.qd_sql_laws.proofs.Tokens.{SignQ, WordQ, NumberQ, TextQ, signs, words}
use Rattle.qd_sql_laws.proofs.Regroup.{second, out_of, into}
use Rattle.qd_sql_laws.proofs.Repeating.{comma}
use Rattle.qd_sql_laws.proofs.Living.{Live, Image, mapped, form, same, just, seq, or, or_one, choice, last_word, commas, a_sign, a_word, names as a_name, numbers as a_number, texts as a_text}

-- a test of one sort
pub or_nothing : (b : Bool) → b ≡ (b || false)
or_nothing true = refl
or_nothing false = refl

pub sees_some : (k : Kind) (t : Lexeme) (ts : List Lexeme) → sees k (t ∷ ts) ≡ is_in (Sort.sign k ∷ []) t
unfolding sees
sees_some k t ts = or_nothing (same_kind t.kind k)

pub sees_none : (k : Kind) → sees k [] ≡ false
unfolding sees
sees_none k = refl

-- lit
LitForm : Rule Lit
LitForm =
    Or (Then (Token (SignQ kind.Minus)) (λ at. Image (literal.Minus at) (Token NumberQ)))
    (Or (Image literal.True (Token (WordQ (codes "TRUE"))))
    (Or (Image literal.False (Token (WordQ (codes "FALSE"))))
    (Or (Image literal.Null (Token (WordQ (codes "NULL"))))
    (Or (Image literal.Text (Token TextQ)) (Image literal.Number (Token NumberQ))))))

to_lit : (d : Bool) (l : Lit) (ts : List Lexeme) → LitForm d l ts → IsLit l ts
unfolding LitForm
to_lit d l ts (inl (at, one, rest, p, s, (n, q, x))) = subst (λ z. IsLit z ts) (sym q) (one, rest, p, s, x)
to_lit d l ts (inr (inl (at, q, x))) = subst (λ z. IsLit z ts) (sym q) x
to_lit d l ts (inr (inr (inl (at, q, x)))) = subst (λ z. IsLit z ts) (sym q) x
to_lit d l ts (inr (inr (inr (inl (at, q, x))))) = subst (λ z. IsLit z ts) (sym q) x
to_lit d l ts (inr (inr (inr (inr (inl (t, q, x)))))) = subst (λ z. IsLit z ts) (sym q) x
to_lit d l ts (inr (inr (inr (inr (inr (n, q, x)))))) = subst (λ z. IsLit z ts) (sym q) x

from_lit : (d : Bool) (l : Lit) (ts : List Lexeme) → IsLit l ts → LitForm d l ts
unfolding LitForm
from_lit d (literal.Number n) ts x = inr (inr (inr (inr (inr (n, refl, x)))))
from_lit d (literal.Minus at n) ts (one, rest, p, s, x) = inl (at, one, rest, p, s, (n, refl, x))
from_lit d (literal.Text t) ts x = inr (inr (inr (inr (inl (t, refl, x)))))
from_lit d (literal.True at) ts x = inr (inl (at, refl, x))
from_lit d (literal.False at) ts x = inr (inr (inl (at, refl, x)))
from_lit d (literal.Null at) ts x = inr (inr (inr (inl (at, refl, x))))

abbrev pub lit_first : List Sort
lit_first =
    Sort.sign kind.Minus ∷ Sort.word (codes "TRUE") ∷ Sort.word (codes "FALSE") ∷ Sort.word (codes "NULL") ∷ Sort.sign kind.Text ∷ Sort.sign kind.Number ∷ []

pub a_lit : (n : ℕ) → Live n lit (λ d. IsLit) lit_first false []
unfolding lit LitForm compared
a_lit n =
    form to_lit from_lit
    (or (signs kind.Minus refl) (λ at. mapped (literal.Minus at) (a_number n))
    (or_one (words (codes "TRUE")) literal.True
    (or_one (words (codes "FALSE")) literal.False
    (or_one (words (codes "NULL")) literal.Null
    (choice (sees kind.Text) (sees_none kind.Text) (sees_some kind.Text) (mapped literal.Text (a_text n)) (mapped literal.Number (a_number n)) refl) refl) refl) refl) refl)

-- lits, names
pub the_lits : (n : ℕ) → Live n lits (λ d ls. Commas IsLit ls) lit_first false comma
unfolding lits compared
the_lits n = commas a_lit refl n

pub the_names : (n : ℕ) → Live n names (λ d ns. Commas IsName ns) (Sort.name ∷ []) false comma
unfolding names compared
the_names n = commas a_name refl n

-- name {"," name} ")"
abbrev pub NamesRest : Rule (List Name)
NamesRest d ns = Commas IsName ns ⋅ Sign kind.Close

pub names_rest : (n : ℕ) → Live n names_to_bracket NamesRest (Sort.name ∷ []) false []
unfolding names_to_bracket compared
names_rest n =
    form (λ d ns ts (ms, one, rest, p, x, (at, q, (t, r, s))). subst (λ z. (Commas IsName z ⋅ Sign kind.Close) ts) (sym q) (one, rest, p, x, (t, r, s.0)))
    (λ d ns ts (one, rest, p, x, (t, r, s)). (ns, one, rest, p, x, (t.at, refl, (t, r, (s, refl)))))
    (seq (the_names n) (λ ns. mapped (λ at. ns) (a_sign n kind.Close refl)) refl)

-- kind
abbrev KindForm : Rule ColType
KindForm =
    Or (Image (λ at. type.Long) (Token (WordQ (codes "LONG"))))
    (Or (Image (λ at. type.Bool) (Token (WordQ (codes "BOOLEAN"))))
    (Or (Image (λ at. type.Symbol) (Token (WordQ (codes "SYMBOL"))))
    (Or (Image (λ at. type.Varchar) (Token (WordQ (codes "VARCHAR"))))
    (Image (λ at. type.Time) (Token (WordQ (codes "TIMESTAMP")))))))

to_kind : (d : Bool) (c : ColType) (ts : List Lexeme) → KindForm d c ts → IsKind c ts
to_kind d c ts (inl (at, q, (t, p, s))) = subst (λ z. IsKind z ts) (sym q) (t, p, s.0)
to_kind d c ts (inr (inl (at, q, (t, p, s)))) = subst (λ z. IsKind z ts) (sym q) (t, p, s.0)
to_kind d c ts (inr (inr (inl (at, q, (t, p, s))))) = subst (λ z. IsKind z ts) (sym q) (t, p, s.0)
to_kind d c ts (inr (inr (inr (inl (at, q, (t, p, s)))))) = subst (λ z. IsKind z ts) (sym q) (t, p, s.0)
to_kind d c ts (inr (inr (inr (inr (at, q, (t, p, s)))))) = subst (λ z. IsKind z ts) (sym q) (t, p, s.0)

from_kind : (d : Bool) (c : ColType) (ts : List Lexeme) → IsKind c ts → KindForm d c ts
from_kind d type.Long ts (t, p, s) = inl (t.at, refl, (t, p, (s, refl)))
from_kind d type.Bool ts (t, p, s) = inr (inl (t.at, refl, (t, p, (s, refl))))
from_kind d type.Symbol ts (t, p, s) = inr (inr (inl (t.at, refl, (t, p, (s, refl)))))
from_kind d type.Varchar ts (t, p, s) = inr (inr (inr (inl (t.at, refl, (t, p, (s, refl))))))
from_kind d type.Time ts (t, p, s) = inr (inr (inr (inr (t.at, refl, (t, p, (s, refl))))))

kind_first : List Sort
kind_first =
    Sort.word (codes "LONG") ∷ Sort.word (codes "BOOLEAN") ∷ Sort.word (codes "SYMBOL") ∷ Sort.word (codes "VARCHAR") ∷ Sort.word (codes "TIMESTAMP") ∷ []

a_kind : (n : ℕ) → Live n kind_of (λ d. IsKind) kind_first false []
unfolding kind_of kind_first compared
a_kind n =
    form to_kind from_kind
    (or_one (words (codes "LONG")) (λ at. type.Long)
    (or_one (words (codes "BOOLEAN")) (λ at. type.Bool)
    (or_one (words (codes "SYMBOL")) (λ at. type.Symbol)
    (or_one (words (codes "VARCHAR")) (λ at. type.Varchar)
    (last_word n (codes "TIMESTAMP") type.Time) refl) refl) refl) refl)

-- name kind
column_def : Name → ColType → ColumnDef
column_def n k = record { name = n; kind = k }

a_column_def : (n : ℕ) → Live n column (λ d. IsColumnDef) (Sort.name ∷ []) false []
unfolding column column_def compared
a_column_def n =
    form (λ d c ts (name, one, rest, p, x, (k, q, y)). subst (λ z. IsColumnDef z ts) (sym q) (one, rest, p, x, y))
    (λ d c ts (one, rest, p, x, y). (c.name, one, rest, p, x, (c.kind, refl, y)))
    (seq (a_name n) (λ name. mapped (column_def name) (a_kind n)) refl)

the_columns : (n : ℕ) → Live n columns (λ d cs. Commas IsColumnDef cs) (Sort.name ∷ []) false comma
unfolding columns compared
the_columns n = commas a_column_def refl n

-- unit
abbrev UnitForm : Rule PartUnit
UnitForm =
    Or (Image (λ at. part.Hour) (Token (WordQ (codes "HOUR"))))
    (Or (Image (λ at. part.Day) (Token (WordQ (codes "DAY"))))
    (Or (Image (λ at. part.Month) (Token (WordQ (codes "MONTH"))))
    (Image (λ at. part.Year) (Token (WordQ (codes "YEAR"))))))

to_unit : (d : Bool) (c : PartUnit) (ts : List Lexeme) → UnitForm d c ts → IsUnit c ts
to_unit d c ts (inl (at, q, (t, p, s))) = subst (λ z. IsUnit z ts) (sym q) (t, p, s.0)
to_unit d c ts (inr (inl (at, q, (t, p, s)))) = subst (λ z. IsUnit z ts) (sym q) (t, p, s.0)
to_unit d c ts (inr (inr (inl (at, q, (t, p, s))))) = subst (λ z. IsUnit z ts) (sym q) (t, p, s.0)
to_unit d c ts (inr (inr (inr (at, q, (t, p, s))))) = subst (λ z. IsUnit z ts) (sym q) (t, p, s.0)

from_unit : (d : Bool) (c : PartUnit) (ts : List Lexeme) → IsUnit c ts → UnitForm d c ts
from_unit d part.Hour ts (t, p, s) = inl (t.at, refl, (t, p, (s, refl)))
from_unit d part.Day ts (t, p, s) = inr (inl (t.at, refl, (t, p, (s, refl))))
from_unit d part.Month ts (t, p, s) = inr (inr (inl (t.at, refl, (t, p, (s, refl)))))
from_unit d part.Year ts (t, p, s) = inr (inr (inr (t.at, refl, (t, p, (s, refl)))))

unit_first : List Sort
unit_first = Sort.word (codes "HOUR") ∷ Sort.word (codes "DAY") ∷ Sort.word (codes "MONTH") ∷ Sort.word (codes "YEAR") ∷ []

a_unit : (n : ℕ) → Live n unit (λ d. IsUnit) unit_first false []
unfolding unit unit_first compared
a_unit n =
    form to_unit from_unit
    (or_one (words (codes "HOUR")) (λ at. part.Hour)
    (or_one (words (codes "DAY")) (λ at. part.Day)
    (or_one (words (codes "MONTH")) (λ at. part.Month)
    (last_word n (codes "YEAR") part.Year) refl) refl) refl)

-- "UPSERT" "KEYS" "(" name {"," name} ")", behind DEDUP
dedup_of : ℕ → List Name → Dedup
dedup_of at ns = record { at = at; keys = ns }

abbrev KeysRest : Dedup → List Lexeme → Type 0
KeysRest d = Word (codes "UPSERT") ⋅ WordAt (codes "KEYS") d.at ⋅ Names d.keys

the_keys : (n : ℕ) → Live n keys (λ d. KeysRest) (Sort.word (codes "UPSERT") ∷ []) false []
unfolding keys dedup_of compared
the_keys n =
    form (λ d c ts (v1, o1, r1, p1, (t1, e1, s1), (v2, o2, r2, p2, x2, (v3, o3, r3, p3, (t3, e3, s3), (v4, q, x4)))). subst (λ z. KeysRest z ts) (sym q) (o1, r1, p1, (t1, e1, s1.0), (o2, r2, p2, x2, (o3, r3, p3, (t3, e3, s3.0), x4))))
    (λ d c ts (o1, r1, p1, (t1, e1, s1), (o2, r2, p2, x2, (o3, r3, p3, (t3, e3, s3), x4))). (t1.at, o1, r1, p1, (t1, e1, (s1, refl)), (c.at, o2, r2, p2, x2, (t3.at, o3, r3, p3, (t3, e3, (s3, refl)), (c.keys, refl, x4)))))
    (seq (a_word n (codes "UPSERT")) (λ u. seq (a_word n (codes "KEYS")) (λ at. seq (a_sign n kind.Open refl) (λ o. mapped (dedup_of at) (names_rest n)) refl) refl) refl)

-- ["DEDUP" keys]
abbrev DedupForm : Rule (Option Dedup)
DedupForm = Or (Then (Token (WordQ (codes "DEDUP"))) (λ x. Image (λ k. Some k) (λ d. KeysRest))) (Just None)

to_dedup : (d : Bool) (c : Option Dedup) (ts : List Lexeme) → DedupForm d c ts → Optional IsDedup c ts
to_dedup d c ts (inl (v1, o1, r1, p1, (t1, e1, s1), (k, q, x))) = subst (λ z. Optional IsDedup z ts) (sym q) (o1, r1, p1, (t1, e1, s1.0), x)
to_dedup d c ts (inr (q, r)) = subst (λ z. Optional IsDedup z ts) (sym q) r

from_dedup : (d : Bool) (c : Option Dedup) (ts : List Lexeme) → Optional IsDedup c ts → DedupForm d c ts
from_dedup d None ts r = inr (refl, r)
from_dedup d (Some c) ts (o1, r1, p1, (t1, e1, s1), x) = inl (t1.at, o1, r1, p1, (t1, e1, (s1, refl)), (c, refl, x))

a_dedup : (n : ℕ) → Live n dedup (λ d. Optional IsDedup) (Sort.word (codes "DEDUP") ∷ []) true (Sort.word (codes "DEDUP") ∷ [])
unfolding dedup compared
a_dedup n = form to_dedup from_dedup (or (words (codes "DEDUP")) (λ x. mapped (λ k. Some k) (the_keys n)) (just n None) refl)

-- "(" column {"," column} ")" "TIMESTAMP" "(" name ")"
abbrev TableColumns : List ColumnDef × Name → List Lexeme → Type 0
TableColumns v = Sign kind.Open ⋅ Commas IsColumnDef v.0 ⋅ Sign kind.Close ⋅ Word (codes "TIMESTAMP") ⋅ Sign kind.Open ⋅ IsName v.1 ⋅ Sign kind.Close

the_table_columns : (n : ℕ) → Live n table_columns (λ d. TableColumns) (Sort.sign kind.Open ∷ []) false []
unfolding table_columns compared
the_table_columns n =
    form (λ d v ts (v1, o1, r1, p1, (t1, e1, s1), (v2, o2, r2, p2, x2, (v3, o3, r3, p3, (t3, e3, s3), (v4, o4, r4, p4, (t4, e4, s4), (v5, o5, r5, p5, (t5, e5, s5), (v6, o6, r6, p6, x6, (v7, q, (t7, e7, s7)))))))). subst (λ z. TableColumns z ts) (sym q) (o1, r1, p1, (t1, e1, s1.0), (o2, r2, p2, x2, (o3, r3, p3, (t3, e3, s3.0), (o4, r4, p4, (t4, e4, s4.0), (o5, r5, p5, (t5, e5, s5.0), (o6, r6, p6, x6, (t7, e7, s7.0))))))))
    (λ d v ts (o1, r1, p1, (t1, e1, s1), (o2, r2, p2, x2, (o3, r3, p3, (t3, e3, s3), (o4, r4, p4, (t4, e4, s4), (o5, r5, p5, (t5, e5, s5), (o6, r6, p6, x6, (t7, e7, s7))))))). (t1.at, o1, r1, p1, (t1, e1, (s1, refl)), (v.0, o2, r2, p2, x2, (t3.at, o3, r3, p3, (t3, e3, (s3, refl)), (t4.at, o4, r4, p4, (t4, e4, (s4, refl)), (t5.at, o5, r5, p5, (t5, e5, (s5, refl)), (v.1, o6, r6, p6, x6, (t7.at, refl, (t7, e7, (s7, refl))))))))))
    (seq (a_sign n kind.Open refl) (λ a. seq (the_columns n) (λ cs. seq (a_sign n kind.Close refl) (λ b. seq (a_word n (codes "TIMESTAMP")) (λ c. seq (a_sign n kind.Open refl) (λ e.
    seq (a_name n) (λ time. mapped (λ at. (cs, time)) (a_sign n kind.Close refl)) refl) refl) refl) refl) refl) refl)

-- ["WAL"] ["DEDUP" keys]
ending : List Lexeme → Read (Option ℕ × Option Dedup)
ending ts = if_taken (word (codes "WAL") ts) (λ x. dedup x.1 >>= λ found. Ok ((Some x.0, found.0), found.1)) (dedup ts >>= λ found. Ok ((None, found.0), found.1))

abbrev Ending : Option ℕ × Option Dedup → List Lexeme → Type 0
Ending v = Optional (WordAt (codes "WAL")) v.0 ⋅ Optional IsDedup v.1

abbrev EndingForm : Rule (Option ℕ × Option Dedup)
EndingForm = Or (Then (Token (WordQ (codes "WAL"))) (λ at. Image (λ k. (Some at, k)) (λ d. Optional IsDedup))) (Image (λ k. (None, k)) (λ d. Optional IsDedup))

to_ending : (d : Bool) (v : Option ℕ × Option Dedup) (ts : List Lexeme) → EndingForm d v ts → Ending v ts
to_ending d v ts (inl (at, o, r, p, x, (k, q, y))) = subst (λ z. Ending z ts) (sym q) (o, r, p, x, y)
to_ending d v ts (inr (k, q, y)) = subst (λ z. Ending z ts) (sym q) ([], ts, refl, refl, y)

from_ending : (d : Bool) (v : Option ℕ × Option Dedup) (ts : List Lexeme) → Ending v ts → EndingForm d v ts
from_ending d (None, k) ts (o, r, p, x, y) = inr (k, refl, subst (λ z. Optional IsDedup k z) (sym (p ∙ ap (λ z. z ++ r) x)) y)
from_ending d (Some at, k) ts (o, r, p, x, y) = inl (at, o, r, p, x, (k, refl, y))

an_ending : (n : ℕ) → Live n ending (λ d. Ending) (Sort.word (codes "WAL") ∷ Sort.word (codes "DEDUP") ∷ []) true
    (Sort.word (codes "DEDUP") ∷ Sort.word (codes "DEDUP") ∷ Sort.word (codes "WAL") ∷ [])
unfolding ending compared
an_ending n = form to_ending from_ending (or (words (codes "WAL")) (λ at. mapped (λ k. (Some at, k)) (a_dedup n)) (mapped (λ k. (None, k)) (a_dedup n)) refl)

abbrev mapping : {A B : Type 0} → (A → B) → A × List Lexeme → Read B
mapping m x = Ok (m x.0, x.1)

map_map : {A B C : Type 0} (r : Read A) (f : A → B) (g : B → C) → ((r >>= mapping f) >>= mapping g) ≡ (r >>= mapping (λ a. g (f a)))
map_map (Ok x) f g = refl
map_map (Err e) f g = refl

abbrev seen_first : Option (ℕ × List Lexeme) → List Lexeme → Option ℕ × List Lexeme
seen_first None ts = (None, ts)
seen_first (Some x) ts = (Some x.0, x.1)

abbrev ending_from : Option (ℕ × List Lexeme) → List Lexeme → Read (Option ℕ × Option Dedup)
ending_from None ts = dedup ts >>= mapping (λ k. (None, k))
ending_from (Some x) ts = dedup x.1 >>= mapping (λ k. (Some x.0, k))

ending_at : {A : Type 0} (o : Option (ℕ × List Lexeme)) (ts : List Lexeme) (m : Option ℕ → Option Dedup → A)
    → (ending_from o ts >>= mapping (λ v. m v.0 v.1)) ≡ (dedup (seen_first o ts).1 >>= mapping (m (seen_first o ts).0))
ending_at None ts m = map_map (dedup ts) (λ k. (None, k)) (λ v. m v.0 v.1)
ending_at (Some x) ts m = map_map (dedup x.1) (λ k. (Some x.0, k)) (λ v. m v.0 v.1)

same_ending : (o : Option (ℕ × List Lexeme)) (ts : List Lexeme)
    → if_taken {B = Read (Option ℕ × Option Dedup)} o (λ x. dedup x.1 >>= mapping (λ k. (Some x.0, k))) (dedup ts >>= mapping (λ k. (None, k))) ≡ ending_from o ts
same_ending None ts = refl
same_ending (Some x) ts = refl

same_may : (o : Option (ℕ × List Lexeme)) (ts : List Lexeme) → if_taken {B = Option ℕ × List Lexeme} o (λ x. (Some x.0, x.1)) (None, ts) ≡ seen_first o ts
same_may None ts = refl
same_may (Some x) ts = refl

ending_is : {A : Type 0} (m : Option ℕ → Option Dedup → A) (ts : List Lexeme)
    → (ending ts >>= mapping (λ v. m v.0 v.1)) ≡ (dedup (may (codes "WAL") ts).1 >>= mapping (m (may (codes "WAL") ts).0))
unfolding ending may
ending_is m ts =
    ap (λ r. r >>= mapping (λ v. m v.0 v.1)) (same_ending (word (codes "WAL") ts) ts) ∙ ending_at (word (codes "WAL") ts) ts m
    ∙ ap (λ x. dedup x.1 >>= mapping (m x.0)) (sym (same_may (word (codes "WAL") ts) ts))

-- "TABLE" name table_columns "PARTITION" "BY" unit ending
abbrev pub CreateRest : Create → List Lexeme → Type 0
CreateRest c =
    Word (codes "TABLE") ⋅ IsName c.table ⋅ Sign kind.Open ⋅ Commas IsColumnDef c.columns ⋅ Sign kind.Close
    ⋅ Word (codes "TIMESTAMP") ⋅ Sign kind.Open ⋅ IsName c.time ⋅ Sign kind.Close
    ⋅ Word (codes "PARTITION") ⋅ Word (codes "BY") ⋅ IsUnit c.unit ⋅ Optional (WordAt (codes "WAL")) c.wal ⋅ Optional IsDedup c.dedup

creates : Name → List ColumnDef × Name → PartUnit → Option ℕ → Option Dedup → Create
creates table found unit wal dedup = record { table = table; columns = found.0; time = found.1; unit = unit; wal = wal; dedup = dedup }

abbrev CreateForm : Create → List Lexeme → Type 0
CreateForm c =
    Word (codes "TABLE") ⋅ IsName c.table ⋅ TableColumns (c.columns, c.time) ⋅ Word (codes "PARTITION") ⋅ Word (codes "BY") ⋅ IsUnit c.unit ⋅ Ending (c.wal, c.dedup)

to_create : (c : Create) (ts : List Lexeme) → CreateForm c ts → CreateRest c ts
to_create c ts h = second (λ us h. second (λ us h. out_of (λ us h. out_of (λ us h. out_of (λ us h. out_of (λ us h. out_of (λ us h. out_of (λ vs x. x) us h) us h) us h) us h) us h) us h) us h) ts h

from_create : (c : Create) (ts : List Lexeme) → CreateRest c ts → CreateForm c ts
from_create c ts h = second (λ us h. second (λ us h. into (λ us h. into (λ us h. into (λ us h. into (λ us h. into (λ us h. into (λ vs x. x) us h) us h) us h) us h) us h) us h) us h) ts h

create_exact : (n : ℕ) → Live n create (λ d. CreateForm) (Sort.word (codes "TABLE") ∷ []) false
    (Sort.word (codes "DEDUP") ∷ Sort.word (codes "DEDUP") ∷ Sort.word (codes "WAL") ∷ [])
unfolding create creates compared
create_exact n =
    form (λ d c ts (v1, o1, r1, p1, (t1, e1, s1), (v2, o2, r2, p2, x2, (v3, o3, r3, p3, x3, (v4, o4, r4, p4, (t4, e4, s4), (v5, o5, r5, p5, (t5, e5, s5), (v6, o6, r6, p6, x6, (v7, q, x7))))))). subst (λ z. CreateForm z ts) (sym q) (o1, r1, p1, (t1, e1, s1.0), (o2, r2, p2, x2, (o3, r3, p3, x3, (o4, r4, p4, (t4, e4, s4.0), (o5, r5, p5, (t5, e5, s5.0), (o6, r6, p6, x6, x7)))))))
    (λ d c ts (o1, r1, p1, (t1, e1, s1), (o2, r2, p2, x2, (o3, r3, p3, x3, (o4, r4, p4, (t4, e4, s4), (o5, r5, p5, (t5, e5, s5), (o6, r6, p6, x6, x7)))))). (t1.at, o1, r1, p1, (t1, e1, (s1, refl)), (c.table, o2, r2, p2, x2, ((c.columns, c.time), o3, r3, p3, x3, (t4.at, o4, r4, p4, (t4, e4, (s4, refl)), (t5.at, o5, r5, p5, (t5, e5, (s5, refl)), (c.unit, o6, r6, p6, x6, ((c.wal, c.dedup), refl, x7))))))))
    (seq (a_word n (codes "TABLE")) (λ a. seq (a_name n) (λ table. seq (the_table_columns n) (λ found. seq (a_word n (codes "PARTITION")) (λ b. seq (a_word n (codes "BY")) (λ c.
    seq (a_unit n) (λ unit. same (ending_is (λ wal keys. creates table found unit wal keys)) (mapped (λ v. creates table found unit v.0 v.1) (an_ending n))) refl) refl) refl) refl) refl) refl)

pub a_create : (n : ℕ) → Live n create (λ d. CreateRest) (Sort.word (codes "TABLE") ∷ []) false
    (Sort.word (codes "DEDUP") ∷ Sort.word (codes "DEDUP") ∷ Sort.word (codes "WAL") ∷ [])
a_create n = form (λ d c ts h. to_create c ts h) (λ d c ts h. from_create c ts h) (create_exact n)

-- ["(" name {"," name} ")"]
abbrev ListedForm : Rule (Option (List Name))
ListedForm = Or (Then (Token (SignQ kind.Open)) (λ at. Image (λ ns. Some ns) NamesRest)) (Just None)

to_listed : (d : Bool) (c : Option (List Name)) (ts : List Lexeme) → ListedForm d c ts → Optional Names c ts
to_listed d c ts (inl (at, o, r, p, (t, e, s), (ns, q, x))) = subst (λ z. Optional Names z ts) (sym q) (o, r, p, (t, e, s.0), x)
to_listed d c ts (inr (q, r)) = subst (λ z. Optional Names z ts) (sym q) r

from_listed : (d : Bool) (c : Option (List Name)) (ts : List Lexeme) → Optional Names c ts → ListedForm d c ts
from_listed d None ts r = inr (refl, r)
from_listed d (Some ns) ts (o, r, p, (t, e, s), x) = inl (t.at, o, r, p, (t, e, (s, refl)), (ns, refl, x))

a_listed : (n : ℕ) → Live n listed (λ d. Optional Names) (Sort.sign kind.Open ∷ []) true (Sort.sign kind.Open ∷ [])
unfolding listed compared
a_listed n = form to_listed from_listed (or (signs kind.Open refl) (λ at. mapped (λ ns. Some ns) (names_rest n)) (just n None) refl)

-- "(" lit {"," lit} ")"
tuple_of : ℕ → List Lit → Tuple
tuple_of at ls = record { at = at; lits = ls }

a_tuple : (n : ℕ) → Live n tuple (λ d. IsTuple) (Sort.sign kind.Open ∷ []) false []
unfolding tuple tuple_of compared
a_tuple n =
    form (λ d c ts (v1, o1, r1, p1, x1, (v2, o2, r2, p2, x2, (v3, q, (t3, e3, s3)))). subst (λ z. IsTuple z ts) (sym q) (o1, r1, p1, x1, (o2, r2, p2, x2, (t3, e3, s3.0))))
    (λ d c ts (o1, r1, p1, x1, (o2, r2, p2, x2, (t3, e3, s3))). (c.at, o1, r1, p1, x1, (c.lits, o2, r2, p2, x2, (t3.at, refl, (t3, e3, (s3, refl))))))
    (seq (a_sign n kind.Open refl) (λ at. seq (the_lits n) (λ ls. mapped (λ close. tuple_of at ls) (a_sign n kind.Close refl)) refl) refl)

the_tuples : (n : ℕ) → Live n tuples (λ d cs. Commas IsTuple cs) (Sort.sign kind.Open ∷ []) false comma
unfolding tuples compared
the_tuples n = commas a_tuple refl n

-- "INTO" name listed "VALUES" tuples
inserts : Name → Option (List Name) → List Tuple → Insert
inserts table named rows = record { table = table; columns = named; tuples = rows }

abbrev pub InsertRest : Insert → List Lexeme → Type 0
InsertRest i = Word (codes "INTO") ⋅ IsName i.table ⋅ Optional Names i.columns ⋅ Word (codes "VALUES") ⋅ Commas IsTuple i.tuples

pub an_insert : (n : ℕ) → Live n insert (λ d. InsertRest) (Sort.word (codes "INTO") ∷ []) false comma
unfolding insert inserts compared
an_insert n =
    form (λ d c ts (v1, o1, r1, p1, (t1, e1, s1), (v2, o2, r2, p2, x2, (v3, o3, r3, p3, x3, (v4, o4, r4, p4, (t4, e4, s4), (v5, q, x5))))). subst (λ z. InsertRest z ts) (sym q) (o1, r1, p1, (t1, e1, s1.0), (o2, r2, p2, x2, (o3, r3, p3, x3, (o4, r4, p4, (t4, e4, s4.0), x5)))))
    (λ d c ts (o1, r1, p1, (t1, e1, s1), (o2, r2, p2, x2, (o3, r3, p3, x3, (o4, r4, p4, (t4, e4, s4), x5)))). (t1.at, o1, r1, p1, (t1, e1, (s1, refl)), (c.table, o2, r2, p2, x2, (c.columns, o3, r3, p3, x3, (t4.at, o4, r4, p4, (t4, e4, (s4, refl)), (c.tuples, refl, x5))))))
    (seq (a_word n (codes "INTO")) (λ a. seq (a_name n) (λ table. seq (a_listed n) (λ named. seq (a_word n (codes "VALUES")) (λ b. mapped (inserts table named) (the_tuples n)) refl) refl) refl) refl)

-- "COLUMN" name kind, behind ADD
abbrev AddedRest : Change → List Lexeme → Type 0
AddedRest (changes.AddColumn c) ts = (Word (codes "COLUMN") ⋅ IsColumnDef c) ts
AddedRest (changes.EnableDedup k) ts = ⊥
AddedRest changes.DisableDedup ts = ⊥

from_added : (d : Bool) (c : Change) (ts : List Lexeme) → AddedRest c ts → Then (Token (WordQ (codes "COLUMN"))) (λ a. Image changes.AddColumn (λ e. IsColumnDef)) d c ts
from_added d (changes.AddColumn c) ts (o1, r1, p1, (t1, e1, s1), x) = (t1.at, o1, r1, p1, (t1, e1, (s1, refl)), (c, refl, x))
from_added d (changes.EnableDedup k) ts x = absurd x
from_added d changes.DisableDedup ts x = absurd x

an_added : (n : ℕ) → Live n added (λ d. AddedRest) (Sort.word (codes "COLUMN") ∷ []) false []
unfolding added compared
an_added n =
    form (λ d c ts (v1, o1, r1, p1, (t1, e1, s1), (k, q, x)). subst (λ z. AddedRest z ts) (sym q) (o1, r1, p1, (t1, e1, s1.0), x)) from_added
    (seq (a_word n (codes "COLUMN")) (λ a. mapped changes.AddColumn (a_column_def n)) refl)

-- "ENABLE" keys | "DISABLE", behind DEDUP
abbrev DedupRest : Change → List Lexeme → Type 0
DedupRest (changes.AddColumn c) ts = ⊥
DedupRest (changes.EnableDedup k) ts = (Word (codes "ENABLE") ⋅ KeysRest k) ts
DedupRest changes.DisableDedup ts = Word (codes "DISABLE") ts

abbrev DedupChange : Rule Change
DedupChange = Or (Then (Token (WordQ (codes "ENABLE"))) (λ a. Image changes.EnableDedup (λ d. KeysRest))) (Image (λ at. changes.DisableDedup) (Token (WordQ (codes "DISABLE"))))

to_dedup_change : (d : Bool) (c : Change) (ts : List Lexeme) → DedupChange d c ts → DedupRest c ts
to_dedup_change d c ts (inl (v1, o1, r1, p1, (t1, e1, s1), (k, q, x))) = subst (λ z. DedupRest z ts) (sym q) (o1, r1, p1, (t1, e1, s1.0), x)
to_dedup_change d c ts (inr (at, q, (t1, e1, s1))) = subst (λ z. DedupRest z ts) (sym q) (t1, e1, s1.0)

from_dedup_change : (d : Bool) (c : Change) (ts : List Lexeme) → DedupRest c ts → DedupChange d c ts
from_dedup_change d (changes.AddColumn c) ts x = absurd x
from_dedup_change d (changes.EnableDedup k) ts (o1, r1, p1, (t1, e1, s1), x) = inl (t1.at, o1, r1, p1, (t1, e1, (s1, refl)), (k, refl, x))
from_dedup_change d changes.DisableDedup ts (t1, e1, s1) = inr (t1.at, refl, (t1, e1, (s1, refl)))

a_dedup_change : (n : ℕ) → Live n dedup_change (λ d. DedupRest) (Sort.word (codes "ENABLE") ∷ Sort.word (codes "DISABLE") ∷ []) false []
unfolding dedup_change compared
a_dedup_change n =
    form to_dedup_change from_dedup_change
    (or (words (codes "ENABLE")) (λ a. mapped changes.EnableDedup (the_keys n)) (mapped (λ at. changes.DisableDedup) (a_word n (codes "DISABLE"))) refl)

-- "ADD" added | "DEDUP" dedup_change
abbrev ChangeForm : Rule Change
ChangeForm = Or (Then (Token (WordQ (codes "ADD"))) (λ a. λ d. AddedRest)) (Then (Token (WordQ (codes "DEDUP"))) (λ a. λ d. DedupRest))

change_added : (c : Change) (ts one rest : List Lexeme) → ts ≡ one ++ rest → Word (codes "ADD") one → AddedRest c rest → IsChange c ts
change_added (changes.AddColumn c) ts one rest p x y = (one, rest, p, x, y)
change_added (changes.EnableDedup k) ts one rest p x y = absurd y
change_added changes.DisableDedup ts one rest p x y = absurd y

change_dedup : (c : Change) (ts one rest : List Lexeme) → ts ≡ one ++ rest → Word (codes "DEDUP") one → DedupRest c rest → IsChange c ts
change_dedup (changes.AddColumn c) ts one rest p x y = absurd y
change_dedup (changes.EnableDedup k) ts one rest p x y = (one, rest, p, x, y)
change_dedup changes.DisableDedup ts one rest p x y = (one, rest, p, x, y)

to_change : (d : Bool) (c : Change) (ts : List Lexeme) → ChangeForm d c ts → IsChange c ts
to_change d c ts (inl (v1, o1, r1, p1, (t1, e1, s1), x)) = change_added c ts o1 r1 p1 (t1, e1, s1.0) x
to_change d c ts (inr (v1, o1, r1, p1, (t1, e1, s1), x)) = change_dedup c ts o1 r1 p1 (t1, e1, s1.0) x

from_change : (d : Bool) (c : Change) (ts : List Lexeme) → IsChange c ts → ChangeForm d c ts
from_change d (changes.AddColumn c) ts (o1, r1, p1, (t1, e1, s1), x) = inl (t1.at, o1, r1, p1, (t1, e1, (s1, refl)), x)
from_change d (changes.EnableDedup k) ts (o1, r1, p1, (t1, e1, s1), x) = inr (t1.at, o1, r1, p1, (t1, e1, (s1, refl)), x)
from_change d changes.DisableDedup ts (o1, r1, p1, (t1, e1, s1), x) = inr (t1.at, o1, r1, p1, (t1, e1, (s1, refl)), x)

a_change : (n : ℕ) → Live n change (λ d. IsChange) (Sort.word (codes "ADD") ∷ Sort.word (codes "DEDUP") ∷ []) false []
unfolding change compared
a_change n = form to_change from_change (or (words (codes "ADD")) (λ a. an_added n) (seq (a_word n (codes "DEDUP")) (λ a. a_dedup_change n) refl) refl)

-- name change
alters : Name → Change → Alter
alters table found = record { table = table; change = found }

abbrev pub AlterRest : Alter → List Lexeme → Type 0
AlterRest a = IsName a.table ⋅ IsChange a.change

pub an_alter : (n : ℕ) → Live n alter (λ d. AlterRest) (Sort.name ∷ []) false []
unfolding alter alters compared
an_alter n =
    form (λ d c ts (v1, o1, r1, p1, x1, (v2, q, x2)). subst (λ z. AlterRest z ts) (sym q) (o1, r1, p1, x1, x2))
    (λ d c ts (o1, r1, p1, x1, x2). (c.table, o1, r1, p1, x1, (c.change, refl, x2)))
    (seq (a_name n) (λ table. mapped (alters table) (a_change n)) refl)

-- "PARTITIONS" "FROM" name
abbrev pub ShowRest : Name → List Lexeme → Type 0
ShowRest n = Word (codes "PARTITIONS") ⋅ Word (codes "FROM") ⋅ IsName n

pub a_show : (n : ℕ) → Live n show (λ d. ShowRest) (Sort.word (codes "PARTITIONS") ∷ []) false []
unfolding show compared
a_show n =
    form (λ d c ts (v1, o1, r1, p1, (t1, e1, s1), (v2, o2, r2, p2, (t2, e2, s2), x)). (o1, r1, p1, (t1, e1, s1.0), (o2, r2, p2, (t2, e2, s2.0), x)))
    (λ d c ts (o1, r1, p1, (t1, e1, s1), (o2, r2, p2, (t2, e2, s2), x)). (t1.at, o1, r1, p1, (t1, e1, (s1, refl)), (t2.at, o2, r2, p2, (t2, e2, (s2, refl)), x)))
    (seq (a_word n (codes "PARTITIONS")) (λ a. seq (a_word n (codes "FROM")) (λ b. a_name n) refl) refl)
