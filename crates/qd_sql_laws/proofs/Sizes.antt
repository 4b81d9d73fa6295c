-- How many tokens a text has at least, and how many bytes.
use Rattle.std.proofs.Common.{◌≡◌, ℕ, zero, suc, ◌+◌, ◌-◌, ◌*◌, ◌≤◌, List, [], ◌∷◌, length, Option, Some, None, ap, arith, refl}
use Rattle.std.proofs.lemmas.List.{length-append}
use Rattle.qd_sql_lexer.specs.declared.token.Kind.{Kind}
use Rattle.qd_sql_lexer.specs.declared.token.Kind.TheVariants as kind
use Rattle.qd_sql_lexer.specs.Tokens.{Lexeme, Piece, cut_at, tokens, tokens_from, with_piece}
use Rattle.qd_sql_ast.specs.declared.tree.Insert.{Insert}
use Rattle.qd_sql_ast.specs.declared.tree.Lit.{Lit}
use Rattle.qd_sql_ast.specs.declared.tree.Lit.TheVariants as lit
use Rattle.qd_sql_ast.specs.declared.tree.Stmt.TheVariants as is
use Rattle.qd_sql_ast.specs.declared.tree.Tuple.{Tuple}
use Rattle.qd_sql.specs.Statement.{IsStatement}
use Rattle.qd_sql_laws.specs.Parts.{◌⋅◌, Commas, Each, One, Sign}
use Rattle.qd_sql_laws.specs.WriteRules.{IsInsert, IsLit, IsTuple}
use Rattle.qd_sql_laws.proofs.Decided.{by_grammar}

-- ---- tokens of a text

piece_size : (at : ℕ) (p : Piece) (o : Option Kind) (rest : List Lexeme) → p.kind ≡ o → length (with_piece at p rest) ≤ 1 + length rest
piece_size at p None rest is = rw is omega arith
piece_size at p (Some k) rest is = rw is omega arith

-- each token has a byte
tokens_size : (n at : ℕ) (text : List ℕ) → length (tokens_from n at text) ≤ length text
unfolding tokens_from
tokens_size zero at [] = let none : tokens_from 0 at [] ≡ [] = refl in omega (arith, ap length none)
tokens_size (suc n) at [] = let none : tokens_from (suc n) at [] ≡ [] = refl in omega (arith, ap length none)
tokens_size (suc n) at (b ∷ rest) =
    let same : tokens_from (suc n) at (b ∷ rest) ≡ tokens_from n (at + 1) rest = refl in
    omega (arith, ap length same, tokens_size n (at + 1) rest)
tokens_size zero at (b ∷ rest) =
    let p = cut_at (b ∷ rest) in
    let more = tokens_from (p.len - 1) (at + 1) rest in
    let whole : tokens_from 0 at (b ∷ rest) ≡ with_piece at p more = refl in
    omega (arith, ap length whole, tokens_size (p.len - 1) (at + 1) rest, piece_size at p p.kind more refl)

-- ---- parts of statements

one_size : (Holds : Lexeme → Type 0) (ts : List Lexeme) → One Holds ts → 1 ≤ length ts
one_size Holds ts (t, e, h) = omega (arith, ap length e)

-- one part and another behind it
both_sizes : (m n : ℕ) (First Second : List Lexeme → Type 0) → ((ts : List Lexeme) → First ts → m ≤ length ts) → ((ts : List Lexeme) → Second ts → n ≤ length ts)
    → (ts : List Lexeme) → (First ⋅ Second) ts → m + n ≤ length ts
both_sizes m n First Second f s ts (front, behind, e, x, y) = omega (arith, ap length e, length-append front behind, f front x, s behind y)

lit_size : (l : Lit) (ts : List Lexeme) → IsLit l ts → 1 ≤ length ts
lit_size (lit.Number n) ts h = one_size _ ts h
lit_size (lit.Minus minus n) ts (front, behind, e, x, y) = omega (arith, ap length e, length-append front behind, one_size _ front x)
lit_size (lit.Text t) ts h = one_size _ ts h
lit_size (lit.True place) ts h = one_size _ ts h
lit_size (lit.False place) ts h = one_size _ ts h
lit_size (lit.Null place) ts h = one_size _ ts h

lits_size : (ls : List Lit) (ts : List Lexeme) → Commas IsLit ls ts → 1 ≤ length ts
lits_size [] ts h = absurd h
lits_size (l ∷ ls) ts (front, behind, e, x, y) = omega (arith, ap length e, length-append front behind, lit_size l front x)

-- two brackets, and a literal between them
tuple_size : (t : Tuple) (ts : List Lexeme) → IsTuple t ts → 3 ≤ length ts
tuple_size t ts (front, behind, e, x, (inner, close, e', y, z)) =
    omega (arith, ap length e, length-append front behind, one_size _ front x, ap length e', length-append inner close, lits_size t.lits inner y, one_size _ close z)

-- each further one has a comma in front
more_size : (xs : List Tuple) (ts : List Lexeme) → Each (λ y. Sign kind.Comma ⋅ IsTuple y) xs ts → 4 * length xs ≤ length ts
more_size [] ts h = omega arith
more_size (x ∷ xs) ts (front, behind, e, (comma, tuple, e', c, t), more) =
    omega (arith, ap length e, length-append front behind, ap length e', length-append comma tuple, one_size _ comma c, tuple_size x tuple t, more_size xs behind more)

tuples_size : (xs : List Tuple) (ts : List Lexeme) → Commas IsTuple xs ts → 4 * length xs ≤ length ts + 1
tuples_size [] ts h = absurd h
tuples_size (x ∷ xs) ts (front, behind, e, t, more) = omega (arith, ap length e, length-append front behind, tuple_size x front t, more_size xs behind more)

insert_size : (i : Insert) (ts : List Lexeme) → IsInsert i ts → 4 * length i.tuples ≤ length ts
insert_size i ts (a, b, e, w, (c, d, e', w', (f, g, e'', n, (h, j, e3, o, (k, l, e4, v, t))))) =
    omega (
      arith,
      ap length e,
      length-append a b,
      one_size _ a w,
      ap length e',
      length-append c d,
      ap length e'',
      length-append f g,
      ap length e3,
      length-append h j,
      ap length e4,
      length-append k l,
      tuples_size i.tuples l t,
    )

pub short_insert : (text : List ℕ) (i : Insert) → IsStatement text (is.Insert i) → 4 * length i.tuples ≤ length text
unfolding tokens
short_insert text i e =
    let h = by_grammar text (is.Insert i) e in
    let read = h.read in
    let all : tokens text ≡ tokens_from 0 0 text = refl in
    omega (arith, ap length read.2, length-append read.0 read.1, insert_size i read.0 read.3, ap length all, tokens_size 0 0 text)
