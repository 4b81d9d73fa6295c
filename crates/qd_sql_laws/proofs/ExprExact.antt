-- Expressions are read exactly, where those in brackets are.
use Rattle.std.proofs.Common.{◌≡◌, ℕ, zero, suc, Bool, true, false, ◌||◌, List, [], ◌∷◌, ◌++◌, length, Option, Some, None, Ok, refl, sym, ap, ap₂, ◌∙◌, subst, inl, inr, ◌⊎◌, if◌then◌else◌, codes, append-nil}
use Rattle.qd_sql_lexer.specs.declared.token.Kind.{Kind}
use Rattle.qd_sql_lexer.specs.declared.token.Kind.TheVariants as kind
use Rattle.qd_sql_lexer.specs.Tokens.{Lexeme}
use Rattle.qd_sql_ast.specs.declared.tree.AddOp.{AddOp}
use Rattle.qd_sql_ast.specs.declared.tree.AddOp.TheVariants as add
use Rattle.qd_sql_ast.specs.declared.tree.MulOp.{MulOp}
use Rattle.qd_sql_ast.specs.declared.tree.MulOp.TheVariants as mul
use Rattle.qd_sql_ast.specs.declared.tree.Cmp.{Cmp}
use Rattle.qd_sql_ast.specs.declared.tree.Cmp.TheVariants as compare
use Rattle.qd_sql_ast.specs.declared.tree.Name.{Name}
use Rattle.qd_sql_ast.specs.declared.tree.Text.{Text}
use Rattle.qd_sql_ast.specs.declared.tree.Lit.{Lit}
use Rattle.qd_sql_ast.specs.declared.tree.Column.{Column}
use Rattle.qd_sql_ast.specs.declared.tree.Expr.{Expr, roll-Expr}
use Rattle.qd_sql_ast.specs.declared.tree.OrConj.{OrConj, roll-OrConj}
use Rattle.qd_sql_ast.specs.declared.tree.Conj.{Conj, roll-Conj}
use Rattle.qd_sql_ast.specs.declared.tree.AndNeg.{AndNeg, roll-AndNeg}
use Rattle.qd_sql_ast.specs.declared.tree.Neg.{Neg, roll-Neg}
use Rattle.qd_sql_ast.specs.declared.tree.Test.{Test, roll-Test}
use Rattle.qd_sql_ast.specs.declared.tree.Check.{Check}
use Rattle.qd_sql_ast.specs.declared.tree.Check.TheVariants as asks
use Rattle.qd_sql_ast.specs.declared.tree.Plus.{Plus, roll-Plus}
use Rattle.qd_sql_ast.specs.declared.tree.AddTerm.{AddTerm, roll-AddTerm}
use Rattle.qd_sql_ast.specs.declared.tree.Term.{Term, roll-Term}
use Rattle.qd_sql_ast.specs.declared.tree.MulSigned.{MulSigned, roll-MulSigned}
use Rattle.qd_sql_ast.specs.declared.tree.Signed.{Signed, roll-Signed}
use Rattle.qd_sql_ast.specs.declared.tree.Prime.{Prime}
use Rattle.qd_sql_ast.specs.declared.tree.Prime.TheVariants as is
use Rattle.qd_sql_ast.specs.Steps.{Read, if_taken, same_kind, sees, sign, links_from, offsets, offsets_from}
use Rattle.qd_sql.specs.Exprs.{column, cmp, add_op, mul_op, among, null_check, nots, minuses, bracket, prime, signed, multiplied, term, added, plus, check, one_test, neg, ands, conj, ors, expr_at}
use Rattle.qd_sql_laws.specs.Parts.{◌⋅◌, Optional, Each, Commas, Sign, SignAt, Word, WordAt, IsName, IsText}
use Rattle.qd_sql_laws.specs.WriteRules.{IsLit}
use Rattle.qd_sql_laws.specs.ExprRules.{IsColumn, IsCmp, IsAddOp, IsMulOp, IsPrime, IsSigned, IsMulSigned, IsTerm, IsAddTerm, IsPlus, IsCheck, IsTest, IsNeg, IsAndNeg, IsConj, IsOrConj, IsExpr}
use Rattle.qd_sql_laws.proofs.Sorts.{Good, sign_good, Sort, is_in, Has, clash, apart, compared, in_lists, or_left, or_right}
use Rattle.qd_sql_laws.proofs.Judging.{Rule}
use Rattle.qd_sql_laws.proofs.Combining.{Then, Or, Just, Token, Exact, seq as seq_exact}
use Rattle.qd_sql_laws.proofs.Choosing.{Chooser, Takes, Leaves}
use Rattle.qd_sql_laws.proofs.Tokens.{SignQ, WordQ, NameQ, NumberQ, TextQ, signs, words}
use Rattle.qd_sql_laws.proofs.Living.{Live, Image, mapped, form, same, tidy, just, seq, or, or_one, or_exact, alone, choice, chain, a_sign, a_word, names as a_name, numbers as a_number, texts as a_text}
use Rattle.qd_sql_laws.proofs.WriteExact.{the_lits, sees_some, sees_none}

-- signs that stand for operators
none_of : {A : Type 0} → Chooser {A = A × ℕ} (λ ts. None) (λ x t. ⊥) []
none_of = record { good = λ a t q. absurd q; none = refl; one = λ t. inr ((λ b q. q), (λ ts. refl), (λ h. absurd (cc))) }

module _ {A : Type 0} {op : List Lexeme → Option ((A × ℕ) × List Lexeme)} {Q : A × ℕ → Lexeme → Type 0} {ss : List Sort} (k : Kind) (v : A)
    (fine : same_kind k kind.Bad ≡ false) (chooser : Chooser op Q ss) (unlike : clash (Sort.sign k ∷ []) ss ≡ false) where
  abbrev Either : A × ℕ → Lexeme → Type 0
  Either x t = ((x.0 ≡ v) × SignQ k x.1 t) ⊎ Q x t

  abbrev chosen : Option (ℕ × List Lexeme) → Option ((A × ℕ) × List Lexeme) → Option ((A × ℕ) × List Lexeme)
  chosen o other = if_taken o (λ x. Some ((v, x.0), x.1)) other

  has_it : (x : A × ℕ) (t : Lexeme) → Takes op Q ss t ⊎ Leaves op Q ss t → Q x t → Has ss t
  has_it x t (inl (a, q, one, takes, h)) p = h
  has_it x t (inr (none, leaves, h)) p = absurd (none x p)

  chosen_one : (t : Lexeme) → same_kind t.kind k ≡ true → (c : A × ℕ) → ((c.0 ≡ v) × SignQ k c.1 t) ⊎ Q c t → c ≡ (v, t.at)
  chosen_one t is c (inl (p, (h, q))) = ap₂ (λ x y. (x, y)) p q
  chosen_one t is c (inr q) = absurd (apart (Sort.sign k ∷ []) ss unlike t (or_left (same_kind t.kind k) false is) (has_it c t (chooser.one t) q))

  other_one : (t : Lexeme) → same_kind t.kind k ≡ false → (a : A × ℕ) → ((b : A × ℕ) → Q b t → b ≡ a) → (c : A × ℕ) → ((c.0 ≡ v) × SignQ k c.1 t) ⊎ Q c t → c ≡ a
  other_one t is a one c (inl (p, (h, q))) = absurd (cc)
  other_one t is a one c (inr q) = one c q

  no_one : (t : Lexeme) → same_kind t.kind k ≡ false → ((b : A × ℕ) → Q b t → ⊥) → (c : A × ℕ) → ((c.0 ≡ v) × SignQ k c.1 t) ⊎ Q c t → ⊥
  no_one t is none c (inl (p, (h, q))) = absurd (cc)
  no_one t is none c (inr q) = none c q

  no_sort : (b : Bool) (t : Lexeme) → b ≡ false → (Has ss t → ⊥) → (b || is_in ss t) ≡ true → ⊥
  no_sort true t p h q = absurd (cc)
  no_sort false t p h q = h q

  chosen_at : (b : Bool) (t : Lexeme) → same_kind t.kind k ≡ b → Takes op Q ss t ⊎ Leaves op Q ss t
      → Takes (λ ts. if_taken (sign k ts) (λ x. Some ((v, x.0), x.1)) (op ts)) (λ x t. ((x.0 ≡ v) × SignQ k x.1 t) ⊎ Q x t) (Sort.sign k ∷ ss) t
      ⊎ Leaves (λ ts. if_taken (sign k ts) (λ x. Some ((v, x.0), x.1)) (op ts)) (λ x t. ((x.0 ≡ v) × SignQ k x.1 t) ⊎ Q x t) (Sort.sign k ∷ ss) t
  unfolding sign
  chosen_at true t is o =
      inl ((v, t.at), inl (refl, (is, refl)), chosen_one t is, (λ ts. ap (λ z. chosen (if z then Some (t.at, ts) else None) (op (t ∷ ts))) is), or_left (same_kind t.kind k) (is_in ss t) is)
  chosen_at false t is (inl (a, q, one, takes, h)) =
      inl (a, inr q, other_one t is a one, (λ ts. ap (λ z. chosen (if z then Some (t.at, ts) else None) (op (t ∷ ts))) is ∙ takes ts), or_right (same_kind t.kind k) (is_in ss t) h)
  chosen_at false t is (inr (none, leaves, h)) =
      inr (no_one t is none, (λ ts. ap (λ z. chosen (if z then Some (t.at, ts) else None) (op (t ∷ ts))) is ∙ leaves ts), no_sort (same_kind t.kind k) t is h)

  either_good : (x : A × ℕ) (t : Lexeme) → ((x.0 ≡ v) × SignQ k x.1 t) ⊎ Q x t → Good t
  either_good x t (inl (p, (h, q))) = sign_good k fine t h
  either_good x t (inr q) = chooser.good x t q

  more_signs : Chooser (λ ts. if_taken (sign k ts) (λ x. Some ((v, x.0), x.1)) (op ts)) (λ x t. ((x.0 ≡ v) × SignQ k x.1 t) ⊎ Q x t) (Sort.sign k ∷ ss)
  unfolding sign
  more_signs = record { good = either_good; none = chooser.none; one = λ t. chosen_at (same_kind t.kind k) t refl (chooser.one t) }

form_at : {A : Type 0} (op : List Lexeme → Option (A × List Lexeme)) (Q R : A → Lexeme → Type 0) (ss : List Sort) (t : Lexeme) → ((x : A) → Q x t → R x t) → ((x : A) → R x t → Q x t)
    → Takes op Q ss t ⊎ Leaves op Q ss t → Takes op R ss t ⊎ Leaves op R ss t
form_at op Q R ss t to from (inl (a, q, one, takes, h)) = inl (a, to a q, (λ b r. one b (from b r)), takes, h)
form_at op Q R ss t to from (inr (none, leaves, h)) = inr ((λ b r. none b (from b r)), leaves, h)

chooser_form : {A : Type 0} {op : List Lexeme → Option (A × List Lexeme)} {Q R : A → Lexeme → Type 0} {ss : List Sort} → ((x : A) (t : Lexeme) → Q x t → R x t) → ((x : A) (t : Lexeme) → R x t → Q x t)
    → Chooser op Q ss → Chooser op R ss
chooser_form {A} {op} {Q} {R} {ss} to from c = record { good = λ x t r. c.good x t (from x t r); none = c.none; one = λ t. form_at op Q R ss t (λ x q. to x t q) (λ x r. from x t r) (c.one t) }

-- mul_op
abbrev mul_kind : MulOp → Kind
mul_kind mul.Times = kind.Star
mul_kind mul.Divide = kind.Slash
mul_kind mul.Remainder = kind.Percent

abbrev pub MulQ : MulOp × ℕ → Lexeme → Type 0
MulQ x t = SignQ (mul_kind x.0) x.1 t

abbrev pub muls : List Sort
muls = Sort.sign kind.Star ∷ Sort.sign kind.Slash ∷ Sort.sign kind.Percent ∷ []

abbrev MulQForm : MulOp × ℕ → Lexeme → Type 0
MulQForm x t = ((x.0 ≡ mul.Times) × SignQ kind.Star x.1 t) ⊎ (((x.0 ≡ mul.Divide) × SignQ kind.Slash x.1 t) ⊎ (((x.0 ≡ mul.Remainder) × SignQ kind.Percent x.1 t) ⊎ ⊥))

to_mul_op : (x : MulOp × ℕ) (t : Lexeme) → MulQForm x t → MulQ x t
to_mul_op x t (inl (p, q)) = subst (λ z. SignQ (mul_kind z) x.1 t) (sym p) q
to_mul_op x t (inr (inl (p, q))) = subst (λ z. SignQ (mul_kind z) x.1 t) (sym p) q
to_mul_op x t (inr (inr (inl (p, q)))) = subst (λ z. SignQ (mul_kind z) x.1 t) (sym p) q
to_mul_op x t (inr (inr (inr h))) = absurd h

from_mul_op : (x : MulOp × ℕ) (t : Lexeme) → MulQ x t → MulQForm x t
from_mul_op (mul.Times, at) t q = inl (refl, q)
from_mul_op (mul.Divide, at) t q = inr (inl (refl, q))
from_mul_op (mul.Remainder, at) t q = inr (inr (inl (refl, q)))

pub mul_ops : Chooser mul_op MulQ muls
unfolding mul_op compared
mul_ops = chooser_form to_mul_op from_mul_op (more_signs kind.Star mul.Times refl (more_signs kind.Slash mul.Divide refl (more_signs kind.Percent mul.Remainder refl none_of refl) refl) refl)

-- add_op
abbrev add_kind : AddOp → Kind
add_kind add.Plus = kind.Plus
add_kind add.Minus = kind.Minus

abbrev pub AddQ : AddOp × ℕ → Lexeme → Type 0
AddQ x t = SignQ (add_kind x.0) x.1 t

abbrev pub adds : List Sort
adds = Sort.sign kind.Plus ∷ Sort.sign kind.Minus ∷ []

abbrev AddQForm : AddOp × ℕ → Lexeme → Type 0
AddQForm x t = ((x.0 ≡ add.Plus) × SignQ kind.Plus x.1 t) ⊎ (((x.0 ≡ add.Minus) × SignQ kind.Minus x.1 t) ⊎ ⊥)

to_add_op : (x : AddOp × ℕ) (t : Lexeme) → AddQForm x t → AddQ x t
to_add_op x t (inl (p, q)) = subst (λ z. SignQ (add_kind z) x.1 t) (sym p) q
to_add_op x t (inr (inl (p, q))) = subst (λ z. SignQ (add_kind z) x.1 t) (sym p) q
to_add_op x t (inr (inr h)) = absurd h

from_add_op : (x : AddOp × ℕ) (t : Lexeme) → AddQ x t → AddQForm x t
from_add_op (add.Plus, at) t q = inl (refl, q)
from_add_op (add.Minus, at) t q = inr (inl (refl, q))

pub add_ops : Chooser add_op AddQ adds
unfolding add_op compared
add_ops = chooser_form to_add_op from_add_op (more_signs kind.Plus add.Plus refl (more_signs kind.Minus add.Minus refl none_of refl) refl)

-- cmp
abbrev cmp_kind : Cmp → Kind
cmp_kind compare.Equal = kind.Equal
cmp_kind compare.NotEqual = kind.NotEqual
cmp_kind compare.Less = kind.Less
cmp_kind compare.LessEqual = kind.LessEqual
cmp_kind compare.Greater = kind.Greater
cmp_kind compare.GreaterEqual = kind.GreaterEqual

abbrev pub CmpQ : Cmp × ℕ → Lexeme → Type 0
CmpQ x t = SignQ (cmp_kind x.0) x.1 t

abbrev pub compares : List Sort
compares = Sort.sign kind.Equal ∷ Sort.sign kind.NotEqual ∷ Sort.sign kind.Less ∷ Sort.sign kind.LessEqual ∷ Sort.sign kind.Greater ∷ Sort.sign kind.GreaterEqual ∷ []

abbrev CmpQForm : Cmp × ℕ → Lexeme → Type 0
CmpQForm x t = ((x.0 ≡ compare.Equal) × SignQ kind.Equal x.1 t) ⊎ (((x.0 ≡ compare.NotEqual) × SignQ kind.NotEqual x.1 t) ⊎ (((x.0 ≡ compare.Less) × SignQ kind.Less x.1 t) ⊎ (((x.0 ≡ compare.LessEqual) × SignQ kind.LessEqual x.1 t) ⊎ (((x.0 ≡ compare.Greater) × SignQ kind.Greater x.1 t) ⊎ (((x.0 ≡ compare.GreaterEqual) × SignQ kind.GreaterEqual x.1 t) ⊎ ⊥)))))

to_cmp : (x : Cmp × ℕ) (t : Lexeme) → CmpQForm x t → CmpQ x t
to_cmp x t (inl (p, q)) = subst (λ z. SignQ (cmp_kind z) x.1 t) (sym p) q
to_cmp x t (inr (inl (p, q))) = subst (λ z. SignQ (cmp_kind z) x.1 t) (sym p) q
to_cmp x t (inr (inr (inl (p, q)))) = subst (λ z. SignQ (cmp_kind z) x.1 t) (sym p) q
to_cmp x t (inr (inr (inr (inl (p, q))))) = subst (λ z. SignQ (cmp_kind z) x.1 t) (sym p) q
to_cmp x t (inr (inr (inr (inr (inl (p, q)))))) = subst (λ z. SignQ (cmp_kind z) x.1 t) (sym p) q
to_cmp x t (inr (inr (inr (inr (inr (inl (p, q))))))) = subst (λ z. SignQ (cmp_kind z) x.1 t) (sym p) q
to_cmp x t (inr (inr (inr (inr (inr (inr h)))))) = absurd h

from_cmp : (x : Cmp × ℕ) (t : Lexeme) → CmpQ x t → CmpQForm x t
from_cmp (compare.Equal, at) t q = inl (refl, q)
from_cmp (compare.NotEqual, at) t q = inr (inl (refl, q))
from_cmp (compare.Less, at) t q = inr (inr (inl (refl, q)))
from_cmp (compare.LessEqual, at) t q = inr (inr (inr (inl (refl, q))))
from_cmp (compare.Greater, at) t q = inr (inr (inr (inr (inl (refl, q)))))
from_cmp (compare.GreaterEqual, at) t q = inr (inr (inr (inr (inr (inl (refl, q))))))

pub cmps : Chooser cmp CmpQ compares
unfolding cmp compared
cmps = chooser_form to_cmp from_cmp (more_signs kind.Equal compare.Equal refl (more_signs kind.NotEqual compare.NotEqual refl (more_signs kind.Less compare.Less refl (more_signs kind.LessEqual compare.LessEqual refl (more_signs kind.Greater compare.Greater refl (more_signs kind.GreaterEqual compare.GreaterEqual refl none_of refl) refl) refl) refl) refl) refl)

mul_to : (op : MulOp) (at : ℕ) (ts : List Lexeme) → SignAt (mul_kind op) at ts → IsMulOp op at ts
mul_to mul.Times at ts h = h
mul_to mul.Divide at ts h = h
mul_to mul.Remainder at ts h = h

mul_from : (op : MulOp) (at : ℕ) (ts : List Lexeme) → IsMulOp op at ts → SignAt (mul_kind op) at ts
mul_from mul.Times at ts h = h
mul_from mul.Divide at ts h = h
mul_from mul.Remainder at ts h = h

add_to : (op : AddOp) (at : ℕ) (ts : List Lexeme) → SignAt (add_kind op) at ts → IsAddOp op at ts
add_to add.Plus at ts h = h
add_to add.Minus at ts h = h

add_from : (op : AddOp) (at : ℕ) (ts : List Lexeme) → IsAddOp op at ts → SignAt (add_kind op) at ts
add_from add.Plus at ts h = h
add_from add.Minus at ts h = h

cmp_to : (op : Cmp) (at : ℕ) (ts : List Lexeme) → SignAt (cmp_kind op) at ts → IsCmp op at ts
cmp_to compare.Equal at ts h = h
cmp_to compare.NotEqual at ts h = h
cmp_to compare.Less at ts h = h
cmp_to compare.LessEqual at ts h = h
cmp_to compare.Greater at ts h = h
cmp_to compare.GreaterEqual at ts h = h

cmp_from : (op : Cmp) (at : ℕ) (ts : List Lexeme) → IsCmp op at ts → SignAt (cmp_kind op) at ts
cmp_from compare.Equal at ts h = h
cmp_from compare.NotEqual at ts h = h
cmp_from compare.Less at ts h = h
cmp_from compare.LessEqual at ts h = h
cmp_from compare.Greater at ts h = h
cmp_from compare.GreaterEqual at ts h = h

-- each of several
pub each_to : {A : Type 0} (P Q : A → List Lexeme → Type 0) → ((y : A) (ts : List Lexeme) → P y ts → Q y ts) → (ys : List A) (ts : List Lexeme) → Each P ys ts → Each Q ys ts
each_to P Q f [] ts h = h
each_to P Q f (y ∷ ys) ts (o, r, p, x, more) = (o, r, p, f y o x, each_to P Q f ys r more)

-- offsets are links with nothing behind
taken_both : {A B : Type 0} (o : Option (A × List Lexeme)) (f : A × List Lexeme → Read B) (g : A × List Lexeme → B × List Lexeme) (y : B × List Lexeme) → ((x : A × List Lexeme) → f x ≡ Ok (g x))
    → if_taken o f (Ok y) ≡ Ok (if_taken o g y)
taken_both None f g y h = refl
taken_both (Some x) f g y h = h x

offsets_at : (one : List Lexeme → Option (ℕ × List Lexeme)) (n : ℕ) (found : List ℕ) (ts : List Lexeme) → links_from one (λ a us. Ok (a, us)) n found ts ≡ Ok (offsets_from one n found ts)
unfolding links_from offsets_from
offsets_at one zero found ts = refl
offsets_at one (suc n) found ts =
    taken_both (one ts) (λ x. links_from one (λ a us. Ok (a, us)) n (found ++ x.0 ∷ []) x.1) (λ x. offsets_from one n (found ++ x.0 ∷ []) x.1) (found, ts)
    (λ x. offsets_at one n (found ++ x.0 ∷ []) x.1)

module _ {one : List Lexeme → Option (ℕ × List Lexeme)} {Q : ℕ → Lexeme → Type 0} {ss : List Sort} (chooser : Chooser one Q ss) where
  lone_to : (d : Bool) (y : ℕ) (ts : List Lexeme) → Then (Token Q) (λ a. Just a) d y ts → Token Q d y ts
  lone_to d y ts (a, o, r, p, q, (s, e)) = subst (λ z. Token Q d z ts) (sym s) (subst (λ z. Token Q d a z) (alone o r ts p e) q)

  lone_from : (d : Bool) (y : ℕ) (ts : List Lexeme) → Token Q d y ts → Then (Token Q) (λ a. Just a) d y ts
  lone_from d y ts q = (y, ts, [], sym (append-nil ts), q, (refl, refl))

  run : (n : ℕ) → Live n (λ ts. Ok (offsets one ts)) (λ d xs. Each (Token Q d) xs) ss true ss
  unfolding clash
  run n = same (λ ts. offsets_at one (length ts) [] ts)
      (form (λ d xs ts h. each_to (Then (Token Q) (λ a. Just a) d) (Token Q d) (lone_to d) xs ts h) (λ d xs ts h. each_to (Token Q d) (Then (Token Q) (λ a. Just a) d) (lone_from d) xs ts h)
      (chain chooser (λ m a. just m a) refl n))

-- the sorts with which expressions begin, and those that they take behind them
abbrev pub prime_first : List Sort
prime_first =
    Sort.sign kind.Number ∷ Sort.sign kind.Text ∷ Sort.word (codes "TRUE") ∷ Sort.word (codes "FALSE") ∷ Sort.word (codes "NULL") ∷ Sort.sign kind.Open ∷ Sort.name ∷ []

abbrev pub signed_first : List Sort
signed_first = Sort.sign kind.Minus ∷ prime_first

abbrev pub expr_first : List Sort
expr_first = Sort.word (codes "NOT") ∷ signed_first

abbrev pub dot : List Sort
dot = Sort.sign kind.Dot ∷ []

abbrev pub term_last : List Sort
term_last = muls ++ dot

abbrev pub plus_last : List Sort
plus_last = adds ++ term_last

abbrev pub check_first : List Sort
check_first = compares ++ Sort.word (codes "IN") ∷ Sort.word (codes "IS") ∷ []

abbrev pub test_last : List Sort
test_last = check_first ++ plus_last

abbrev pub conj_last : List Sort
conj_last = Sort.word (codes "AND") ∷ test_last

abbrev pub expr_last : List Sort
expr_last = Sort.word (codes "OR") ∷ conj_last

-- column
column_of : Name → Option Name → Column
column_of a b = record { first = a; second = b }

abbrev ColumnForm : Rule Column
ColumnForm = Then (Token NameQ) (λ a. Or (Then (Token (SignQ kind.Dot)) (λ at. Image (λ b. column_of a (Some b)) (Token NameQ))) (Just (column_of a None)))

to_column : (d : Bool) (c : Column) (ts : List Lexeme) → ColumnForm d c ts → IsColumn c ts
unfolding column_of
to_column d c ts (a, o, r, p, x, inl (at, o₂, r₂, p₂, (t, e, s), (b, q, y))) = subst (λ z. IsColumn z ts) (sym q) (o, r, p, x, (o₂, r₂, p₂, (t, e, s.0), y))
to_column d c ts (a, o, r, p, x, inr (q, e)) = subst (λ z. IsColumn z ts) (sym q) (o, r, p, x, e)

behind_column : (d : Bool) (a : Name) (b : Option Name) (us : List Lexeme) → Optional (λ n. Sign kind.Dot ⋅ IsName n) b us
    → Or (Then (Token (SignQ kind.Dot)) (λ at. Image (λ n. column_of a (Some n)) (Token NameQ))) (Just (column_of a None)) d (record { first = a; second = b }) us
unfolding column_of
behind_column d a None us e = inr (refl, e)
behind_column d a (Some n) us (o₂, r₂, p₂, (t, e, s), y) = inl (t.at, o₂, r₂, p₂, (t, e, (s, refl)), (n, refl, y))

from_column : (d : Bool) (c : Column) (ts : List Lexeme) → IsColumn c ts → ColumnForm d c ts
from_column d c ts (o, r, p, x, h) = (c.first, o, r, p, x, behind_column d c.first c.second r h)

pub a_column : (n : ℕ) → Live n column (λ d. IsColumn) (Sort.name ∷ []) false dot
unfolding column column_of compared
a_column n = form to_column from_column (seq (a_name n) (λ a. or (signs kind.Dot refl) (λ at. mapped (λ b. column_of a (Some b)) (a_name n)) (just n (column_of a None)) refl) refl)

-- {"-"}, {"NOT"}
pub the_minuses : (n : ℕ) → Live n minuses (λ d xs. Each (SignAt kind.Minus) xs) (Sort.sign kind.Minus ∷ []) true (Sort.sign kind.Minus ∷ [])
unfolding minuses compared
the_minuses n = run (signs kind.Minus refl) n

pub the_nots : (n : ℕ) → Live n nots (λ d xs. Each (WordAt (codes "NOT")) xs) (Sort.word (codes "NOT") ∷ []) true (Sort.word (codes "NOT") ∷ [])
unfolding nots
the_nots n = run (words (codes "NOT")) n

-- "(" lit {"," lit} ")" | Text, behind IN; ["NOT"] "NULL", behind IS
abbrev InRest : ℕ → Check → List Lexeme → Type 0
InRest at c ts = ((t : Text) × (c ≡ asks.InText at t) × IsText t ts) ⊎ ((ls : List Lit) × (c ≡ asks.InList at ls) × (Sign kind.Open ⋅ Commas IsLit ls ⋅ Sign kind.Close) ts)

abbrev NullRest : ℕ → Check → List Lexeme → Type 0
NullRest at c ts = ((c ≡ asks.IsNotNull at) × (Word (codes "NOT") ⋅ Word (codes "NULL")) ts) ⊎ ((c ≡ asks.IsNull at) × Word (codes "NULL") ts)

abbrev InForm : ℕ → Rule Check
InForm at =
    Or (Image (asks.InText at) (Token TextQ))
    (Then (Token (SignQ kind.Open)) (λ o. Then (λ d ls. Commas IsLit ls) (λ ls. Image (λ c. asks.InList at ls) (Token (SignQ kind.Close)))))

to_in : (at : ℕ) (d : Bool) (c : Check) (ts : List Lexeme) → InForm at d c ts → InRest at c ts
to_in at d c ts (inl x) = inl x
to_in at d c ts (inr (v1, o1, r1, p1, (t1, e1, s1), (ls, o2, r2, p2, x2, (v3, q, (t3, e3, s3))))) = inr (ls, q, (o1, r1, p1, (t1, e1, s1.0), (o2, r2, p2, x2, (t3, e3, s3.0))))

from_in : (at : ℕ) (d : Bool) (c : Check) (ts : List Lexeme) → InRest at c ts → InForm at d c ts
from_in at d c ts (inl x) = inl x
from_in at d c ts (inr (ls, q, (o1, r1, p1, (t1, e1, s1), (o2, r2, p2, x2, (t3, e3, s3))))) =
    inr (t1.at, o1, r1, p1, (t1, e1, (s1, refl)), (ls, o2, r2, p2, x2, (t3.at, q, (t3, e3, (s3, refl)))))

in_rest : (n : ℕ) (at : ℕ) → Live n (among at) (λ d. InRest at) (Sort.sign kind.Text ∷ Sort.sign kind.Open ∷ []) false []
unfolding among compared
in_rest n at =
    form (to_in at) (from_in at)
    (choice (sees kind.Text) (sees_none kind.Text) (sees_some kind.Text) (mapped (asks.InText at) (a_text n))
    (seq (a_sign n kind.Open refl) (λ o. seq (the_lits n) (λ ls. mapped (λ c. asks.InList at ls) (a_sign n kind.Close refl)) refl) refl) refl)

null_rest : (n : ℕ) (at : ℕ) → Live n (null_check at) (λ d. NullRest at) (Sort.word (codes "NOT") ∷ Sort.word (codes "NULL") ∷ []) false []
unfolding null_check compared
null_rest n at =
    form (λ d c ts h. to d c ts h) (λ d c ts h. from d c ts h)
    (or (words (codes "NOT")) (λ a. mapped (λ b. asks.IsNotNull at) (a_word n (codes "NULL"))) (mapped (λ b. asks.IsNull at) (a_word n (codes "NULL"))) refl) where
      to : (d : Bool) (c : Check) (ts : List Lexeme)
          → Or (Then (Token (WordQ (codes "NOT"))) (λ a. Image (λ b. asks.IsNotNull at) (Token (WordQ (codes "NULL"))))) (Image (λ b. asks.IsNull at) (Token (WordQ (codes "NULL")))) d c ts → NullRest at c ts
      to d c ts (inl (a, o, r, p, (t, e, s), (b, q, (t2, e2, s2)))) = inl (q, (o, r, p, (t, e, s.0), (t2, e2, s2.0)))
      to d c ts (inr (b, q, (t, e, s))) = inr (q, (t, e, s.0))

      from : (d : Bool) (c : Check) (ts : List Lexeme) → NullRest at c ts
          → Or (Then (Token (WordQ (codes "NOT"))) (λ a. Image (λ b. asks.IsNotNull at) (Token (WordQ (codes "NULL"))))) (Image (λ b. asks.IsNull at) (Token (WordQ (codes "NULL")))) d c ts
      from d c ts (inl (q, (o, r, p, (t, e, s), (t2, e2, s2)))) = inl (t.at, o, r, p, (t, e, (s, refl)), (t2.at, q, (t2, e2, (s2, refl))))
      from d c ts (inr (q, (t, e, s))) = inr (t.at, q, (t, e, (s, refl)))

-- the rules, over what reads an expression in brackets
module _ (inner : List Lexeme → Read Expr) (I : Rule Expr) (e : (n : ℕ) → Exact n inner I expr_first false expr_last) where
  -- expr ")"
  abbrev BracketForm : Rule Prime
  BracketForm = Then I (λ x. Image (λ c. is.Bracket x) (Token (SignQ kind.Close)))

  bracket_exact : (n : ℕ) → Exact n (bracket inner) BracketForm expr_first false []
  unfolding bracket compared
  bracket_exact n = seq_exact (e n) (λ x. (mapped (λ c. is.Bracket x) (a_sign n kind.Close refl)).exactly) (λ x. (mapped (λ c. is.Bracket x) (a_sign n kind.Close refl)).alive) refl

  abbrev PrimeForm : Rule Prime
  PrimeForm =
      Or (Image is.Number (Token NumberQ)) (Or (Image is.Text (Token TextQ)) (Or (Image is.True (Token (WordQ (codes "TRUE"))))
      (Or (Image is.False (Token (WordQ (codes "FALSE")))) (Or (Image is.Null (Token (WordQ (codes "NULL"))))
      (Or (Then (Token (SignQ kind.Open)) (λ at. BracketForm)) (Image is.Column (λ d. IsColumn)))))))

  to_prime : (d : Bool) (c : Prime) (ts : List Lexeme) → PrimeForm d c ts → IsPrime (I d) c ts
  to_prime d c ts (inl (n, q, x)) = subst (λ z. IsPrime (I d) z ts) (sym q) (IsPrime.number n ts x)
  to_prime d c ts (inr (inl (t, q, x))) = subst (λ z. IsPrime (I d) z ts) (sym q) (IsPrime.text t ts x)
  to_prime d c ts (inr (inr (inl (at, q, x)))) = subst (λ z. IsPrime (I d) z ts) (sym q) (IsPrime.true_word at ts x)
  to_prime d c ts (inr (inr (inr (inl (at, q, x))))) = subst (λ z. IsPrime (I d) z ts) (sym q) (IsPrime.false_word at ts x)
  to_prime d c ts (inr (inr (inr (inr (inl (at, q, x)))))) = subst (λ z. IsPrime (I d) z ts) (sym q) (IsPrime.null_word at ts x)
  to_prime d c ts (inr (inr (inr (inr (inr (inl (at, o, r, p, (t, f, s), (x, o₂, r₂, p₂, y, (b, q, (t₂, f₂, s₂)))))))))) =
      subst (λ z. IsPrime (I d) z ts) (sym q) (IsPrime.bracket x ts (o, r, p, (t, f, s.0), (o₂, r₂, p₂, y, (t₂, f₂, s₂.0))))
  to_prime d c ts (inr (inr (inr (inr (inr (inr (x, q, y))))))) = subst (λ z. IsPrime (I d) z ts) (sym q) (IsPrime.column x ts y)

  from_prime : (d : Bool) (c : Prime) (ts : List Lexeme) → IsPrime (I d) c ts → PrimeForm d c ts
  from_prime d c ts (IsPrime.number n us x) = inl (n, refl, x)
  from_prime d c ts (IsPrime.text t us x) = inr (inl (t, refl, x))
  from_prime d c ts (IsPrime.true_word at us x) = inr (inr (inl (at, refl, x)))
  from_prime d c ts (IsPrime.false_word at us x) = inr (inr (inr (inl (at, refl, x))))
  from_prime d c ts (IsPrime.null_word at us x) = inr (inr (inr (inr (inl (at, refl, x)))))
  from_prime d c ts (IsPrime.column x us y) = inr (inr (inr (inr (inr (inr (x, refl, y))))))
  from_prime d c ts (IsPrime.bracket x us (o, r, p, (t, f, s), (o₂, r₂, p₂, y, (t₂, f₂, s₂)))) =
      inr (inr (inr (inr (inr (inl (t.at, o, r, p, (t, f, (s, refl)), (x, o₂, r₂, p₂, y, (t₂.at, refl, (t₂, f₂, (s₂, refl))))))))))

  pub a_prime : (n : ℕ) → Live n (prime inner) (λ d. IsPrime (I d)) prime_first false dot
  unfolding prime compared
  a_prime n =
      form to_prime from_prime
      (choice (sees kind.Number) (sees_none kind.Number) (sees_some kind.Number) (mapped is.Number (a_number n))
      (choice (sees kind.Text) (sees_none kind.Text) (sees_some kind.Text) (mapped is.Text (a_text n))
      (or_one (words (codes "TRUE")) is.True (or_one (words (codes "FALSE")) is.False (or_one (words (codes "NULL")) is.Null
      (or_exact (signs kind.Open refl) (λ at. bracket_exact n) (mapped is.Column (a_column n)) refl) refl) refl) refl) refl) refl)

  -- {"-"} prime
  signed_of : List ℕ → Prime → Signed
  signed_of ms x = roll-Signed (record { minuses = ms; prime = x })

  pub a_signed : (n : ℕ) → Live n (signed inner) (λ d. IsSigned (I d)) signed_first false dot
  unfolding signed signed_of compared
  a_signed n =
      form (λ d c ts (ms, o, r, p, x, (y, q, h)). subst (λ z. IsSigned (I d) z ts) (sym q) (IsSigned.signed ms y ts (o, r, p, x, h))) from
      (seq (the_minuses n) (λ ms. mapped (signed_of ms) (a_prime n)) refl) where
        from : (d : Bool) (c : Signed) (ts : List Lexeme) → IsSigned (I d) c ts
            → Then (λ d xs. Each (SignAt kind.Minus) xs) (λ ms. Image (λ x. roll-Signed (record { minuses = ms; prime = x })) (λ d. IsPrime (I d))) d c ts
        from d c ts (IsSigned.signed ms y us (o, r, p, x, h)) = (ms, o, r, p, x, (y, refl, h))

  -- mul_signed
  mul_signed_of : MulOp × ℕ → Signed → MulSigned
  mul_signed_of op x = roll-MulSigned (record { op = op.0; at = op.1; signed = x })

  mul_signed_form : Rule MulSigned
  mul_signed_form = Then (Token MulQ) (λ op. Image (mul_signed_of op) (λ d. IsSigned (I d)))

  to_mul_signed : (d : Bool) (c : MulSigned) (ts : List Lexeme) → mul_signed_form d c ts → IsMulSigned (I d) c ts
  unfolding mul_signed_form mul_signed_of
  to_mul_signed d c ts (op, o, r, p, (t, f, w), (x, q, y)) = subst (λ z. IsMulSigned (I d) z ts) (sym q) (IsMulSigned.multiplied op.0 op.1 x ts (o, r, p, (mul_to op.0 op.1 o (t, f, w)), y))

  from_mul_signed : (d : Bool) (c : MulSigned) (ts : List Lexeme) → IsMulSigned (I d) c ts → mul_signed_form d c ts
  unfolding mul_signed_form mul_signed_of
  from_mul_signed d c ts (IsMulSigned.multiplied op at x us (o, r, p, w, y)) = ((op, at), o, r, p, mul_from op at o w, (x, refl, y))

  pub the_multiplied : (n : ℕ) → Live n (multiplied inner) (λ d xs. Each (IsMulSigned (I d)) xs) (muls) true (dot ++ muls)
  unfolding multiplied mul_signed_form mul_signed_of compared
  the_multiplied n =
      form (λ d xs ts h. each_to (mul_signed_form d) (IsMulSigned (I d)) (to_mul_signed d) xs ts h) (λ d xs ts h. each_to (IsMulSigned (I d)) (mul_signed_form d) (from_mul_signed d) xs ts h)
      (chain mul_ops (λ m op. mapped (mul_signed_of op) (a_signed m)) refl n)

  -- term
  term_of : Signed → List MulSigned → Term
  term_of x y = roll-Term (record { first = x; more = y })

  from_term : (d : Bool) (c : Term) (ts : List Lexeme) → IsTerm (I d) c ts → Then (λ d. IsSigned (I d)) (λ x. Image (term_of x) (λ d. Each (IsMulSigned (I d)))) d c ts
  unfolding term_of
  from_term d c ts (IsTerm.term x y us (o, r, p, a, b)) = (x, o, r, p, a, (y, refl, b))

  pub a_term : (n : ℕ) → Live n (term inner) (λ d. IsTerm (I d)) signed_first false term_last
  unfolding term term_of compared in_lists
  a_term n =
      tidy refl refl (form (λ d c ts (x, o, r, p, a, (y, q, b)). subst (λ z. IsTerm (I d) z ts) (sym q) (IsTerm.term x y ts (o, r, p, a, b))) from_term
      (seq (a_signed n) (λ x. mapped (term_of x) (the_multiplied n)) refl))

  -- add_term
  add_term_of : AddOp × ℕ → Term → AddTerm
  add_term_of op x = roll-AddTerm (record { op = op.0; at = op.1; term = x })

  add_term_form : Rule AddTerm
  add_term_form = Then (Token AddQ) (λ op. Image (add_term_of op) (λ d. IsTerm (I d)))

  to_add_term : (d : Bool) (c : AddTerm) (ts : List Lexeme) → add_term_form d c ts → IsAddTerm (I d) c ts
  unfolding add_term_form add_term_of
  to_add_term d c ts (op, o, r, p, (t, f, w), (x, q, y)) = subst (λ z. IsAddTerm (I d) z ts) (sym q) (IsAddTerm.added op.0 op.1 x ts (o, r, p, (add_to op.0 op.1 o (t, f, w)), y))

  from_add_term : (d : Bool) (c : AddTerm) (ts : List Lexeme) → IsAddTerm (I d) c ts → add_term_form d c ts
  unfolding add_term_form add_term_of
  from_add_term d c ts (IsAddTerm.added op at x us (o, r, p, w, y)) = ((op, at), o, r, p, add_from op at o w, (x, refl, y))

  pub the_added : (n : ℕ) → Live n (added inner) (λ d xs. Each (IsAddTerm (I d)) xs) (adds) true (term_last ++ adds)
  unfolding added add_term_form add_term_of compared
  the_added n =
      form (λ d xs ts h. each_to (add_term_form d) (IsAddTerm (I d)) (to_add_term d) xs ts h) (λ d xs ts h. each_to (IsAddTerm (I d)) (add_term_form d) (from_add_term d) xs ts h)
      (chain add_ops (λ m op. mapped (add_term_of op) (a_term m)) refl n)

  -- plus
  plus_of : Term → List AddTerm → Plus
  plus_of x y = roll-Plus (record { first = x; more = y })

  from_plus : (d : Bool) (c : Plus) (ts : List Lexeme) → IsPlus (I d) c ts → Then (λ d. IsTerm (I d)) (λ x. Image (plus_of x) (λ d. Each (IsAddTerm (I d)))) d c ts
  unfolding plus_of
  from_plus d c ts (IsPlus.plus x y us (o, r, p, a, b)) = (x, o, r, p, a, (y, refl, b))

  pub a_plus : (n : ℕ) → Live n (plus inner) (λ d. IsPlus (I d)) signed_first false plus_last
  unfolding plus plus_of compared in_lists
  a_plus n =
      tidy refl refl (form (λ d c ts (x, o, r, p, a, (y, q, b)). subst (λ z. IsPlus (I d) z ts) (sym q) (IsPlus.plus x y ts (o, r, p, a, b))) from_plus
      (seq (a_term n) (λ x. mapped (plus_of x) (the_added n)) refl))

  -- check
  abbrev CheckForm : Rule Check
  CheckForm =
      Or (Then (Token CmpQ) (λ op. Image (asks.Compare op.0 op.1) (λ d. IsPlus (I d)))) (Or (Then (Token (WordQ (codes "IN"))) (λ at d. InRest at))
      (Or (Then (Token (WordQ (codes "IS"))) (λ at d. NullRest at)) (Just asks.Nothing)))

  to_check : (d : Bool) (c : Check) (ts : List Lexeme) → CheckForm d c ts → IsCheck (I d) c ts
  to_check d c ts (inl (op, o, r, p, (t, f, w), (x, q, y))) = subst (λ z. IsCheck (I d) z ts) (sym q) (IsCheck.compares op.0 op.1 x ts (o, r, p, cmp_to op.0 op.1 o (t, f, w), y))
  to_check d c ts (inr (inl (at, o, r, p, w, inl (t, q, y)))) = subst (λ z. IsCheck (I d) z ts) (sym q) (IsCheck.in_text at t ts (o, r, p, w, y))
  to_check d c ts (inr (inl (at, o, r, p, w, inr (ls, q, y)))) = subst (λ z. IsCheck (I d) z ts) (sym q) (IsCheck.in_list at ls ts (o, r, p, w, y))
  to_check d c ts (inr (inr (inl (at, o, r, p, w, inl (q, y))))) = subst (λ z. IsCheck (I d) z ts) (sym q) (IsCheck.is_not_null at ts (o, r, p, w, y))
  to_check d c ts (inr (inr (inl (at, o, r, p, w, inr (q, y))))) = subst (λ z. IsCheck (I d) z ts) (sym q) (IsCheck.is_null at ts (o, r, p, w, y))
  to_check d c ts (inr (inr (inr (q, f)))) = subst (λ z. IsCheck (I d) z ts) (sym q) (IsCheck.nothing ts f)

  from_check : (d : Bool) (c : Check) (ts : List Lexeme) → IsCheck (I d) c ts → CheckForm d c ts
  from_check d c ts (IsCheck.nothing us f) = inr (inr (inr (refl, f)))
  from_check d c ts (IsCheck.compares op at x us (o, r, p, w, y)) = inl ((op, at), o, r, p, cmp_from op at o w, (x, refl, y))
  from_check d c ts (IsCheck.in_list at ls us (o, r, p, w, y)) = inr (inl (at, o, r, p, w, inr (ls, refl, y)))
  from_check d c ts (IsCheck.in_text at t us (o, r, p, w, y)) = inr (inl (at, o, r, p, w, inl (t, refl, y)))
  from_check d c ts (IsCheck.is_null at us (o, r, p, w, y)) = inr (inr (inl (at, o, r, p, w, inr (refl, y))))
  from_check d c ts (IsCheck.is_not_null at us (o, r, p, w, y)) = inr (inr (inl (at, o, r, p, w, inl (refl, y))))

  pub a_check : (n : ℕ) → Live n (check inner) (λ d. IsCheck (I d)) check_first true test_last
  unfolding check compared in_lists
  a_check n =
      tidy refl refl (form to_check from_check
      (or cmps (λ op. mapped (asks.Compare op.0 op.1) (a_plus n)) (or (words (codes "IN")) (in_rest n) (or (words (codes "IS")) (null_rest n) (just n asks.Nothing) refl) refl) refl))

  -- test
  test_of : Plus → Check → Test
  test_of x y = roll-Test (record { left = x; check = y })

  from_test : (d : Bool) (c : Test) (ts : List Lexeme) → IsTest (I d) c ts → Then (λ d. IsPlus (I d)) (λ x. Image (test_of x) (λ d. IsCheck (I d))) d c ts
  unfolding test_of
  from_test d c ts (IsTest.test x y us (o, r, p, a, b)) = (x, o, r, p, a, (y, refl, b))

  pub a_test : (n : ℕ) → Live n (one_test inner) (λ d. IsTest (I d)) signed_first false test_last
  unfolding one_test test_of compared in_lists
  a_test n =
      tidy refl refl (form (λ d c ts (x, o, r, p, a, (y, q, b)). subst (λ z. IsTest (I d) z ts) (sym q) (IsTest.test x y ts (o, r, p, a, b))) from_test
      (seq (a_plus n) (λ x. mapped (test_of x) (a_check n)) refl))

  -- neg
  neg_of : List ℕ → Test → Neg
  neg_of x y = roll-Neg (record { nots = x; test = y })

  from_neg : (d : Bool) (c : Neg) (ts : List Lexeme) → IsNeg (I d) c ts → Then (λ d. Each (WordAt (codes "NOT"))) (λ x. Image (neg_of x) (λ d. IsTest (I d))) d c ts
  unfolding neg_of
  from_neg d c ts (IsNeg.neg x y us (o, r, p, a, b)) = (x, o, r, p, a, (y, refl, b))

  pub a_neg : (n : ℕ) → Live n (neg inner) (λ d. IsNeg (I d)) expr_first false test_last
  unfolding neg neg_of compared in_lists
  a_neg n =
      tidy refl refl (form (λ d c ts (x, o, r, p, a, (y, q, b)). subst (λ z. IsNeg (I d) z ts) (sym q) (IsNeg.neg x y ts (o, r, p, a, b))) from_neg
      (seq (the_nots n) (λ x. mapped (neg_of x) (a_test n)) refl))

  -- and_neg
  and_neg_of : ℕ → Neg → AndNeg
  and_neg_of op x = roll-AndNeg (record { at = op; neg = x })

  and_neg_form : Rule AndNeg
  and_neg_form = Then (Token (WordQ (codes "AND"))) (λ op. Image (and_neg_of op) (λ d. IsNeg (I d)))

  to_and_neg : (d : Bool) (c : AndNeg) (ts : List Lexeme) → and_neg_form d c ts → IsAndNeg (I d) c ts
  unfolding and_neg_form and_neg_of
  to_and_neg d c ts (op, o, r, p, (t, f, w), (x, q, y)) = subst (λ z. IsAndNeg (I d) z ts) (sym q) (IsAndNeg.and_neg op x ts (o, r, p, (t, f, w), y))

  from_and_neg : (d : Bool) (c : AndNeg) (ts : List Lexeme) → IsAndNeg (I d) c ts → and_neg_form d c ts
  unfolding and_neg_form and_neg_of
  from_and_neg d c ts (IsAndNeg.and_neg at x us (o, r, p, w, y)) = (at, o, r, p, w, (x, refl, y))

  pub the_ands : (n : ℕ) → Live n (ands inner) (λ d xs. Each (IsAndNeg (I d)) xs) (Sort.word (codes "AND") ∷ []) true (test_last ++ Sort.word (codes "AND") ∷ [])
  unfolding ands and_neg_form and_neg_of compared
  the_ands n =
      form (λ d xs ts h. each_to (and_neg_form d) (IsAndNeg (I d)) (to_and_neg d) xs ts h) (λ d xs ts h. each_to (IsAndNeg (I d)) (and_neg_form d) (from_and_neg d) xs ts h)
      (chain (words (codes "AND")) (λ m op. mapped (and_neg_of op) (a_neg m)) refl n)

  -- conj
  conj_of : Neg → List AndNeg → Conj
  conj_of x y = roll-Conj (record { first = x; more = y })

  from_conj : (d : Bool) (c : Conj) (ts : List Lexeme) → IsConj (I d) c ts → Then (λ d. IsNeg (I d)) (λ x. Image (conj_of x) (λ d. Each (IsAndNeg (I d)))) d c ts
  unfolding conj_of
  from_conj d c ts (IsConj.conj x y us (o, r, p, a, b)) = (x, o, r, p, a, (y, refl, b))

  pub a_conj : (n : ℕ) → Live n (conj inner) (λ d. IsConj (I d)) expr_first false conj_last
  unfolding conj conj_of compared in_lists
  a_conj n =
      tidy refl refl (form (λ d c ts (x, o, r, p, a, (y, q, b)). subst (λ z. IsConj (I d) z ts) (sym q) (IsConj.conj x y ts (o, r, p, a, b))) from_conj
      (seq (a_neg n) (λ x. mapped (conj_of x) (the_ands n)) refl))

  -- or_conj
  or_conj_of : ℕ → Conj → OrConj
  or_conj_of op x = roll-OrConj (record { at = op; conj = x })

  or_conj_form : Rule OrConj
  or_conj_form = Then (Token (WordQ (codes "OR"))) (λ op. Image (or_conj_of op) (λ d. IsConj (I d)))

  to_or_conj : (d : Bool) (c : OrConj) (ts : List Lexeme) → or_conj_form d c ts → IsOrConj (I d) c ts
  unfolding or_conj_form or_conj_of
  to_or_conj d c ts (op, o, r, p, (t, f, w), (x, q, y)) = subst (λ z. IsOrConj (I d) z ts) (sym q) (IsOrConj.or_conj op x ts (o, r, p, (t, f, w), y))

  from_or_conj : (d : Bool) (c : OrConj) (ts : List Lexeme) → IsOrConj (I d) c ts → or_conj_form d c ts
  unfolding or_conj_form or_conj_of
  from_or_conj d c ts (IsOrConj.or_conj at x us (o, r, p, w, y)) = (at, o, r, p, w, (x, refl, y))

  pub the_ors : (n : ℕ) → Live n (ors inner) (λ d xs. Each (IsOrConj (I d)) xs) (Sort.word (codes "OR") ∷ []) true (conj_last ++ Sort.word (codes "OR") ∷ [])
  unfolding ors or_conj_form or_conj_of compared
  the_ors n =
      form (λ d xs ts h. each_to (or_conj_form d) (IsOrConj (I d)) (to_or_conj d) xs ts h) (λ d xs ts h. each_to (IsOrConj (I d)) (or_conj_form d) (from_or_conj d) xs ts h)
      (chain (words (codes "OR")) (λ m op. mapped (or_conj_of op) (a_conj m)) refl n)

  -- expr
  expr_of : Conj → List OrConj → Expr
  expr_of x y = roll-Expr (record { first = x; more = y })

  from_expr : (d : Bool) (c : Expr) (ts : List Lexeme) → IsExpr (I d) c ts → Then (λ d. IsConj (I d)) (λ x. Image (expr_of x) (λ d. Each (IsOrConj (I d)))) d c ts
  unfolding expr_of
  from_expr d c ts (IsExpr.expr x y us (o, r, p, a, b)) = (x, o, r, p, a, (y, refl, b))

  pub an_expr : (n : ℕ) → Live n (expr_at inner) (λ d. IsExpr (I d)) expr_first false expr_last
  unfolding expr_at expr_of compared in_lists
  an_expr n =
      tidy refl refl (form (λ d c ts (x, o, r, p, a, (y, q, b)). subst (λ z. IsExpr (I d) z ts) (sym q) (IsExpr.expr x y ts (o, r, p, a, b))) from_expr
      (seq (a_conj n) (λ x. mapped (expr_of x) (the_ors n)) refl))
