-- Sorts of tokens, and which of them share no token.
use Rattle.std.proofs.Common.{◌≡◌, ℕ, Bool, true, false, not, codes, ◌&&◌, ◌||◌, List, [], ◌∷◌, ◌++◌, refl, sym, ap, ◌∙◌, subst, ap₂, inl, inr, ◌⊎◌, if◌then◌else◌, bytes_eq}
use Rattle.std.specs.Str.{str_eq_ignore_ascii_case, str_to_ascii_lowercase}
use Rattle.std.proofs.lemmas.Slice.Eq.{bytes_eq-Decides}
use denote.Enum.Bare.{same_true}
use Rattle.qd_sql_lexer.specs.contracts.token.Kind.{the_type}
use Rattle.qd_sql_lexer.specs.declared.token.Kind.{Kind}
use Rattle.qd_sql_lexer.specs.declared.token.Kind.TheVariants as kind
use Rattle.qd_sql_lexer.specs.Tokens.{Lexeme}
use Rattle.qd_sql_ast.specs.Steps.{same_kind, is_word, is_among, is_reserved, is_name}

pub data Sort : Type 0 where
  sign : Kind → Sort
  word : List ℕ → Sort
  name : Sort

-- a token is of this sort
abbrev pub is_of : Sort → Lexeme → Bool
is_of (sign k) t = same_kind t.kind k
is_of (word w) t = is_word w t
is_of name t = is_name t

abbrev pub is_in : List Sort → Lexeme → Bool
is_in [] t = false
is_in (s ∷ ss) t = is_of s t || is_in ss t

abbrev pub Has : List Sort → Lexeme → Type 0
Has ss t = is_in ss t ≡ true

-- two sorts may share a token
unfoldable pub meet : Sort → Sort → Bool
meet (sign j) (sign k) = same_kind j k
meet (sign j) (word w) = same_kind j kind.Word
meet (sign j) name = same_kind j kind.Word || same_kind j kind.Quoted
meet (word v) (sign k) = same_kind k kind.Word
meet (word v) (word w) = str_eq_ignore_ascii_case v w
meet (word v) name = not (is_reserved v)
meet name (sign k) = same_kind k kind.Word || same_kind k kind.Quoted
meet name (word w) = not (is_reserved w)
meet name name = true

unfoldable pub meets_any : Sort → List Sort → Bool
meets_any s [] = false
meets_any s (r ∷ rs) = meet s r || meets_any s rs

unfoldable pub clash : List Sort → List Sort → Bool
clash [] rs = false
clash (s ∷ ss) rs = meets_any s rs || clash ss rs

pub clash_nil : (ss : List Sort) → clash ss [] ≡ false
unfolding clash meets_any
clash_nil [] = refl
clash_nil (s ∷ ss) = clash_nil ss

-- tests on truth values
or_cases : (a b : Bool) → (a || b) ≡ true → (a ≡ true) ⊎ (b ≡ true)
or_cases true b e = inl refl
or_cases false b e = inr e

pub not_both : (b : Bool) → b ≡ true → b ≡ false → ⊥
not_both b p q = absurd (cc)

pub or_left : (a b : Bool) → a ≡ true → (a || b) ≡ true
or_left true b e = refl
or_left false b e = absurd (cc)

pub or_right : (a b : Bool) → b ≡ true → (a || b) ≡ true
or_right true b e = refl
or_right false b e = e

or_false : (a b : Bool) → (a || b) ≡ false → (a ≡ false) × (b ≡ false)
or_false true b e = absurd (cc)
or_false false b e = (refl, e)

and_cases : (a b : Bool) → (a && b) ≡ true → (a ≡ true) × (b ≡ true)
and_cases true b e = (refl, e)
and_cases false b e = absurd (cc)

-- of a list of sorts
pub in_append : (ss rs : List Sort) (t : Lexeme) → Has (ss ++ rs) t → Has ss t ⊎ Has rs t
in_append [] rs t h = inr h
in_append (s ∷ ss) rs t h = from (λ x. in_append ss rs t x) (or_cases (is_of s t) (is_in (ss ++ rs) t) h) where
  later : Has ss t ⊎ Has rs t → Has (s ∷ ss) t ⊎ Has rs t
  later (inl x) = inl (or_right (is_of s t) (is_in ss t) x)
  later (inr x) = inr x

  from : (Has (ss ++ rs) t → Has ss t ⊎ Has rs t) → (is_of s t ≡ true) ⊎ Has (ss ++ rs) t → Has (s ∷ ss) t ⊎ Has rs t
  from among (inl x) = inl (or_left (is_of s t) (is_in ss t) x)
  from among (inr x) = later (among x)

pub in_left : (ss rs : List Sort) (t : Lexeme) → Has ss t → Has (ss ++ rs) t
in_left [] rs t h = absurd (cc)
in_left (s ∷ ss) rs t h = from (λ x. in_left ss rs t x) (or_cases (is_of s t) (is_in ss t) h) where
  from : (Has ss t → Has (ss ++ rs) t) → (is_of s t ≡ true) ⊎ Has ss t → Has (s ∷ (ss ++ rs)) t
  from among (inl x) = or_left (is_of s t) (is_in (ss ++ rs) t) x
  from among (inr x) = or_right (is_of s t) (is_in (ss ++ rs) t) (among x)

pub in_right : (ss rs : List Sort) (t : Lexeme) → Has rs t → Has (ss ++ rs) t
in_right [] rs t h = h
in_right (s ∷ ss) rs t h = or_right (is_of s t) (is_in (ss ++ rs) t) (in_right ss rs t h)

-- kinds
pub kind_is : (j k : Kind) → same_kind j k ≡ true → j ≡ k
unfolding same_kind
kind_is j k e = same_true the_type tt j k e

-- words, without case
same_words : (content v : List ℕ) → str_eq_ignore_ascii_case content v ≡ true → str_to_ascii_lowercase content ≡ str_to_ascii_lowercase v
same_words content v e = (bytes_eq-Decides (str_to_ascii_lowercase content) (str_to_ascii_lowercase v)).0 e

words_meet : (content v w : List ℕ) → str_eq_ignore_ascii_case content v ≡ true → str_eq_ignore_ascii_case content w ≡ true → str_eq_ignore_ascii_case v w ≡ true
words_meet content v w p q = (bytes_eq-Decides (str_to_ascii_lowercase v) (str_to_ascii_lowercase w)).1 (sym (same_words content v p) ∙ same_words content w q)

among_same : (ws : List (List ℕ)) (content v : List ℕ) → str_to_ascii_lowercase content ≡ str_to_ascii_lowercase v → is_among ws content ≡ is_among ws v
among_same [] content v e = refl
among_same (w ∷ ws) content v e = ap₂ (λ a b. if bytes_eq a (str_to_ascii_lowercase w) then true else b) e (among_same ws content v e)

abbrev reserved_words : List (List ℕ)
reserved_words =
    codes "ALIGN" ∷ codes "AND" ∷ codes "AS" ∷ codes "ASC" ∷ codes "ASOF" ∷ codes "BY" ∷ codes "CREATE" ∷ codes "DESC" ∷ codes "FALSE" ∷ codes "FILL" ∷ codes "FROM" ∷ codes "IN" ∷ codes "INSERT" ∷ codes "INTO" ∷ codes "IS" ∷ codes "JOIN" ∷ codes "LATEST" ∷ codes "LIMIT" ∷ codes "LT" ∷ codes "NOT" ∷ codes "NULL" ∷ codes "ON" ∷ codes "OR" ∷ codes "ORDER" ∷ codes "PARTITION" ∷ codes "SAMPLE" ∷ codes "SELECT" ∷ codes "SHOW" ∷ codes "TABLE" ∷ codes "TRUE" ∷ codes "VALUES" ∷ codes "WHERE" ∷ []

reserved_same : (content v : List ℕ) → str_eq_ignore_ascii_case content v ≡ true → is_reserved content ≡ is_reserved v
unfolding is_reserved
reserved_same content v e = among_same reserved_words content v (same_words content v e)

-- a token of a kind
kind_word : (w : List ℕ) (t : Lexeme) → is_word w t ≡ true → (same_kind t.kind kind.Word ≡ true) × (str_eq_ignore_ascii_case t.content w ≡ true)
unfolding is_word
kind_word w t e = and_cases (same_kind t.kind kind.Word) (str_eq_ignore_ascii_case t.content w) e

kind_name : (t : Lexeme) → is_name t ≡ true → (same_kind t.kind kind.Quoted ≡ true) ⊎ (same_kind t.kind kind.Word ≡ true) × (not (is_reserved t.content) ≡ true)
unfolding is_name
kind_name t e = from (or_cases (same_kind t.kind kind.Quoted) (same_kind t.kind kind.Word && not (is_reserved t.content)) e) where
  from : (same_kind t.kind kind.Quoted ≡ true) ⊎ ((same_kind t.kind kind.Word && not (is_reserved t.content)) ≡ true)
      → (same_kind t.kind kind.Quoted ≡ true) ⊎ (same_kind t.kind kind.Word ≡ true) × (not (is_reserved t.content) ≡ true)
  from (inl x) = inl x
  from (inr x) = inr (and_cases (same_kind t.kind kind.Word) (not (is_reserved t.content)) x)

-- two kinds of one token
kinds_meet : (j k : Kind) (t : Lexeme) → same_kind t.kind j ≡ true → same_kind t.kind k ≡ true → same_kind j k ≡ true
kinds_meet j k t p q = subst (λ z. same_kind z k ≡ true) (kind_is t.kind j p) q

no_quoted_word : (t : Lexeme) → same_kind t.kind kind.Word ≡ true → same_kind t.kind kind.Quoted ≡ true → ⊥
unfolding same_kind
no_quoted_word t p q = let e = kinds_meet kind.Word kind.Quoted t p q in absurd (cc)

-- a token that is of two sorts makes them meet
sign_name : (j : Kind) (t : Lexeme) → same_kind t.kind j ≡ true → is_name t ≡ true → (same_kind j kind.Word || same_kind j kind.Quoted) ≡ true
sign_name j t p q = from (kind_name t q) where
  from : (same_kind t.kind kind.Quoted ≡ true) ⊎ (same_kind t.kind kind.Word ≡ true) × (not (is_reserved t.content) ≡ true) → (same_kind j kind.Word || same_kind j kind.Quoted) ≡ true
  from (inl x) = or_right (same_kind j kind.Word) (same_kind j kind.Quoted) (kinds_meet j kind.Quoted t p x)
  from (inr x) = or_left (same_kind j kind.Word) (same_kind j kind.Quoted) (kinds_meet j kind.Word t p x.0)

word_name : (v : List ℕ) (t : Lexeme) → is_word v t ≡ true → is_name t ≡ true → not (is_reserved v) ≡ true
word_name v t p q = from (kind_name t q) where
  from : (same_kind t.kind kind.Quoted ≡ true) ⊎ (same_kind t.kind kind.Word ≡ true) × (not (is_reserved t.content) ≡ true) → not (is_reserved v) ≡ true
  from (inl x) = absurd (no_quoted_word t (kind_word v t p).0 x)
  from (inr x) = ap not (sym (reserved_same t.content v (kind_word v t p).1)) ∙ x.1

pub meets : (s r : Sort) (t : Lexeme) → is_of s t ≡ true → is_of r t ≡ true → meet s r ≡ true
unfolding meet
meets (sign j) (sign k) t p q = kinds_meet j k t p q
meets (sign j) (word w) t p q = kinds_meet j kind.Word t p (kind_word w t q).0
meets (sign j) name t p q = sign_name j t p q
meets (word v) (sign k) t p q = kinds_meet k kind.Word t q (kind_word v t p).0
meets (word v) (word w) t p q = words_meet t.content v w (kind_word v t p).1 (kind_word w t q).1
meets (word v) name t p q = word_name v t p q
meets name (sign k) t p q = sign_name k t q p
meets name (word w) t p q = word_name w t q p
meets name name t p q = refl

-- a word that isn't reserved is a name
pub word_is_name : (w : List ℕ) (t : Lexeme) → is_reserved w ≡ false → is_word w t ≡ true → is_name t ≡ true
unfolding is_name
word_is_name w t free e =
    let k = kind_word w t e in
    or_right (same_kind t.kind kind.Quoted) (same_kind t.kind kind.Word && not (is_reserved t.content))
    (ap₂ (λ a b. a && not b) k.0 (reserved_same t.content w k.1 ∙ free))

meets_in : (s : Sort) (rs : List Sort) (t : Lexeme) → is_of s t ≡ true → Has rs t → meets_any s rs ≡ true
unfolding meets_any
meets_in s [] t p q = absurd (cc)
meets_in s (r ∷ rs) t p q = from (λ x. meets_in s rs t p x) (or_cases (is_of r t) (is_in rs t) q) where
  from : (Has rs t → meets_any s rs ≡ true) → (is_of r t ≡ true) ⊎ Has rs t → (meet s r || meets_any s rs) ≡ true
  from among (inl x) = or_left (meet s r) (meets_any s rs) (meets s r t p x)
  from among (inr x) = or_right (meet s r) (meets_any s rs) (among x)

-- sorts that don't clash share no token
pub apart : (ss rs : List Sort) → clash ss rs ≡ false → (t : Lexeme) → Has ss t → Has rs t → ⊥
unfolding clash
apart [] rs e t p q = absurd (cc)
apart (s ∷ ss) rs e t p q = from (λ x. apart ss rs (or_false (meets_any s rs) (clash ss rs) e).1 t x q) (or_cases (is_of s t) (is_in ss t) p) where
  from : (Has ss t → ⊥) → (is_of s t ≡ true) ⊎ Has ss t → ⊥
  from among (inl x) = let h = meets_in s rs t x q in let k = (or_false (meets_any s rs) (clash ss rs) e).0 in absurd (cc)
  from among (inr x) = among x

-- what is opened where sorts are compared
unfoldable pub compared : Unit {0}
unfolding clash meets_any meet same_kind is_reserved
compared = tt

-- each sort of a list is in another
abbrev same_sort : Sort → Sort → Bool
same_sort (sign j) (sign k) = same_kind j k
same_sort (word v) (word w) = bytes_eq v w
same_sort name name = true
same_sort s r = false

abbrev found_in : Sort → List Sort → Bool
found_in s [] = false
found_in s (r ∷ rs) = same_sort s r || found_in s rs

unfoldable pub within : List Sort → List Sort → Bool
within [] rs = true
within (s ∷ ss) rs = found_in s rs && within ss rs

sort_is : (s r : Sort) (t : Lexeme) → same_sort s r ≡ true → is_of s t ≡ true → is_of r t ≡ true
sort_is (sign j) (sign k) t e p = subst (λ z. same_kind t.kind z ≡ true) (kind_is j k e) p
sort_is (sign j) (word w) t e p = absurd (cc)
sort_is (sign j) name t e p = absurd (cc)
sort_is (word v) (sign k) t e p = absurd (cc)
sort_is (word v) (word w) t e p = subst (λ z. is_word z t ≡ true) ((bytes_eq-Decides v w).0 e) p
sort_is (word v) name t e p = absurd (cc)
sort_is name (sign k) t e p = absurd (cc)
sort_is name (word w) t e p = absurd (cc)
sort_is name name t e p = p

found : (s : Sort) (rs : List Sort) (t : Lexeme) → found_in s rs ≡ true → is_of s t ≡ true → Has rs t
found s [] t e p = absurd (cc)
found s (r ∷ rs) t e p = from (λ x. found s rs t x p) (or_cases (same_sort s r) (found_in s rs) e) where
  from : (found_in s rs ≡ true → Has rs t) → (same_sort s r ≡ true) ⊎ (found_in s rs ≡ true) → Has (r ∷ rs) t
  from among (inl x) = or_left (is_of r t) (is_in rs t) (sort_is s r t x p)
  from among (inr x) = or_right (is_of r t) (is_in rs t) (among x)

pub widened : (ss rs : List Sort) → within ss rs ≡ true → (t : Lexeme) → Has ss t → Has rs t
unfolding within
widened [] rs e t p = absurd (cc)
widened (s ∷ ss) rs e t p = from (λ x. widened ss rs (and_cases (found_in s rs) (within ss rs) e).1 t x) (or_cases (is_of s t) (is_in ss t) p) where
  from : (Has ss t → Has rs t) → (is_of s t ≡ true) ⊎ Has ss t → Has rs t
  from among (inl x) = found s rs t (and_cases (found_in s rs) (within ss rs) e).0 x
  from among (inr x) = among x

-- what is opened where lists of sorts are compared
unfoldable pub in_lists : Unit {0}
unfolding within same_kind
in_lists = tt

-- tokens that are no bad ones
abbrev pub Good : Lexeme → Type 0
Good t = same_kind t.kind kind.Bad ≡ false

abbrev pub AllGood : List Lexeme → Type 0
AllGood [] = Unit {0}
AllGood (t ∷ ts) = Good t × AllGood ts

pub all_good : (one two : List Lexeme) → AllGood one → AllGood two → AllGood (one ++ two)
all_good [] two p q = q
all_good (t ∷ one) two p q = (p.0, all_good one two p.1 q)

pub join_good : (ts one two : List Lexeme) → ts ≡ one ++ two → AllGood one → AllGood two → AllGood ts
join_good ts one two e p q = subst AllGood (sym e) (all_good one two p q)

pub sign_good : (k : Kind) → same_kind k kind.Bad ≡ false → (t : Lexeme) → same_kind t.kind k ≡ true → Good t
sign_good k h t p = subst (λ z. same_kind z kind.Bad ≡ false) (sym (kind_is t.kind k p)) h

pub word_good : (w : List ℕ) (t : Lexeme) → is_word w t ≡ true → Good t
unfolding same_kind
word_good w t p = sign_good kind.Word refl t (kind_word w t p).0

pub name_good : (t : Lexeme) → is_name t ≡ true → Good t
unfolding same_kind
name_good t p = from (kind_name t p) where
  from : (same_kind t.kind kind.Quoted ≡ true) ⊎ (same_kind t.kind kind.Word ≡ true) × (not (is_reserved t.content) ≡ true) → Good t
  from (inl x) = sign_good kind.Quoted refl t x
  from (inr x) = sign_good kind.Word refl t x.0
