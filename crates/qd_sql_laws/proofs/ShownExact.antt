-- What a query shows is read exactly.
use Rattle.std.proofs.Common.{◌≡◌, ℕ, ◌+◌, Bool, true, false, List, [], ◌∷◌, ◌++◌, Option, Some, None, Ok, refl, sym, ap, ◌∙◌, subst, inl, inr, codes}
use Rattle.qd_sql_lexer.specs.declared.token.Kind.TheVariants as kind
use Rattle.qd_sql_lexer.specs.Tokens.{Lexeme}
use Rattle.qd_base.specs.declared.limits.TheConstants.{MAX_NESTING}
use Rattle.qd_sql_ast.specs.declared.tree.AggOf.{AggOf}
use Rattle.qd_sql_ast.specs.declared.tree.AggOf.TheVariants as agg
use Rattle.qd_sql_ast.specs.declared.tree.Expr.{Expr}
use Rattle.qd_sql_ast.specs.declared.tree.Item.{Item}
use Rattle.qd_sql_ast.specs.declared.tree.Name.{Name}
use Rattle.qd_sql_ast.specs.declared.tree.Selected.{Selected}
use Rattle.qd_sql_ast.specs.declared.tree.Selected.TheVariants as select
use Rattle.qd_sql_ast.specs.declared.tree.Shown.{Shown}
use Rattle.qd_sql_ast.specs.declared.tree.Shown.TheVariants as shows
use Rattle.qd_sql_ast.specs.Steps.{Read, ◌>>=◌, if_taken, call, same_kind, is_word, is_reserved}
use Rattle.qd_sql.specs.Queries.{whole, count, agg_of, aggregate, shown, item, items, select_items, selected}
use Rattle.qd_sql_laws.specs.Parts.{◌⋅◌, Optional, Commas, Word}
use Rattle.qd_sql_laws.specs.QueryRules.{IsShown, IsItem, IsItems}
use Rattle.qd_sql_laws.proofs.Sorts.{Sort, clash, apart, compared, in_lists, or_left, word_is_name}
use Rattle.qd_sql_laws.proofs.Judging.{heads, Rule}
use Rattle.qd_sql_laws.proofs.Combining.{Then, Or, Just, Token}
use Rattle.qd_sql_laws.proofs.Tokens.{SignQ, WordQ, signs, words}
use Rattle.qd_sql_laws.proofs.Repeating.{comma}
use Rattle.qd_sql_laws.proofs.Living.{Live, Image, mapped, form, same, tidy, just, seq, or, or_one, commas, a_sign, a_word}
use Rattle.qd_sql_laws.proofs.ExprExact.{expr_first, expr_last}
use Rattle.qd_sql_laws.proofs.Depth.{a_whole}
use Rattle.qd_sql_laws.proofs.Seconds.{second_deep, lone_nests}
use Rattle.qd_sql_laws.proofs.Pairing.{open_bracket, Call, or_call}
use Rattle.qd_sql_laws.proofs.QueryExact.{Inner, a_named}

-- ["*"] ")", behind count and its bracket
abbrev CountForm : ℕ → Rule Shown
CountForm at = Or (Then (Token (SignQ kind.Star)) (λ s. Image (λ c. shows.Count at) (Token (SignQ kind.Close)))) (Image (λ c. shows.Count at) (Token (SignQ kind.Close)))

a_count : (n : ℕ) (at : ℕ) → Live n (count at) (CountForm at) (Sort.sign kind.Star ∷ Sort.sign kind.Close ∷ []) false []
unfolding count compared
a_count n at = or (signs kind.Star refl) (λ s. mapped (λ c. shows.Count at) (a_sign n kind.Close refl)) (mapped (λ c. shows.Count at) (a_sign n kind.Close refl)) refl

-- expr ")", behind another aggregate and its bracket
abbrev AggForm : AggOf → ℕ → Rule Shown
AggForm of at = Then Inner (λ e. Image (λ c. shows.Agg of at e) (Token (SignQ kind.Close)))

an_agg : (n : ℕ) (of : AggOf) (at : ℕ) → Live n (aggregate of at) (AggForm of at) expr_first false []
unfolding aggregate compared
an_agg n of at = seq (a_whole n) (λ e. mapped (λ c. shows.Agg of at e) (a_sign n kind.Close refl)) refl

-- a call of another word
other_call : (w v : List ℕ) → clash (Sort.word w ∷ []) (Sort.word v ∷ []) ≡ false → (G : ℕ → Rule Shown) (d : Bool) (c : Shown) (t : Lexeme) (ts : List Lexeme)
    → is_word w t ≡ true → Call v G d c (t ∷ ts) → ⊥
other_call w v unlike G d c t ts is (at, o, r, p, (u, e, (s, q)), h) =
    apart (Sort.word w ∷ []) (Sort.word v ∷ []) unlike t (or_left (is_word w t) false is)
    (or_left (is_word v t) false (subst (λ z. is_word v z ≡ true) (heads t u ts r (p ∙ ap (λ z. z ++ r) e)) s))

-- the rules behind each word
abbrev ExprForm : Rule Shown
ExprForm = Image shows.Expr Inner

abbrev LastForm : Rule Shown
LastForm = Or (Call (codes "last") (AggForm agg.Last)) ExprForm

abbrev FirstForm : Rule Shown
FirstForm = Or (Call (codes "first") (AggForm agg.First)) LastForm

abbrev MaxForm : Rule Shown
MaxForm = Or (Call (codes "max") (AggForm agg.Max)) FirstForm

abbrev MinForm : Rule Shown
MinForm = Or (Call (codes "min") (AggForm agg.Min)) MaxForm

abbrev SumForm : Rule Shown
SumForm = Or (Call (codes "sum") (AggForm agg.Sum)) MinForm

abbrev ShownForm : Rule Shown
ShownForm = Or (Call (codes "count") CountForm) SumForm

is_free : (w : List ℕ) (t : Lexeme) → is_reserved w ≡ false → is_word w t ≡ true → (x : Shown) × ExprForm false x (t ∷ [])
is_free w t free is = let e = lone_nests MAX_NESTING t (word_is_name w t free is) in (shows.Expr e.0, (e.0, refl, e.1))

second_expr : (w : List ℕ) → is_reserved w ≡ false → (d : Bool) (c : Shown) (t u : Lexeme) (ts : List Lexeme) → is_word w t ≡ true → same_kind u.kind kind.Open ≡ true → ExprForm d c (t ∷ u ∷ ts) → ⊥
second_expr w free d c t u ts is opens (e, q, x) = second_deep t u (word_is_name w t free is) opens (MAX_NESTING + 1) d e (t ∷ u ∷ ts) ts x refl

two_last : (w : List ℕ) → is_reserved w ≡ false → clash (Sort.word w ∷ []) (Sort.word (codes "last") ∷ []) ≡ false → (d : Bool) (c : Shown) (t u : Lexeme) (ts : List Lexeme) → is_word w t ≡ true → same_kind u.kind kind.Open ≡ true → LastForm d c (t ∷ u ∷ ts) → ⊥
two_last w free u0 d c t u ts is opens (inl x) = other_call w (codes "last") u0 (AggForm agg.Last) d c t (u ∷ ts) is x
two_last w free u0 d c t u ts is opens (inr x) = second_expr w free d c t u ts is opens x

two_first : (w : List ℕ) → is_reserved w ≡ false → clash (Sort.word w ∷ []) (Sort.word (codes "last") ∷ []) ≡ false → clash (Sort.word w ∷ []) (Sort.word (codes "first") ∷ []) ≡ false → (d : Bool) (c : Shown) (t u : Lexeme) (ts : List Lexeme) → is_word w t ≡ true → same_kind u.kind kind.Open ≡ true → FirstForm d c (t ∷ u ∷ ts) → ⊥
two_first w free u0 u1 d c t u ts is opens (inl x) = other_call w (codes "first") u1 (AggForm agg.First) d c t (u ∷ ts) is x
two_first w free u0 u1 d c t u ts is opens (inr x) = two_last w free u0 d c t u ts is opens x

two_max : (w : List ℕ) → is_reserved w ≡ false → clash (Sort.word w ∷ []) (Sort.word (codes "last") ∷ []) ≡ false → clash (Sort.word w ∷ []) (Sort.word (codes "first") ∷ []) ≡ false → clash (Sort.word w ∷ []) (Sort.word (codes "max") ∷ []) ≡ false → (d : Bool) (c : Shown) (t u : Lexeme) (ts : List Lexeme) → is_word w t ≡ true → same_kind u.kind kind.Open ≡ true → MaxForm d c (t ∷ u ∷ ts) → ⊥
two_max w free u0 u1 u2 d c t u ts is opens (inl x) = other_call w (codes "max") u2 (AggForm agg.Max) d c t (u ∷ ts) is x
two_max w free u0 u1 u2 d c t u ts is opens (inr x) = two_first w free u0 u1 d c t u ts is opens x

two_min : (w : List ℕ) → is_reserved w ≡ false → clash (Sort.word w ∷ []) (Sort.word (codes "last") ∷ []) ≡ false → clash (Sort.word w ∷ []) (Sort.word (codes "first") ∷ []) ≡ false → clash (Sort.word w ∷ []) (Sort.word (codes "max") ∷ []) ≡ false → clash (Sort.word w ∷ []) (Sort.word (codes "min") ∷ []) ≡ false → (d : Bool) (c : Shown) (t u : Lexeme) (ts : List Lexeme) → is_word w t ≡ true → same_kind u.kind kind.Open ≡ true → MinForm d c (t ∷ u ∷ ts) → ⊥
two_min w free u0 u1 u2 u3 d c t u ts is opens (inl x) = other_call w (codes "min") u3 (AggForm agg.Min) d c t (u ∷ ts) is x
two_min w free u0 u1 u2 u3 d c t u ts is opens (inr x) = two_max w free u0 u1 u2 d c t u ts is opens x

two_sum : (w : List ℕ) → is_reserved w ≡ false → clash (Sort.word w ∷ []) (Sort.word (codes "last") ∷ []) ≡ false → clash (Sort.word w ∷ []) (Sort.word (codes "first") ∷ []) ≡ false → clash (Sort.word w ∷ []) (Sort.word (codes "max") ∷ []) ≡ false → clash (Sort.word w ∷ []) (Sort.word (codes "min") ∷ []) ≡ false → clash (Sort.word w ∷ []) (Sort.word (codes "sum") ∷ []) ≡ false → (d : Bool) (c : Shown) (t u : Lexeme) (ts : List Lexeme) → is_word w t ≡ true → same_kind u.kind kind.Open ≡ true → SumForm d c (t ∷ u ∷ ts) → ⊥
two_sum w free u0 u1 u2 u3 u4 d c t u ts is opens (inl x) = other_call w (codes "sum") u4 (AggForm agg.Sum) d c t (u ∷ ts) is x
two_sum w free u0 u1 u2 u3 u4 d c t u ts is opens (inr x) = two_min w free u0 u1 u2 u3 d c t u ts is opens x

-- agg | expr, each word in turn
pull : (o : Option (ℕ × List Lexeme)) (of : AggOf) (other : Option ((AggOf × ℕ) × List Lexeme)) (rest : Read Shown)
    → if_taken (if_taken {B = Option ((AggOf × ℕ) × List Lexeme)} o (λ x. Some ((of, x.0), x.1)) other) (λ x. aggregate x.0.0 x.0.1 x.1) rest
    ≡ if_taken o (λ x. aggregate of x.0 x.1) (if_taken other (λ x. aggregate x.0.0 x.0.1 x.1) rest)
pull None of other rest = refl
pull (Some x) of other rest = refl

pulled : (ts : List Lexeme) (rest : Read Shown)
    → if_taken (if_taken {B = Option ((AggOf × ℕ) × List Lexeme)} (call (codes "sum") ts) (λ x. Some ((agg.Sum, x.0), x.1)) (if_taken {B = Option ((AggOf × ℕ) × List Lexeme)} (call (codes "min") ts) (λ x. Some ((agg.Min, x.0), x.1)) (if_taken {B = Option ((AggOf × ℕ) × List Lexeme)} (call (codes "max") ts) (λ x. Some ((agg.Max, x.0), x.1)) (if_taken {B = Option ((AggOf × ℕ) × List Lexeme)} (call (codes "first") ts) (λ x. Some ((agg.First, x.0), x.1)) (if_taken {B = Option ((AggOf × ℕ) × List Lexeme)} (call (codes "last") ts) (λ x. Some ((agg.Last, x.0), x.1)) None))))) (λ x. aggregate x.0.0 x.0.1 x.1) rest
    ≡ (if_taken {B = Read Shown} (call (codes "sum") ts) (λ x. aggregate agg.Sum x.0 x.1) (if_taken {B = Read Shown} (call (codes "min") ts) (λ x. aggregate agg.Min x.0 x.1) (if_taken {B = Read Shown} (call (codes "max") ts) (λ x. aggregate agg.Max x.0 x.1) (if_taken {B = Read Shown} (call (codes "first") ts) (λ x. aggregate agg.First x.0 x.1) (if_taken {B = Read Shown} (call (codes "last") ts) (λ x. aggregate agg.Last x.0 x.1) rest)))))
pulled ts rest = pull (call (codes "sum") ts) agg.Sum (if_taken {B = Option ((AggOf × ℕ) × List Lexeme)} (call (codes "min") ts) (λ x. Some ((agg.Min, x.0), x.1)) (if_taken {B = Option ((AggOf × ℕ) × List Lexeme)} (call (codes "max") ts) (λ x. Some ((agg.Max, x.0), x.1)) (if_taken {B = Option ((AggOf × ℕ) × List Lexeme)} (call (codes "first") ts) (λ x. Some ((agg.First, x.0), x.1)) (if_taken {B = Option ((AggOf × ℕ) × List Lexeme)} (call (codes "last") ts) (λ x. Some ((agg.Last, x.0), x.1)) None)))) rest ∙ ap (λ z. if_taken {B = Read Shown} (call (codes "sum") ts) (λ x. aggregate agg.Sum x.0 x.1) z) (pull (call (codes "min") ts) agg.Min (if_taken {B = Option ((AggOf × ℕ) × List Lexeme)} (call (codes "max") ts) (λ x. Some ((agg.Max, x.0), x.1)) (if_taken {B = Option ((AggOf × ℕ) × List Lexeme)} (call (codes "first") ts) (λ x. Some ((agg.First, x.0), x.1)) (if_taken {B = Option ((AggOf × ℕ) × List Lexeme)} (call (codes "last") ts) (λ x. Some ((agg.Last, x.0), x.1)) None))) rest ∙ ap (λ z. if_taken {B = Read Shown} (call (codes "min") ts) (λ x. aggregate agg.Min x.0 x.1) z) (pull (call (codes "max") ts) agg.Max (if_taken {B = Option ((AggOf × ℕ) × List Lexeme)} (call (codes "first") ts) (λ x. Some ((agg.First, x.0), x.1)) (if_taken {B = Option ((AggOf × ℕ) × List Lexeme)} (call (codes "last") ts) (λ x. Some ((agg.Last, x.0), x.1)) None)) rest ∙ ap (λ z. if_taken {B = Read Shown} (call (codes "max") ts) (λ x. aggregate agg.Max x.0 x.1) z) (pull (call (codes "first") ts) agg.First (if_taken {B = Option ((AggOf × ℕ) × List Lexeme)} (call (codes "last") ts) (λ x. Some ((agg.Last, x.0), x.1)) None) rest ∙ ap (λ z. if_taken {B = Read Shown} (call (codes "first") ts) (λ x. aggregate agg.First x.0 x.1) z) (pull (call (codes "last") ts) agg.Last None rest))))

shown_is : (ts : List Lexeme)
    → if_taken {B = Read Shown} (call (codes "count") ts) (λ x. count x.0 x.1) (if_taken {B = Read Shown} (call (codes "sum") ts) (λ x. aggregate agg.Sum x.0 x.1) (if_taken {B = Read Shown} (call (codes "min") ts) (λ x. aggregate agg.Min x.0 x.1) (if_taken {B = Read Shown} (call (codes "max") ts) (λ x. aggregate agg.Max x.0 x.1) (if_taken {B = Read Shown} (call (codes "first") ts) (λ x. aggregate agg.First x.0 x.1) (if_taken {B = Read Shown} (call (codes "last") ts) (λ x. aggregate agg.Last x.0 x.1) (whole ts >>= λ e. Ok (shows.Expr e.0, e.1))))))) ≡ shown ts
unfolding shown agg_of
shown_is ts = ap (λ z. if_taken {B = Read Shown} (call (codes "count") ts) (λ x. count x.0 x.1) z) (sym (pulled ts (whole ts >>= λ e. Ok (shows.Expr e.0, e.1))))

an_expr_shown : (n : ℕ) → Live n (λ ts. whole ts >>= λ e. Ok (shows.Expr e.0, e.1)) ExprForm expr_first false expr_last
an_expr_shown n = mapped shows.Expr (a_whole n)

the_last : (n : ℕ) → Live n (λ ts. if_taken {B = Read Shown} (call (codes "last") ts) (λ x. aggregate agg.Last x.0 x.1) (whole ts >>= λ e. Ok (shows.Expr e.0, e.1))) LastForm (Sort.word (codes "last") ∷ expr_first) false (expr_last ++ open_bracket)
unfolding compared in_lists
the_last n = tidy {more = (Sort.word (codes "last") ∷ expr_first)} {wide = expr_last ++ open_bracket} refl refl (or_call (codes "last") (λ at. an_agg n agg.Last at) (an_expr_shown n) (second_expr (codes "last") refl) (λ t is. let x = is_free (codes "last") t refl is in (x.0, x.1)))

the_first : (n : ℕ) → Live n (λ ts. if_taken {B = Read Shown} (call (codes "first") ts) (λ x. aggregate agg.First x.0 x.1) (if_taken {B = Read Shown} (call (codes "last") ts) (λ x. aggregate agg.Last x.0 x.1) (whole ts >>= λ e. Ok (shows.Expr e.0, e.1)))) FirstForm (Sort.word (codes "first") ∷ (Sort.word (codes "last") ∷ expr_first)) false (expr_last ++ open_bracket)
unfolding compared in_lists
the_first n = tidy {more = (Sort.word (codes "first") ∷ (Sort.word (codes "last") ∷ expr_first))} {wide = expr_last ++ open_bracket} refl refl (or_call (codes "first") (λ at. an_agg n agg.First at) (the_last n) (two_last (codes "first") refl refl) (λ t is. let x = is_free (codes "first") t refl is in (x.0, inr (x.1))))

the_max : (n : ℕ) → Live n (λ ts. if_taken {B = Read Shown} (call (codes "max") ts) (λ x. aggregate agg.Max x.0 x.1) (if_taken {B = Read Shown} (call (codes "first") ts) (λ x. aggregate agg.First x.0 x.1) (if_taken {B = Read Shown} (call (codes "last") ts) (λ x. aggregate agg.Last x.0 x.1) (whole ts >>= λ e. Ok (shows.Expr e.0, e.1))))) MaxForm (Sort.word (codes "max") ∷ (Sort.word (codes "first") ∷ (Sort.word (codes "last") ∷ expr_first))) false (expr_last ++ open_bracket)
unfolding compared in_lists
the_max n = tidy {more = (Sort.word (codes "max") ∷ (Sort.word (codes "first") ∷ (Sort.word (codes "last") ∷ expr_first)))} {wide = expr_last ++ open_bracket} refl refl (or_call (codes "max") (λ at. an_agg n agg.Max at) (the_first n) (two_first (codes "max") refl refl refl) (λ t is. let x = is_free (codes "max") t refl is in (x.0, inr (inr (x.1)))))

the_min : (n : ℕ) → Live n (λ ts. if_taken {B = Read Shown} (call (codes "min") ts) (λ x. aggregate agg.Min x.0 x.1) (if_taken {B = Read Shown} (call (codes "max") ts) (λ x. aggregate agg.Max x.0 x.1) (if_taken {B = Read Shown} (call (codes "first") ts) (λ x. aggregate agg.First x.0 x.1) (if_taken {B = Read Shown} (call (codes "last") ts) (λ x. aggregate agg.Last x.0 x.1) (whole ts >>= λ e. Ok (shows.Expr e.0, e.1)))))) MinForm (Sort.word (codes "min") ∷ (Sort.word (codes "max") ∷ (Sort.word (codes "first") ∷ (Sort.word (codes "last") ∷ expr_first)))) false (expr_last ++ open_bracket)
unfolding compared in_lists
the_min n = tidy {more = (Sort.word (codes "min") ∷ (Sort.word (codes "max") ∷ (Sort.word (codes "first") ∷ (Sort.word (codes "last") ∷ expr_first))))} {wide = expr_last ++ open_bracket} refl refl (or_call (codes "min") (λ at. an_agg n agg.Min at) (the_max n) (two_max (codes "min") refl refl refl refl) (λ t is. let x = is_free (codes "min") t refl is in (x.0, inr (inr (inr (x.1))))))

the_sum : (n : ℕ) → Live n (λ ts. if_taken {B = Read Shown} (call (codes "sum") ts) (λ x. aggregate agg.Sum x.0 x.1) (if_taken {B = Read Shown} (call (codes "min") ts) (λ x. aggregate agg.Min x.0 x.1) (if_taken {B = Read Shown} (call (codes "max") ts) (λ x. aggregate agg.Max x.0 x.1) (if_taken {B = Read Shown} (call (codes "first") ts) (λ x. aggregate agg.First x.0 x.1) (if_taken {B = Read Shown} (call (codes "last") ts) (λ x. aggregate agg.Last x.0 x.1) (whole ts >>= λ e. Ok (shows.Expr e.0, e.1))))))) SumForm (Sort.word (codes "sum") ∷ (Sort.word (codes "min") ∷ (Sort.word (codes "max") ∷ (Sort.word (codes "first") ∷ (Sort.word (codes "last") ∷ expr_first))))) false (expr_last ++ open_bracket)
unfolding compared in_lists
the_sum n = tidy {more = (Sort.word (codes "sum") ∷ (Sort.word (codes "min") ∷ (Sort.word (codes "max") ∷ (Sort.word (codes "first") ∷ (Sort.word (codes "last") ∷ expr_first)))))} {wide = expr_last ++ open_bracket} refl refl (or_call (codes "sum") (λ at. an_agg n agg.Sum at) (the_min n) (two_min (codes "sum") refl refl refl refl refl) (λ t is. let x = is_free (codes "sum") t refl is in (x.0, inr (inr (inr (inr (x.1)))))))

abbrev pub shown_first : List Sort
shown_first = Sort.word (codes "count") ∷ Sort.word (codes "sum") ∷ Sort.word (codes "min") ∷ Sort.word (codes "max") ∷ Sort.word (codes "first") ∷ Sort.word (codes "last") ∷ expr_first

abbrev pub shown_last : List Sort
shown_last = expr_last ++ open_bracket

shown_exact : (n : ℕ) → Live n shown ShownForm shown_first false shown_last
unfolding compared in_lists
shown_exact n =
    same shown_is (tidy {more = shown_first} {wide = shown_last} refl refl (or_call (codes "count") (λ at. a_count n at) (the_sum n) (two_sum (codes "count") refl refl refl refl refl refl) (λ t is. let x = is_free (codes "count") t refl is in (x.0, inr (inr (inr (inr (inr (x.1)))))))))

to_shown : (d : Bool) (c : Shown) (ts : List Lexeme) → ShownForm d c ts → IsShown (Inner d) c ts
to_shown d c ts (inl (at, o, r, p, w, (v, o₂, r₂, p₂, (u, e₂, s₂), inl (v₃, o₃, r₃, p₃, (t₃, e₃, s₃), (v₄, q, (t₄, e₄, s₄)))))) =
    subst (λ z. IsShown (Inner d) z ts) (sym q) (o, r, p, w, (o₂, r₂, p₂, (u, e₂, s₂.0), (o₃, r₃, p₃, inr (t₃, e₃, s₃.0), (t₄, e₄, s₄.0))))
to_shown d c ts (inl (at, o, r, p, w, (v, o₂, r₂, p₂, (u, e₂, s₂), inr (v₄, q, (t₄, e₄, s₄))))) =
    subst (λ z. IsShown (Inner d) z ts) (sym q) (o, r, p, w, (o₂, r₂, p₂, (u, e₂, s₂.0), ([], r₂, refl, inl refl, (t₄, e₄, s₄.0))))
to_shown d c ts (inr (inl (at, o, r, p, w, (v, o₂, r₂, p₂, (u, e₂, s₂), (e, o₃, r₃, p₃, x, (v₄, q, (t₄, e₄, s₄))))))) =
    subst (λ z. IsShown (Inner d) z ts) (sym q) (o, r, p, w, (o₂, r₂, p₂, (u, e₂, s₂.0), (o₃, r₃, p₃, x, (t₄, e₄, s₄.0))))
to_shown d c ts (inr (inr (inl (at, o, r, p, w, (v, o₂, r₂, p₂, (u, e₂, s₂), (e, o₃, r₃, p₃, x, (v₄, q, (t₄, e₄, s₄)))))))) =
    subst (λ z. IsShown (Inner d) z ts) (sym q) (o, r, p, w, (o₂, r₂, p₂, (u, e₂, s₂.0), (o₃, r₃, p₃, x, (t₄, e₄, s₄.0))))
to_shown d c ts (inr (inr (inr (inl (at, o, r, p, w, (v, o₂, r₂, p₂, (u, e₂, s₂), (e, o₃, r₃, p₃, x, (v₄, q, (t₄, e₄, s₄))))))))) =
    subst (λ z. IsShown (Inner d) z ts) (sym q) (o, r, p, w, (o₂, r₂, p₂, (u, e₂, s₂.0), (o₃, r₃, p₃, x, (t₄, e₄, s₄.0))))
to_shown d c ts (inr (inr (inr (inr (inl (at, o, r, p, w, (v, o₂, r₂, p₂, (u, e₂, s₂), (e, o₃, r₃, p₃, x, (v₄, q, (t₄, e₄, s₄)))))))))) =
    subst (λ z. IsShown (Inner d) z ts) (sym q) (o, r, p, w, (o₂, r₂, p₂, (u, e₂, s₂.0), (o₃, r₃, p₃, x, (t₄, e₄, s₄.0))))
to_shown d c ts (inr (inr (inr (inr (inr (inl (at, o, r, p, w, (v, o₂, r₂, p₂, (u, e₂, s₂), (e, o₃, r₃, p₃, x, (v₄, q, (t₄, e₄, s₄))))))))))) =
    subst (λ z. IsShown (Inner d) z ts) (sym q) (o, r, p, w, (o₂, r₂, p₂, (u, e₂, s₂.0), (o₃, r₃, p₃, x, (t₄, e₄, s₄.0))))
to_shown d c ts (inr (inr (inr (inr (inr (inr (e, q, x))))))) = subst (λ z. IsShown (Inner d) z ts) (sym q) x

from_shown : (d : Bool) (c : Shown) (ts : List Lexeme) → IsShown (Inner d) c ts → ShownForm d c ts
from_shown d (shows.Count at) ts (o, r, p, w, (o₂, r₂, p₂, (u, e₂, s₂), (o₃, r₃, p₃, inl e, (t₄, e₄, s₄)))) =
    inl (at, o, r, p, w, (u.at, o₂, r₂, p₂, (u, e₂, (s₂, refl)), inr (t₄.at, refl, (t₄, p₃ ∙ ap (λ z. z ++ r₃) e ∙ e₄, (s₄, refl)))))
from_shown d (shows.Count at) ts (o, r, p, w, (o₂, r₂, p₂, (u, e₂, s₂), (o₃, r₃, p₃, inr (t₃, e₃, s₃), (t₄, e₄, s₄)))) =
    inl (at, o, r, p, w, (u.at, o₂, r₂, p₂, (u, e₂, (s₂, refl)), inl (t₃.at, o₃, r₃, p₃, (t₃, e₃, (s₃, refl)), (t₄.at, refl, (t₄, e₄, (s₄, refl))))))
from_shown d (shows.Agg agg.Sum at e) ts (o, r, p, w, (o₂, r₂, p₂, (u, e₂, s₂), (o₃, r₃, p₃, x, (t₄, e₄, s₄)))) =
    inr (inl (at, o, r, p, w, (u.at, o₂, r₂, p₂, (u, e₂, (s₂, refl)), (e, o₃, r₃, p₃, x, (t₄.at, refl, (t₄, e₄, (s₄, refl)))))))
from_shown d (shows.Agg agg.Min at e) ts (o, r, p, w, (o₂, r₂, p₂, (u, e₂, s₂), (o₃, r₃, p₃, x, (t₄, e₄, s₄)))) =
    inr (inr (inl (at, o, r, p, w, (u.at, o₂, r₂, p₂, (u, e₂, (s₂, refl)), (e, o₃, r₃, p₃, x, (t₄.at, refl, (t₄, e₄, (s₄, refl))))))))
from_shown d (shows.Agg agg.Max at e) ts (o, r, p, w, (o₂, r₂, p₂, (u, e₂, s₂), (o₃, r₃, p₃, x, (t₄, e₄, s₄)))) =
    inr (inr (inr (inl (at, o, r, p, w, (u.at, o₂, r₂, p₂, (u, e₂, (s₂, refl)), (e, o₃, r₃, p₃, x, (t₄.at, refl, (t₄, e₄, (s₄, refl)))))))))
from_shown d (shows.Agg agg.First at e) ts (o, r, p, w, (o₂, r₂, p₂, (u, e₂, s₂), (o₃, r₃, p₃, x, (t₄, e₄, s₄)))) =
    inr (inr (inr (inr (inl (at, o, r, p, w, (u.at, o₂, r₂, p₂, (u, e₂, (s₂, refl)), (e, o₃, r₃, p₃, x, (t₄.at, refl, (t₄, e₄, (s₄, refl))))))))))
from_shown d (shows.Agg agg.Last at e) ts (o, r, p, w, (o₂, r₂, p₂, (u, e₂, s₂), (o₃, r₃, p₃, x, (t₄, e₄, s₄)))) =
    inr (inr (inr (inr (inr (inl (at, o, r, p, w, (u.at, o₂, r₂, p₂, (u, e₂, (s₂, refl)), (e, o₃, r₃, p₃, x, (t₄.at, refl, (t₄, e₄, (s₄, refl)))))))))))
from_shown d (shows.Expr e) ts x = inr (inr (inr (inr (inr (inr (e, refl, x))))))

a_shown : (n : ℕ) → Live n shown (λ d. IsShown (Inner d)) shown_first false shown_last
a_shown n = form to_shown from_shown (shown_exact n)

-- shown ["AS" name]
item_of : Shown → Option Name → Item
item_of s a = record { shown = s; alias = a }

abbrev item_last : List Sort
item_last = Sort.word (codes "AS") ∷ shown_last

an_item : (n : ℕ) → Live n item (λ d. IsItem (Inner d)) shown_first false item_last
unfolding item item_of compared in_lists
an_item n =
    tidy refl refl (form (λ d c ts (v1, o1, r1, p1, x1, (v2, q, x2)). subst (λ z. IsItem (Inner d) z ts) (sym q) (o1, r1, p1, x1, x2))
    (λ d c ts (o1, r1, p1, x1, x2). (c.shown, o1, r1, p1, x1, (c.alias, refl, x2)))
    (seq (a_shown n) (λ s. mapped (item_of s) (a_named n)) refl))

the_items : (n : ℕ) → Live n items (λ d cs. Commas (IsItem (Inner d)) cs) shown_first false (item_last ++ comma)
unfolding items compared
the_items n = commas an_item refl n

-- "*" | items
abbrev SelectForm : Rule Selected
SelectForm = Or (Image select.All (Token (SignQ kind.Star))) (Image select.Items (λ d cs. Commas (IsItem (Inner d)) cs))

to_select : (d : Bool) (c : Selected) (ts : List Lexeme) → SelectForm d c ts → IsItems (Inner d) c ts
to_select d c ts (inl (at, q, x)) = subst (λ z. IsItems (Inner d) z ts) (sym q) x
to_select d c ts (inr (xs, q, x)) = subst (λ z. IsItems (Inner d) z ts) (sym q) x

from_select : (d : Bool) (c : Selected) (ts : List Lexeme) → IsItems (Inner d) c ts → SelectForm d c ts
from_select d (select.All at) ts x = inl (at, refl, x)
from_select d (select.Items xs) ts x = inr (xs, refl, x)

select_exact : (n : ℕ) → Live n select_items (λ d. IsItems (Inner d)) (Sort.sign kind.Star ∷ shown_first) false (item_last ++ comma)
unfolding select_items compared in_lists
select_exact n = tidy refl refl (form to_select from_select (or_one (signs kind.Star refl) select.All (mapped select.Items (the_items n)) refl))

-- ["SELECT" select_items "FROM"]
abbrev pub SelectedPart : (Expr → List Lexeme → Type 0) → Option Selected → List Lexeme → Type 0
SelectedPart I = Optional (λ s. Word (codes "SELECT") ⋅ IsItems I s ⋅ Word (codes "FROM"))

abbrev SelectedForm : Rule (Option Selected)
SelectedForm = Or (Then (Token (WordQ (codes "SELECT"))) (λ at. Then (λ d. IsItems (Inner d)) (λ s. Image (λ y. Some s) (Token (WordQ (codes "FROM")))))) (Just None)

to_selected : (d : Bool) (c : Option Selected) (ts : List Lexeme) → SelectedForm d c ts → SelectedPart (Inner d) c ts
to_selected d c ts (inl (v, o, r, p, (t, e, s), (x, o₂, r₂, p₂, y, (v₃, q, (t₃, e₃, s₃))))) = subst (λ z. SelectedPart (Inner d) z ts) (sym q) (o, r, p, (t, e, s.0), (o₂, r₂, p₂, y, (t₃, e₃, s₃.0)))
to_selected d c ts (inr (q, r)) = subst (λ z. SelectedPart (Inner d) z ts) (sym q) r

from_selected : (d : Bool) (c : Option Selected) (ts : List Lexeme) → SelectedPart (Inner d) c ts → SelectedForm d c ts
from_selected d None ts r = inr (refl, r)
from_selected d (Some x) ts (o, r, p, (t, e, s), (o₂, r₂, p₂, y, (t₃, e₃, s₃))) = inl (t.at, o, r, p, (t, e, (s, refl)), (x, o₂, r₂, p₂, y, (t₃.at, refl, (t₃, e₃, (s₃, refl)))))

pub a_selected : (n : ℕ) → Live n selected (λ d. SelectedPart (Inner d)) (Sort.word (codes "SELECT") ∷ []) true (Sort.word (codes "SELECT") ∷ [])
unfolding selected compared
a_selected n =
    form to_selected from_selected (or (words (codes "SELECT")) (λ at. seq (select_exact n) (λ s. mapped (λ y. Some s) (a_word n (codes "FROM"))) refl) (just n None) refl)
