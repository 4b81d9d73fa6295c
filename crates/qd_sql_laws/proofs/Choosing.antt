-- Tokens and alternatives.
use Rattle.std.proofs.Common.{◌≡◌, ℕ, suc, ◌≤◌, Bool, true, false, List, [], ◌∷◌, ◌++◌, length, Option, Some, None, Ok, Err, refl, sym, ap, ap₂, ◌∙◌, subst, arith, inl, inr, ◌⊎◌, if◌then◌else◌}
use Rattle.qd_sql_lexer.specs.Tokens.{Lexeme}
use Rattle.qd_sql_ast.specs.declared.stop.Halt.TheVariants as halt
use Rattle.qd_sql_ast.specs.declared.tree.Stmt.{Stmt}
use Rattle.qd_sql_ast.specs.Steps.{Read, ◌>>=◌, if_taken, wanted, stuck}
use Rattle.qd_sql_laws.proofs.Sorts.{Good, AllGood, join_good, Sort, is_in, Has, clash, apart, in_left, in_right}
use Rattle.qd_sql_laws.proofs.Judging.{Clear, heads, tails, Rule, Begins, Judges, first_of, alike, behind_one}
use Rattle.qd_sql_laws.proofs.Combining.{Unique, Then, Or, Token, Follows, Exact, if_blank, in_blank}

-- a token is taken, or left
abbrev pub Takes : {A : Type 0} → (List Lexeme → Option (A × List Lexeme)) → (A → Lexeme → Type 0) → List Sort → Lexeme → Type 0
Takes {A} op Q ss t = (a : A) × Q a t × ((b : A) → Q b t → b ≡ a) × ((ts : List Lexeme) → op (t ∷ ts) ≡ Some (a, ts)) × Has ss t

abbrev pub Leaves : {A : Type 0} → (List Lexeme → Option (A × List Lexeme)) → (A → Lexeme → Type 0) → List Sort → Lexeme → Type 0
Leaves {A} op Q ss t = ((b : A) → Q b t → ⊥) × ((ts : List Lexeme) → op (t ∷ ts) ≡ None) × (Has ss t → ⊥)

pub record Chooser {A : Type 0} (op : List Lexeme → Option (A × List Lexeme)) (Q : A → Lexeme → Type 0) (ss : List Sort) : Type 0 where
  pub none : op [] ≡ None
  pub one : (t : Lexeme) → Takes op Q ss t ⊎ Leaves op Q ss t
  pub good : (a : A) (t : Lexeme) → Q a t → Good t

-- a token must stand here
abbrev pub Reads : {A : Type 0} → (List Lexeme → Read A) → (A → Lexeme → Type 0) → List Sort → Lexeme → Type 0
Reads {A} f Q ss t = (a : A) × Q a t × ((b : A) → Q b t → b ≡ a) × ((ts : List Lexeme) → f (t ∷ ts) ≡ Ok (a, ts)) × Has ss t

abbrev pub Stops : {A : Type 0} → (List Lexeme → Read A) → (A → Lexeme → Type 0) → Lexeme → Type 0
Stops {A} f Q t = ((b : A) → Q b t → ⊥) × ((ts : List Lexeme) → f (t ∷ ts) ≡ Err (halt.At (Some t.at)))

pub record Leaf {A : Type 0} (f : List Lexeme → Read A) (Q : A → Lexeme → Type 0) (ss : List Sort) : Type 0 where
  pub none : f [] ≡ Err (halt.At None)
  pub one : (t : Lexeme) → Reads f Q ss t ⊎ Stops f Q t
  pub lives : (a : A) × (t : Lexeme) × Q a t
  pub good : (a : A) (t : Lexeme) → Q a t → Good t

-- a list that begins with a token
token_first : (u : Lexeme) (one rest front behind us : List Lexeme) → us ≡ front ++ behind → front ≡ one ++ rest → one ≡ u ∷ [] → us ≡ u ∷ (rest ++ behind)
token_first u one rest front behind us p q r = p ∙ ap (λ z. z ++ behind) (q ∙ ap (λ z. z ++ rest) r)

module _ {A : Type 0} {f : List Lexeme → Read A} {Q : A → Lexeme → Type 0} {ss : List Sort} (leaf : Leaf f Q ss) where
  leaf_starts : (a : A) (t u : Lexeme) → Reads f Q ss u ⊎ Stops f Q u → Q a u → u ≡ t → Has ss t
  leaf_starts a t u (inl (b, q, one, reads, h)) p e = subst (λ z. Has ss z) e h
  leaf_starts a t u (inr (unlike, stops)) p e = absurd (unlike a p)

  leaf_begins : (k : A → List Lexeme → Read Stmt) (K : A → Rule Stmt) (n : ℕ) → Follows n [] k K → Begins false (Then (Token Q) K) []
  leaf_begins k K n follows =
      let q = leaf.lives in let x = follows.lives q.0 in (q.1 ∷ x.1, x.0, (q.0, q.1 ∷ [], x.1, refl, (q.1, refl, q.2), x.2))

  leaf_at : (n : ℕ) (k : A → List Lexeme → Read Stmt) (K : A → Rule Stmt) → Follows n [] k K → (t : Lexeme) (ts : List Lexeme) → length ts ≤ n
      → Reads f Q ss t ⊎ Stops f Q t → Judges (Then (Token Q) K) (t ∷ ts) (f (t ∷ ts) >>= λ x. k x.0 x.1)
  leaf_at n k K follows t ts fits (inl (a, q, one, reads, h)) =
      subst (λ r. Judges (Then (Token Q) K) (t ∷ ts) (r >>= λ x. k x.0 x.1)) (sym (reads ts))
      (behind_one (Then (Token Q) K) t ts (k a ts) (alike (λ d b us. Then (Token Q) K d b (t ∷ us)) (K a) ts (k a ts)
      (λ b us x. (a, t ∷ [], us, refl, (t, refl, q), x))
      (λ d b us same (c, front, behind, p, (u, e, r), x).
      let whole : t ∷ us ≡ u ∷ behind = p ∙ ap (λ z. z ++ behind) e in
      let which : c ≡ a = one c (subst (λ z. Q c z) (heads t u us behind whole) r) in
      subst (λ z. K z d b us) which (subst (λ z. K c d b z) (sym (tails t u us behind whole)) x))
      (follows.goes a ts fits)))
  leaf_at n k K follows t ts fits (inr (unlike, stops)) =
      subst (λ r. Judges (Then (Token Q) K) (t ∷ ts) (r >>= λ x. k x.0 x.1)) (sym (stops ts)) (
        [],
        t,
        ts,
        refl,
        refl,
        leaf_begins k K n follows,
        (λ (more, b, (c, front, behind, p, (u, e, r), x)).
            let whole : t ∷ more ≡ u ∷ behind = p ∙ ap (λ z. z ++ behind) e in
            unlike c (subst (λ z. Q c z) (heads t u more behind whole) r)),
      )

  leaf_exact_at : (n : ℕ) (k : A → List Lexeme → Read Stmt) (K : A → Rule Stmt) → Follows n [] k K → (ts : List Lexeme) → length ts ≤ suc n
      → Judges (Then (Token Q) K) ts (f ts >>= λ x. k x.0 x.1)
  leaf_exact_at n k K follows [] fits =
      subst (λ r. Judges (Then (Token Q) K) [] (r >>= λ x. k x.0 x.1)) (sym leaf.none) (
        leaf_begins k K n follows,
        (λ b (c, front, behind, p, (u, e, r), x).
            let whole : [] ≡ u ∷ behind = p ∙ ap (λ z. z ++ behind) e in absurd (cc)),
      )
  leaf_exact_at n k K follows (t ∷ ts) fits = leaf_at n k K follows t ts (omega arith) (leaf.one t)

  leaf_one : (t : Lexeme) → Reads f Q ss t ⊎ Stops f Q t → (a b : A) → Q a t → Q b t → a ≡ b
  leaf_one t (inl (c, q, one, reads, h)) a b p r = one a p ∙ sym (one b r)
  leaf_one t (inr (none, stops)) a b p r = absurd (none a p)

  leaf_unique : Unique (Token Q) []
  leaf_unique d a b x y u v (t, p, q) (t', p', q') e cu cv =
      let whole : t ∷ u ≡ t' ∷ v = ap (λ z. z ++ u) (sym p) ∙ e ∙ ap (λ z. z ++ v) p' in
      let same : t' ≡ t = heads t t' u v whole in
      (leaf_one t (leaf.one t) a b q (subst (λ z. Q b z) same q'), p ∙ ap (λ z. z ∷ []) (sym same) ∙ sym p')

  pub token : (n : ℕ) → Exact n f (Token Q) ss false []
  token n = record {
    starts = λ d a t ts (u, e, q). leaf_starts a t u (leaf.one u) q (heads t u ts [] e);
    filled = λ d a (u, e, q). absurd (cc);
    deepens = λ a ts h. h;
    clean = λ d a ts (u, e, q). subst AllGood (sym e) (leaf.good a u q, tt);
    unique = leaf_unique;
    exact = λ k K follows ts fits. leaf_exact_at n k K follows ts (omega arith);
  }

-- what is taken may be wanted
taken_leaf : (op : List Lexeme → Option (ℕ × List Lexeme)) (Q : ℕ → Lexeme → Type 0) (ss : List Sort) (t : Lexeme)
    → Takes op Q ss t ⊎ Leaves op Q ss t → Reads (λ ts. wanted ts (op ts)) Q ss t ⊎ Stops (λ ts. wanted ts (op ts)) Q t
unfolding stuck
taken_leaf op Q ss t (inl (a, q, one, takes, h)) = inl (a, q, one, (λ ts. ap (wanted (t ∷ ts)) (takes ts)), h)
taken_leaf op Q ss t (inr (unlike, leaves, h)) = inr (unlike, (λ ts. ap (wanted (t ∷ ts)) (leaves ts)))

pub wanted_leaf : {op : List Lexeme → Option (ℕ × List Lexeme)} {Q : ℕ → Lexeme → Type 0} {ss : List Sort} → Chooser op Q ss → (a : ℕ) (t : Lexeme) → Q a t
    → Leaf (λ ts. wanted ts (op ts)) Q ss
unfolding stuck
wanted_leaf {op} {Q} {ss} chooser a t q = record { none = ap (wanted []) chooser.none; one = λ u. taken_leaf op Q ss u (chooser.one u); lives = (a, t, q); good = chooser.good }

-- where a token is taken, what stands behind it, and else another rule
module _ {A B : Type 0} {n m : ℕ} (below : n ≤ m) (above : m ≤ suc n) {op : List Lexeme → Option (A × List Lexeme)} {Q : A → Lexeme → Type 0} {ss : List Sort}
    {g : A → List Lexeme → Read B} {h : List Lexeme → Read B} {G : A → Rule B} {H : Rule B} {first₁ first₂ : List Sort} {blank₁ blank₂ : Bool} {last₁ last₂ : List Sort}
    (chooser : Chooser op Q ss) (e₁ : (a : A) → Exact n (g a) (G a) first₁ blank₁ last₁) (e₂ : Exact m h H first₂ blank₂ last₂) (unlike : clash ss first₂ ≡ false) where
  takes_is : (a : A) (t : Lexeme) → Takes op Q ss t ⊎ Leaves op Q ss t → Q a t → Has ss t
  takes_is a t (inl (b, q, one, takes, x)) p = x
  takes_is a t (inr (none, leaves, x)) p = absurd (none a p)

  alt_starts : (d : Bool) (b : B) (t : Lexeme) (ts : List Lexeme) → Or (Then (Token Q) G) H d b (t ∷ ts) → Has (ss ++ first₂) t
  alt_starts d b t ts (inl (a, one, rest, p, (u, e, q), x)) =
      let whole : t ∷ ts ≡ u ∷ rest = p ∙ ap (λ z. z ++ rest) e in
      in_left ss first₂ t (subst (λ z. Has ss z) (heads t u ts rest whole) (takes_is a u (chooser.one u) q))
  alt_starts d b t ts (inr x) = in_right ss first₂ t (e₂.starts d b t ts x)

  alt_filled : (d : Bool) (b : B) → Or (Then (Token Q) G) H d b [] → blank₂ ≡ true
  alt_filled d b (inl (a, one, rest, p, (u, e, q), x)) = let whole : [] ≡ u ∷ rest = p ∙ ap (λ z. z ++ rest) e in absurd (cc)
  alt_filled d b (inr x) = e₂.filled d b x

  -- where no token is taken
  alt_other : (K : B → Rule Stmt) (ts : List Lexeme) (r : Read Stmt)
      → ((u : Lexeme) (a : A) → Q a u → first_of ts ≡ Some u → ⊥) → Judges (Then H K) ts r → Judges (Then (Or (Then (Token Q) G) H) K) ts r
  alt_other K ts r none judged = alike (Then (Or (Then (Token Q) G) H) K) (Then H K) ts r
      (λ b us (c, front, behind, p, x, y). (c, front, behind, p, inr x, y))
      (λ d b us same (c, front, behind, p, x, y). (c, front, behind, p, other d c front x us behind p same, y)) judged where
        other : (d : Bool) (c : B) (front : List Lexeme) → Or (Then (Token Q) G) H d c front → (us behind : List Lexeme) → us ≡ front ++ behind → first_of us ≡ first_of ts → H d c front
        other d c front (inl (a, one, rest, q, (u, e, t), x)) us behind p same = absurd (none u a t (sym same ∙ ap first_of (token_first u one rest front behind us p q e)))
        other d c front (inr x) us behind p same = x

  -- where one is
  alt_front : (k : B → List Lexeme → Read Stmt) (K : B → Rule Stmt) → Follows m (last₁ ++ (last₂ ++ if_blank blank₂ ss)) k K → (t : Lexeme) → Has ss t
      → (d : Bool) (b : Stmt) (us : List Lexeme) (c : B) (front behind : List Lexeme) → t ∷ us ≡ front ++ behind → H d c front → K c d b behind → ⊥
  alt_front k K follows t is d b us c [] behind p x y =
      follows.parts c d b t us (subst (λ z. K c d b z) (sym p) y)
      (in_right last₁ (last₂ ++ if_blank blank₂ ss) t (in_right last₂ (if_blank blank₂ ss) t (in_blank blank₂ ss t (e₂.filled d c x) is)))
  alt_front k K follows t is d b us c (u ∷ front) behind p x y =
      apart ss first₂ unlike t is (subst (λ z. Has first₂ z) (heads t u us (front ++ behind) p) (e₂.starts d c u front x))

  alt_taken : (k : B → List Lexeme → Read Stmt) (K : B → Rule Stmt) → Follows m (last₁ ++ (last₂ ++ if_blank blank₂ ss)) k K → (a : A) (t : Lexeme) → Q a t → ((b : A) → Q b t → b ≡ a) → Has ss t
      → (ts : List Lexeme) (r : Read Stmt) → Judges (Then (G a) K) ts r → Judges (Then (Or (Then (Token Q) G) H) K) (t ∷ ts) r
  alt_taken k K follows a t q one is ts r judged =
      behind_one (Then (Or (Then (Token Q) G) H) K) t ts r (alike (λ d b us. Then (Or (Then (Token Q) G) H) K d b (t ∷ us)) (Then (G a) K) ts r
      (λ b us (c, front, behind, p, x, y). (c, t ∷ front, behind, ap (λ z. t ∷ z) p, inl (a, t ∷ [], front, refl, (t, refl, q), x), y))
      (λ d b us same (c, front, behind, p, x, y). back d b us c front behind p x y) judged) where
        back : (d : Bool) (b : Stmt) (us : List Lexeme) (c : B) (front behind : List Lexeme) → t ∷ us ≡ front ++ behind → Or (Then (Token Q) G) H d c front → K c d b behind → Then (G a) K d b us
        back d b us c front behind p (inl (a', o, rest, e, (u, e', q'), x)) y =
            let whole : t ∷ us ≡ u ∷ (rest ++ behind) = token_first u o rest front behind (t ∷ us) p e e' in
            let which : a' ≡ a = one a' (subst (λ z. Q a' z) (heads t u us (rest ++ behind) whole) q') in
            (c, rest, behind, tails t u us (rest ++ behind) whole, subst (λ z. G z d c rest) which x, y)
        back d b us c front behind p (inr x) y = absurd (alt_front k K follows t is d b us c front behind p x y)

  alt_rest : (k : B → List Lexeme → Read Stmt) (K : B → Rule Stmt) → Follows m (last₁ ++ (last₂ ++ if_blank blank₂ ss)) k K → (ts : List Lexeme) → length ts ≤ m
      → Judges (Then H K) ts (h ts >>= λ x. k x.0 x.1)
  alt_rest k K follows ts fits = e₂.exact k K (record {
    goes = follows.goes;
    lives = follows.lives;
    deepens = follows.deepens;
    parts = λ b d s u us x i. follows.parts b d s u us x (in_right last₁ (last₂ ++ if_blank blank₂ ss) u (in_left last₂ (if_blank blank₂ ss) u i));
  }) ts fits

  alt_at : (k : B → List Lexeme → Read Stmt) (K : B → Rule Stmt) → Follows m (last₁ ++ (last₂ ++ if_blank blank₂ ss)) k K → (t : Lexeme) (ts : List Lexeme) → suc (length ts) ≤ m
      → Takes op Q ss t ⊎ Leaves op Q ss t → Judges (Then (Or (Then (Token Q) G) H) K) (t ∷ ts) (if_taken (op (t ∷ ts)) (λ x. g x.0 x.1) (h (t ∷ ts)) >>= λ x. k x.0 x.1)
  alt_at k K follows t ts fits (inl (a, q, one, takes, is)) =
      subst (λ o. Judges (Then (Or (Then (Token Q) G) H) K) (t ∷ ts) (if_taken o (λ x. g x.0 x.1) (h (t ∷ ts)) >>= λ x. k x.0 x.1)) (sym (takes ts))
      (alt_taken k K follows a t q one is ts (g a ts >>= λ x. k x.0 x.1) ((e₁ a).exact k K (record {
        goes = λ b us short. follows.goes b us (omega arith);
        lives = follows.lives;
        deepens = follows.deepens;
        parts = λ b d s u us x i. follows.parts b d s u us x (in_left last₁ (last₂ ++ if_blank blank₂ ss) u i);
      }) ts (omega arith)))
  alt_at k K follows t ts fits (inr (none, leaves, isnt)) =
      subst (λ o. Judges (Then (Or (Then (Token Q) G) H) K) (t ∷ ts) (if_taken o (λ x. g x.0 x.1) (h (t ∷ ts)) >>= λ x. k x.0 x.1)) (sym (leaves ts))
      (alt_other K (t ∷ ts) (h (t ∷ ts) >>= λ x. k x.0 x.1) (λ u a q e. let same : u ≡ t = cc in none a (subst (λ z. Q a z) same q)) (alt_rest k K follows (t ∷ ts) fits))

  alt_exact : (k : B → List Lexeme → Read Stmt) (K : B → Rule Stmt) → Follows m (last₁ ++ (last₂ ++ if_blank blank₂ ss)) k K → (ts : List Lexeme) → length ts ≤ m
      → Judges (Then (Or (Then (Token Q) G) H) K) ts (if_taken (op ts) (λ x. g x.0 x.1) (h ts) >>= λ x. k x.0 x.1)
  alt_exact k K follows [] fits =
      subst (λ o. Judges (Then (Or (Then (Token Q) G) H) K) [] (if_taken o (λ x. g x.0 x.1) (h []) >>= λ x. k x.0 x.1)) (sym chooser.none)
      (alt_other K [] (h [] >>= λ x. k x.0 x.1) (λ u a q e. absurd (cc)) (alt_rest k K follows [] fits))
  alt_exact k K follows (t ∷ ts) fits = alt_at k K follows t ts fits (chooser.one t)

  alt_deepens : (b : B) (ts : List Lexeme) → Or (Then (Token Q) G) H false b ts → Or (Then (Token Q) G) H true b ts
  alt_deepens b ts (inl (a, one, rest, p, q, x)) = inl (a, one, rest, p, q, (e₁ a).deepens b rest x)
  alt_deepens b ts (inr x) = inr (e₂.deepens b ts x)

  alt_clean : (d : Bool) (b : B) (ts : List Lexeme) → Or (Then (Token Q) G) H d b ts → AllGood ts
  alt_clean d b ts (inl (a, one, rest, p, (u, e, q), x)) =
      join_good ts one rest p (subst AllGood (sym e) (chooser.good a u q, tt)) ((e₁ a).clean d b rest x)
  alt_clean d b ts (inr x) = e₂.clean d b ts x

  same_taken : (t : Lexeme) → Takes op Q ss t ⊎ Leaves op Q ss t → (a b : A) → Q a t → Q b t → a ≡ b
  same_taken t (inl (c, q, one, takes, h)) a b p r = one a p ∙ sym (one b r)
  same_taken t (inr (none, leaves, h)) a b p r = absurd (none a p)

  -- a token taken, against the other rule
  alt_mixed : (d : Bool) (c : B) (t : Lexeme) (rest y v : List Lexeme) → Has ss t → t ∷ rest ≡ y ++ v → H d c y → Clear (last₁ ++ (last₂ ++ if_blank blank₂ ss)) v → ⊥
  alt_mixed d c t rest [] v is e h cv =
      cv t (sym (ap first_of e)) (in_right last₁ (last₂ ++ if_blank blank₂ ss) t (in_right last₂ (if_blank blank₂ ss) t (in_blank blank₂ ss t (e₂.filled d c h) is)))
  alt_mixed d c t rest (w ∷ y) v is e h cv = apart ss first₂ unlike t is (subst (λ z. Has first₂ z) (heads t w rest (y ++ v) e) (e₂.starts d c w y h))

  alt_unique : Unique (Or (Then (Token Q) G) H) (last₁ ++ (last₂ ++ if_blank blank₂ ss))
  alt_unique d b c x y u v (inl (a, o, r, p, (t, f, q), g₁)) (inl (a', o', r', p', (t', f', q'), g₂)) e cu cv =
      let whole : t ∷ (r ++ u) ≡ t' ∷ (r' ++ v) = sym (token_first t o r x u (x ++ u) refl p f) ∙ e ∙ token_first t' o' r' y v (y ++ v) refl p' f' in
      let same : t' ≡ t = heads t t' (r ++ u) (r' ++ v) whole in
      let which : a ≡ a' = same_taken t (chooser.one t) a a' q (subst (λ z. Q a' z) same q') in
      let k : (b ≡ c) × (r ≡ r') = (e₁ a).unique d b c r r' u v g₁ (subst (λ z. G z d c r') (sym which) g₂) (tails t t' (r ++ u) (r' ++ v) whole)
      (λ w i h. cu w i (in_left last₁ (last₂ ++ if_blank blank₂ ss) w h)) (λ w i h. cv w i (in_left last₁ (last₂ ++ if_blank blank₂ ss) w h)) in
      (k.0, p ∙ ap₂ (λ z w. z ++ w) (f ∙ ap (λ z. z ∷ []) (sym same) ∙ sym f') k.1 ∙ sym p')
  alt_unique d b c x y u v (inl (a, o, r, p, (t, f, q), g₁)) (inr h₂) e cu cv =
      absurd (alt_mixed d c t (r ++ u) y v (takes_is a t (chooser.one t) q) (sym (token_first t o r x u (x ++ u) refl p f) ∙ e) h₂ cv)
  alt_unique d b c x y u v (inr h₁) (inl (a, o, r, p, (t, f, q), g₂)) e cu cv =
      absurd (alt_mixed d b t (r ++ v) x u (takes_is a t (chooser.one t) q) (sym (token_first t o r y v (y ++ v) refl p f) ∙ sym e) h₁ cu)
  alt_unique d b c x y u v (inr h₁) (inr h₂) e cu cv =
      e₂.unique d b c x y u v h₁ h₂ e (λ w i k. cu w i (in_right last₁ (last₂ ++ if_blank blank₂ ss) w (in_left last₂ (if_blank blank₂ ss) w k)))
      (λ w i k. cv w i (in_right last₁ (last₂ ++ if_blank blank₂ ss) w (in_left last₂ (if_blank blank₂ ss) w k)))

  pub alt : Exact m (λ ts. if_taken (op ts) (λ x. g x.0 x.1) (h ts)) (Or (Then (Token Q) G) H) (ss ++ first₂) blank₂ (last₁ ++ (last₂ ++ if_blank blank₂ ss))
  alt = record { starts = alt_starts; filled = alt_filled; deepens = alt_deepens; clean = alt_clean; unique = alt_unique; exact = alt_exact }

-- where a test of the first token holds, one rule, and else another
module _ {B : Type 0} {n : ℕ} {g h : List Lexeme → Read B} {G H : Rule B} {ss first₂ : List Sort} {blank₂ : Bool} {last₁ last₂ : List Sort}
    (test : List Lexeme → Bool) (none : test [] ≡ false) (some : (t : Lexeme) (ts : List Lexeme) → test (t ∷ ts) ≡ is_in ss t)
    (e₁ : Exact n g G ss false last₁) (e₂ : Exact n h H first₂ blank₂ last₂) (unlike : clash ss first₂ ≡ false) where
  choice_starts : (d : Bool) (b : B) (t : Lexeme) (ts : List Lexeme) → Or G H d b (t ∷ ts) → Has (ss ++ first₂) t
  choice_starts d b t ts (inl x) = in_left ss first₂ t (e₁.starts d b t ts x)
  choice_starts d b t ts (inr x) = in_right ss first₂ t (e₂.starts d b t ts x)

  choice_filled : (d : Bool) (b : B) → Or G H d b [] → blank₂ ≡ true
  choice_filled d b (inl x) = let p = e₁.filled d b x in absurd (cc)
  choice_filled d b (inr x) = e₂.filled d b x

  -- the first rule begins with such a token
  choice_first : (d : Bool) (c : B) (front behind us : List Lexeme) → us ≡ front ++ behind → G d c front → (u : Lexeme) × (first_of us ≡ Some u) × Has ss u
  choice_first d c [] behind us p x = let q = e₁.filled d c x in absurd (cc)
  choice_first d c (u ∷ front) behind us p x = (u, ap first_of p, e₁.starts d c u front x)

  choice_other : (K : B → Rule Stmt) (ts : List Lexeme) (r : Read Stmt)
      → ((u : Lexeme) → Has ss u → first_of ts ≡ Some u → ⊥) → Judges (Then H K) ts r → Judges (Then (Or G H) K) ts r
  choice_other K ts r leaves judged = alike (Then (Or G H) K) (Then H K) ts r
      (λ b us (c, front, behind, p, x, y). (c, front, behind, p, inr x, y))
      (λ d b us same (c, front, behind, p, x, y). (c, front, behind, p, other d c front behind us p same x, y)) judged where
        other : (d : Bool) (c : B) (front behind us : List Lexeme) → us ≡ front ++ behind → first_of us ≡ first_of ts → Or G H d c front → H d c front
        other d c front behind us p same (inl x) = let f = choice_first d c front behind us p x in absurd (leaves f.0 f.2 (sym same ∙ f.1))
        other d c front behind us p same (inr x) = x

  choice_front : (k : B → List Lexeme → Read Stmt) (K : B → Rule Stmt) → Follows n (last₁ ++ (last₂ ++ if_blank blank₂ ss)) k K → (t : Lexeme) → Has ss t
      → (d : Bool) (b : Stmt) (us : List Lexeme) (c : B) (front behind : List Lexeme) → first_of us ≡ Some t → us ≡ front ++ behind → H d c front → K c d b behind → ⊥
  choice_front k K follows t is d b us c [] [] f p x y = let q : first_of us ≡ None = ap first_of p in absurd (cc)
  choice_front k K follows t is d b us c [] (u ∷ behind) f p x y =
      let q : first_of us ≡ Some u = ap first_of p in
      let same : t ≡ u = cc in
      follows.parts c d b u behind y (in_right last₁ (last₂ ++ if_blank blank₂ ss) u (in_right last₂ (if_blank blank₂ ss) u (in_blank blank₂ ss u (e₂.filled d c x) (subst (λ z. Has ss z) same is))))
  choice_front k K follows t is d b us c (u ∷ front) behind f p x y =
      let q : first_of us ≡ Some u = ap first_of p in
      let same : u ≡ t = cc in
      apart ss first₂ unlike t is (subst (λ z. Has first₂ z) same (e₂.starts d c u front x))

  choice_taken : (k : B → List Lexeme → Read Stmt) (K : B → Rule Stmt) → Follows n (last₁ ++ (last₂ ++ if_blank blank₂ ss)) k K → (t : Lexeme) (ts : List Lexeme) → Has ss t → (r : Read Stmt)
      → Judges (Then G K) (t ∷ ts) r → Judges (Then (Or G H) K) (t ∷ ts) r
  choice_taken k K follows t ts is r judged = alike (Then (Or G H) K) (Then G K) (t ∷ ts) r
      (λ b us (c, front, behind, p, x, y). (c, front, behind, p, inl x, y))
      (λ d b us same (c, front, behind, p, x, y). (c, front, behind, p, chosen d b us c front behind same p x y, y)) judged where
        chosen : (d : Bool) (b : Stmt) (us : List Lexeme) (c : B) (front behind : List Lexeme) → first_of us ≡ Some t → us ≡ front ++ behind → Or G H d c front → K c d b behind → G d c front
        chosen d b us c front behind same p (inl x) y = x
        chosen d b us c front behind same p (inr x) y = absurd (choice_front k K follows t is d b us c front behind same p x y)

  choice_rest : (k : B → List Lexeme → Read Stmt) (K : B → Rule Stmt) → Follows n (last₁ ++ (last₂ ++ if_blank blank₂ ss)) k K → (ts : List Lexeme) → length ts ≤ n
      → Judges (Then H K) ts (h ts >>= λ x. k x.0 x.1)
  choice_rest k K follows ts fits = e₂.exact k K (record {
    goes = follows.goes;
    lives = follows.lives;
    deepens = follows.deepens;
    parts = λ b d s u us x i. follows.parts b d s u us x (in_right last₁ (last₂ ++ if_blank blank₂ ss) u (in_left last₂ (if_blank blank₂ ss) u i));
  }) ts fits

  choice_at : (k : B → List Lexeme → Read Stmt) (K : B → Rule Stmt) → Follows n (last₁ ++ (last₂ ++ if_blank blank₂ ss)) k K → (t : Lexeme) (ts : List Lexeme) → length (t ∷ ts) ≤ n
      → (b : Bool) → is_in ss t ≡ b → Judges (Then (Or G H) K) (t ∷ ts) ((if b then g (t ∷ ts) else h (t ∷ ts)) >>= λ x. k x.0 x.1)
  choice_at k K follows t ts fits true is =
      choice_taken k K follows t ts is (g (t ∷ ts) >>= λ x. k x.0 x.1) (e₁.exact k K (record {
        goes = follows.goes;
        lives = follows.lives;
        deepens = follows.deepens;
        parts = λ b d s u us x i. follows.parts b d s u us x (in_left last₁ (last₂ ++ if_blank blank₂ ss) u i);
      }) (t ∷ ts) fits)
  choice_at k K follows t ts fits false is =
      choice_other K (t ∷ ts) (h (t ∷ ts) >>= λ x. k x.0 x.1) (λ u i q. let same : u ≡ t = cc in let j : Has ss t = subst (λ z. Has ss z) same i in absurd (cc)) (choice_rest k K follows (t ∷ ts) fits)

  choice_exact : (k : B → List Lexeme → Read Stmt) (K : B → Rule Stmt) → Follows n (last₁ ++ (last₂ ++ if_blank blank₂ ss)) k K → (ts : List Lexeme) → length ts ≤ n
      → Judges (Then (Or G H) K) ts ((if test ts then g ts else h ts) >>= λ x. k x.0 x.1)
  choice_exact k K follows [] fits =
      subst (λ b. Judges (Then (Or G H) K) [] ((if b then g [] else h []) >>= λ x. k x.0 x.1)) (sym none)
      (choice_other K [] (h [] >>= λ x. k x.0 x.1) (λ u i q. absurd (cc)) (choice_rest k K follows [] fits))
  choice_exact k K follows (t ∷ ts) fits =
      subst (λ b. Judges (Then (Or G H) K) (t ∷ ts) ((if b then g (t ∷ ts) else h (t ∷ ts)) >>= λ x. k x.0 x.1)) (sym (some t ts)) (choice_at k K follows t ts fits (is_in ss t) refl)

  choice_deepens : (b : B) (ts : List Lexeme) → Or G H false b ts → Or G H true b ts
  choice_deepens b ts (inl x) = inl (e₁.deepens b ts x)
  choice_deepens b ts (inr x) = inr (e₂.deepens b ts x)

  choice_clean : (d : Bool) (b : B) (ts : List Lexeme) → Or G H d b ts → AllGood ts
  choice_clean d b ts (inl x) = e₁.clean d b ts x
  choice_clean d b ts (inr x) = e₂.clean d b ts x

  choice_mixed : (d : Bool) (b c : B) (x y u v : List Lexeme) → G d b x → H d c y → x ++ u ≡ y ++ v → Clear (last₁ ++ (last₂ ++ if_blank blank₂ ss)) v → ⊥
  choice_mixed d b c [] y u v p q e cv = let r = e₁.filled d b p in absurd (cc)
  choice_mixed d b c (t ∷ x) [] u v p q e cv =
      cv t (sym (ap first_of e))
      (in_right last₁ (last₂ ++ if_blank blank₂ ss) t (in_right last₂ (if_blank blank₂ ss) t (in_blank blank₂ ss t (e₂.filled d c q) (e₁.starts d b t x p))))
  choice_mixed d b c (t ∷ x) (w ∷ y) u v p q e cv =
      apart ss first₂ unlike t (e₁.starts d b t x p) (subst (λ z. Has first₂ z) (heads t w (x ++ u) (y ++ v) e) (e₂.starts d c w y q))

  choice_unique : Unique (Or G H) (last₁ ++ (last₂ ++ if_blank blank₂ ss))
  choice_unique d b c x y u v (inl p) (inl q) e cu cv =
      e₁.unique d b c x y u v p q e (λ w i k. cu w i (in_left last₁ (last₂ ++ if_blank blank₂ ss) w k)) (λ w i k. cv w i (in_left last₁ (last₂ ++ if_blank blank₂ ss) w k))
  choice_unique d b c x y u v (inl p) (inr q) e cu cv = absurd (choice_mixed d b c x y u v p q e cv)
  choice_unique d b c x y u v (inr p) (inl q) e cu cv = absurd (choice_mixed d c b y x v u q p (sym e) cu)
  choice_unique d b c x y u v (inr p) (inr q) e cu cv =
      e₂.unique d b c x y u v p q e (λ w i k. cu w i (in_right last₁ (last₂ ++ if_blank blank₂ ss) w (in_left last₂ (if_blank blank₂ ss) w k)))
      (λ w i k. cv w i (in_right last₁ (last₂ ++ if_blank blank₂ ss) w (in_left last₂ (if_blank blank₂ ss) w k)))

  pub choice : Exact n (λ ts. if test ts then g ts else h ts) (Or G H) (ss ++ first₂) blank₂ (last₁ ++ (last₂ ++ if_blank blank₂ ss))
  choice = record { starts = choice_starts; filled = choice_filled; deepens = choice_deepens; clean = choice_clean; unique = choice_unique; exact = choice_exact }
