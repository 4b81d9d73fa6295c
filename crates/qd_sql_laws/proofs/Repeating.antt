-- Rules that repeat: lists with commas, and what stands behind operators.
use Rattle.std.proofs.Common.{◌≡◌, ℕ, zero, suc, ◌≤◌, Bool, true, false, List, [], ◌∷◌, ◌++◌, length, Option, None, Err, refl, sym, ap, ap₂, ◌∙◌, subst, arith, inl, inr, ◌⊎◌, append_assoc, append-nil, Some}
use Rattle.qd_sql_lexer.specs.declared.token.Kind.TheVariants as kind
use Rattle.std.proofs.lemmas.List.{append_cancel_left}
use Rattle.qd_sql_lexer.specs.Tokens.{Lexeme}
use Rattle.qd_sql_ast.specs.declared.tree.Stmt.{Stmt}
use Rattle.qd_sql_ast.specs.Steps.{same_kind, Read, stuck, list, list_from, links, links_from}
use Rattle.qd_sql_laws.specs.Parts.{◌⋅◌, Each, Commas, Sign}
use Rattle.qd_sql_laws.proofs.Sorts.{apart, in_right, or_left, AllGood, join_good, sign_good, Sort, Has, clash, clash_nil, in_append, in_left}
use Rattle.qd_sql_laws.proofs.Judging.{Clear, heads, tails, Rule, Judges, first_of, alike}
use Rattle.qd_sql_laws.proofs.Combining.{Unique, Then, Or, Just, Token, Alive, Follows, Exact, if_blank, seq, just, by_form, widen}
use Rattle.qd_sql_laws.proofs.Choosing.{Chooser, Takes, Leaves, alt}
use Rattle.qd_sql_laws.proofs.Tokens.{SignQ, signs}

-- each of these behind those that were found
abbrev pub More : {A : Type 0} → List A → Rule A → Rule (List A)
More {A} found R d xs ts = (ys : List A) × (xs ≡ found ++ ys) × Each (R d) ys ts

short : (ts : List Lexeme) → length ts ≤ 0 → ts ≡ []
short [] h = refl
short (t ∷ ts) h = absurd (omega arith)

no_first : (ts : List Lexeme) → first_of ts ≡ None → ts ≡ []
no_first [] h = refl
no_first (t ∷ ts) h = absurd (cc)

front_blank : (front behind : List Lexeme) → [] ≡ front ++ behind → front ≡ []
front_blank [] behind p = refl
front_blank (t ∷ front) behind p = absurd (cc)

each_deepens : {A : Type 0} (R : Rule A) → ((a : A) (ts : List Lexeme) → R false a ts → R true a ts) → (xs : List A) (ts : List Lexeme) → Each (R false) xs ts → Each (R true) xs ts
each_deepens R deep [] ts h = h
each_deepens R deep (x ∷ xs) ts (one, rest, p, r, more) = (one, rest, p, deep x one r, each_deepens R deep xs rest more)

each_clean : {A : Type 0} (R : A → List Lexeme → Type 0) → ((a : A) (ts : List Lexeme) → R a ts → AllGood ts) → (xs : List A) (ts : List Lexeme) → Each R xs ts → AllGood ts
each_clean R clean [] ts h = subst AllGood (sym h) tt
each_clean R clean (x ∷ xs) ts (one, rest, p, r, more) = join_good ts one rest p (clean x one r) (each_clean R clean xs rest more)

-- lists of what begins with these sorts and takes none of them
module _ {A : Type 0} (L : A → List Lexeme → Type 0) (last ss : List Sort) (unlike : clash last ss ≡ false)
    (first : (y : A) (o : List Lexeme) → L y o → (t : Lexeme) × (rest : List Lexeme) × (o ≡ t ∷ rest) × Has ss t)
    (step : (a b : A) (x y u v : List Lexeme) → L a x → L b y → x ++ u ≡ y ++ v → Clear last u → Clear last v → (a ≡ b) × (x ≡ y)) where
  -- how such a list begins
  each_first : (y : A) (ys : List A) (ts : List Lexeme) → Each L (y ∷ ys) ts → (t : Lexeme) × (rest : List Lexeme) × (ts ≡ t ∷ rest) × Has ss t
  each_first y ys ts (o, r, p, l, more) = let f = first y o l in (f.0, f.1 ++ r, p ∙ ap (λ z. z ++ r) f.2, f.3)

  each_clear : (ys : List A) (r u : List Lexeme) → Each L ys r → Clear (last ++ ss) u → Clear last (r ++ u)
  each_clear [] r u h cu t f i = cu t (ap first_of (ap (λ z. z ++ u) (sym h)) ∙ f) (in_left last ss t i)
  each_clear (y ∷ ys) r u h cu t f i =
      let k = each_first y ys r h in
      let q : first_of (r ++ u) ≡ Some k.0 = ap first_of (ap (λ z. z ++ u) k.2) in
      let same : k.0 ≡ t = cc in
      apart last ss unlike t i (subst (λ z. Has ss z) same k.3)

  each_none : (y : A) (ys : List A) (x u v ts : List Lexeme) → x ≡ [] → x ++ u ≡ ts ++ v → Each L (y ∷ ys) ts → Clear (last ++ ss) u → ⊥
  each_none y ys x u v ts blank e h cu =
      let k = each_first y ys ts h in
      cu k.0 (ap first_of (ap (λ z. z ++ u) (sym blank) ∙ e ∙ ap (λ z. z ++ v) k.2)) (in_right last ss k.0 k.3)

  pub each_unique : (ys zs : List A) (x y u v : List Lexeme) → Each L ys x → Each L zs y → x ++ u ≡ y ++ v → Clear (last ++ ss) u → Clear (last ++ ss) v → (ys ≡ zs) × (x ≡ y)
  each_unique [] [] x y u v h k e cu cv = (refl, h ∙ sym k)
  each_unique [] (z ∷ zs) x y u v h k e cu cv = absurd (each_none z zs x u v y h e k cu)
  each_unique (w ∷ ws) [] x y u v h k e cu cv = absurd (each_none w ws y v u x k (sym e) h cv)
  each_unique (w ∷ ws) (z ∷ zs) x y u v (o, r, p, l, more) (o', r', p', l', more') e cu cv =
      let e' : o ++ (r ++ u) ≡ o' ++ (r' ++ v) = sym (append_assoc o r u) ∙ ap (λ i. i ++ u) (sym p) ∙ e ∙ ap (λ i. i ++ v) p' ∙ append_assoc o' r' v in
      let h : (w ≡ z) × (o ≡ o') = step w z o o' (r ++ u) (r' ++ v) l l' e' (each_clear ws r u more cu) (each_clear zs r' v more' cv) in
      let f : r ++ u ≡ r' ++ v = append_cancel_left o (r ++ u) (r' ++ v) (e' ∙ ap (λ i. i ++ (r' ++ v)) (sym h.1)) in
      let k : (ws ≡ zs) × (r ≡ r') = each_unique ws zs r r' u v more more' f cu cv in
      (ap₂ (λ i j. i ∷ j) h.0 k.0, p ∙ ap₂ (λ i j. i ++ j) h.1 k.1 ∙ sym p')

module _ {A B : Type 0} {op : List Lexeme → Option (A × List Lexeme)} {Q : A → Lexeme → Type 0} {ss : List Sort} (chooser : Chooser op Q ss)
    {item : A → List Lexeme → Read B} {I : A → Rule B} {first last : List Sort} {blank : Bool}
    (e : (n : ℕ) (a : A) → Exact n (item a) (I a) first blank last) (unlike : clash last ss ≡ false) where
  -- no link is empty
  none_blank : (d : Bool) (ys : List B) → Each (Then (Token Q) I d) ys [] → ys ≡ []
  none_blank d [] h = refl
  none_blank d (y ∷ ys) (link, rest, p, (a, one, behind, q, (t, r, x), i), more) =
      let blank : link ≡ [] = front_blank link rest p in
      let whole : link ≡ t ∷ behind = q ∙ ap (λ z. z ++ behind) r in
      absurd (cc)

  is_of_op : (a : A) (u : Lexeme) → Takes op Q ss u ⊎ Leaves op Q ss u → Q a u → Has ss u
  is_of_op a u (inl (b, q, one, takes, h)) x = h
  is_of_op a u (inr (none, leaves, h)) x = absurd (none a x)

  one_op : (t : Lexeme) → Takes op Q ss t ⊎ Leaves op Q ss t → (a b : A) → Q a t → Q b t → a ≡ b
  one_op t (inl (c, q, one, takes, h)) a b p r = one a p ∙ sym (one b r)
  one_op t (inr (none, leaves, h)) a b p r = absurd (none a p)

  links_starts : (found : List B) (d : Bool) (xs : List B) (t : Lexeme) (ts : List Lexeme) → More found (Then (Token Q) I) d xs (t ∷ ts) → Has ss t
  links_starts found d xs t ts ([], p, h) = absurd (cc)
  links_starts found d xs t ts (y ∷ ys, p, (link, rest, q, (a, one, behind, r, (u, s, x), i), more)) =
      let whole : t ∷ ts ≡ (u ∷ behind) ++ rest = q ∙ ap (λ z. z ++ rest) (r ∙ ap (λ z. z ++ behind) s) in
      let same : u ≡ t = cc in
      subst (λ z. Has ss z) same (is_of_op a u (chooser.one u) x)

  wide : (t : Lexeme) → Has (((last ++ ss) ++ if_blank true last) ++ ([] ++ if_blank true ss)) t → Has (last ++ ss) t
  wide t h = from (in_append ((last ++ ss) ++ last) ss t h) where
    inner : Has (last ++ ss) t ⊎ Has last t → Has (last ++ ss) t
    inner (inl x) = x
    inner (inr x) = in_left last ss t x

    from : Has ((last ++ ss) ++ last) t ⊎ Has ss t → Has (last ++ ss) t
    from (inl x) = inner (in_append (last ++ ss) last t x)
    from (inr x) = in_right last ss t x

  unnil : (t : Lexeme) → Has (ss ++ []) t → Has ss t
  unnil t h = subst (λ z. Has z t) (append-nil ss) h

  -- one link more
  to_more : (found : List B) (d : Bool) (xs : List B) (ts : List Lexeme)
      → Or (Then (Token Q) (λ a. Then (I a) (λ y. More (found ++ y ∷ []) (Then (Token Q) I)))) (Just found) d xs ts → More found (Then (Token Q) I) d xs ts
  to_more found d xs ts (inl (a, one, behind, p, x, (y, two, rest, q, i, (ys, r, more)))) =
      (y ∷ ys, r ∙ append_assoc found (y ∷ []) ys, (one ++ two, rest, p ∙ ap (λ z. one ++ z) q ∙ sym (append_assoc one two rest), (a, one, two, refl, x, i), more))
  to_more found d xs ts (inr (p, q)) = ([], p ∙ sym (append-nil found), q)

  from_more : (found : List B) (d : Bool) (xs : List B) (ts : List Lexeme) → More found (Then (Token Q) I) d xs ts
      → Or (Then (Token Q) (λ a. Then (I a) (λ y. More (found ++ y ∷ []) (Then (Token Q) I)))) (Just found) d xs ts
  from_more found d xs ts ([], p, h) = inr (p ∙ append-nil found, h)
  from_more found d xs ts (y ∷ ys, p, (link, rest, q, (a, one, two, r, x, i), more)) =
      inl (
        a,
        one,
        two ++ rest,
        q ∙ ap (λ z. z ++ rest) r ∙ append_assoc one two rest,
        x,
        (y, two, rest, refl, i, (ys, p ∙ sym (append_assoc found (y ∷ []) ys), more)),
      )

  link_deepens : (y : B) (ts : List Lexeme) → Then (Token Q) I false y ts → Then (Token Q) I true y ts
  link_deepens y ts (a, one, rest, p, q, i) = (a, one, rest, p, q, (e 0 a).deepens y rest i)

  link_clean : (d : Bool) (y : B) (ts : List Lexeme) → Then (Token Q) I d y ts → AllGood ts
  link_clean d y ts (a, one, rest, p, (u, f, q), i) = join_good ts one rest p (subst AllGood (sym f) (chooser.good a u q, tt)) ((e 0 a).clean d y rest i)

  link_first : (d : Bool) (y : B) (ts : List Lexeme) → Then (Token Q) I d y ts → (t : Lexeme) × (rest : List Lexeme) × (ts ≡ t ∷ rest) × Has ss t
  link_first d y ts (a, one, rest, p, (u, f, q), i) = (u, rest, p ∙ ap (λ z. z ++ rest) f, is_of_op a u (chooser.one u) q)

  link_unique : (d : Bool) (a b : B) (x y u v : List Lexeme) → Then (Token Q) I d a x → Then (Token Q) I d b y → x ++ u ≡ y ++ v → Clear last u → Clear last v → (a ≡ b) × (x ≡ y)
  link_unique d b c x y u v (a, o, r, p, (t, f, q), i) (a', o', r', p', (t', f', q'), i') e' cu cv =
      let left : x ++ u ≡ t ∷ (r ++ u) = ap (λ z. z ++ u) (p ∙ ap (λ z. z ++ r) f) in
      let right : y ++ v ≡ t' ∷ (r' ++ v) = ap (λ z. z ++ v) (p' ∙ ap (λ z. z ++ r') f') in
      let whole : t ∷ (r ++ u) ≡ t' ∷ (r' ++ v) = sym left ∙ e' ∙ right in
      let same : t' ≡ t = heads t t' (r ++ u) (r' ++ v) whole in
      let which : a ≡ a' = one_op t (chooser.one t) a a' q (subst (λ z. Q a' z) same q') in
      let k : (b ≡ c) × (r ≡ r') = (e 0 a).unique d b c r r' u v i (subst (λ z. I z d c r') (sym which) i') (tails t t' (r ++ u) (r' ++ v) whole) cu cv in
      (k.0, p ∙ ap₂ (λ z w. z ++ w) (f ∙ ap (λ z. z ∷ []) (sym same) ∙ sym f') k.1 ∙ sym p')

  the_links_unique : Unique (λ d ys. Each (Then (Token Q) I d) ys) (last ++ ss)
  the_links_unique d ys zs x y u v h k e' cu cv = each_unique (Then (Token Q) I d) last ss unlike (link_first d) (link_unique d) ys zs x y u v h k e' cu cv

  more_unique : (found : List B) → Unique (More found (Then (Token Q) I)) (last ++ ss)
  more_unique found d a b x y u v (ys, p, h) (zs, q, k) e' cu cv =
      let m : (ys ≡ zs) × (x ≡ y) = the_links_unique d ys zs x y u v h k e' cu cv in
      (p ∙ ap (λ z. found ++ z) m.0 ∙ sym q, m.1)

  links_none : (found : List B) (k : List B → List Lexeme → Read Stmt) (K : List B → Rule Stmt) → Follows 0 (last ++ ss) k K → (ts : List Lexeme) → length ts ≤ 0
      → Judges (Then (More found (Then (Token Q) I)) K) ts (k found ts)
  links_none found k K follows ts fits = alike (Then (More found (Then (Token Q) I)) K) (K found) ts (k found ts)
      (λ b us x. (found, [], us, refl, ([], sym (append-nil found), refl), x))
      (λ d b us same (xs, front, behind, p, (ys, q, more), x).
      let blank : us ≡ [] = no_first us (same ∙ ap first_of (short ts fits)) in
      let nothing : front ≡ [] = front_blank front behind (sym blank ∙ p) in
      let none : ys ≡ [] = none_blank d ys (subst (λ z. Each (Then (Token Q) I d) ys z) nothing more) in
      let all : xs ≡ found = q ∙ ap (λ z. found ++ z) none ∙ append-nil found in
      let rest : behind ≡ us = ap (λ z. z ++ behind) (sym nothing) ∙ sym p in
      subst (λ z. K found d b z) rest (subst (λ z. K z d b behind) all x))
      (follows.goes found ts fits)

  links_at : (n : ℕ) (found : List B) → Exact n (λ ts. links_from op item n found ts) (More found (Then (Token Q) I)) ss true (last ++ ss)
  unfolding links_from
  links_at zero found = record {
    starts = links_starts found;
    filled = λ d xs h. refl;
    deepens = λ xs ts (ys, p, more). (ys, p, each_deepens (Then (Token Q) I) link_deepens ys ts more);
    clean = λ d xs ts (ys, p, more). each_clean (Then (Token Q) I d) (link_clean d) ys ts more;
    unique = more_unique found;
    exact = links_none found;
  }
  links_at (suc n) found =
      by_form (to_more found) (from_more found) (widen unnil wide
      (alt {n = n} {m = suc n} (omega arith) (omega arith) chooser
      (λ a. seq (e n a) (λ y. links_at n (found ++ y ∷ [])) (λ y. (found ++ y ∷ [], [], ([], sym (append-nil (found ++ y ∷ [])), refl))) unlike)
      (just (suc n) found) (clash_nil ss)))

  -- as many as the tokens allow
  pub links_exact : (n : ℕ) → Exact n (links op item) (λ d ys. Each (Then (Token Q) I d) ys) ss true (last ++ ss)
  links_exact n = record {
    starts = λ d ys t ts h. links_starts [] d ys t ts (ys, refl, h);
    filled = λ d ys h. refl;
    deepens = λ ys ts more. each_deepens (Then (Token Q) I) link_deepens ys ts more;
    clean = λ d ys ts more. each_clean (Then (Token Q) I d) (link_clean d) ys ts more;
    unique = the_links_unique;
    exact = λ k K follows ts fits. alike (Then (λ d ys. Each (Then (Token Q) I d) ys) K) (Then (More [] (Then (Token Q) I)) K) ts _
        (λ b us (xs, front, behind, p, (ys, q, h), x). (xs, front, behind, p, subst (λ z. Each (Then (Token Q) I false) z front) (sym q) h, x))
        (λ d b us same (ys, front, behind, p, h, x). (ys, front, behind, p, (ys, refl, h), x))
        ((links_at (length ts) []).exact k K (record {
          goes = λ a us few. follows.goes a us (omega arith);
          lives = follows.lives;
          deepens = follows.deepens;
          parts = follows.parts;
        }) ts (omega arith));
  }

-- one or more of these, behind those that were found
abbrev pub Behind : {A : Type 0} → List A → Rule A → Rule (List A)
Behind {A} found R d xs ts = (ys : List A) × (xs ≡ found ++ ys) × Commas (R d) ys ts

comma_good : same_kind kind.Comma kind.Bad ≡ false
unfolding same_kind
comma_good = refl

abbrev pub comma : List Sort
comma = Sort.sign kind.Comma ∷ []

module _ {A : Type 0} {item : List Lexeme → Read A} {R : Rule A} {first last : List Sort} (e : (n : ℕ) → Exact n item R first false last) (alive : Alive R) (unlike : clash last comma ≡ false) where
  not_blank : (d : Bool) (x : A) → R d x [] → ⊥
  not_blank d x h = let p = (e 0).filled d x h in absurd (cc)

  list_starts : (found : List A) (d : Bool) (xs : List A) (t : Lexeme) (ts : List Lexeme) → Behind found R d xs (t ∷ ts) → Has first t
  list_starts found d xs t ts ([], p, h) = absurd h
  list_starts found d xs t ts (y ∷ ys, p, ([], rest, q, r, more)) = absurd (not_blank d y r)
  list_starts found d xs t ts (y ∷ ys, p, (u ∷ one, rest, q, r, more)) =
      let same : u ≡ t = cc in
      subst (λ z. Has first z) same ((e 0).starts d y u one r)

  list_filled : (found : List A) (d : Bool) (xs : List A) → Behind found R d xs [] → ⊥
  list_filled found d xs ([], p, h) = h
  list_filled found d xs (y ∷ ys, p, (one, rest, q, r, more)) = not_blank d y (subst (λ z. R d y z) (front_blank one rest q) r)

  next_deepens : (y : A) (ts : List Lexeme) → (Sign kind.Comma ⋅ R false y) ts → (Sign kind.Comma ⋅ R true y) ts
  next_deepens y ts (one, rest, p, c, r) = (one, rest, p, c, (e 0).deepens y rest r)

  list_deepens : (xs : List A) (ts : List Lexeme) → Commas (R false) xs ts → Commas (R true) xs ts
  list_deepens [] ts h = absurd h
  list_deepens (x ∷ xs) ts (one, rest, p, r, more) = (one, rest, p, (e 0).deepens x one r, each_deepens (λ d y. Sign kind.Comma ⋅ R d y) next_deepens xs rest more)

  next_clean : (d : Bool) (y : A) (ts : List Lexeme) → (Sign kind.Comma ⋅ R d y) ts → AllGood ts
  next_clean d y ts (one, rest, p, (t, f, is), r) = join_good ts one rest p (subst AllGood (sym f) (sign_good kind.Comma comma_good t is, tt)) ((e 0).clean d y rest r)

  list_clean : (d : Bool) (xs : List A) (ts : List Lexeme) → Commas (R d) xs ts → AllGood ts
  list_clean d [] ts h = absurd h
  list_clean d (x ∷ xs) ts (one, rest, p, r, more) = join_good ts one rest p ((e 0).clean d x one r) (each_clean (λ y. Sign kind.Comma ⋅ R d y) (next_clean d) xs rest more)

  next_first : (d : Bool) (y : A) (ts : List Lexeme) → (Sign kind.Comma ⋅ R d y) ts → (t : Lexeme) × (rest : List Lexeme) × (ts ≡ t ∷ rest) × Has comma t
  next_first d y ts (one, rest, p, (t, f, is), r) = (t, rest, p ∙ ap (λ z. z ++ rest) f, or_left (same_kind t.kind kind.Comma) false is)

  next_unique : (d : Bool) (a b : A) (x y u v : List Lexeme) → (Sign kind.Comma ⋅ R d a) x → (Sign kind.Comma ⋅ R d b) y → x ++ u ≡ y ++ v → Clear last u → Clear last v → (a ≡ b) × (x ≡ y)
  next_unique d a b x y u v (o, r, p, (t, f, is), h) (o', r', p', (t', f', is'), h') e' cu cv =
      let left : x ++ u ≡ t ∷ (r ++ u) = ap (λ z. z ++ u) (p ∙ ap (λ z. z ++ r) f) in
      let right : y ++ v ≡ t' ∷ (r' ++ v) = ap (λ z. z ++ v) (p' ∙ ap (λ z. z ++ r') f') in
      let whole : t ∷ (r ++ u) ≡ t' ∷ (r' ++ v) = sym left ∙ e' ∙ right in
      let same : t' ≡ t = heads t t' (r ++ u) (r' ++ v) whole in
      let k : (a ≡ b) × (r ≡ r') = (e 0).unique d a b r r' u v h h' (tails t t' (r ++ u) (r' ++ v) whole) cu cv in
      (k.0, p ∙ ap₂ (λ z w. z ++ w) (f ∙ ap (λ z. z ∷ []) (sym same) ∙ sym f') k.1 ∙ sym p')

  list_unique : Unique (λ d xs. Commas (R d) xs) (last ++ comma)
  list_unique d [] zs x y u v h k e' cu cv = absurd h
  list_unique d (w ∷ ws) [] x y u v h k e' cu cv = absurd k
  list_unique d (w ∷ ws) (z ∷ zs) x y u v (o, r, p, l, more) (o', r', p', l', more') e' cu cv =
      let f : o ++ (r ++ u) ≡ o' ++ (r' ++ v) = sym (append_assoc o r u) ∙ ap (λ i. i ++ u) (sym p) ∙ e' ∙ ap (λ i. i ++ v) p' ∙ append_assoc o' r' v in
      let h : (w ≡ z) × (o ≡ o') = (e 0).unique d w z o o' (r ++ u) (r' ++ v) l l' f
      (each_clear (λ i. Sign kind.Comma ⋅ R d i) last comma unlike (next_first d) (next_unique d) ws r u more cu)
      (each_clear (λ i. Sign kind.Comma ⋅ R d i) last comma unlike (next_first d) (next_unique d) zs r' v more' cv) in
      let g : r ++ u ≡ r' ++ v = append_cancel_left o (r ++ u) (r' ++ v) (f ∙ ap (λ i. i ++ (r' ++ v)) (sym h.1)) in
      let k : (ws ≡ zs) × (r ≡ r') = each_unique (λ i. Sign kind.Comma ⋅ R d i) last comma unlike (next_first d) (next_unique d) ws zs r r' u v more more' g cu cv in
      (ap₂ (λ i j. i ∷ j) h.0 k.0, p ∙ ap₂ (λ i j. i ++ j) h.1 k.1 ∙ sym p')

  behind_unique : (found : List A) → Unique (Behind found R) (last ++ comma)
  behind_unique found d a b x y u v (ys, p, h) (zs, q, k) e' cu cv =
      let m : (ys ≡ zs) × (x ≡ y) = list_unique d ys zs x y u v h k e' cu cv in
      (p ∙ ap (λ z. found ++ z) m.0 ∙ sym q, m.1)

  list_none : (found : List A) (k : List A → List Lexeme → Read Stmt) (K : List A → Rule Stmt) → Follows 0 (last ++ comma) k K → (ts : List Lexeme) → length ts ≤ 0
      → Judges (Then (Behind found R) K) ts (Err (stuck ts))
  unfolding stuck
  list_none found k K follows [] fits =
      let r = alive in let x = follows.lives (found ++ r.0 ∷ []) in (
        (r.1 ++ x.1, x.0, (found ++ r.0 ∷ [], r.1, x.1, refl, (r.0 ∷ [], refl, (r.1, [], sym (append-nil r.1), r.2, refl)), x.2)),
        (λ b (xs, front, behind, p, h, y). list_filled found true xs (subst (λ z. Behind found R true xs z) (front_blank front behind p) h)),
      )
  list_none found k K follows (t ∷ ts) fits = absurd (omega arith)

  -- one element more
  to_behind : (found : List A) (d : Bool) (xs : List A) (ts : List Lexeme)
      → Then R (λ x. Or (Then (Token (SignQ kind.Comma)) (λ at. Behind (found ++ x ∷ []) R)) (Just (found ++ x ∷ []))) d xs ts → Behind found R d xs ts
  to_behind found d xs ts (x, one, rest, p, r, inl (at, c, w, q, (t, s, is), ([], e', h))) = absurd h
  to_behind found d xs ts (x, one, rest, p, r, inl (at, c, w, q, (t, s, is), (y ∷ ys, e', (two, three, e'', r', more)))) = (
    x ∷ y ∷ ys,
    e' ∙ append_assoc found (x ∷ []) (y ∷ ys),
    (one, rest, p, r, (c ++ two, three, q ∙ ap (λ z. c ++ z) e'' ∙ sym (append_assoc c two three), (c, two, refl, (t, s, is.0), r'), more)),
  )
  to_behind found d xs ts (x, one, rest, p, r, inr (q, s)) = (x ∷ [], q, (one, rest, p, r, s))

  from_behind : (found : List A) (d : Bool) (xs : List A) (ts : List Lexeme) → Behind found R d xs ts
      → Then R (λ x. Or (Then (Token (SignQ kind.Comma)) (λ at. Behind (found ++ x ∷ []) R)) (Just (found ++ x ∷ []))) d xs ts
  from_behind found d xs ts ([], p, h) = absurd h
  from_behind found d xs ts (x ∷ [], p, (one, rest, q, r, more)) = (x, one, rest, q, r, inr (p, more))
  from_behind found d xs ts (x ∷ y ∷ ys, p, (one, rest, q, r, (link, three, s, (c, two, u, (t, v, is), r'), more))) = (
    x,
    one,
    rest,
    q,
    r,
    inl (
      t.at,
      c,
      two ++ three,
      s ∙ ap (λ z. z ++ three) u ∙ append_assoc c two three,
      (t, v, (is, refl)),
      (y ∷ ys, p ∙ sym (append_assoc found (x ∷ []) (y ∷ ys)), (two, three, refl, r', more)),
    ),
  )

  list_wide : (t : Lexeme) → Has (((last ++ comma) ++ ([] ++ if_blank true comma)) ++ if_blank true last) t → Has (last ++ comma) t
  list_wide t h = from (in_append ((last ++ comma) ++ comma) last t h) where
    inner : Has (last ++ comma) t ⊎ Has comma t → Has (last ++ comma) t
    inner (inl x) = x
    inner (inr x) = in_right last comma t x

    from : Has ((last ++ comma) ++ comma) t ⊎ Has last t → Has (last ++ comma) t
    from (inl x) = inner (in_append (last ++ comma) comma t x)
    from (inr x) = in_left last comma t x

  list_first : (t : Lexeme) → Has (first ++ if_blank false (comma ++ [])) t → Has first t
  list_first t h = subst (λ z. Has z t) (append-nil first) h

  list_at : (n : ℕ) (found : List A) → Exact n (λ ts. list_from item n found ts) (Behind found R) first false (last ++ comma)
  unfolding list_from
  list_at zero found = record {
    starts = list_starts found;
    filled = λ d xs h. absurd (list_filled found d xs h);
    deepens = λ xs ts (ys, p, h). (ys, p, list_deepens ys ts h);
    clean = λ d xs ts (ys, p, h). list_clean d ys ts h;
    unique = behind_unique found;
    exact = list_none found;
  }
  list_at (suc n) found =
      by_form (to_behind found) (from_behind found) (widen list_first list_wide
      (seq (e (suc n)) (λ x. alt {n = n} {m = suc n} (omega arith) (omega arith) (signs kind.Comma comma_good) (λ at. list_at n (found ++ x ∷ [])) (just (suc n) (found ++ x ∷ [])) (clash_nil comma))
      (λ x. (found ++ x ∷ [], [], inr (refl, refl))) unlike))

  pub list_exact : (n : ℕ) → Exact n (list item) (λ d xs. Commas (R d) xs) first false (last ++ comma)
  list_exact n = record {
    starts = λ d xs t ts h. list_starts [] d xs t ts (xs, refl, h);
    filled = λ d xs h. absurd (list_filled [] d xs (xs, refl, h));
    deepens = list_deepens;
    clean = list_clean;
    unique = list_unique;
    exact = λ k K follows ts fits. alike (Then (λ d xs. Commas (R d) xs) K) (Then (Behind [] R) K) ts _
        (λ b us (xs, front, behind, p, (ys, q, h), x). (xs, front, behind, p, subst (λ z. Commas (R false) z front) (sym q) h, x))
        (λ d b us same (ys, front, behind, p, h, x). (ys, front, behind, p, (ys, refl, h), x))
        ((list_at (length ts) []).exact k K (record {
          goes = λ a us few. follows.goes a us (omega arith);
          lives = follows.lives;
          deepens = follows.deepens;
          parts = follows.parts;
        }) ts (omega arith));
  }
