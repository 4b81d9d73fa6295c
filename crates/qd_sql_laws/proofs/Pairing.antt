-- A word with a token of a sort behind it, or else another rule that may begin with the same word.
use Rattle.std.proofs.Common.{◌≡◌, ℕ, ◌≤◌, Bool, true, false, ◌&&◌, List, [], ◌∷◌, ◌++◌, length, Option, Some, None, refl, sym, ap, ap₂, ◌∙◌, subst, arith, inl, inr, if◌then◌else◌}
use Rattle.qd_sql_lexer.specs.declared.token.Kind.TheVariants as kind
use Rattle.qd_sql_lexer.specs.Tokens.{Lexeme}
use Rattle.qd_sql_ast.specs.declared.tree.Stmt.{Stmt}
use Rattle.qd_sql_ast.specs.Steps.{Read, ◌>>=◌, if_taken, same_kind, is_word, call, two_words}
use Rattle.qd_sql_laws.proofs.Sorts.{not_both, Good, AllGood, join_good, sign_good, word_good, Sort, is_of, is_in, Has, in_left, in_right, or_left, or_right}
use Rattle.qd_sql_laws.proofs.Judging.{Clear, heads, tails, Rule, Begins, Judges, first_of, same_first, alike, alike_at, behind_one}
use Rattle.qd_sql_laws.proofs.Combining.{Unique, Then, Or, Token, Follows, Exact}
use Rattle.qd_sql_laws.proofs.Tokens.{WordQ}
use Rattle.qd_sql_laws.proofs.Living.{Live}

abbrev pub open_bracket : List Sort
open_bracket = Sort.sign kind.Open ∷ []

-- a token of a sort
abbrev pub SortQ : Sort → ℕ → Lexeme → Type 0
SortQ s at t = (is_of s t ≡ true) × (at ≡ t.at)

-- the word, the token and what is behind them
abbrev pub Pair : {B : Type 0} → List ℕ → Sort → (ℕ → Rule B) → Rule B
Pair w second G = Then (Token (WordQ w)) (λ at. Then (Token (SortQ second)) (λ o. G at))

-- the same, where it is a bracket
abbrev pub Call : {B : Type 0} → List ℕ → (ℕ → Rule B) → Rule B
Call w G = Pair w (Sort.sign kind.Open) G

-- both are taken, or none
pub record Pairs (w : List ℕ) (second : Sort) (op : List Lexeme → Option (ℕ × List Lexeme)) : Type 0 where
  pub none : op [] ≡ None
  pub one : (t : Lexeme) → op (t ∷ []) ≡ None
  pub two : (t u : Lexeme) (ts : List Lexeme) → op (t ∷ (u ∷ ts)) ≡ (if is_word w t && is_of second u then Some (t.at, ts) else None)
  pub good : (u : Lexeme) → is_of second u ≡ true → Good u

pub calls : (w : List ℕ) → Pairs w (Sort.sign kind.Open) (call w)
unfolding call same_kind
calls w = record { none = refl; one = λ t. refl; two = λ t u ts. refl; good = λ u h. sign_good kind.Open refl u h }

pub double_words : (w v : List ℕ) → Pairs w (Sort.word v) (two_words w v)
unfolding two_words
double_words w v = record { none = refl; one = λ t. refl; two = λ t u ts. refl; good = λ u h. word_good v u h }

both_tests : (a b : Bool) → (a && b) ≡ false → a ≡ true → b ≡ false
both_tests true b p q = p
both_tests false b p q = absurd (cc)

module _ {B : Type 0} {n : ℕ} {w : List ℕ} {second : Sort} {op : List Lexeme → Option (ℕ × List Lexeme)} (pairing : Pairs w second op) {g : ℕ → List Lexeme → Read B} {h : List Lexeme → Read B} {G : ℕ → Rule B} {H : Rule B} {first₁ first₂ : List Sort} {blank₁ : Bool} {last₁ last₂ : List Sort}
    (e₁ : (at : ℕ) → Exact n (g at) (G at) first₁ blank₁ last₁) (e₂ : Exact n h H first₂ false last₂)
    (two : (d : Bool) (c : B) (t u : Lexeme) (ts : List Lexeme) → is_word w t ≡ true → is_of second u ≡ true → H d c (t ∷ u ∷ ts) → ⊥)
    (lone : (t : Lexeme) → is_word w t ≡ true → (c : B) × H false c (t ∷ [])) where
  abbrev Either : Rule B
  Either = Or (Pair w second G) H

  abbrev ends : List Sort
  ends = last₁ ++ (last₂ ++ (second ∷ []))

  -- the tokens of a call
  Parts : Bool → B → List Lexeme → Type 0
  Parts d c ts = (t : Lexeme) × (u : Lexeme) × (rest : List Lexeme) × (ts ≡ t ∷ u ∷ rest) × (is_word w t ≡ true) × (is_of second u ≡ true) × G t.at d c rest

  parts : (d : Bool) (c : B) (ts : List Lexeme) → Pair w second G d c ts → Parts d c ts
  unfolding Parts
  parts d c ts (at, o, r, p, (t, e, (s, q)), (b, o₂, r₂, p₂, (u, e₂, (s₂, q₂)), x)) =
      (t, u, r₂, p ∙ ap (λ z. z ++ r) e ∙ ap (λ z. t ∷ z) (p₂ ∙ ap (λ z. z ++ r₂) e₂), s, s₂, subst (λ z. G z d c r₂) q x)

  -- with what goes on behind it
  parts_behind : (d : Bool) (c : B) (us front behind : List Lexeme) → us ≡ front ++ behind → Parts d c front
      → (t : Lexeme) × (u : Lexeme) × (rest : List Lexeme) × (us ≡ t ∷ u ∷ (rest ++ behind)) × (is_word w t ≡ true) × (is_of second u ≡ true) × G t.at d c rest
  unfolding Parts
  parts_behind d c us front behind p (t, u, rest, q, s, s₂, x) = (t, u, rest, p ∙ ap (λ z. z ++ behind) q, s, s₂, x)

  pair_starts : (d : Bool) (c : B) (t : Lexeme) (ts : List Lexeme) → Or (Pair w second G) H d c (t ∷ ts) → Has (Sort.word w ∷ first₂) t
  unfolding Parts
  pair_starts d c t ts (inl x) =
      let y = parts d c (t ∷ ts) x in
      or_left (is_word w t) (is_in first₂ t) (subst (λ z. is_word w z ≡ true) (heads t y.0 ts (y.1 ∷ y.2) y.3) y.4)
  pair_starts d c t ts (inr x) = or_right (is_word w t) (is_in first₂ t) (e₂.starts d c t ts x)

  pair_filled : (d : Bool) (c : B) → Or (Pair w second G) H d c [] → false ≡ true
  unfolding Parts
  pair_filled d c (inl x) = let y = parts d c [] x in let q : [] ≡ y.0 ∷ (y.1 ∷ y.2) = y.3 in absurd (cc)
  pair_filled d c (inr x) = e₂.filled d c x

  pair_deepens : (c : B) (ts : List Lexeme) → Or (Pair w second G) H false c ts → Or (Pair w second G) H true c ts
  pair_deepens c ts (inl (at, o, r, p, s, (b, o₂, r₂, p₂, s₂, x))) = inl (at, o, r, p, s, (b, o₂, r₂, p₂, s₂, (e₁ at).deepens c r₂ x))
  pair_deepens c ts (inr x) = inr (e₂.deepens c ts x)

  -- where no call is on any list that begins so
  pair_other : (K : B → Rule Stmt) (ts : List Lexeme) (r : Read Stmt) → ((t : Lexeme) → first_of ts ≡ Some t → is_word w t ≡ true → ⊥)
      → Judges (Then H K) ts r → Judges (Then (Or (Pair w second G) H) K) ts r
  pair_other K ts r none judged = alike (Then (Or (Pair w second G) H) K) (Then H K) ts r
      (λ b us (c, front, behind, p, x, y). (c, front, behind, p, inr x, y))
      (λ d b us same (c, front, behind, p, x, y). (c, front, behind, p, other d c front behind us p same x, y)) judged where
        other : (d : Bool) (c : B) (front behind us : List Lexeme) → us ≡ front ++ behind → first_of us ≡ first_of ts → Or (Pair w second G) H d c front → H d c front
        other d c front behind us p same (inl x) =
            let y = parts_behind d c us front behind p (parts d c front x) in
            absurd (none y.0 (sym same ∙ ap first_of y.3) y.4)
        other d c front behind us p same (inr x) = x

  -- the word alone may go on
  goes_on : (k : B → List Lexeme → Read Stmt) (K : B → Rule Stmt) → Follows n (last₁ ++ (last₂ ++ (second ∷ []))) k K → (t : Lexeme) → is_word w t ≡ true → Begins true (Then H K) (t ∷ [])
  goes_on k K follows t is =
      let c = lone t is in let x = follows.lives c.0 in
      (x.1, x.0, (c.0, t ∷ [], x.1, refl, e₂.deepens c.0 (t ∷ []) c.1, follows.deepens c.0 x.0 x.1 x.2))

  -- where the word stands, and behind it something else than a bracket, or nothing
  not_pair : (K : B → Rule Stmt) (d : Bool) (b : Stmt) (t : Lexeme) (ts : List Lexeme) → ((u : Lexeme) → first_of ts ≡ Some u → is_of second u ≡ true → ⊥)
      → Then (Or (Pair w second G) H) K d b (t ∷ ts) → Then H K d b (t ∷ ts)
  not_pair K d b t ts none (c, front, behind, p, inl x, y) =
      let z = parts_behind d c (t ∷ ts) front behind p (parts d c front x) in
      absurd (none z.1 (ap first_of (tails t z.0 ts (z.1 ∷ (z.2 ++ behind)) z.3)) z.5)
  not_pair K d b t ts none (c, front, behind, p, inr x, y) = (c, front, behind, p, x, y)

  not_pair_more : (K : B → Rule Stmt) (t : Lexeme) (ts front : List Lexeme) (u : Lexeme) (behind : List Lexeme) → t ∷ ts ≡ front ++ u ∷ behind
      → ((v : Lexeme) → first_of ts ≡ Some v → is_of second v ≡ true → ⊥) → Begins true (Then H K) (t ∷ [])
      → (Begins true (Then H K) (front ++ u ∷ []) → ⊥) → Begins true (Then (Or (Pair w second G) H) K) (front ++ u ∷ []) → ⊥
  not_pair_more K t ts [] u behind p none goes unlike x = unlike (subst (λ z. Begins true (Then H K) (z ∷ [])) (sym (heads t u ts behind p)) goes)
  not_pair_more K t ts (f ∷ front) u behind p none goes unlike (more, b, x) =
      unlike (
        more,
        b,
        not_pair K true b f ((front ++ u ∷ []) ++ more)
            (λ v q. none v (ap first_of (tails t f ts (front ++ u ∷ behind) p) ∙ same_first front u behind [] ∙ first_in front u more ∙ q)) x,
      ) where
        first_in : (zs : List Lexeme) (u : Lexeme) (more : List Lexeme) → first_of (zs ++ u ∷ []) ≡ first_of ((zs ++ u ∷ []) ++ more)
        first_in [] u more = refl
        first_in (z ∷ zs) u more = refl

  pair_not : (k : B → List Lexeme → Read Stmt) (K : B → Rule Stmt) → Follows n (last₁ ++ (last₂ ++ (second ∷ []))) k K → (t : Lexeme) (ts : List Lexeme) → is_word w t ≡ true
      → ((u : Lexeme) → first_of ts ≡ Some u → is_of second u ≡ true → ⊥) → (r : Read Stmt) → Judges (Then H K) (t ∷ ts) r → Judges (Then (Or (Pair w second G) H) K) (t ∷ ts) r
  pair_not k K follows t ts is none r judged = alike_at (Then (Or (Pair w second G) H) K) (Then H K) (t ∷ ts) r
      (λ b us (c, front, behind, p, x, y). (c, front, behind, p, inr x, y))
      (λ d b x. not_pair K d b t ts none x)
      (λ front u behind p unlike x. not_pair_more K t ts front u behind p none (goes_on k K follows t is) unlike x) judged

  -- where both stand
  pair_front : (k : B → List Lexeme → Read Stmt) (K : B → Rule Stmt) → Follows n (last₁ ++ (last₂ ++ (second ∷ []))) k K → (t u : Lexeme) → is_word w t ≡ true → is_of second u ≡ true
      → (d : Bool) (b : Stmt) (ts : List Lexeme) (c : B) (front behind : List Lexeme) → t ∷ (u ∷ ts) ≡ front ++ behind → H d c front → K c d b behind → ⊥
  pair_front k K follows t u is opens d b ts c [] behind p x y = let q = e₂.filled d c x in absurd (cc)
  pair_front k K follows t u is opens d b ts c (v ∷ []) behind p x y =
      follows.parts c d b u ts (subst (λ z. K c d b z) (sym (tails t v (u ∷ ts) behind p)) y)
      (in_right last₁ (last₂ ++ (second ∷ [])) u (in_right last₂ (second ∷ []) u (or_left (is_of second u) false opens)))
  pair_front k K follows t u is opens d b ts c (v ∷ v₂ ∷ front) behind p x y =
      let q : u ∷ ts ≡ v₂ ∷ (front ++ behind) = tails t v (u ∷ ts) (v₂ ∷ (front ++ behind)) p in
      two d c v v₂ front (subst (λ z. is_word w z ≡ true) (sym (heads t v (u ∷ ts) (v₂ ∷ (front ++ behind)) p)) is)
      (subst (λ z. is_of second z ≡ true) (sym (heads u v₂ ts (front ++ behind) q)) opens) x

  pair_taken : (k : B → List Lexeme → Read Stmt) (K : B → Rule Stmt) → Follows n (last₁ ++ (last₂ ++ (second ∷ []))) k K → (t u : Lexeme) (ts : List Lexeme) → is_word w t ≡ true → is_of second u ≡ true
      → (r : Read Stmt) → Judges (Then (G t.at) K) ts r → Judges (Then (Or (Pair w second G) H) K) (t ∷ (u ∷ ts)) r
  pair_taken k K follows t u ts is opens r judged =
      behind_one (Then (Or (Pair w second G) H) K) t (u ∷ ts) r (behind_one (λ d b us. Then (Or (Pair w second G) H) K d b (t ∷ us)) u ts r
      (alike (λ d b us. Then (Or (Pair w second G) H) K d b (t ∷ (u ∷ us))) (Then (G t.at) K) ts r
      (λ b us (c, front, behind, p, x, y).
      (c, t ∷ (u ∷ front), behind, ap (λ z. t ∷ (u ∷ z)) p, inl (t.at, t ∷ [], u ∷ front, refl, (t, refl, (is, refl)), (u.at, u ∷ [], front, refl, (u, refl, (opens, refl)), x)), y))
      (λ d b us same (c, front, behind, p, x, y). back d b us c front behind p x y) judged)) where
        back : (d : Bool) (b : Stmt) (us : List Lexeme) (c : B) (front behind : List Lexeme) → t ∷ (u ∷ us) ≡ front ++ behind → Or (Pair w second G) H d c front → K c d b behind → Then (G t.at) K d b us
        back d b us c front behind p (inl x) y =
            let z = parts_behind d c (t ∷ (u ∷ us)) front behind p (parts d c front x) in
            let q : u ∷ us ≡ z.1 ∷ (z.2 ++ behind) = tails t z.0 (u ∷ us) (z.1 ∷ (z.2 ++ behind)) z.3 in
            (c, z.2, behind, tails u z.1 us (z.2 ++ behind) q, subst (λ v. G v.at d c z.2) (heads t z.0 (u ∷ us) (z.1 ∷ (z.2 ++ behind)) z.3) z.6, y)
        back d b us c front behind p (inr x) y = absurd (pair_front k K follows t u is opens d b us c front behind p x y)

  rest_exact : (k : B → List Lexeme → Read Stmt) (K : B → Rule Stmt) → Follows n (last₁ ++ (last₂ ++ (second ∷ []))) k K → (ts : List Lexeme) → length ts ≤ n → Judges (Then H K) ts (h ts >>= λ x. k x.0 x.1)
  rest_exact k K follows ts fits = e₂.exact k K (record {
    goes = follows.goes;
    lives = follows.lives;
    deepens = follows.deepens;
    parts = λ b d s u us x i. follows.parts b d s u us x (in_right last₁ (last₂ ++ (second ∷ [])) u (in_left last₂ (second ∷ []) u i));
  }) ts fits

  pair_lone : (k : B → List Lexeme → Read Stmt) (K : B → Rule Stmt) → Follows n (last₁ ++ (last₂ ++ (second ∷ []))) k K → (t : Lexeme) (ts : List Lexeme) → length (t ∷ ts) ≤ n
      → ((u : Lexeme) → first_of ts ≡ Some u → is_of second u ≡ true → ⊥) → (b : Bool) → is_word w t ≡ b → Judges (Then (Or (Pair w second G) H) K) (t ∷ ts) (h (t ∷ ts) >>= λ x. k x.0 x.1)
  pair_lone k K follows t ts fits none true is = pair_not k K follows t ts is none (h (t ∷ ts) >>= λ x. k x.0 x.1) (rest_exact k K follows (t ∷ ts) fits)
  pair_lone k K follows t ts fits none false is =
      pair_other K (t ∷ ts) (h (t ∷ ts) >>= λ x. k x.0 x.1)
      (λ u q i. let same : u ≡ t = cc in not_both (is_word w t) (subst (λ z. is_word w z ≡ true) same i) is) (rest_exact k K follows (t ∷ ts) fits)

  pair_word : (k : B → List Lexeme → Read Stmt) (K : B → Rule Stmt) → Follows n (last₁ ++ (last₂ ++ (second ∷ []))) k K → (t u : Lexeme) (ts : List Lexeme) → length (t ∷ (u ∷ ts)) ≤ n
      → (a b : Bool) → is_word w t ≡ a → is_of second u ≡ b
      → Judges (Then (Or (Pair w second G) H) K) (t ∷ (u ∷ ts)) (if_taken (if a && b then Some (t.at, ts) else None) (λ x. g x.0 x.1) (h (t ∷ (u ∷ ts))) >>= λ x. k x.0 x.1)
  pair_word k K follows t u ts fits true true is opens =
      pair_taken k K follows t u ts is opens (g t.at ts >>= λ x. k x.0 x.1) ((e₁ t.at).exact k K (record {
        goes = follows.goes;
        lives = follows.lives;
        deepens = follows.deepens;
        parts = λ b d s v us x i. follows.parts b d s v us x (in_left last₁ (last₂ ++ (second ∷ [])) v i);
      }) ts (omega arith))
  pair_word k K follows t u ts fits true false is closed =
      pair_lone k K follows t (u ∷ ts) fits (λ v q i. let same : v ≡ u = cc in not_both (is_of second u) (subst (λ z. is_of second z ≡ true) same i) closed) true is
  pair_word k K follows t u ts fits false b isnt closed =
      pair_other K (t ∷ (u ∷ ts)) (h (t ∷ (u ∷ ts)) >>= λ x. k x.0 x.1)
      (λ v q i. let same : v ≡ t = cc in not_both (is_word w t) (subst (λ z. is_word w z ≡ true) same i) isnt) (rest_exact k K follows (t ∷ (u ∷ ts)) fits)

  pair_exact : (k : B → List Lexeme → Read Stmt) (K : B → Rule Stmt) → Follows n (last₁ ++ (last₂ ++ (second ∷ []))) k K → (ts : List Lexeme) → length ts ≤ n
      → Judges (Then (Or (Pair w second G) H) K) ts (if_taken (op ts) (λ x. g x.0 x.1) (h ts) >>= λ x. k x.0 x.1)
  pair_exact k K follows [] fits =
      subst (λ o. Judges (Then (Or (Pair w second G) H) K) [] (if_taken o (λ x. g x.0 x.1) (h []) >>= λ x. k x.0 x.1)) (sym pairing.none)
      (pair_other K [] (h [] >>= λ x. k x.0 x.1) (λ t q i. absurd (cc)) (rest_exact k K follows [] fits))
  pair_exact k K follows (t ∷ []) fits =
      subst (λ o. Judges (Then (Or (Pair w second G) H) K) (t ∷ []) (if_taken o (λ x. g x.0 x.1) (h (t ∷ [])) >>= λ x. k x.0 x.1)) (sym (pairing.one t))
      (pair_lone k K follows t [] fits (λ u q i. absurd (cc)) (is_word w t) refl)
  pair_exact k K follows (t ∷ u ∷ ts) fits =
      subst (λ o. Judges (Then (Or (Pair w second G) H) K) (t ∷ (u ∷ ts)) (if_taken o (λ x. g x.0 x.1) (h (t ∷ (u ∷ ts))) >>= λ x. k x.0 x.1)) (sym (pairing.two t u ts))
      (pair_word k K follows t u ts fits (is_word w t) (is_of second u) refl refl)

  pair_clean : (d : Bool) (c : B) (ts : List Lexeme) → Or (Pair w second G) H d c ts → AllGood ts
  pair_clean d c ts (inl (at, o, r, p, (t, f, (s, q)), (b, o₂, r₂, p₂, (u, f₂, (s₂, q₂)), x))) =
      join_good ts o r p (subst AllGood (sym f) (word_good w t s, tt))
      (join_good r o₂ r₂ p₂ (subst AllGood (sym f₂) (pairing.good u s₂, tt)) ((e₁ at).clean d c r₂ x))
  pair_clean d c ts (inr x) = e₂.clean d c ts x

  pair_mixed : (d : Bool) (c : B) (t w₂ : Lexeme) (rest y v : List Lexeme) → is_word w t ≡ true → is_of second w₂ ≡ true → t ∷ (w₂ ∷ rest) ≡ y ++ v → H d c y
      → Clear (last₁ ++ (last₂ ++ (second ∷ []))) v → ⊥
  pair_mixed d c t w₂ rest [] v is opens e x cv = let q = e₂.filled d c x in absurd (cc)
  pair_mixed d c t w₂ rest (z ∷ []) v is opens e x cv =
      cv w₂ (sym (ap first_of (tails t z (w₂ ∷ rest) v e))) (in_right last₁ (last₂ ++ (second ∷ [])) w₂ (in_right last₂ (second ∷ []) w₂ (or_left (is_of second w₂) false opens)))
  pair_mixed d c t w₂ rest (z ∷ z₂ ∷ y) v is opens e x cv =
      let q : w₂ ∷ rest ≡ z₂ ∷ (y ++ v) = tails t z (w₂ ∷ rest) (z₂ ∷ (y ++ v)) e in
      two d c z z₂ y (subst (λ i. is_word w i ≡ true) (sym (heads t z (w₂ ∷ rest) (z₂ ∷ (y ++ v)) e)) is)
      (subst (λ i. is_of second i ≡ true) (sym (heads w₂ z₂ rest (y ++ v) q)) opens) x

  both_pairs : (d : Bool) (b c : B) (x y u v : List Lexeme) → Parts d b x → Parts d c y → x ++ u ≡ y ++ v
      → Clear (last₁ ++ (last₂ ++ (second ∷ []))) u → Clear (last₁ ++ (last₂ ++ (second ∷ []))) v → (b ≡ c) × (x ≡ y)
  unfolding Parts
  both_pairs d b c x y u v (t, w₁, r, p, is, opens, g₁) (t', w₂, r', p', is', opens', g₂) e cu cv =
      let whole : t ∷ (w₁ ∷ (r ++ u)) ≡ t' ∷ (w₂ ∷ (r' ++ v)) = ap (λ z. z ++ u) (sym p) ∙ e ∙ ap (λ z. z ++ v) p' in
      let same : t' ≡ t = heads t t' (w₁ ∷ (r ++ u)) (w₂ ∷ (r' ++ v)) whole in
      let more : w₁ ∷ (r ++ u) ≡ w₂ ∷ (r' ++ v) = tails t t' (w₁ ∷ (r ++ u)) (w₂ ∷ (r' ++ v)) whole in
      let k : (b ≡ c) × (r ≡ r') = (e₁ t.at).unique d b c r r' u v g₁ (subst (λ z. G z.at d c r') same g₂) (tails w₁ w₂ (r ++ u) (r' ++ v) more)
      (λ i j h. cu i j (in_left last₁ (last₂ ++ (second ∷ [])) i h)) (λ i j h. cv i j (in_left last₁ (last₂ ++ (second ∷ [])) i h)) in
      (k.0, p ∙ ap₂ (λ i j. i ∷ j) (sym same) (ap₂ (λ i j. i ∷ j) (sym (heads w₁ w₂ (r ++ u) (r' ++ v) more)) k.1) ∙ sym p')

  pair_against : (d : Bool) (b c : B) (x y u v : List Lexeme) → Parts d b x → H d c y → x ++ u ≡ y ++ v → Clear (last₁ ++ (last₂ ++ (second ∷ []))) v → ⊥
  unfolding Parts
  pair_against d b c x y u v (t, w₁, r, p, is, opens, g₁) q e cv = pair_mixed d c t w₁ (r ++ u) y v is opens (ap (λ z. z ++ u) (sym p) ∙ e) q cv

  pair_unique : Unique (Or (Pair w second G) H) (last₁ ++ (last₂ ++ (second ∷ [])))
  pair_unique d b c x y u v (inl p) (inl q) e cu cv = both_pairs d b c x y u v (parts d b x p) (parts d c y q) e cu cv
  pair_unique d b c x y u v (inl p) (inr q) e cu cv = absurd (pair_against d b c x y u v (parts d b x p) q e cv)
  pair_unique d b c x y u v (inr p) (inl q) e cu cv = absurd (pair_against d c b y x v u (parts d c y q) p (sym e) cu)
  pair_unique d b c x y u v (inr p) (inr q) e cu cv =
      e₂.unique d b c x y u v p q e (λ i j h. cu i j (in_right last₁ (last₂ ++ (second ∷ [])) i (in_left last₂ (second ∷ []) i h)))
      (λ i j h. cv i j (in_right last₁ (last₂ ++ (second ∷ [])) i (in_left last₂ (second ∷ []) i h)))

  pub or_pair_exact : Exact n (λ ts. if_taken (op ts) (λ x. g x.0 x.1) (h ts)) (Or (Pair w second G) H) (Sort.word w ∷ first₂) false (last₁ ++ (last₂ ++ (second ∷ [])))
  or_pair_exact = record { starts = pair_starts; filled = pair_filled; deepens = pair_deepens; clean = pair_clean; unique = pair_unique; exact = pair_exact }

-- and such a rule is spelled by some list of tokens
pub or_pair : {B : Type 0} {n : ℕ} {w : List ℕ} {second : Sort} {op : List Lexeme → Option (ℕ × List Lexeme)} → Pairs w second op
    → {g : ℕ → List Lexeme → Read B} {h : List Lexeme → Read B} {G : ℕ → Rule B} {H : Rule B} {first₁ first₂ : List Sort} {blank₁ : Bool} {last₁ last₂ : List Sort}
    → ((at : ℕ) → Live n (g at) (G at) first₁ blank₁ last₁) → Live n h H first₂ false last₂
    → ((d : Bool) (c : B) (t u : Lexeme) (ts : List Lexeme) → is_word w t ≡ true → is_of second u ≡ true → H d c (t ∷ u ∷ ts) → ⊥)
    → ((t : Lexeme) → is_word w t ≡ true → (c : B) × H false c (t ∷ []))
    → Live n (λ ts. if_taken (op ts) (λ x. g x.0 x.1) (h ts)) (Or (Pair w second G) H) (Sort.word w ∷ first₂) false (last₁ ++ (last₂ ++ (second ∷ [])))
or_pair pairing e₁ e₂ two lone = record {
  exactly = or_pair_exact pairing (λ at. (e₁ at).exactly) e₂.exactly two lone;
  alive = let r = e₂.alive in (r.0, r.1, inr r.2);
}

pub or_call : {B : Type 0} {n : ℕ} (w : List ℕ) {g : ℕ → List Lexeme → Read B} {h : List Lexeme → Read B} {G : ℕ → Rule B} {H : Rule B} {first₁ first₂ : List Sort} {blank₁ : Bool} {last₁ last₂ : List Sort}
    → ((at : ℕ) → Live n (g at) (G at) first₁ blank₁ last₁) → Live n h H first₂ false last₂
    → ((d : Bool) (c : B) (t u : Lexeme) (ts : List Lexeme) → is_word w t ≡ true → same_kind u.kind kind.Open ≡ true → H d c (t ∷ u ∷ ts) → ⊥)
    → ((t : Lexeme) → is_word w t ≡ true → (c : B) × H false c (t ∷ []))
    → Live n (λ ts. if_taken (call w ts) (λ x. g x.0 x.1) (h ts)) (Or (Call w G) H) (Sort.word w ∷ first₂) false (last₁ ++ (last₂ ++ open_bracket))
or_call w e₁ e₂ two lone = or_pair (calls w) e₁ e₂ two lone
