-- What reads by a rule exactly, and how such readings are put together.
use Rattle.std.proofs.Common.{◌≡◌, ℕ, ◌≤◌, Bool, true, false, ◌&&◌, List, [], ◌∷◌, ◌++◌, length, Result, Ok, Err, refl, sym, ap, ap₂, ◌∙◌, subst, append_assoc, ◌⊎◌, if◌then◌else◌}
use Rattle.std.proofs.lemmas.List.{append_cancel_left}
use Rattle.qd_sql_lexer.specs.Tokens.{Lexeme}
use Rattle.qd_sql_ast.specs.declared.stop.Halt.{Halt}
use Rattle.qd_sql_ast.specs.declared.tree.Stmt.{Stmt}
use Rattle.qd_sql_ast.specs.Steps.{Read, ◌>>=◌}
use Rattle.qd_sql_laws.proofs.Sorts.{AllGood, join_good, Sort, Has, clash, apart, in_left, in_right}
use Rattle.qd_sql_laws.proofs.Judging.{Clear, Rule, Judges, alike}

-- one rule and another behind it
abbrev pub Then : {A B : Type 0} → Rule A → (A → Rule B) → Rule B
Then {A} R S d b ts = (a : A) × (front : List Lexeme) × (behind : List Lexeme) × (ts ≡ front ++ behind) × R d a front × S a d b behind

abbrev pub Or : {A : Type 0} → Rule A → Rule A → Rule A
Or R S d a ts = R d a ts ⊎ S d a ts

abbrev pub Just : {A : Type 0} → A → Rule A
Just x d a ts = (a ≡ x) × (ts ≡ [])

abbrev pub Token : {A : Type 0} → (A → Lexeme → Type 0) → Rule A
Token Q d a ts = (t : Lexeme) × (ts ≡ t ∷ []) × Q a t

abbrev pub Alive : {A : Type 0} → Rule A → Type 0
Alive {A} R = (a : A) × (ts : List Lexeme) × R false a ts

-- what is read behind goes by its rule, on lists of so many tokens, and begins with none of these sorts
pub record Follows {A : Type 0} (n : ℕ) (last : List Sort) (k : A → List Lexeme → Read Stmt) (K : A → Rule Stmt) : Type 0 where
  pub goes : (a : A) (ts : List Lexeme) → length ts ≤ n → Judges (K a) ts (k a ts)
  pub lives : (a : A) → Alive (K a)
  pub deepens : (a : A) (b : Stmt) (ts : List Lexeme) → K a false b ts → K a true b ts
  pub parts : (a : A) (d : Bool) (b : Stmt) (t : Lexeme) (ts : List Lexeme) → K a d b (t ∷ ts) → Has last t → ⊥

-- Tokens are one value of a rule at most, however lists go on behind it that begin with none of these sorts.
abbrev pub Unique : {A : Type 0} → Rule A → List Sort → Type 0
Unique {A} R last =
    (d : Bool) (a b : A) (x y u v : List Lexeme) → R d a x → R d b y → x ++ u ≡ y ++ v → Clear last u → Clear last v → (a ≡ b) × (x ≡ y)

-- A function that reads by a rule on lists of so many tokens, whatever goes on behind it: the sorts with which the rule
-- begins, whether it may be empty, and the sorts that it would take behind it.
pub record Exact {A : Type 0} (n : ℕ) (f : List Lexeme → Read A) (R : Rule A) (first : List Sort) (blank : Bool) (last : List Sort) : Type 1 where
  pub starts : (d : Bool) (a : A) (t : Lexeme) (ts : List Lexeme) → R d a (t ∷ ts) → Has first t
  pub filled : (d : Bool) (a : A) → R d a [] → blank ≡ true
  pub deepens : (a : A) (ts : List Lexeme) → R false a ts → R true a ts
  pub clean : (d : Bool) (a : A) (ts : List Lexeme) → R d a ts → AllGood ts
  pub unique : Unique R last
  pub exact : (k : A → List Lexeme → Read Stmt) (K : A → Rule Stmt) → Follows n last k K → (ts : List Lexeme) → length ts ≤ n → Judges (Then R K) ts (f ts >>= λ x. k x.0 x.1)

-- the same rule in another form
pub by_deep_form : {A : Type 0} {n : ℕ} {f : List Lexeme → Read A} {R S : Rule A} {first : List Sort} {blank : Bool} {last : List Sort}
    → ((a : A) (ts : List Lexeme) → R false a ts → S false a ts) → ((d : Bool) (a : A) (ts : List Lexeme) → S d a ts → R d a ts)
    → ((a : A) (ts : List Lexeme) → S false a ts → S true a ts) → Exact n f R first blank last → Exact n f S first blank last
by_deep_form {R = R} {S = S} to from deep e = record {
  starts = λ d a t ts s. e.starts d a t ts (from d a (t ∷ ts) s);
  filled = λ d a s. e.filled d a (from d a [] s);
  deepens = deep;
  clean = λ d a ts s. e.clean d a ts (from d a ts s);
  unique = λ d a b x y u v r s p cu cv. e.unique d a b x y u v (from d a x r) (from d b y s) p cu cv;
  exact = λ k K follows ts fits. alike (Then S K) (Then R K) ts _
      (λ b us (a, front, behind, p, r, x). (a, front, behind, p, to a front r, x))
      (λ d b us same (a, front, behind, p, s, x). (a, front, behind, p, from d a front s, x))
      (e.exact k K follows ts fits);
}

pub by_form : {A : Type 0} {n : ℕ} {f : List Lexeme → Read A} {R S : Rule A} {first : List Sort} {blank : Bool} {last : List Sort}
    → ((d : Bool) (a : A) (ts : List Lexeme) → R d a ts → S d a ts) → ((d : Bool) (a : A) (ts : List Lexeme) → S d a ts → R d a ts)
    → Exact n f R first blank last → Exact n f S first blank last
by_form to from e = by_deep_form (λ a ts r. to false a ts r) from (λ a ts s. to true a ts (e.deepens a ts (from false a ts s))) e

-- a function that reads the same
pub reads_same : {A : Type 0} {n : ℕ} {f g : List Lexeme → Read A} {R : Rule A} {first : List Sort} {blank : Bool} {last : List Sort}
    → ((ts : List Lexeme) → f ts ≡ g ts) → Exact n f R first blank last → Exact n g R first blank last
reads_same {R = R} same e = record {
  starts = e.starts;
  filled = e.filled;
  deepens = e.deepens;
  clean = e.clean;
  unique = e.unique;
  exact = λ k K follows ts fits. subst (λ r. Judges (Then R K) ts (r >>= λ x. k x.0 x.1)) (same ts) (e.exact k K follows ts fits);
}

-- more sorts, that are found by whoever asks
pub widen : {A : Type 0} {n : ℕ} {f : List Lexeme → Read A} {R : Rule A} {first more : List Sort} {blank : Bool} {last wide : List Sort}
    → ((t : Lexeme) → Has first t → Has more t) → ((t : Lexeme) → Has last t → Has wide t)
    → Exact n f R first blank last → Exact n f R more blank wide
widen to from e = record {
  starts = λ d a t ts r. to t (e.starts d a t ts r);
  filled = e.filled;
  deepens = e.deepens;
  clean = e.clean;
  unique = λ d a b x y u v r s p cu cv. e.unique d a b x y u v r s p (λ t f h. cu t f (from t h)) (λ t f h. cv t f (from t h));
  exact = λ k K follows ts fits. e.exact k K (record { goes = follows.goes; lives = follows.lives; deepens = follows.deepens; parts = λ a d b t us x h. follows.parts a d b t us x (from t h) }) ts fits;
}

-- nothing is read
pub just : {A : Type 0} (n : ℕ) (x : A) → Exact n (λ ts. Ok (x, ts)) (Just x) [] true []
just n x = record {
  starts = λ d a t ts (p, q). absurd (cc);
  filled = λ d a h. refl;
  deepens = λ a ts h. h;
  clean = λ d a ts (p, q). subst AllGood (sym q) tt;
  unique = λ d a b x y u v (p, q) (r, s) e cu cv. (p ∙ sym r, q ∙ sym s);
  exact = λ k K follows ts fits. alike (Then (Just x) K) (K x) ts (k x ts)
      (λ b us h. (x, [], us, refl, (refl, refl), h))
      (λ d b us same (a, front, behind, e, (p, q), h).
      let whole : behind ≡ us = ap (λ z. z ++ behind) (sym q) ∙ sym e in
      subst (λ z. K x d b z) whole (subst (λ z. K z d b behind) p h))
      (follows.goes x ts fits);
}

-- a sequence
pub bind_bind : {A B C : Type 0} (r : Result A Halt) (g : A → Result B Halt) (h : B → Result C Halt) → (r >>= λ x. g x >>= h) ≡ ((r >>= g) >>= h)
bind_bind (Ok x) g h = refl
bind_bind (Err e) g h = refl

regroup : (front one two behind us : List Lexeme) → front ≡ one ++ two → us ≡ front ++ behind → us ≡ one ++ (two ++ behind)
regroup front one two behind us p q = q ∙ ap (λ z. z ++ behind) p ∙ append_assoc one two behind

regroup_back : (one two three more us : List Lexeme) → us ≡ one ++ more → more ≡ two ++ three → us ≡ (one ++ two) ++ three
regroup_back one two three more us p q = p ∙ ap (λ z. one ++ z) q ∙ sym (append_assoc one two three)

abbrev pub if_blank : Bool → List Sort → List Sort
if_blank b ss = if b then ss else []

pub in_blank : (b : Bool) (ss : List Sort) (t : Lexeme) → b ≡ true → Has ss t → Has (if_blank b ss) t
in_blank true ss t p h = h
in_blank false ss t p h = absurd (cc)

both : (a b : Bool) → a ≡ true → b ≡ true → (a && b) ≡ true
both true b p q = q
both false b p q = absurd (cc)

module _ {A B : Type 0} {n : ℕ} {f : List Lexeme → Read A} {g : A → List Lexeme → Read B} {R : Rule A} {S : A → Rule B}
    {first₁ first₂ : List Sort} {blank₁ blank₂ : Bool} {last₁ last₂ : List Sort}
    (e₁ : Exact n f R first₁ blank₁ last₁) (e₂ : (a : A) → Exact n (g a) (S a) first₂ blank₂ last₂) where
  seq_starts : (d : Bool) (b : B) (t : Lexeme) (ts : List Lexeme) → Then R S d b (t ∷ ts) → Has (first₁ ++ if_blank blank₁ first₂) t
  seq_starts d b t ts (a, [], behind, p, r, s) =
      in_right first₁ (if_blank blank₁ first₂) t (in_blank blank₁ first₂ t (e₁.filled d a r) ((e₂ a).starts d b t ts (subst (λ z. S a d b z) (sym p) s)))
  seq_starts d b t ts (a, u ∷ front, behind, p, r, s) =
      let q : u ≡ t = cc in
      in_left first₁ (if_blank blank₁ first₂) t (subst (λ z. Has first₁ z) q (e₁.starts d a u front r))

  seq_filled : (d : Bool) (b : B) → Then R S d b [] → (blank₁ && blank₂) ≡ true
  seq_filled d b (a, [], behind, p, r, s) = both blank₁ blank₂ (e₁.filled d a r) ((e₂ a).filled d b (subst (λ z. S a d b z) (sym p) s))
  seq_filled d b (a, u ∷ front, behind, p, r, s) = absurd (cc)

  seq_parts : clash last₁ first₂ ≡ false → (k : B → List Lexeme → Read Stmt) (K : B → Rule Stmt) → Follows n (last₂ ++ if_blank blank₂ last₁) k K
      → (a : A) (d : Bool) (b : Stmt) (t : Lexeme) (ts : List Lexeme) → Then (S a) K d b (t ∷ ts) → Has last₁ t → ⊥
  seq_parts unlike k K follows a d b t ts (c, [], behind, p, s, x) h =
      follows.parts c d b t ts (subst (λ z. K c d b z) (sym p) x) (in_right last₂ (if_blank blank₂ last₁) t (in_blank blank₂ last₁ t ((e₂ a).filled d c s) h))
  seq_parts unlike k K follows a d b t ts (c, u ∷ front, behind, p, s, x) h =
      let q : u ≡ t = cc in
      apart last₁ first₂ unlike t h (subst (λ z. Has first₂ z) q ((e₂ a).starts d c u front s))

  seq_follows : ((a : A) → Alive (S a)) → clash last₁ first₂ ≡ false → (k : B → List Lexeme → Read Stmt) (K : B → Rule Stmt) → Follows n (last₂ ++ if_blank blank₂ last₁) k K
      → Follows n last₁ (λ a ts. g a ts >>= λ x. k x.0 x.1) (λ a. Then (S a) K)
  seq_follows alive unlike k K follows = record {
    goes = λ a ts fits. (e₂ a).exact k K (record {
      goes = follows.goes;
      lives = follows.lives;
      deepens = follows.deepens;
      parts = λ c d b t us x h. follows.parts c d b t us x (in_left last₂ (if_blank blank₂ last₁) t h);
    }) ts fits;
    lives = λ a. let s = alive a in let x = follows.lives s.0 in (x.0, s.1 ++ x.1, (s.0, s.1, x.1, refl, s.2, x.2));
    deepens = λ a b ts (c, front, behind, p, s, x). (c, front, behind, p, (e₂ a).deepens c front s, follows.deepens c b behind x);
    parts = seq_parts unlike k K follows;
  }

  seq_clear : clash last₁ first₂ ≡ false → (a : A) (d : Bool) (c : B) (x u : List Lexeme) → S a d c x → Clear (last₂ ++ if_blank blank₂ last₁) u → Clear last₁ (x ++ u)
  seq_clear unlike a d c [] u s cu = λ t f h. cu t f (in_right last₂ (if_blank blank₂ last₁) t (in_blank blank₂ last₁ t ((e₂ a).filled d c s) h))
  seq_clear unlike a d c (w ∷ x) u s cu = λ t f h. let q : w ≡ t = cc in apart last₁ first₂ unlike t h (subst (λ z. Has first₂ z) q ((e₂ a).starts d c w x s))

  seq_unique : clash last₁ first₂ ≡ false → Unique (Then R S) (last₂ ++ if_blank blank₂ last₁)
  seq_unique unlike d b c x y u v (a₁, x₁, x₂, p, r, s) (a₂, y₁, y₂, q, r', s') e cu cv =
      let e' : x₁ ++ (x₂ ++ u) ≡ y₁ ++ (y₂ ++ v) = sym (append_assoc x₁ x₂ u) ∙ ap (λ z. z ++ u) (sym p) ∙ e ∙ ap (λ z. z ++ v) q ∙ append_assoc y₁ y₂ v in
      let h : (a₁ ≡ a₂) × (x₁ ≡ y₁) = e₁.unique d a₁ a₂ x₁ y₁ (x₂ ++ u) (y₂ ++ v) r r' e' (seq_clear unlike a₁ d b x₂ u s cu) (seq_clear unlike a₂ d c y₂ v s' cv) in
      let more : x₂ ++ u ≡ y₂ ++ v = append_cancel_left x₁ (x₂ ++ u) (y₂ ++ v) (e' ∙ ap (λ z. z ++ (y₂ ++ v)) (sym h.1)) in
      let k : (b ≡ c) × (x₂ ≡ y₂) = (e₂ a₁).unique d b c x₂ y₂ u v s (subst (λ z. S z d c y₂) (sym h.0) s') more
      (λ t f i. cu t f (in_left last₂ (if_blank blank₂ last₁) t i)) (λ t f i. cv t f (in_left last₂ (if_blank blank₂ last₁) t i)) in
      (k.0, p ∙ ap₂ (λ z w. z ++ w) h.1 k.1 ∙ sym q)

  pub seq : ((a : A) → Alive (S a)) → clash last₁ first₂ ≡ false
      → Exact n (λ ts. f ts >>= λ x. g x.0 x.1) (Then R S) (first₁ ++ if_blank blank₁ first₂) (blank₁ && blank₂) (last₂ ++ if_blank blank₂ last₁)
  seq alive unlike = record {
    starts = seq_starts;
    filled = seq_filled;
    deepens = λ b ts (a, front, behind, p, r, s). (a, front, behind, p, e₁.deepens a front r, (e₂ a).deepens b behind s);
    clean = λ d b ts (a, front, behind, p, r, s). join_good ts front behind p (e₁.clean d a front r) ((e₂ a).clean d b behind s);
    unique = seq_unique unlike;
    exact = λ k K follows ts fits. subst (Judges (Then (Then R S) K) ts) (bind_bind (f ts) (λ x. g x.0 x.1) (λ x. k x.0 x.1))
        (alike (Then (Then R S) K) (Then R (λ a. Then (S a) K)) ts _
        (λ b us (a, one, more, p, r, (c, two, three, q, s, x)). (c, one ++ two, three, regroup_back one two three more us p q, (a, one, two, refl, r, s), x))
        (λ d b us same (c, front, behind, p, (a, one, two, q, r, s), x). (a, one, two ++ behind, regroup front one two behind us q p, r, (c, two, behind, refl, s, x)))
        (e₁.exact (λ a us. g a us >>= λ x. k x.0 x.1) (λ a. Then (S a) K) (seq_follows alive unlike k K follows) ts fits));
  }
