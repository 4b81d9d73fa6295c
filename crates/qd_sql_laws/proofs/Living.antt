-- Readings by rules that are spelled by some list of tokens, and how they are put together.
use Rattle.std.proofs.Common.{◌≡◌, ℕ, Bool, true, false, ◌&&◌, List, [], ◌∷◌, ◌++◌, Option, Some, None, Ok, Err, refl, sym, ap, ◌∙◌, subst, arith, inl, inr, if◌then◌else◌, append-nil}
use Rattle.qd_sql_lexer.specs.declared.token.Kind.{Kind}
use Rattle.qd_sql_lexer.specs.declared.token.Kind.TheVariants as kind
use Rattle.qd_sql_lexer.specs.Tokens.{Lexeme}
use Rattle.qd_sql_ast.specs.Steps.{same_kind, Read, ◌>>=◌, if_taken, wanted, stuck, word, want, want_word, name, number, stride, text, list, links}
use Rattle.qd_sql_laws.specs.Parts.{Each, Commas}
use Rattle.qd_sql_laws.proofs.Sorts.{Sort, is_in, Has, clash, within, widened}
use Rattle.qd_sql_laws.proofs.Judging.{Rule, Judges, alike}
use Rattle.qd_sql_laws.proofs.Combining.{Then, Or, Just, Token, Alive, Exact, if_blank, bind_bind, seq as seq_exact, just as just_exact, by_form as form_exact, reads_same as same_exact, widen as widen_exact}
use Rattle.qd_sql_laws.proofs.Choosing.{Chooser, alt as alt_exact, choice as choice_exact}
use Rattle.qd_sql_laws.proofs.Tokens.{SignQ, WordQ, NameQ, NumberQ, StrideQ, TextQ, want_at, want_word_at, name_at, number_at, stride_at, text_at, of_kind, of_word, same_self, word_self, a_name, a_number, a_stride, a_text}
use Rattle.qd_sql_laws.proofs.Repeating.{comma, list_exact, links_exact}

pub record Live {A : Type 0} (n : ℕ) (f : List Lexeme → Read A) (R : Rule A) (first : List Sort) (blank : Bool) (last : List Sort) : Type 1 where
  pub exactly : Exact n f R first blank last
  pub alive : Alive R

-- the value of what is read
abbrev pub Image : {A B : Type 0} → (A → B) → Rule A → Rule B
Image {A} m R d c ts = (a : A) × (c ≡ m a) × R d a ts

module _ {A B : Type 0} {n : ℕ} {f : List Lexeme → Read A} {R : Rule A} {first : List Sort} {blank : Bool} {last : List Sort} (m : A → B) where
  pub mapped_exact : Exact n f R first blank last → Exact n (λ ts. f ts >>= λ x. Ok (m x.0, x.1)) (Image m R) first blank last
  mapped_exact e = record {
    starts = λ d c t ts (a, p, r). e.starts d a t ts r;
    filled = λ d c (a, p, r). e.filled d a r;
    deepens = λ c ts (a, p, r). (a, p, e.deepens a ts r);
    clean = λ d c ts (a, p, r). e.clean d a ts r;
    unique = λ d b c x y u v (a, p, r) (a', q, s) f cu cv. let h : (a ≡ a') × (x ≡ y) = e.unique d a a' x y u v r s f cu cv in (p ∙ ap m h.0 ∙ sym q, h.1);
    exact = λ k K follows ts fits. subst (Judges (Then (Image m R) K) ts) (bind_bind (f ts) (λ x. Ok (m x.0, x.1)) (λ x. k x.0 x.1))
        (alike (Then (Image m R) K) (Then R (λ a. K (m a))) ts _
        (λ b us (a, front, behind, p, r, x). (m a, front, behind, p, (a, refl, r), x))
        (λ d b us same (c, front, behind, p, (a, q, r), x). (a, front, behind, p, r, subst (λ z. K z d b behind) q x))
        (e.exact (λ a us. k (m a) us) (λ a. K (m a)) (record {
          goes = λ a us short. follows.goes (m a) us short;
          lives = λ a. follows.lives (m a);
          deepens = λ a b us x. follows.deepens (m a) b us x;
          parts = λ a d b t us x h. follows.parts (m a) d b t us x h;
        }) ts fits));
  }

  pub mapped : Live n f R first blank last → Live n (λ ts. f ts >>= λ x. Ok (m x.0, x.1)) (Image m R) first blank last
  mapped e = record { exactly = mapped_exact e.exactly; alive = let r = e.alive in (m r.0, r.1, (r.0, refl, r.2)) }

-- the same rule in another form
pub form : {A : Type 0} {n : ℕ} {f : List Lexeme → Read A} {R S : Rule A} {first : List Sort} {blank : Bool} {last : List Sort}
    → ((d : Bool) (a : A) (ts : List Lexeme) → R d a ts → S d a ts) → ((d : Bool) (a : A) (ts : List Lexeme) → S d a ts → R d a ts)
    → Live n f R first blank last → Live n f S first blank last
form to from e = record { exactly = form_exact to from e.exactly; alive = let r = e.alive in (r.0, r.1, to false r.0 r.1 r.2) }

pub same : {A : Type 0} {n : ℕ} {f g : List Lexeme → Read A} {R : Rule A} {first : List Sort} {blank : Bool} {last : List Sort}
    → ((ts : List Lexeme) → f ts ≡ g ts) → Live n f R first blank last → Live n g R first blank last
same eq e = record { exactly = same_exact eq e.exactly; alive = e.alive }

pub widen : {A : Type 0} {n : ℕ} {f : List Lexeme → Read A} {R : Rule A} {first more : List Sort} {blank : Bool} {last wide : List Sort}
    → ((t : Lexeme) → Has first t → Has more t) → ((t : Lexeme) → Has last t → Has wide t)
    → Live n f R first blank last → Live n f R more blank wide
widen to from e = record { exactly = widen_exact to from e.exactly; alive = e.alive }

pub tidy : {A : Type 0} {n : ℕ} {f : List Lexeme → Read A} {R : Rule A} {first more : List Sort} {blank : Bool} {last wide : List Sort}
    → within first more ≡ true → within last wide ≡ true → Live n f R first blank last → Live n f R more blank wide
tidy {first = first} {more = more} {last = last} {wide = wide} p q e = widen (widened first more p) (widened last wide q) e

pub just : {A : Type 0} (n : ℕ) (x : A) → Live n (λ ts. Ok (x, ts)) (Just x) [] true []
just n x = record { exactly = just_exact n x; alive = (x, [], (refl, refl)) }

pub seq : {A B : Type 0} {n : ℕ} {f : List Lexeme → Read A} {g : A → List Lexeme → Read B} {R : Rule A} {S : A → Rule B}
    {first₁ first₂ : List Sort} {blank₁ blank₂ : Bool} {last₁ last₂ : List Sort} → Live n f R first₁ blank₁ last₁ → ((a : A) → Live n (g a) (S a) first₂ blank₂ last₂) → clash last₁ first₂ ≡ false
    → Live n (λ ts. f ts >>= λ x. g x.0 x.1) (Then R S) (first₁ ++ if_blank blank₁ first₂) (blank₁ && blank₂) (last₂ ++ if_blank blank₂ last₁)
seq e₁ e₂ unlike = record {
  exactly = seq_exact e₁.exactly (λ a. (e₂ a).exactly) (λ a. (e₂ a).alive) unlike;
  alive = let r = e₁.alive in let s = (e₂ r.0).alive in (s.0, r.1 ++ s.1, (r.0, r.1, s.1, refl, r.2, s.2));
}

-- a token, and what is behind it, or else another rule
pub or_exact : {A B : Type 0} {n : ℕ} {op : List Lexeme → Option (A × List Lexeme)} {Q : A → Lexeme → Type 0} {ss : List Sort}
    {g : A → List Lexeme → Read B} {h : List Lexeme → Read B} {G : A → Rule B} {H : Rule B} {first₁ first₂ : List Sort} {blank₁ blank₂ : Bool} {last₁ last₂ : List Sort}
    → Chooser op Q ss → ((a : A) → Exact n (g a) (G a) first₁ blank₁ last₁) → Live n h H first₂ blank₂ last₂ → clash ss first₂ ≡ false
    → Live n (λ ts. if_taken (op ts) (λ x. g x.0 x.1) (h ts)) (Or (Then (Token Q) G) H) (ss ++ first₂) blank₂ (last₁ ++ (last₂ ++ if_blank blank₂ ss))
or_exact {n = n} chooser e₁ e₂ unlike = record {
  exactly = alt_exact {n = n} {m = n} (omega arith) (omega arith) chooser e₁ e₂.exactly unlike;
  alive = let r = e₂.alive in (r.0, r.1, inr r.2);
}

pub or : {A B : Type 0} {n : ℕ} {op : List Lexeme → Option (A × List Lexeme)} {Q : A → Lexeme → Type 0} {ss : List Sort}
    {g : A → List Lexeme → Read B} {h : List Lexeme → Read B} {G : A → Rule B} {H : Rule B} {first₁ first₂ : List Sort} {blank₁ blank₂ : Bool} {last₁ last₂ : List Sort}
    → Chooser op Q ss → ((a : A) → Live n (g a) (G a) first₁ blank₁ last₁) → Live n h H first₂ blank₂ last₂ → clash ss first₂ ≡ false
    → Live n (λ ts. if_taken (op ts) (λ x. g x.0 x.1) (h ts)) (Or (Then (Token Q) G) H) (ss ++ first₂) blank₂ (last₁ ++ (last₂ ++ if_blank blank₂ ss))
or chooser e₁ e₂ unlike = or_exact chooser (λ a. (e₁ a).exactly) e₂ unlike

-- a token alone, or else another rule
pub alone : (one rest ts : List Lexeme) → ts ≡ one ++ rest → rest ≡ [] → one ≡ ts
alone one rest ts p q = sym (append-nil one) ∙ ap (λ z. one ++ z) (sym q) ∙ sym p

pub or_one : {A B : Type 0} {n : ℕ} {op : List Lexeme → Option (A × List Lexeme)} {Q : A → Lexeme → Type 0} {ss : List Sort}
    {h : List Lexeme → Read B} {H : Rule B} {first₂ : List Sort} {blank₂ : Bool} {last₂ : List Sort}
    → Chooser op Q ss → (m : A → B) → Live n h H first₂ blank₂ last₂ → clash ss first₂ ≡ false
    → Live n (λ ts. if_taken (op ts) (λ x. Ok (m x.0, x.1)) (h ts)) (Or (Image m (Token Q)) H) (ss ++ first₂) blank₂ (last₂ ++ if_blank blank₂ ss)
or_one {A} {B} {n} {op} {Q} {ss} {h} {H} chooser m e unlike = form to from (or chooser (λ a. just n (m a)) e unlike) where
  to : (d : Bool) (c : B) (ts : List Lexeme) → Or (Then (Token Q) (λ a. Just (m a))) H d c ts → Or (Image m (Token Q)) H d c ts
  to d c ts (inl (a, one, rest, p, q, (r, s))) = inl (a, r, subst (λ z. Token Q d a z) (alone one rest ts p s) q)
  to d c ts (inr x) = inr x

  from : (d : Bool) (c : B) (ts : List Lexeme) → Or (Image m (Token Q)) H d c ts → Or (Then (Token Q) (λ a. Just (m a))) H d c ts
  from d c ts (inl (a, r, q)) = inl (a, ts, [], sym (append-nil ts), q, (r, refl))
  from d c ts (inr x) = inr x

-- what must stand
pub a_sign : (n : ℕ) (k : Kind) → same_kind k kind.Bad ≡ false → Live n (want k) (Token (SignQ k)) (Sort.sign k ∷ []) false []
a_sign n k fine = record { exactly = want_at k fine n; alive = (0, of_kind k ∷ [], (of_kind k, refl, (same_self k, refl))) }

pub a_word : (n : ℕ) (w : List ℕ) → Live n (want_word w) (Token (WordQ w)) (Sort.word w ∷ []) false []
a_word n w = record { exactly = want_word_at w n; alive = (0, of_word w ∷ [], (of_word w, refl, (word_self w, refl))) }

pub names : (n : ℕ) → Live n name (Token NameQ) (Sort.name ∷ []) false []
names n = record { exactly = name_at n; alive = let q = a_name in (q.0, q.1 ∷ [], (q.1, refl, q.2)) }

pub numbers : (n : ℕ) → Live n number (Token NumberQ) (Sort.sign kind.Number ∷ []) false []
numbers n = record { exactly = number_at n; alive = let q = a_number in (q.0, q.1 ∷ [], (q.1, refl, q.2)) }

pub strides : (n : ℕ) → Live n stride (Token StrideQ) (Sort.sign kind.Stride ∷ []) false []
strides n = record { exactly = stride_at n; alive = let q = a_stride in (q.0, q.1 ∷ [], (q.1, refl, q.2)) }

pub texts : (n : ℕ) → Live n text (Token TextQ) (Sort.sign kind.Text ∷ []) false []
texts n = record { exactly = text_at n; alive = let q = a_text in (q.0, q.1 ∷ [], (q.1, refl, q.2)) }

-- the last word that may stand
wanted_word : {B : Type 0} (ts : List Lexeme) (o : Option (ℕ × List Lexeme)) (g : ℕ × List Lexeme → Read B) → (wanted ts o >>= g) ≡ if_taken o g (Err (stuck ts))
wanted_word ts None g = refl
wanted_word ts (Some x) g = refl

pub last_word : {B : Type 0} (n : ℕ) (w : List ℕ) (x : B) → Live n (λ ts. if_taken (word w ts) (λ y. Ok (x, y.1)) (Err (stuck ts))) (Image (λ at. x) (Token (WordQ w))) (Sort.word w ∷ []) false []
unfolding want_word
last_word n w x = same (λ ts. wanted_word ts (word w ts) (λ y. Ok (x, y.1))) (mapped (λ at. x) (a_word n w))

-- one or more with commas between
pub commas : {A : Type 0} {item : List Lexeme → Read A} {R : Rule A} {first last : List Sort} → ((n : ℕ) → Live n item R first false last) → clash last comma ≡ false
    → (n : ℕ) → Live n (list item) (λ d xs. Commas (R d) xs) first false (last ++ comma)
commas e unlike n = record {
  exactly = list_exact (λ m. (e m).exactly) (e 0).alive unlike n;
  alive = let r = (e 0).alive in (r.0 ∷ [], r.1, (r.1, [], sym (append-nil r.1), r.2, refl));
}

-- what stands behind operators
pub chain : {A B : Type 0} {op : List Lexeme → Option (A × List Lexeme)} {Q : A → Lexeme → Type 0} {ss : List Sort} → Chooser op Q ss
    → {item : A → List Lexeme → Read B} {I : A → Rule B} {first last : List Sort} {blank : Bool} → ((n : ℕ) (a : A) → Live n (item a) (I a) first blank last) → clash last ss ≡ false
    → (n : ℕ) → Live n (links op item) (λ d ys. Each (Then (Token Q) I d) ys) ss true (last ++ ss)
chain chooser e unlike n = record { exactly = links_exact chooser (λ m a. (e m a).exactly) unlike n; alive = ([], [], refl) }

-- where a test holds
pub choice : {B : Type 0} {n : ℕ} {g h : List Lexeme → Read B} {G H : Rule B} {ss first₂ : List Sort} {blank₂ : Bool} {last₁ last₂ : List Sort}
    (test : List Lexeme → Bool) → test [] ≡ false → ((t : Lexeme) (ts : List Lexeme) → test (t ∷ ts) ≡ is_in ss t)
    → Live n g G ss false last₁ → Live n h H first₂ blank₂ last₂ → clash ss first₂ ≡ false
    → Live n (λ ts. if test ts then g ts else h ts) (Or G H) (ss ++ first₂) blank₂ (last₁ ++ (last₂ ++ if_blank blank₂ ss))
choice test none some e₁ e₂ unlike = record {
  exactly = choice_exact test none some e₁.exactly e₂.exactly unlike;
  alive = let r = e₂.alive in (r.0, r.1, inr r.2);
}
