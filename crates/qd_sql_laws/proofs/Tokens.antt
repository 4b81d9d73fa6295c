-- The tokens that rules begin with: signs, words, names and the rest.
use Rattle.std.proofs.Common.{◌≡◌, ℕ, Bool, true, false, ◌||◌, List, [], ◌∷◌, Option, Some, None, Ok, Err, refl, inl, inr, ◌⊎◌, if◌then◌else◌}
use Rattle.std.specs.Str.{str_to_ascii_lowercase}
use Rattle.std.proofs.lemmas.Slice.Eq.{bytes_eq-Decides}
use denote.Enum.Bare.{true_same}
use Rattle.qd_sql_lexer.specs.contracts.token.Kind.{the_type}
use Rattle.qd_sql_lexer.specs.declared.token.Kind.{Kind}
use Rattle.qd_sql_lexer.specs.declared.token.Kind.TheVariants as kind
use Rattle.qd_sql_lexer.specs.Tokens.{Lexeme}
use Rattle.qd_sql_ast.specs.declared.stop.Halt.TheVariants as halt
use Rattle.qd_sql_ast.specs.declared.tree.Name.{Name}
use Rattle.qd_sql_ast.specs.declared.tree.Number.{Number}
use Rattle.qd_sql_ast.specs.declared.tree.StrideOf.{StrideOf}
use Rattle.qd_sql_ast.specs.declared.tree.Text.{Text}
use Rattle.qd_sql_ast.specs.Ranges as range
use Rattle.qd_sql_ast.specs.Steps.{Read, stuck, same_kind, is_word, is_name, sign, word, want, want_word, name, number, stride, text, number_of, stride_count, stride_unit, unquoted}
use Rattle.qd_sql_laws.proofs.Sorts.{not_both, sign_good, word_good, name_good, Sort, is_of}
use Rattle.qd_sql_laws.proofs.Combining.{Token, Exact}
use Rattle.qd_sql_laws.proofs.Choosing.{Chooser, Takes, Leaves, Leaf, Reads, Stops, token, wanted_leaf}

abbrev pub SignQ : Kind → ℕ → Lexeme → Type 0
SignQ k at t = (same_kind t.kind k ≡ true) × (at ≡ t.at)

abbrev pub WordQ : List ℕ → ℕ → Lexeme → Type 0
WordQ w at t = (is_word w t ≡ true) × (at ≡ t.at)

abbrev pub NameQ : Name → Lexeme → Type 0
NameQ n t = (is_name t ≡ true) × (n ≡ record { at = t.at; text = t.content })

abbrev pub NumberQ : Number → Lexeme → Type 0
NumberQ n t = (same_kind t.kind kind.Number ≡ true) × (n ≡ record { at = t.at; value = range.magnitude (number_of t.content) })

abbrev pub StrideQ : StrideOf → Lexeme → Type 0
StrideQ s t = (same_kind t.kind kind.Stride ≡ true) × (s ≡ record { at = t.at; count = range.stride_count (stride_count t.content); unit = stride_unit t.content })

abbrev pub TextQ : Text → Lexeme → Type 0
TextQ x t = (same_kind t.kind kind.Text ≡ true) × (x ≡ record { at = t.at; text = unquoted t.content })

-- one sort
only : (b : Bool) → b ≡ true → (b || false) ≡ true
only true h = refl
only false h = h

not_only : (b : Bool) → b ≡ false → (b || false) ≡ true → ⊥
not_only true h k = absurd (cc)
not_only false h k = absurd (cc)

-- a test decides what is taken
take_at : {A : Type 0} (op : List Lexeme → Option (A × List Lexeme)) (Q : A → Lexeme → Type 0) (s : Sort) (t : Lexeme) (a : A) (b : Bool)
    → is_of s t ≡ b → (b ≡ true → Q a t) → ((c : A) → Q c t → (b ≡ true) × (c ≡ a)) → ((ts : List Lexeme) → op (t ∷ ts) ≡ (if b then Some (a, ts) else None))
    → Takes op Q (s ∷ []) t ⊎ Leaves op Q (s ∷ []) t
take_at op Q s t a true is holds only_one reads = inl (a, holds refl, (λ c q. (only_one c q).1), reads, only (is_of s t) is)
take_at op Q s t a false is holds only_one reads = inr ((λ c q. not_both false (only_one c q).0 refl), reads, not_only (is_of s t) is)

read_at : {A : Type 0} (f : List Lexeme → Read A) (Q : A → Lexeme → Type 0) (s : Sort) (t : Lexeme) (a : A) (b : Bool)
    → is_of s t ≡ b → (b ≡ true → Q a t) → ((c : A) → Q c t → (b ≡ true) × (c ≡ a)) → ((ts : List Lexeme) → f (t ∷ ts) ≡ (if b then Ok (a, ts) else Err (halt.At (Some t.at))))
    → Reads f Q (s ∷ []) t ⊎ Stops f Q t
read_at f Q s t a true is holds only_one reads = inl (a, holds refl, (λ c q. (only_one c q).1), reads, only (is_of s t) is)
read_at f Q s t a false is holds only_one reads = inr ((λ c q. not_both false (only_one c q).0 refl), reads)

pub signs : (k : Kind) → same_kind k kind.Bad ≡ false → Chooser (sign k) (SignQ k) (Sort.sign k ∷ [])
unfolding sign
signs k fine = record { good = λ a t q. sign_good k fine t q.0; none = refl; one = λ t. take_at (sign k) (SignQ k) (Sort.sign k) t t.at (same_kind t.kind k) refl (λ h. (h, refl)) (λ c q. q) (λ ts. refl) }

pub words : (w : List ℕ) → Chooser (word w) (WordQ w) (Sort.word w ∷ [])
unfolding word
words w = record { good = λ a t q. word_good w t q.0; none = refl; one = λ t. take_at (word w) (WordQ w) (Sort.word w) t t.at (is_word w t) refl (λ h. (h, refl)) (λ c q. q) (λ ts. refl) }

-- a token of a kind, and a token that is a word
abbrev pub of_kind : (k : Kind) → Lexeme
of_kind k = record { kind = k; at = 0; end = 0; content = [] }

abbrev pub of_word : (w : List ℕ) → Lexeme
of_word w = record { kind = kind.Word; at = 0; end = 0; content = w }

pub same_self : (k : Kind) → same_kind k k ≡ true
unfolding same_kind
same_self k = true_same the_type k k refl

pub word_self : (w : List ℕ) → is_word w (of_word w) ≡ true
unfolding is_word same_kind
word_self w = (bytes_eq-Decides (str_to_ascii_lowercase w) (str_to_ascii_lowercase w)).1 refl

-- what must stand
pub want_at : (k : Kind) → same_kind k kind.Bad ≡ false → (n : ℕ) → Exact n (want k) (Token (SignQ k)) (Sort.sign k ∷ []) false []
unfolding want
want_at k fine n = token (wanted_leaf (signs k fine) 0 (of_kind k) (same_self k, refl)) n

pub want_word_at : (w : List ℕ) (n : ℕ) → Exact n (want_word w) (Token (WordQ w)) (Sort.word w ∷ []) false []
unfolding want_word
want_word_at w n = token (wanted_leaf (words w) 0 (of_word w) (word_self w, refl)) n

name_leaf : Leaf name NameQ (Sort.name ∷ [])
unfolding name stuck is_name same_kind
name_leaf = record {
  good = λ a t q. name_good t q.0;
  none = refl;
  one = λ t. read_at name NameQ Sort.name t (record { at = t.at; text = t.content }) (is_name t) refl (λ h. (h, refl)) (λ c q. q) (λ ts. refl);
  lives = (record { at = 0; text = [] }, of_kind kind.Quoted, (refl, refl));
}

pub a_name : (x : Name) × (t : Lexeme) × NameQ x t
a_name = name_leaf.lives

pub name_at : (n : ℕ) → Exact n name (Token NameQ) (Sort.name ∷ []) false []
name_at n = token name_leaf n

number_leaf : Leaf number NumberQ (Sort.sign kind.Number ∷ [])
unfolding number stuck same_kind
number_leaf = record {
  good = λ a t q. sign_good kind.Number refl t q.0;
  none = refl;
  one = λ t. read_at number NumberQ (Sort.sign kind.Number) t (record { at = t.at; value = range.magnitude (number_of t.content) }) (same_kind t.kind kind.Number) refl (λ h. (h, refl)) (λ c q. q) (λ ts. refl);
  lives = (record { at = 0; value = range.magnitude (number_of []) }, of_kind kind.Number, (same_self kind.Number, refl));
}

pub a_number : (x : Number) × (t : Lexeme) × NumberQ x t
a_number = number_leaf.lives

pub number_at : (n : ℕ) → Exact n number (Token NumberQ) (Sort.sign kind.Number ∷ []) false []
number_at n = token number_leaf n

stride_leaf : Leaf stride StrideQ (Sort.sign kind.Stride ∷ [])
unfolding stride stuck same_kind
stride_leaf = record {
  good = λ a t q. sign_good kind.Stride refl t q.0;
  none = refl;
  one = λ t. read_at stride StrideQ (Sort.sign kind.Stride) t (record { at = t.at; count = range.stride_count (stride_count t.content); unit = stride_unit t.content }) (same_kind t.kind kind.Stride) refl (λ h. (h, refl)) (λ c q. q) (λ ts. refl);
  lives = (record { at = 0; count = range.stride_count (stride_count []); unit = stride_unit [] }, of_kind kind.Stride, (same_self kind.Stride, refl));
}

pub a_stride : (x : StrideOf) × (t : Lexeme) × StrideQ x t
a_stride = stride_leaf.lives

pub stride_at : (n : ℕ) → Exact n stride (Token StrideQ) (Sort.sign kind.Stride ∷ []) false []
stride_at n = token stride_leaf n

text_leaf : Leaf text TextQ (Sort.sign kind.Text ∷ [])
unfolding text stuck same_kind
text_leaf = record {
  good = λ a t q. sign_good kind.Text refl t q.0;
  none = refl;
  one = λ t. read_at text TextQ (Sort.sign kind.Text) t (record { at = t.at; text = unquoted t.content }) (same_kind t.kind kind.Text) refl (λ h. (h, refl)) (λ c q. q) (λ ts. refl);
  lives = (record { at = 0; text = unquoted [] }, of_kind kind.Text, (same_self kind.Text, refl));
}

pub a_text : (x : Text) × (t : Lexeme) × TextQ x t
a_text = text_leaf.lives

pub text_at : (n : ℕ) → Exact n text (Token TextQ) (Sort.sign kind.Text ∷ []) false []
text_at n = token text_leaf n
