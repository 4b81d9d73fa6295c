-- Words have their pieces in one way only.
use Rattle.std.proofs.Common.{◌≡◌, ℕ, ◌+◌, ◌<◌, ◌≤◌, ◌^◌, ◌%◌, Bool, true, false, List, [], ◌∷◌, ◌++◌, Option, Some, None, MatchOption, length, codes, nat_eq, slice_index_or, decimal, refl, ap, ap₂, sym, ◌∙◌, subst, inl, inr, arith}
use Rattle.std.proofs.lemmas.Bool.Decides.{nat_tests}
use Rattle.std.proofs.lemmas.Fmt.{IsAscii-decimal, decimal_injective, decimal_by_steps}
use Rattle.std.proofs.lemmas.Str.{IsUtf8-from_ascii}
use Rattle.std.proofs.lemmas.List.{append-nil}
use Rattle.qd_args.specs.Plain.{IsPlainText, is_plain}
use Rattle.qd_args.specs.declared.command.Spoken.{Spoken}
use Rattle.qd_args.specs.declared.command.Spoken.TheVariants as spoken
use Rattle.qd_args.specs.Pieces as pieces
use Rattle.qd_args.specs.Pieces.{AreSpelled, IsCount, IsFolder, IsOption, Piece, Spells, word_of}
use Rattle.qd_args.specs.Parts.{BeginsWithNone, IsBehind}

not_both : (w : List ℕ) → is_plain w ≡ true → is_plain w ≡ false → ⊥
not_both w a b = cc

heads : (v w : List ℕ) (a b : List (List ℕ)) → v ∷ a ≡ w ∷ b → v ≡ w
heads v w a b e = cc

tails : (v w : List ℕ) (a b : List (List ℕ)) → v ∷ a ≡ w ∷ b → a ≡ b
tails v w a b e = cc

byte_tails : (v w : ℕ) (a b : List ℕ) → v ∷ a ≡ w ∷ b → a ≡ b
byte_tails v w a b e = cc

no_bytes : (v : ℕ) (a : List ℕ) → [] ≡ v ∷ a → ⊥
no_bytes v a e = cc

-- what stands behind the same bytes
same_behind : (name a b : List ℕ) → name ++ a ≡ name ++ b → a ≡ b
same_behind [] a b e = e
same_behind (c ∷ name) a b e = same_behind name a b (byte_tails c c (name ++ a) (name ++ b) e)

other_form : (name value : List ℕ) → name ≡ name ++ (codes "=" ++ value) → ⊥
other_form name value e = no_bytes 61 value (same_behind name [] (codes "=" ++ value) (append-nil name ∙ e))

-- the first word of an option, one way or the other
first_of : (name value : List ℕ) (option back : List (List ℕ)) → IsOption name value option → (tail : List ℕ) × (rest : List (List ℕ)) × (option ++ back ≡ (name ++ tail) ∷ rest)
first_of name value option back (inl e) = ([], value ∷ back, ap (λ o. o ++ back) e ∙ ap (λ w. w ∷ value ∷ back) (sym (append-nil name)))
first_of name value option back (inr e) = (codes "=" ++ value, back, ap (λ o. o ++ back) e)

-- an option of a name has one value
same_option : (name d e : List ℕ) (o u b c : List (List ℕ)) → IsOption name d o → IsOption name e u → o ++ b ≡ u ++ c → (d ≡ e) × (b ≡ c)
same_option name d e o u b c (inl x) (inl y) same =
    let whole : name ∷ d ∷ b ≡ name ∷ e ∷ c = sym (ap (λ w. w ++ b) x) ∙ same ∙ ap (λ w. w ++ c) y in
    let rest = tails name name (d ∷ b) (e ∷ c) whole in
    (heads d e b c rest, tails d e b c rest)
same_option name d e o u b c (inl x) (inr y) same =
    absurd (other_form name e (heads name (name ++ (codes "=" ++ e)) (d ∷ b) c (sym (ap (λ w. w ++ b) x) ∙ same ∙ ap (λ w. w ++ c) y)))
same_option name d e o u b c (inr x) (inl y) same =
    absurd (other_form name d (sym (heads (name ++ (codes "=" ++ d)) name b (e ∷ c) (sym (ap (λ w. w ++ b) x) ∙ same ∙ ap (λ w. w ++ c) y))))
same_option name d e o u b c (inr x) (inr y) same =
    let whole : (name ++ (codes "=" ++ d)) ∷ b ≡ (name ++ (codes "=" ++ e)) ∷ c = sym (ap (λ w. w ++ b) x) ∙ same ∙ ap (λ w. w ++ c) y in (
      byte_tails 61 61 d e (same_behind name (codes "=" ++ d) (codes "=" ++ e) (heads (name ++ (codes "=" ++ d)) (name ++ (codes "=" ++ e)) b c whole)),
      tails (name ++ (codes "=" ++ d)) (name ++ (codes "=" ++ e)) b c whole,
    )

-- an option begins with a hyphen
hyphen_first : (name value : List ℕ) (option back : List (List ℕ)) (w : List ℕ) (rest : List (List ℕ)) → ((tail : List ℕ) → is_plain (name ++ tail) ≡ false) → IsOption name value option → option ++ back ≡ w ∷ rest → is_plain w ≡ true → ⊥
hyphen_first name value option back w rest hyphen is e plain =
    let k = first_of name value option back is in
    not_both w plain (ap is_plain (heads w (name ++ k.0) rest k.1 (sym e ∙ k.2)) ∙ hyphen k.0)

dir_hyphen : (tail : List ℕ) → is_plain (codes "--dir" ++ tail) ≡ false
dir_hyphen tail = refl

connections_hyphen : (tail : List ℕ) → is_plain (codes "--connections" ++ tail) ≡ false
connections_hyphen tail = refl

front_hyphen : (tail : List ℕ) → is_plain (codes "--front" ++ tail) ≡ false
front_hyphen tail = refl

-- no word begins with both names
abbrev AreApart : List ℕ → List ℕ → Type 0
AreApart name other = (v w : List ℕ) → name ++ v ≡ other ++ w → ⊥

dir_or_connections : AreApart (codes "--dir") (codes "--connections")
dir_or_connections v w e =
    let bytes : 100 ≡ 99 = ap (λ x. slice_index_or x 2 0) e in
    absurd (omega (arith, bytes))

dir_or_front : AreApart (codes "--dir") (codes "--front")
dir_or_front v w e =
    let bytes : 100 ≡ 102 = ap (λ x. slice_index_or x 2 0) e in
    absurd (omega (arith, bytes))

connections_or_front : AreApart (codes "--connections") (codes "--front")
connections_or_front v w e =
    let bytes : 99 ≡ 102 = ap (λ x. slice_index_or x 2 0) e in
    absurd (omega (arith, bytes))

-- no option has two names
names_apart : (name other : List ℕ) → AreApart name other → (d t : List ℕ) (o u b c : List (List ℕ)) → IsOption name d o → IsOption other t u → o ++ b ≡ u ++ c → ⊥
names_apart name other apart d t o u b c x y e =
    let k = first_of name d o b x in
    let l = first_of other t u c y in
    apart k.0 l.0 (heads (name ++ k.0) (other ++ l.0) k.1 l.1 (sym k.2 ∙ e ∙ l.2))

-- fronts have words of their own
frames_or_http : codes "frames" ≡ codes "http" → ⊥
frames_or_http e =
    let bytes : 102 ≡ 104 = ap (λ x. slice_index_or x 0 0) e in
    absurd (omega (arith, bytes))

frames_or_pg : codes "frames" ≡ codes "pg" → ⊥
frames_or_pg e =
    let bytes : 102 ≡ 112 = ap (λ x. slice_index_or x 0 0) e in
    absurd (omega (arith, bytes))

http_or_pg : codes "http" ≡ codes "pg" → ⊥
http_or_pg e =
    let bytes : 104 ≡ 112 = ap (λ x. slice_index_or x 0 0) e in
    absurd (omega (arith, bytes))

same_front : (f g : Spoken) → word_of f ≡ word_of g → f ≡ g
same_front spoken.Frames spoken.Frames e = refl
same_front spoken.Frames spoken.Http e = absurd (frames_or_http e)
same_front spoken.Http spoken.Frames e = absurd (frames_or_http (sym e))
same_front spoken.Http spoken.Http e = refl
same_front spoken.Frames spoken.Pg e = absurd (frames_or_pg e)
same_front spoken.Pg spoken.Frames e = absurd (frames_or_pg (sym e))
same_front spoken.Http spoken.Pg e = absurd (http_or_pg e)
same_front spoken.Pg spoken.Http e = absurd (http_or_pg (sym e))
same_front spoken.Pg spoken.Pg e = refl

same_count : (n m : ℕ) (t u : List ℕ) → IsCount n t → IsCount m u → t ≡ u → n ≡ m
same_count n m t u a b e = decimal_injective n m (omega arith) (omega arith) (sym a.2 ∙ e ∙ b.2)

-- words begin with one piece
pub one_piece : (p q : Piece) (f g b c : List (List ℕ)) → Spells p f → Spells q g → f ++ b ≡ g ++ c → (p ≡ q) × (b ≡ c)
one_piece (pieces.word v) (pieces.word w) f g b c s t e =
    let whole : v ∷ b ≡ w ∷ c = sym (ap (λ x. x ++ b) s.1) ∙ e ∙ ap (λ x. x ++ c) t.1 in
    (ap pieces.word (heads v w b c whole), tails v w b c whole)
one_piece (pieces.word v) (pieces.folder d) f g b c s t e =
    absurd (hyphen_first (codes "--dir") d g c v b dir_hyphen t.1 (sym e ∙ ap (λ x. x ++ b) s.1) s.0.0)
one_piece (pieces.word v) (pieces.connections n) f g b c s t e =
    absurd (hyphen_first (codes "--connections") t.0 g c v b connections_hyphen t.2 (sym e ∙ ap (λ x. x ++ b) s.1) s.0.0)
one_piece (pieces.word v) (pieces.front a) f g b c s t e =
    absurd (hyphen_first (codes "--front") (word_of a) g c v b front_hyphen t (sym e ∙ ap (λ x. x ++ b) s.1) s.0.0)
one_piece (pieces.folder d) (pieces.word w) f g b c s t e =
    absurd (hyphen_first (codes "--dir") d f b w c dir_hyphen s.1 (e ∙ ap (λ x. x ++ c) t.1) t.0.0)
one_piece (pieces.folder d) (pieces.folder h) f g b c s t e =
    let same = same_option (codes "--dir") d h f g b c s.1 t.1 e in
    (ap pieces.folder same.0, same.1)
one_piece (pieces.folder d) (pieces.connections n) f g b c s t e =
    absurd (names_apart (codes "--dir") (codes "--connections") dir_or_connections d t.0 f g b c s.1 t.2 e)
one_piece (pieces.folder d) (pieces.front a) f g b c s t e =
    absurd (names_apart (codes "--dir") (codes "--front") dir_or_front d (word_of a) f g b c s.1 t e)
one_piece (pieces.connections n) (pieces.word w) f g b c s t e =
    absurd (hyphen_first (codes "--connections") s.0 f b w c connections_hyphen s.2 (e ∙ ap (λ x. x ++ c) t.1) t.0.0)
one_piece (pieces.connections n) (pieces.folder d) f g b c s t e =
    absurd (names_apart (codes "--dir") (codes "--connections") dir_or_connections d s.0 g f c b t.1 s.2 (sym e))
one_piece (pieces.connections n) (pieces.connections m) f g b c s t e =
    let same = same_option (codes "--connections") s.0 t.0 f g b c s.2 t.2 e in
    (ap pieces.connections (same_count n m s.0 t.0 s.1 t.1 same.0), same.1)
one_piece (pieces.connections n) (pieces.front a) f g b c s t e =
    absurd (names_apart (codes "--connections") (codes "--front") connections_or_front s.0 (word_of a) f g b c s.2 t e)
one_piece (pieces.front a) (pieces.word w) f g b c s t e =
    absurd (hyphen_first (codes "--front") (word_of a) f b w c front_hyphen s (e ∙ ap (λ x. x ++ c) t.1) t.0.0)
one_piece (pieces.front a) (pieces.folder d) f g b c s t e =
    absurd (names_apart (codes "--dir") (codes "--front") dir_or_front d (word_of a) g f c b t.1 s (sym e))
one_piece (pieces.front a) (pieces.connections n) f g b c s t e =
    absurd (names_apart (codes "--connections") (codes "--front") connections_or_front t.0 (word_of a) g f c b t.2 s (sym e))
one_piece (pieces.front a) (pieces.front h) f g b c s t e =
    let same = same_option (codes "--front") (word_of a) (word_of h) f g b c s t e in
    (ap pieces.front (same_front a h same.0), same.1)

option_word : (name value : List ℕ) (o : List (List ℕ)) → IsOption name value o → 1 ≤ length o
option_word name value o (inl e) = let lengths : length o ≡ 2 = ap length e in omega (arith, lengths)
option_word name value o (inr e) = let lengths : length o ≡ 1 = ap length e in omega (arith, lengths)

-- no piece is spelled by no word
some_word : (p : Piece) (f : List (List ℕ)) → Spells p f → 1 ≤ length f
some_word (pieces.word w) f s = let lengths : length f ≡ 1 = ap length s.1 in omega (arith, lengths)
some_word (pieces.folder d) f s = option_word (codes "--dir") d f s.1
some_word (pieces.connections n) f s = option_word (codes "--connections") s.0 f s.2
some_word (pieces.front a) f s = option_word (codes "--front") (word_of a) f s

pub some_words : (p : Piece) (front rest : List (List ℕ)) → Spells p front → front ++ rest ≡ [] → ⊥
some_words p [] rest s e = let some : 1 ≤ length {A = List ℕ} [] = some_word p [] s in absurd (omega (arith, some))
some_words p (w ∷ front) rest s e = cc

-- ---- how words begin

-- words begin with an option in two words
pub in_two_words : (name : List ℕ) (words rest : List (List ℕ)) (word value : List ℕ) (back : List (List ℕ)) → words ≡ word ∷ rest → rest ≡ value ∷ back → word ≡ name → IsBehind name words value back
in_two_words name words rest word value back are rest_are is =
    (name ∷ value ∷ [], inl refl, are ∙ ap₂ (λ (x : List ℕ) (xs : List (List ℕ)). x ∷ xs) is rest_are)

pub in_one_word : (name : List ℕ) (words back : List (List ℕ)) (word value : List ℕ) → words ≡ word ∷ back → word ≡ name ++ (codes "=" ++ value) → IsBehind name words value back
in_one_word name words back word value are is =
    ((name ++ (codes "=" ++ value)) ∷ [], inr refl, are ∙ ap (λ (x : List ℕ). x ∷ back) is)

-- where nothing is found
pub none_of : {T : Type 0} (o : Option T) (P : Type 0) (Q : T → Type 0) → o ≡ None → P → MatchOption o P Q
none_of {T} o P Q is p = subst (λ (r : Option T). MatchOption r P Q) (sym is) p

pub none_where : {T : Type 0} (o : Option T) (P : Type 0) (Q : T → Type 0) → MatchOption o P Q → ((x : T) → o ≡ Some x → ⊥) → P
none_where None P Q found none = found
none_where (Some x) P Q found none = absurd (none x refl)

-- another word at the front
pub other_word : (name : List ℕ) (words rest : List (List ℕ)) (word : List ℕ) → words ≡ word ∷ rest → ((tail : List ℕ) → word ≡ name ++ tail → ⊥) → (value : List ℕ) (back : List (List ℕ)) → IsBehind name words value back → ⊥
other_word name words rest word are other value back b =
    let k = first_of name value b.0 back b.1 in
    other k.0 (heads word (name ++ k.0) rest k.1 (sym are ∙ b.2 ∙ k.2))

-- a word that begins with the name of an option, and goes on with something else than a value
pub other_tail : (name : List ℕ) (words rest : List (List ℕ)) (word tail : List ℕ) → words ≡ word ∷ rest → word ≡ name ++ tail → (tail ≡ [] → ⊥) → ((value : List ℕ) → tail ≡ 61 ∷ value → ⊥) → (value : List ℕ) (back : List (List ℕ)) → IsBehind name words value back → ⊥
other_tail name words rest word tail are is some other value back b = by b.1
  where
    by : IsOption name value b.0 → ⊥
    by (inl e) =
        let word_is : word ≡ name = heads word name rest (value ∷ back) (sym are ∙ b.2 ∙ ap (λ (o : List (List ℕ)). o ++ back) e) in
        some (same_behind name tail [] (sym is ∙ word_is ∙ sym (append-nil name)))
    by (inr e) =
        let word_is : word ≡ name ++ (codes "=" ++ value) = heads word (name ++ (codes "=" ++ value)) rest back (sym are ∙ b.2 ∙ ap (λ (o : List (List ℕ)). o ++ back) e) in
        other value (same_behind name tail (61 ∷ value) (sym is ∙ word_is))

-- ---- where no piece is

pub no_plain_text : (words rest : List (List ℕ)) (word : List ℕ) → words ≡ word ∷ rest → (IsPlainText word → ⊥) → ((value : List ℕ) (back : List (List ℕ)) → IsBehind (codes "--dir") words value back → ⊥) → ((value : List ℕ) (back : List (List ℕ)) → IsBehind (codes "--connections") words value back → ⊥) → ((value : List ℕ) (back : List (List ℕ)) → IsBehind (codes "--front") words value back → ⊥) → BeginsWithNone words
no_plain_text words rest word are other no_dir no_connections no_front (pieces.word w) back b =
    other (subst IsPlainText (sym (heads word w rest back (sym are ∙ b.2 ∙ ap (λ (o : List (List ℕ)). o ++ back) b.1.1))) b.1.0)
no_plain_text words rest word are other no_dir no_connections no_front (pieces.folder d) back b = no_dir d back (b.0, b.1.1, b.2)
no_plain_text words rest word are other no_dir no_connections no_front (pieces.connections n) back b = no_connections b.1.0 back (b.0, b.1.2, b.2)
no_plain_text words rest word are other no_dir no_connections no_front (pieces.front a) back b = no_front (word_of a) back (b.0, b.1, b.2)

-- ---- numbers are plain texts

plain_digit : (d : ℕ) → d < 10 → is_plain ((48 + d) ∷ []) ≡ true
plain_digit d small = grind (arith, nat_tests)

plain_push : (ds : List ℕ) (d : ℕ) → d < 10 → is_plain ds ≡ true → is_plain (ds ++ (48 + d) ∷ []) ≡ true
plain_push [] d small plain = plain_digit d small
plain_push (b ∷ bs) d small plain = plain

plain_decimal : (n : ℕ) → n < 2 ^ 64 → is_plain (decimal n) ≡ true
plain_decimal n small = decimal_by_steps (λ m ds. is_plain ds ≡ true) (λ m h. plain_digit m h) (λ m ds h before. plain_push ds (m % 10) (omega arith) before) n small

pub count_text : (n : ℕ) (text : List ℕ) → IsCount n text → IsPlainText text
count_text n text is =
    subst IsPlainText (sym is.2) (plain_decimal n (omega arith), IsUtf8-from_ascii (decimal n) (IsAscii-decimal n (omega arith)))

pub no_length : {T : Type 0} (xs : List T) → length xs ≡ 0 → xs ≡ []
no_length [] e = refl
no_length (x ∷ xs) e = absurd (omega (arith, e))

pub filled : (xs : List ℕ) (b : Bool) → b ≡ nat_eq (length xs) 0 → b ≡ false → xs ≡ [] → ⊥
filled xs b test is none =
    let zero : length xs ≡ 0 = ap length none in
    let equal : nat_eq (length xs) 0 ≡ true = grind (arith, nat_tests) in
    false_true (sym is ∙ test ∙ equal)
  where
    false_true : false ≡ true → ⊥
    false_true e = cc
