-- Whether bytes begin with a head is decided, piece by piece.
use Rattle.std.proofs.Common.{◌≡◌, ◌≢◌, ℕ, zero, suc, ◌<◌, ◌≤◌, ◌⊎◌, inl, inr, Bool, true, false, List, [], ◌∷◌, ◌++◌, length, flat_map, refl, sym, ap, ◌∙◌, subst, arith, append_assoc, length-append}
use Rattle.std.specs.Str.{is_utf8}
use Rattle.std.proofs.lemmas.Bool.{cases_Bool, cases_eq, false≢true}
use Rattle.std.proofs.lemmas.List.Elements.{All-head, All-tail, All-cons, All-nil}
use Rattle.std.proofs.lemmas.List.{append-nil}
use Rattle.std.proofs.lemmas.Str.{IsUtf8-from_is_utf8, is_utf8-from_IsUtf8}
use Rattle.httparse.specs.Grammar.{is_token_byte, is_uri_byte, is_value_byte, AllPass, LineEnd, crlf, lf, print_end, print_blank, print_version, Field, print_field, IsField, RequestHead, ReadsRequest}
use Rattle.httparse.specs.Pieces.{Piece, Begins, Then, Stops, is_newline, Newline, Blank, Word, Method, Target, Version, Text, FieldLine, FieldLines, Section, RequestStart}
use Rattle.httparse.proofs.GrammarLemmas.{request_from_pieces, request_head, request_pieces, request_tree}
use Rattle.httparse.proofs.PieceLemmas.{IsDeterministic, Word_deterministic, Blank_deterministic, Method_deterministic, Target_deterministic, Version_deterministic, FieldLine_parts, Name_deterministic, RequestStart_deterministic, Section_line, Section_skip, Stops_value, colon_ends_token, newline_not_stopped, print_end_unique, print_field-append, space_ends_token}

-- the text begins with the piece, or not
abbrev pub IsDecided : {A : Type 0} → Piece A → List ℕ → Type 0
IsDecided G text = Begins G text ⊎ (Begins G text → ⊥)

decide_then : {A B : Type 0} (G : Piece A) (H : Piece B) → IsDeterministic G → ((text : List ℕ) → IsDecided G text) → ((text : List ℕ) → IsDecided H text) → (text : List ℕ) → IsDecided (Then G H) text
decide_then G H det first second text =
    elim (first text) [
      | inl g ↦ elim (second g.1) [
        | inl h ↦ inl ((g.0, h.0), h.1, (g.1, g.2, h.2))
        | inr none ↦ inr (λ x.
            let same = (det.unique x.0.0 g.0 text x.2.0 g.1 x.2.1 g.2).1 in
            none (x.0.1, x.1, subst (λ (m : List ℕ). H x.0.1 m x.1) same x.2.2))
      ]
      | inr none ↦ inr (λ x. none (x.0.0, x.2.0, x.2.1))
    ]

-- ---- fixed bytes

-- these bytes come first, or not
decide_bytes : (bytes text : List ℕ) → ((rest : List ℕ) × (text ≡ bytes ++ rest)) ⊎ ((rest : List ℕ) → text ≢ bytes ++ rest)
decide_bytes [] text = inl (text, refl)
decide_bytes (b ∷ bytes) [] = inr (λ rest e. cc)
decide_bytes (b ∷ bytes) (t ∷ text) =
    elim (cases_eq t b) [
      | inl same ↦ elim (decide_bytes bytes text) [
        | inl h ↦ inl (h.0, cc (same, h.1))
        | inr none ↦ inr (λ rest e. none rest (cc))
      ]
      | inr other ↦ inr (λ rest e. other (cc))
    ]

decide_newline : (text : List ℕ) → IsDecided Newline text
decide_newline text =
    elim (decide_bytes (print_end crlf) text) [
      | inl h ↦ inl (crlf, h.0, h.1)
      | inr no_crlf ↦ elim (decide_bytes (print_end lf) text) [
        | inl h ↦ inl (lf, h.0, h.1)
        | inr no_lf ↦ inr (λ x. neither no_crlf no_lf x.0 x.1 x.2)
      ]
    ]
  where
    neither : ((rest : List ℕ) → text ≢ print_end crlf ++ rest) → ((rest : List ℕ) → text ≢ print_end lf ++ rest) → (end : LineEnd) (rest : List ℕ) → text ≡ print_end end ++ rest → ⊥
    neither no_crlf no_lf crlf rest e = no_crlf rest e
    neither no_crlf no_lf lf rest e = no_lf rest e

decide_version : (text : List ℕ) → IsDecided Version text
decide_version text =
    elim (decide_bytes (print_version 0) text) [
      | inl h ↦ inl (0, h.0, (omega arith, h.1))
      | inr no_zero ↦ elim (decide_bytes (print_version 1) text) [
        | inl h ↦ inl (1, h.0, (omega arith, h.1))
        | inr no_one ↦ inr (λ x. neither no_zero no_one x.0 x.1 x.2.0 x.2.1)
      ]
    ]
  where
    neither : ((rest : List ℕ) → text ≢ print_version 0 ++ rest) → ((rest : List ℕ) → text ≢ print_version 1 ++ rest) → (minor : ℕ) (rest : List ℕ) → minor ≤ 1 → text ≡ print_version minor ++ rest → ⊥
    neither no_zero no_one zero rest small e = no_zero rest e
    neither no_zero no_one (suc zero) rest small e = no_one rest e
    neither no_zero no_one (suc (suc minor)) rest small e = absurd (omega arith)

-- ---- words

-- bytes that pass the test, and the byte that stops them
Run : (ℕ → Bool) → ℕ → List ℕ → Type 0
Run test stop text = (word : List ℕ) × (rest : List ℕ) × AllPass test word × (text ≡ word ++ stop ∷ rest)

passes : (test : ℕ → Bool) → ℕ → Type 0
passes test b = test b ≡ true

run_none : (test : ℕ → Bool) (stop : ℕ) → Run test stop [] → ⊥
unfolding Run
run_none test stop ([], rest, all, e) = cc
run_none test stop (x ∷ word, rest, all, e) = cc

run_tail : (test : ℕ → Bool) (stop b : ℕ) (text : List ℕ) → test stop ≡ false → test b ≡ true → Run test stop (b ∷ text) → Run test stop text
unfolding Run
run_tail test stop b text fails pass ([], rest, all, e) =
    let same : b ≡ stop = cc in absurd (false≢true (sym fails ∙ (ap test (sym same) ∙ pass)))
run_tail test stop b text fails pass (x ∷ word, rest, all, e) = (word, rest, All-tail (λ v. test v ≡ true) x word all, cc)

run_stop : (test : ℕ → Bool) (stop b : ℕ) (text : List ℕ) → test b ≡ false → Run test stop (b ∷ text) → b ≡ stop
unfolding Run
run_stop test stop b text fails ([], rest, all, e) = cc
run_stop test stop b text fails (x ∷ word, rest, all, e) =
    let same : b ≡ x = cc in absurd (false≢true (sym fails ∙ (ap test same ∙ All-head (λ v. test v ≡ true) x word all)))

decide_run : (test : ℕ → Bool) (stop : ℕ) → test stop ≡ false → (text : List ℕ) → Run test stop text ⊎ (Run test stop text → ⊥)
unfolding Run
decide_run test stop fails [] = inr (run_none test stop)
decide_run test stop fails (b ∷ text) =
    elim (cases_Bool (test b)) [
      | inl pass ↦ elim (decide_run test stop fails text) [
        | inl h ↦ inl (b ∷ h.0, h.1, All-cons (λ v. test v ≡ true) b h.0 pass h.2, ap (λ t. b ∷ t) h.3)
        | inr none ↦ inr (λ x. none (run_tail test stop b text fails pass x))
      ]
      | inr no_pass ↦ elim (cases_eq b stop) [
        | inl same ↦ inl ([], text, All-nil (λ v. test v ≡ true), ap (λ v. v ∷ text) same)
        | inr other ↦ inr (λ x. other (run_stop test stop b text no_pass x))
      ]
    ]

decide_word : (test : ℕ → Bool) (stop : ℕ) → test stop ≡ false → (text : List ℕ) → IsDecided (Word test stop) text
unfolding Run
decide_word test stop fails [] = inr (λ x. run_none test stop (x.0, x.1, x.2.1, x.2.2))
decide_word test stop fails (b ∷ text) =
    elim (cases_Bool (test b)) [
      | inl pass ↦ elim (decide_run test stop fails text) [
        | inl h ↦ inl (b ∷ h.0, h.1, (omega arith, All-cons (λ v. test v ≡ true) b h.0 pass h.2, ap (λ t. b ∷ t) h.3))
        | inr none ↦ inr (λ x. none (run_tail test stop b text fails pass (x.0, x.1, x.2.1, x.2.2)))
      ]
      | inr no_pass ↦ inr (λ x. not_first x.0 x.1 x.2.0 x.2.1 x.2.2 no_pass)
    ]
  where
    not_first : (word rest : List ℕ) → 0 < length word → AllPass test word → b ∷ text ≡ word ++ stop ∷ rest → test b ≡ false → ⊥
    not_first [] rest some all e no_pass = absurd (omega arith)
    not_first (x ∷ word) rest some all e no_pass =
        let same : b ≡ x = cc in false≢true (sym no_pass ∙ (ap test same ∙ All-head (λ v. test v ≡ true) x word all))

decide_target : (text : List ℕ) → IsDecided Target text
decide_target text =
    elim (decide_word is_uri_byte 32 refl text) [
      | inl w ↦ elim (cases_Bool (is_utf8 w.0)) [
        | inl valid ↦ inl (w.0, w.1, (w.2, IsUtf8-from_is_utf8 w.0 valid))
        | inr invalid ↦ inr (λ x.
            let same = (Word_deterministic is_uri_byte 32 refl).unique x.0 w.0 text x.1 w.1 x.2.0 w.2 in
            false≢true (sym invalid ∙ (ap is_utf8 (sym same.0) ∙ is_utf8-from_IsUtf8 x.0 x.2.1)))
      ]
      | inr none ↦ inr (λ x. none (x.0, x.1, x.2.0))
    ]

-- ---- empty lines

blank_more : (end : LineEnd) (ends : List LineEnd) (text rest rest' : List ℕ) → text ≡ print_end end ++ rest → rest ≡ print_blank ends ++ rest' → text ≡ print_blank (end ∷ ends) ++ rest'
blank_more end ends text rest rest' e f = e ∙ (ap (λ t. print_end end ++ t) f ∙ sym (append_assoc (print_end end) (print_blank ends) rest'))

blank_less : (end : LineEnd) (ends : List LineEnd) (text rest rest' : List ℕ) → text ≡ print_end end ++ rest → Blank ends text rest' → (more : List LineEnd) × Blank more rest rest'
blank_less end [] text rest rest' e x = absurd (newline_not_stopped end rest rest' (sym e ∙ x.0) x.1)
blank_less end (f ∷ ends) text rest rest' e x =
    let split : print_end f ++ (print_blank ends ++ rest') ≡ print_end end ++ rest = sym (append_assoc (print_end f) (print_blank ends) rest') ∙ (sym x.0 ∙ e) in
    (ends, (sym (print_end_unique f end (print_blank ends ++ rest') rest split).1, x.1))

blank_first : (ends : List LineEnd) (text rest : List ℕ) → (Begins Newline text → ⊥) → Blank ends text rest → Stops is_newline text
blank_first [] text rest none x = subst (Stops is_newline) (sym x.0) x.1
blank_first (end ∷ ends) text rest none x = absurd (none (end, print_blank ends ++ rest, x.0 ∙ append_assoc (print_end end) (print_blank ends) rest))

stops_or_not : (text : List ℕ) → Stops is_newline text ⊎ (Stops is_newline text → ⊥)
stops_or_not [] = inr (λ x. x)
stops_or_not (b ∷ text) =
    elim (cases_Bool (is_newline b)) [
      | inl is ↦ inr (λ none. false≢true (sym none ∙ is))
      | inr none ↦ inl none
    ]

newline_shorter : (end : LineEnd) (text rest : List ℕ) → text ≡ print_end end ++ rest → length rest < length text
newline_shorter crlf text rest e = omega (arith, ap length e)
newline_shorter lf text rest e = omega (arith, ap length e)

blank_step : (text : List ℕ) → ((rest : List ℕ) → length rest < length text → IsDecided Blank rest) → IsDecided Blank text
blank_step text behind =
    elim (decide_newline text) [
      | inl x ↦ elim (behind x.1 (newline_shorter x.0 text x.1 x.2)) [
        | inl y ↦ inl (x.0 ∷ y.0, y.1, (blank_more x.0 y.0 text x.1 y.1 x.2 y.2.0, y.2.1))
        | inr none ↦ inr (λ y. let less = blank_less x.0 y.0 text x.1 y.1 x.2 y.2 in none (less.0, y.1, less.1))
      ]
      | inr none ↦ elim (stops_or_not text) [
        | inl stops ↦ inl ([], text, (refl, stops))
        | inr no_stop ↦ inr (λ y. no_stop (blank_first y.0 text y.1 none y.2))
      ]
    ]

blank_within : (n : ℕ) (text : List ℕ) → length text ≤ n → IsDecided Blank text
blank_within zero text within = blank_step text (λ rest less. absurd (omega arith))
blank_within (suc n) text within = blank_step text (λ rest less. blank_within n rest (omega arith))

decide_blank : (text : List ℕ) → IsDecided Blank text
decide_blank text = blank_within (length text) text (omega arith)

-- ---- field lines

text_first : (t : List ℕ) (end : LineEnd) (b : ℕ) (text rest : List ℕ) → is_value_byte b ≡ false → Text (t, end) (b ∷ text) rest → Begins Newline (b ∷ text)
text_first [] end b text rest fails x = (end, rest, x.1)
text_first (y ∷ t) end b text rest fails x =
    let same : b ≡ y = cc (x.1) in absurd (false≢true (sym fails ∙ (ap is_value_byte same ∙ All-head (λ v. is_value_byte v ≡ true) y t x.0)))

text_tail : (t : List ℕ) (end : LineEnd) (b : ℕ) (text rest : List ℕ) → is_value_byte b ≡ true → Text (t, end) (b ∷ text) rest → Begins Text text
text_tail [] end b text rest pass x =
    let stops : Stops is_value_byte (b ∷ text) = subst (Stops is_value_byte) (sym x.1) (Stops_value end rest) in
    absurd (false≢true (sym stops ∙ pass))
text_tail (y ∷ t) end b text rest pass x = ((t, end), rest, (All-tail (λ v. is_value_byte v ≡ true) y t x.0, cc (x.1)))

decide_text : (text : List ℕ) → IsDecided Text text
decide_text [] = inr (λ x. none x.0.0 x.0.1 x.1 x.2.1)
  where
    none : (t : List ℕ) (end : LineEnd) (rest : List ℕ) → [] ≡ t ++ (print_end end ++ rest) → ⊥
    none [] crlf rest e = cc
    none [] lf rest e = cc
    none (y ∷ t) end rest e = cc
decide_text (b ∷ text) =
    elim (cases_Bool (is_value_byte b)) [
      | inl pass ↦ elim (decide_text text) [
        | inl h ↦ inl ((b ∷ h.0.0, h.0.1), h.1, (All-cons (λ v. is_value_byte v ≡ true) b h.0.0 pass h.2.0, ap (λ t. b ∷ t) h.2.1))
        | inr none ↦ inr (λ x. none (text_tail x.0.0 x.0.1 b text x.1 pass x.2))
      ]
      | inr fails ↦ elim (decide_newline (b ∷ text)) [
        | inl x ↦ inl (([], x.0), x.1, (All-nil (λ v. is_value_byte v ≡ true), x.2))
        | inr none ↦ inr (λ x. none (text_first x.0.0 x.0.1 b text x.1 fails x.2))
      ]
    ]

decide_field : (text : List ℕ) → IsDecided FieldLine text
decide_field text =
    elim (decide_then (Word is_token_byte 58) Text Name_deterministic (decide_word is_token_byte 58 colon_ends_token) decide_text text) [
      | inl x ↦
          let f : Field = record { name = x.0.0; raw = x.0.1.0; end = x.0.1.1 } in
          let name = x.2.1 in
          let value = x.2.2 in
          inl (
            f,
            x.1,
            (
              record { name = (name.0, name.1); raw = value.0 },
              name.2 ∙ (ap (λ t. x.0.0 ++ 58 ∷ t) value.1 ∙ sym (print_field-append f x.1)),
            ),
          )
      | inr none ↦ inr (λ x. none ((x.0.name, (x.0.raw, x.0.end)), x.1, FieldLine_parts x.0 text x.1 x.2))
    ]

-- ---- sections

field_shorter : (f : Field) (text rest : List ℕ) → FieldLine f text rest → length rest < length text
field_shorter f text rest x =
    let long : 1 ≤ length (print_field f) = omega (arith, length-append (f.name ++ 58 ∷ f.raw) (print_end f.end), length-append f.name (58 ∷ f.raw), x.0.name.0) in
    omega (arith, ap length x.1, length-append (print_field f) rest)

section_more : (f : Field) (fields : List Field) (last : LineEnd) (text middle rest : List ℕ) → FieldLine f text middle → Section (fields, last) middle rest → Section (f ∷ fields, last) text rest
section_more f fields last text middle rest x y = (
  All-cons IsField f fields x.0 y.0,
  x.1 ∙ (ap (λ t. print_field f ++ t) y.1 ∙ regroup (print_field f) (flat_map print_field fields) (print_end last) rest),
)
  where
    regroup : (a b c d : List ℕ) → a ++ ((b ++ c) ++ d) ≡ ((a ++ b) ++ c) ++ d
    regroup a b c d = simp append_assoc

section_less : (f : Field) (fields : List Field) (last : LineEnd) (text middle rest : List ℕ) → FieldLine f text middle → Section (fields, last) text rest → Begins Section middle
section_less f fields last text middle rest x y =
    let one : FieldLines (f ∷ []) text middle = (All-cons IsField f [] x.0 (All-nil IsField), x.1 ∙ ap (λ t. t ++ middle) (sym (append-nil (print_field f)))) in
    let h = Section_skip (f ∷ []) fields last text middle rest one y in
    ((h.0, last), rest, h.2)

no_line : (text : List ℕ) → (Begins Newline text → ⊥) → (Begins FieldLine text → ⊥) → Begins Newline text ⊎ Begins FieldLine text → ⊥
no_line text no_newline no_field (inl x) = no_newline x
no_line text no_newline no_field (inr x) = no_field x

section_step : (text : List ℕ) → ((rest : List ℕ) → length rest < length text → IsDecided Section rest) → IsDecided Section text
section_step text behind =
    elim (decide_newline text) [
      | inl x ↦ inl (([], x.0), x.1, (All-nil IsField, x.2))
      | inr no_newline ↦ elim (decide_field text) [
        | inl x ↦ elim (behind x.1 (field_shorter x.0 text x.1 x.2)) [
          | inl y ↦ inl ((x.0 ∷ y.0.0, y.0.1), y.1, section_more x.0 y.0.0 y.0.1 text x.1 y.1 x.2 y.2)
          | inr none ↦ inr (λ y. none (section_less x.0 y.0.0 y.0.1 text x.1 y.1 x.2 y.2))
        ]
        | inr no_field ↦ inr (λ y. no_line text no_newline no_field (Section_line y.0 text y.1 y.2))
      ]
    ]

section_within : (n : ℕ) (text : List ℕ) → length text ≤ n → IsDecided Section text
section_within zero text within = section_step text (λ rest less. absurd (omega arith))
section_within (suc n) text within = section_step text (λ rest less. section_within n rest (omega arith))

decide_section : (text : List ℕ) → IsDecided Section text
decide_section text = section_within (length text) text (omega arith)

-- ---- heads

-- the bytes begin with a head, or not
abbrev pub HasHead : List ℕ → Type 0
HasHead bytes = (head : RequestHead) × (rest : List ℕ) × ReadsRequest bytes head rest

pub decide_head : (bytes : List ℕ) → HasHead bytes ⊎ (HasHead bytes → ⊥)
decide_head bytes =
    let version = decide_then Version Newline Version_deterministic decide_version decide_newline in
    let target = decide_then Target (Then Version Newline) Target_deterministic decide_target version in
    let method = decide_then Method (Then Target (Then Version Newline)) Method_deterministic (decide_word is_token_byte 32 space_ends_token) target in
    let start = decide_then Blank (Then Method (Then Target (Then Version Newline))) Blank_deterministic decide_blank method in
    elim (decide_then RequestStart Section RequestStart_deterministic start decide_section bytes) [
      | inl x ↦ inl (request_head x.0, x.1, request_from_pieces bytes x.0 x.1 x.2)
      | inr none ↦ inr (λ x. none (request_tree x.0, x.1, request_pieces bytes x.0 x.1 x.2))
    ]
