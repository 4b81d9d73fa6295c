-- Damage has one place.
use Rattle.std.proofs.Common.{◌≡◌, ℕ, ◌+◌, ◌*◌, ◌^◌, ◌<◌, ◌≤◌, ◌⊎◌, inl, inr, IsSome, List, [], ◌∷◌, ◌++◌, length, refl, sym, ap, ◌∙◌, arith, subst, length-append}
use Rattle.std.specs.List.{flat_map}
use Rattle.std.proofs.lemmas.Bool.{cases_lt}
use Rattle.std.proofs.lemmas.List.{append_cancel_left, take_all}
use Rattle.std.proofs.lemmas.Grind.{flat_map-append}
use Rattle.qd_base.specs.declared.schema.ColType.{ColType}
use Rattle.qd_base.specs.declared.schema.ColType.TheVariants as kind
use Rattle.qd_base.specs.Dictionary.{id_in}
use Rattle.qd_column_format.specs.Fields.{field_size, field_bytes, bytes_of_fields, named, Follows, AreFields}
use Rattle.qd_column_format.specs.Spelling.{stored_text, BeginsWith}
use Rattle.qd_column_format.specs.Damage.{IsMainDamage, IsCutText, IsTextDamage, IsAuxDamageBy, IsAuxDamage}
use Rattle.qd_column_format.specs.Laws.{DamageHasOnePlace, DictionaryDamageHasOnePlace, OneDictionaryIsSpelled}
use Rattle.qd_column_format.proofs.FieldLemmas.{fields_inj, length-words}
use Rattle.qd_column_format.proofs.DamageLemmas.{main_whole, texts_whole, texts_inj, text_uncut}

-- bytes that hold the same number of texts hold the same texts
pub one_dictionary : OneDictionaryIsSpelled
one_dictionary bytes a b size short_a short_b begins_a begins_b = (texts_inj a b begins_a.0 begins_b.0 short_a short_b (omega arith) (sym begins_a.1 ∙ begins_b.1)).0 ∙ take_all (length a) b (omega arith)

-- where the next text is damaged, behind the same texts
abbrev IsCut : List ℕ → List ℕ → ℕ → Type 0
IsCut bytes rest at = IsCutText rest × (at ≡ length bytes)

abbrev IsRepeated : List (List ℕ) → List ℕ → ℕ → Type 0
IsRepeated texts rest at = (t : List ℕ) × (length t ≤ 65535) × BeginsWith rest (stored_text t) × IsSome (id_in texts t) × (at ≡ length (flat_map stored_text texts))

next_text : (texts : List (List ℕ)) (bytes rest : List ℕ) (at other : ℕ) → IsCut bytes rest at ⊎ IsRepeated texts rest at → IsCut bytes rest other ⊎ IsRepeated texts rest other → at ≡ other
next_text texts bytes rest at other (inl c) (inl d) = c.1 ∙ sym d.1
next_text texts bytes rest at other (inr c) (inr d) = c.4 ∙ sym d.4
next_text texts bytes rest at other (inl c) (inr d) = let b = d.2 in absurd (text_uncut d.0 b.0 d.1 (subst IsCutText b.1 c.0))
next_text texts bytes rest at other (inr c) (inl d) = let b = c.2 in absurd (text_uncut c.0 b.0 c.1 (subst IsCutText b.1 d.0))

-- no damage comes behind fewer texts than other damage
more_texts : (count : ℕ) (bytes : List ℕ) (at other : ℕ) (d : IsTextDamage count bytes at) (e : IsTextDamage count bytes other) → length d.texts < length e.texts → ⊥
more_texts count bytes at other d e fewer = texts_whole e.texts bytes e.rest at e.distinct e.short e.there (record { texts = d.texts; short = d.short; distinct = d.distinct; fewer = fewer; rest = d.rest; there = d.there; damage = d.damage })

pub one_text_place : DictionaryDamageHasOnePlace
one_text_place count bytes at other d e =
    elim (cases_lt (length d.texts) (length e.texts)) [
      | inl fewer ↦ absurd (more_texts count bytes at other d e fewer)
      | inr no_fewer ↦ elim (cases_lt (length e.texts) (length d.texts)) [
        | inl more ↦ absurd (more_texts count bytes other at e d more)
        | inr no_more ↦ (
            let same : d.texts ≡ e.texts = one_dictionary bytes d.texts e.texts (omega arith) d.short e.short (d.rest, d.there) (e.rest, e.there) in
            let rest : d.rest ≡ e.rest = append_cancel_left (flat_map stored_text d.texts) d.rest e.rest (sym d.there ∙ e.there ∙ ap (λ l. flat_map stored_text l ++ e.rest) (sym same)) in
            next_text d.texts bytes d.rest at other d.damage (subst (λ r. IsCut bytes r other ⊎ IsRepeated d.texts r other) (sym rest) (subst (λ l. IsCut bytes e.rest other ⊎ IsRepeated l e.rest other) (sym same) e.damage))
            )
      ]
    ]

-- where the next row is damaged, behind the same numbers
abbrev IsShort : ColType → List ℕ → List ℕ → ℕ → Type 0
IsShort k fields main at = (length main < length (bytes_of_fields k fields) + field_size k) × (at ≡ length main)

abbrev IsOdd : ColType → List ℕ → List ℕ → ℕ → Type 0
IsOdd k fields main at = (next : ℕ) × (next < 256 ^ field_size k) × BeginsWith main (bytes_of_fields k (fields ++ next ∷ [])) × (Follows k fields next → ⊥) × (at ≡ length (bytes_of_fields k fields))

size_pushed : (k : ColType) (fields : List ℕ) (next : ℕ) → length (bytes_of_fields k (fields ++ next ∷ [])) ≡ length (bytes_of_fields k fields) + field_size k
size_pushed k fields next =
    ap length (flat_map-append (field_bytes k) fields (next ∷ [])) ∙ length-append (bytes_of_fields k fields) (bytes_of_fields k (next ∷ [])) ∙ ap (λ n. length (bytes_of_fields k fields) + n) (length-words (field_size k) (next ∷ []) ∙ once (field_size k))
  where
    once : (n : ℕ) → 1 * n ≡ n
    once n = omega arith

there_or_short : (k : ColType) (fields main : List ℕ) (next : ℕ) → BeginsWith main (bytes_of_fields k (fields ++ next ∷ [])) → length main < length (bytes_of_fields k fields) + field_size k → ⊥
there_or_short k fields main next b short = absurd (omega (arith, short, size_pushed k fields next, ap length b.1, length-append (bytes_of_fields k (fields ++ next ∷ [])) b.0))

next_row : (k : ColType) (fields main : List ℕ) (at other : ℕ) → IsShort k fields main at ⊎ IsOdd k fields main at → IsShort k fields main other ⊎ IsOdd k fields main other → at ≡ other
next_row k fields main at other (inl c) (inl d) = c.1 ∙ sym d.1
next_row k fields main at other (inr c) (inr d) = c.4 ∙ sym d.4
next_row k fields main at other (inl c) (inr d) = absurd (there_or_short k fields main d.0 d.2 c.0)
next_row k fields main at other (inr c) (inl d) = absurd (there_or_short k fields main c.0 c.2 d.0)

-- no damage comes behind fewer rows than other damage
more_rows : (k : ColType) (rows : ℕ) (main : List ℕ) (at other : ℕ) (d : IsMainDamage k rows main at) (e : IsMainDamage k rows main other) → length d.fields < length e.fields → ⊥
more_rows k rows main at other d e fewer = main_whole k (length e.fields) main at e.fields e.sound refl e.there (record { fields = d.fields; sound = d.sound; fewer = fewer; there = d.there; damage = d.damage })

-- the same number of rows have the same numbers
same_rows : (k : ColType) (main a b : List ℕ) → length a ≡ length b → AreFields k a → AreFields k b → BeginsWith main (bytes_of_fields k a) → BeginsWith main (bytes_of_fields k b) → a ≡ b
same_rows k main a b size are_a are_b begins_a begins_b = fields_inj (field_size k) a b begins_a.0 begins_b.0 are_a.fit are_b.fit (omega arith) (sym begins_a.1 ∙ begins_b.1) ∙ take_all (length a) b (omega arith)

one_main_place : (k : ColType) (rows : ℕ) (main : List ℕ) (at other : ℕ) → IsMainDamage k rows main at → IsMainDamage k rows main other → at ≡ other
one_main_place k rows main at other d e =
    elim (cases_lt (length d.fields) (length e.fields)) [
      | inl fewer ↦ absurd (more_rows k rows main at other d e fewer)
      | inr no_fewer ↦ elim (cases_lt (length e.fields) (length d.fields)) [
        | inl more ↦ absurd (more_rows k rows main other at e d more)
        | inr no_more ↦ (
            let same : d.fields ≡ e.fields = same_rows k main d.fields e.fields (omega arith) d.sound e.sound d.there e.there in
            next_row k d.fields main at other d.damage (subst (λ l. IsShort k l main other ⊎ IsOdd k l main other) (sym same) e.damage)
            )
      ]
    ]

one_place_by : (k : ColType) (fields aux : List ℕ) (at other : ℕ) → IsAuxDamageBy k fields aux at → IsAuxDamageBy k fields aux other → at ≡ other
one_place_by kind.Long fields aux at other d e = absurd d
one_place_by kind.Bool fields aux at other d e = absurd d
one_place_by kind.Time fields aux at other d e = absurd d
one_place_by kind.Symbol fields aux at other d e = one_text_place (named fields) aux at other d e
one_place_by kind.Varchar fields aux at other d e = d.1 ∙ sym e.1

one_aux_place : (k : ColType) (rows : ℕ) (main aux : List ℕ) (at other : ℕ) → IsAuxDamage k rows main aux at → IsAuxDamage k rows main aux other → at ≡ other
one_aux_place k rows main aux at other d e =
    let same : d.fields ≡ e.fields = same_rows k main d.fields e.fields (d.whole ∙ sym e.whole) d.sound e.sound d.there e.there in
    one_place_by k d.fields aux at other d.damage (subst (λ l. IsAuxDamageBy k l aux other) (sym same) e.damage)

pub one_place : DamageHasOnePlace
one_place k rows main aux half at other_half other (inl d) (inl e) = (d.0 ∙ sym e.0, one_main_place k rows main at other d.1 e.1)
one_place k rows main aux half at other_half other (inr d) (inr e) = (d.0 ∙ sym e.0, one_aux_place k rows main aux at other d.1 e.1)
one_place k rows main aux half at other_half other (inl d) (inr e) = let whole = e.1 in absurd (main_whole k rows main at whole.fields whole.sound whole.whole whole.there d.1)
one_place k rows main aux half at other_half other (inr d) (inl e) = let whole = d.1 in absurd (main_whole k rows main other whole.fields whole.sound whole.whole whole.there e.1)
