-- Values, tags and fields: what is read is spelled so, and what is spelled so is read.
use Rattle.std.proofs.Common.{◌≡◌, ℕ, Bool, true, false, List, ◌∷◌, drop, refl, sym, ap, subst, ◌∙◌, Some, inl, inr}
use Rattle.std.specs.Prelude.{not, ◌||◌, if◌then◌else◌}
use Rattle.qd_ilp.specs.Cut.{◌>>=◌, begins, cut, word, closed}
use Rattle.qd_ilp.specs.Value.{Value, Tag, Text, bare, is_empty}
use Rattle.qd_ilp.specs.Line.{Item, value_at, item_at}
use Rattle.qd_ilp.specs.Grammar.{Name, Quoted, Word, IsSome, HasValue, IsItem}
use Rattle.qd_ilp.proofs.Cuts.{or_false}
use Rattle.qd_ilp.proofs.Grammars.{chosen, some, none, bound, no_some, some_both, begins_so, name_of_text, name_is, word_of_text, word_is_cut, quoted_spelled, quoted_is}

abbrev pub valued : Value → List ℕ → Value × List ℕ
valued v rest = (v, rest)

pub value_spelled : (tag : Bool) (text : List ℕ) (v : Value) (rest : List ℕ) → value_at tag text ≡ some (valued v rest) → HasValue tag text v rest
unfolding value_at
value_spelled true text v rest e =
    elim (chosen (is_empty (cut false text).0) none (some (valued (Tag (cut false text).0) (cut false text).1)) (some (valued v rest)) e) [
      | inl empty ↦ absurd (no_some (valued v rest) empty.1)
      | inr tag ↦
          let both = some_both (Tag (cut false text).0) v (cut false text).1 rest tag.1 in
          let P : List ℕ → Type 0 = λ l. Name text (cut false text).0 l in
          ((cut false text).0, sym both.0, subst P both.1 (name_of_text text), tag.0)
    ]
value_spelled false text v rest e =
    elim (chosen (begins 34 text) (closed false (drop 1 text) >>= λ c. Some (valued (Text c.0) c.1)) (if is_empty (word text).0 then none else some (valued (bare (word text).0) (word text).1)) (some (valued v rest)) e) [
      | inl quoted ↦
          let found = bound (closed false (drop 1 text)) (λ c. Some (valued (Text c.0) c.1)) (valued v rest) quoted.1 in
          let both = some_both (Text found.0.0) v found.0.1 rest found.2 in
          let P : List ℕ → Type 0 = λ l. Quoted (drop 1 text) found.0.0 l in
          inl (found.0.0, drop 1 text, sym both.0, begins_so 34 text quoted.0, subst P both.1 (quoted_spelled (drop 1 text) found.0.0 found.0.1 found.1))
      | inr other ↦
          elim (chosen (is_empty (word text).0) none (some (valued (bare (word text).0) (word text).1)) (some (valued v rest)) other.1) [
            | inl empty ↦ absurd (no_some (valued v rest) empty.1)
            | inr w ↦
                let both = some_both (bare (word text).0) v (word text).1 rest w.1 in
                let P : List ℕ → Type 0 = λ l. Word text (word text).0 l in
                inr ((word text).0, sym both.0, subst P both.1 (word_of_text text), w.0, other.0)
          ]
    ]

pub value_is : (tag : Bool) (text : List ℕ) (v : Value) (rest : List ℕ) → HasValue tag text v rest → value_at tag text ≡ some (valued v rest)
unfolding value_at
value_is true text v rest spelled = rw (name_is text spelled.0 rest spelled.2, spelled.3) (ap (λ (x : Value). some (valued x rest)) (sym spelled.1))
value_is false text v rest spelled =
    elim spelled [
      | inl quoted ↦ rw (quoted.3) (rw (quoted_is quoted.1 quoted.0 rest quoted.4) (ap (λ (x : Value). some (valued x rest)) (sym quoted.2)))
      | inr w ↦ rw (w.4, word_is_cut text w.0 rest w.2, w.3) (ap (λ (x : Value). some (valued x rest)) (sym w.1))
    ]

-- ---- items

abbrev item_of : List ℕ → Value → Item
item_of name value = record { name = name; value = value }

abbrev pub itemed : Item → List ℕ → Item × List ℕ
itemed i rest = (i, rest)

not_false : (b : Bool) → not b ≡ false → b ≡ true
not_false true h = refl
not_false false h = absurd cc

pub item_spelled : (tag : Bool) (text : List ℕ) (i : Item) (rest : List ℕ) → item_at tag text ≡ some (itemed i rest) → IsItem tag text i rest
unfolding item_at
item_spelled tag text i rest e =
    let c = cut false text in
    let read = value_at tag (drop 1 (cut false text).1) in
    elim (chosen (is_empty (cut false text).0 || not (begins 61 (cut false text).1)) none (value_at tag (drop 1 (cut false text).1) >>= λ v. Some (itemed (item_of (cut false text).0 v.0) v.1)) (some (itemed i rest)) e) [
      | inl bad ↦ absurd (no_some (itemed i rest) bad.1)
      | inr good ↦
          let both = or_false (is_empty (cut false text).0) (not (begins 61 (cut false text).1)) good.0 in
          let found = bound (value_at tag (drop 1 (cut false text).1)) (λ v. Some (itemed (item_of (cut false text).0 v.0) v.1)) (itemed i rest) good.1 in
          let parts = some_both (item_of (cut false text).0 found.0.0) i found.0.1 rest found.2 in
          let name : (cut false text).0 ≡ i.name = ap (λ (x : Item). x.name) parts.0 in
          let value : found.0.0 ≡ i.value = ap (λ (x : Item). x.value) parts.0 in
          let back : found.0.1 ≡ rest = parts.1 in
          let equals : (cut false text).1 ≡ 61 ∷ drop 1 (cut false text).1 = begins_so 61 (cut false text).1 (not_false (begins 61 (cut false text).1) both.1) in
          let P : List ℕ → Type 0 = λ l. Name text l (61 ∷ drop 1 (cut false text).1) in
          let Q : List ℕ → Type 0 = λ l. Name text (cut false text).0 l in
          let R : List ℕ → Type 0 = IsSome in (
            drop 1 (cut false text).1,
            subst P name (subst Q equals (name_of_text text)),
            subst R name both.0,
            value_spelled tag (drop 1 (cut false text).1) i.value rest (found.1 ∙ ap (λ (x : Value). some (valued x found.0.1)) value ∙ ap (λ (l : List ℕ). some (valued i.value l)) back),
          )
    ]

pub item_is : (tag : Bool) (text : List ℕ) (i : Item) (rest : List ℕ) → IsItem tag text i rest → item_at tag text ≡ some (itemed i rest)
unfolding item_at
item_is tag text i rest spelled = rw (name_is text i.name (61 ∷ spelled.0) spelled.1, spelled.2) (rw (value_is tag spelled.0 i.value rest spelled.3) refl)
