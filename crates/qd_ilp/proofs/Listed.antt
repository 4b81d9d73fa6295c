-- Lists of tags and fields: what is read is spelled so, and what is spelled so is read.
use Rattle.std.proofs.Common.{◌≡◌, ℕ, zero, suc, ◌+◌, ◌<◌, ◌≤◌, Bool, true, false, List, [], ◌∷◌, length, drop, refl, sym, ap, subst, ◌∙◌, Option, Some, inl, inr, arith}
use Rattle.std.specs.Prelude.{if◌then◌else◌}
use Rattle.qd_ilp.specs.Cut.{◌>>=◌, begins}
use Rattle.qd_ilp.specs.Value.{Value}
use Rattle.qd_ilp.specs.Line.{Item, item_at, items_at, tags_at}
use Rattle.qd_ilp.specs.Grammar.{Name, Quoted, Word, HasValue, IsItem, Items, Parted}
use Rattle.qd_ilp.proofs.Grammars.{chosen, some, none, bound, no_some, some_both, begins_so, begins_is}
use Rattle.qd_ilp.proofs.Parts.{item_spelled, item_is, itemed}

-- ---- each part takes bytes

pub name_takes : (text name rest : List ℕ) → Name text name rest → length name + length rest ≤ length text
name_takes text [] rest spelled = let size = ap length spelled.0 in omega (arith, size)
name_takes text (b ∷ name) rest spelled =
    let again = name_takes spelled.0 name rest spelled.2 in
    elim spelled.1 [
      | inl escaped ↦ let size = ap length escaped.0 in omega (arith, size, again)
      | inr plain ↦ let size = ap length plain.0 in omega (arith, size, again)
    ]

quoted_takes : (text t rest : List ℕ) → Quoted text t rest → length rest ≤ length text
quoted_takes text [] rest spelled = let size = ap length spelled in omega (arith, size)
quoted_takes text (b ∷ t) rest spelled =
    let again = quoted_takes spelled.0 t rest spelled.2 in
    elim spelled.1 [
      | inl escaped ↦ let size = ap length escaped.0 in omega (arith, size, again)
      | inr plain ↦ let size = ap length plain.0 in omega (arith, size, again)
    ]

pub word_takes : (text w rest : List ℕ) → Word text w rest → length rest ≤ length text
word_takes text [] rest spelled = let size = ap length spelled.0 in omega (arith, size)
word_takes text (b ∷ w) rest spelled =
    let again = word_takes spelled.0 w rest spelled.3 in
    let size = ap length spelled.1 in
    omega (arith, size, again)

value_takes : (tag : Bool) (text : List ℕ) (v : Value) (rest : List ℕ) → HasValue tag text v rest → length rest ≤ length text
value_takes true text v rest spelled = let h = name_takes text spelled.0 rest spelled.2 in omega (arith, h)
value_takes false text v rest spelled =
    elim spelled [
      | inl quoted ↦
          let h = quoted_takes quoted.1 quoted.0 rest quoted.4 in
          let size = ap length quoted.3 in
          omega (arith, size, h)
      | inr w ↦ word_takes text w.0 rest w.2
    ]

pub item_takes : (tag : Bool) (text : List ℕ) (i : Item) (rest : List ℕ) → IsItem tag text i rest → length rest < length text
item_takes tag text i rest spelled =
    let name = name_takes text i.name (61 ∷ spelled.0) spelled.1 in
    let value = value_takes tag spelled.0 i.value rest spelled.3 in
    omega (arith, name, value)

pub items_take : (tag : Bool) (text : List ℕ) (is : List Item) (rest : List ℕ) → Items tag text is rest → length is + length rest ≤ length text
items_take tag text [] rest spelled = let size = ap length spelled.0 in omega (arith, size)
items_take tag text (i ∷ is) rest spelled =
    let again = items_take tag spelled.1 is rest spelled.4 in
    let item = item_takes tag spelled.0 i spelled.1 spelled.3 in
    let size = ap length spelled.2 in
    omega (arith, size, item, again)

pub parted_takes : (tag : Bool) (text : List ℕ) (is : List Item) (rest : List ℕ) → Parted tag text is rest → length is + length rest ≤ length text
parted_takes tag text [] rest spelled = absurd spelled
parted_takes tag text (i ∷ is) rest spelled =
    let again = items_take tag spelled.0 is rest spelled.2 in
    let item = item_takes tag text i spelled.0 spelled.1 in
    omega (arith, item, again)

-- ---- lists

abbrev pub listed : List Item → List ℕ → List Item × List ℕ
listed is rest = (is, rest)

parted_behind : (tag : Bool) (text more : List ℕ) (is : List Item) (rest : List ℕ) → text ≡ 44 ∷ more → Parted tag more is rest → Items tag text is rest
parted_behind tag text more [] rest comma spelled = absurd spelled
parted_behind tag text more (i ∷ is) rest comma spelled = (more, spelled.0, comma, spelled.1, spelled.2)

abbrev next_items : Bool → ℕ → Item × List ℕ → Option (List Item × List ℕ)
next_items tag n i = if begins 44 i.1 then items_at tag n (drop 1 i.1) >>= (λ r. Some (i.0 ∷ r.0, r.1)) else Some (i.0 ∷ [], i.1)

items_first : (tag : Bool) (n : ℕ) (text : List ℕ) → items_at tag (suc n) text ≡ (item_at tag text >>= next_items tag n)
unfolding items_at
items_first tag n text = refl

items_nothing : (tag : Bool) (text : List ℕ) → items_at tag zero text ≡ none
unfolding items_at
items_nothing tag text = refl

pub items_spelled : (tag : Bool) (n : ℕ) (text : List ℕ) (is : List Item) (rest : List ℕ) → items_at tag n text ≡ some (listed is rest) → Parted tag text is rest
items_spelled tag zero text is rest e = absurd (no_some (listed is rest) (sym (items_nothing tag text) ∙ e))
items_spelled tag (suc n) text is rest e =
    let first = bound (item_at tag text) (next_items tag n) (listed is rest) (sym (items_first tag n text) ∙ e) in
    let item = item_spelled tag text first.0.0 first.0.1 first.1 in
    let P : List Item → List ℕ → Type 0 = λ l r. Parted tag text l r in
    elim (chosen (begins 44 first.0.1) (items_at tag n (drop 1 first.0.1) >>= (λ r. Some (listed (first.0.0 ∷ r.0) r.1))) (some (listed (first.0.0 ∷ []) first.0.1)) (some (listed is rest)) first.2) [
      | inl comma ↦
          let more = bound (items_at tag n (drop 1 first.0.1)) (λ r. Some (listed (first.0.0 ∷ r.0) r.1)) (listed is rest) comma.1 in
          let both = some_both (first.0.0 ∷ more.0.0) is more.0.1 rest more.2 in
          let again = items_spelled tag n (drop 1 first.0.1) more.0.0 more.0.1 more.1 in
          let whole : Parted tag text (first.0.0 ∷ more.0.0) more.0.1 = (first.0.1, item, parted_behind tag first.0.1 (drop 1 first.0.1) more.0.0 more.0.1 (begins_so 44 first.0.1 comma.0) again) in
          let Q : List Item → Type 0 = λ l. Parted tag text l more.0.1 in
          let R : List ℕ → Type 0 = λ r. Parted tag text is r in
          subst R both.1 (subst Q both.0 whole)
      | inr last ↦
          let both = some_both (first.0.0 ∷ []) is first.0.1 rest last.1 in
          let whole : Parted tag text (first.0.0 ∷ []) first.0.1 = (first.0.1, item, (refl, last.0)) in
          let Q : List Item → Type 0 = λ l. Parted tag text l first.0.1 in
          let R : List ℕ → Type 0 = λ r. Parted tag text is r in
          subst R both.1 (subst Q both.0 whole)
    ]

pub items_are : (tag : Bool) (n : ℕ) (text : List ℕ) (is : List Item) (rest : List ℕ) → Parted tag text is rest → length is ≤ n → items_at tag n text ≡ some (listed is rest)
items_are tag n text [] rest spelled few = absurd spelled
items_are tag zero text (i ∷ is) rest spelled few = absurd (omega (arith, few))
items_are tag (suc n) text (i ∷ []) rest spelled few =
    let item = item_is tag text i spelled.0 spelled.1 in
    let last : next_items tag n (itemed i spelled.0) ≡ some (listed (i ∷ []) spelled.0) = rw (spelled.2.1) refl in
    items_first tag n text ∙ ap (λ (o : Option (Item × List ℕ)). o >>= next_items tag n) item ∙ last ∙ ap (λ (l : List ℕ). some (listed (i ∷ []) l)) spelled.2.0
items_are tag (suc n) text (i ∷ j ∷ js) rest spelled few =
    let item = item_is tag text i spelled.0 spelled.1 in
    let behind = spelled.2 in
    let comma : begins 44 spelled.0 ≡ true = ap (begins 44) behind.2 ∙ begins_is 44 behind.0 in
    let more : drop 1 spelled.0 ≡ behind.0 = ap (drop 1) behind.2 in
    let again = items_are tag n behind.0 (j ∷ js) rest (behind.1, behind.3, behind.4) (omega (arith, few)) in
    let goes : next_items tag n (itemed i spelled.0) ≡ some (listed (i ∷ j ∷ js) rest) = rw (comma, more, again) refl in
    items_first tag n text ∙ ap (λ (o : Option (Item × List ℕ)). o >>= next_items tag n) item ∙ goes

-- ---- tags

pub tags_spelled : (text : List ℕ) (is : List Item) (rest : List ℕ) → tags_at text ≡ some (listed is rest) → Items true text is rest
unfolding tags_at
tags_spelled text is rest e =
    elim (chosen (begins 44 text) (items_at true (length (drop 1 text)) (drop 1 text)) (some (listed [] text)) (some (listed is rest)) e) [
      | inl comma ↦ parted_behind true text (drop 1 text) is rest (begins_so 44 text comma.0) (items_spelled true (length (drop 1 text)) (drop 1 text) is rest comma.1)
      | inr no_tag ↦
          let both = some_both [] is text rest no_tag.1 in
          let whole : Items true text [] text = (refl, no_tag.0) in
          let Q : List Item → Type 0 = λ l. Items true text l text in
          let R : List ℕ → Type 0 = λ r. Items true text is r in
          subst R both.1 (subst Q both.0 whole)
    ]

pub tags_are : (text : List ℕ) (is : List Item) (rest : List ℕ) → Items true text is rest → tags_at text ≡ some (listed is rest)
unfolding tags_at
tags_are text [] rest spelled = rw (spelled.1) (ap (λ (l : List ℕ). some (listed [] l)) spelled.0)
tags_are text (i ∷ is) rest spelled =
    let comma : begins 44 text ≡ true = ap (begins 44) spelled.2 ∙ begins_is 44 spelled.0 in
    let more : drop 1 text ≡ spelled.0 = ap (drop 1) spelled.2 in
    let parted : Parted true spelled.0 (i ∷ is) rest = (spelled.1, spelled.3, spelled.4) in
    let few = parted_takes true spelled.0 (i ∷ is) rest parted in
    rw (comma, more) (items_are true (length spelled.0) spelled.0 (i ∷ is) rest parted (omega (arith, few)))
