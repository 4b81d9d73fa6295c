-- Texts in order of first use: which are there, and what their positions are.
use Rattle.std.proofs.Common.{◌≡◌, ℕ, zero, suc, ◌+◌, ◌<◌, ◌≤◌, max, inl, inr, Bool, true, false, not, cond, ltb, List, [], ◌∷◌, ◌++◌, length, take, drop, get_or, slice_get, Some, refl, sym, ap, ◌∙◌, subst, arith, append_assoc, append-nil, length-append}
use Rattle.std.specs.List.{IsDistinct}
use Rattle.std.proofs.lemmas.Bool.{cases_lt}
use Rattle.std.proofs.lemmas.Cmp.{nat_list_eq_equiv}
use Rattle.std.proofs.lemmas.List.{get_or-take, take-append-drop, take_more, length-take-le, get_or_append_left}
use Rattle.std.proofs.lemmas.Option.{get_or_from_slice_get}
use Rattle.std.proofs.lemmas.List.Elements.{All-from_recursion}
use Rattle.std.proofs.lemmas.List.Sums.{fold-append}
use Rattle.qd_base.specs.Dictionary.{same_text, id_for, with_text, AreDistinct}
use Rattle.qd_base.proofs.Texts.{position_within, with_text-there, with_text-new, text_given, text_stands, distinct-with_text}
use Rattle.qd_wal_entry.specs.Spelling.{with_texts}

abbrev pub Texts : Type 0
Texts = List (List ℕ)

-- a text keeps its position in a longer list
pub id_for-append : (xs ys : Texts) (t : List ℕ) → id_for xs t < length xs → id_for (xs ++ ys) t ≡ id_for xs t
id_for-append [] ys t h = absurd (omega arith)
id_for-append (x ∷ xs) ys t h = go (same_text t x) (id_for xs t) (id_for (xs ++ ys) t) (length xs) (id_for-append xs ys t) h
  where
    go : (b : Bool) (n m size : ℕ) → (n < size → m ≡ n) → cond (not b) (1 + n) 0 < suc size → cond (not b) (1 + m) 0 ≡ cond (not b) (1 + n) 0
    go true n m size rest h = refl
    go false n m size rest h = let e = rest (omega arith) in omega arith

id_for-new : (xs : Texts) (t : List ℕ) → id_for xs t ≡ length xs → id_for (xs ++ t ∷ []) t ≡ length xs
id_for-new [] t h = rw (nat_list_eq_equiv.refl t) refl
id_for-new (x ∷ xs) t h = go (same_text t x) (id_for xs t) (id_for (xs ++ t ∷ []) t) (length xs) (id_for-new xs t) h
  where
    go : (b : Bool) (n m size : ℕ) → (n ≡ size → m ≡ size) → cond (not b) (1 + n) 0 ≡ suc size → cond (not b) (1 + m) 0 ≡ suc size
    go true n m size rest h = absurd (omega arith)
    go false n m size rest h = let e = rest (omega arith) in omega arith

-- the position that a text is given is the one that it has from then on
id_given : (texts : Texts) (t : List ℕ) → id_for (with_text texts t) t ≡ id_for texts t
id_given texts t =
    elim (cases_lt (id_for texts t) (length texts)) [
      | inl there ↦ ap (λ l. id_for l t) (with_text-there texts t there)
      | inr new ↦ (let most = position_within (same_text t) texts in let at : id_for texts t ≡ length texts = omega arith in ap (λ l. id_for l t) (with_text-new texts t new) ∙ id_for-new texts t at ∙ sym at)
    ]

-- whatever texts come behind it
pub id_kept : (texts more : Texts) (t : List ℕ) → id_for (with_text texts t ++ more) t ≡ id_for texts t
id_kept texts more t =
    let given = text_given texts t [] in
    let same = id_given texts t in
    id_for-append (with_text texts t) more t (omega (arith, given.0, same)) ∙ same

-- texts that join others come behind them
with_more : (known : Texts) (t : List ℕ) → (more : Texts) × (with_text known t ≡ known ++ more)
with_more known t = go (ltb (id_for known t) (length known))
  where
    go : (b : Bool) → (more : Texts) × (cond b known (known ++ t ∷ []) ≡ known ++ more)
    go true = ([], sym (append-nil known))
    go false = (t ∷ [], refl)

pub texts_more : (known texts : Texts) → (more : Texts) × (with_texts known texts ≡ known ++ more)
texts_more known [] = ([], sym (append-nil known))
texts_more known (t ∷ ts) =
    let one = with_more known t in
    let rest = texts_more (with_text known t) ts in
    (one.0 ++ rest.0, rest.1 ∙ ap (λ l. l ++ rest.0) one.1 ∙ append_assoc known one.0 rest.0)

pub texts_grow : (known texts : Texts) → length known ≤ length (with_texts known texts)
texts_grow known texts = let m = texts_more known texts in omega (arith, ap length m.1, length-append known m.0)

-- one after the other
pub texts_then : (known xs ys : Texts) → with_texts known (xs ++ ys) ≡ with_texts (with_texts known xs) ys
texts_then known xs ys = fold-append with_text known xs ys

pub distinct_texts : (known texts : Texts) → AreDistinct known → AreDistinct (with_texts known texts)
distinct_texts known [] h = h
distinct_texts known (t ∷ ts) h = distinct_texts (with_text known t) ts (distinct-with_text known t h)

-- a text that joins others: its position is there, or is the next one; and it is the greatest, or there was a greater one
pub record Joins (known : Texts) (t : List ℕ) (more : Texts) : Type 0 where
  pub low : id_for known t ≤ length known
  pub within : id_for known t < length (with_text known t ++ more)
  pub stays : id_for (with_text known t ++ more) t ≡ id_for known t
  pub count : max (length known) (id_for known t + 1) ≡ length (with_text known t)
  pub text : get_or (with_text known t ++ more) (id_for known t) [] ≡ t

pub joins : (known : Texts) (t : List ℕ) (more : Texts) → Joins known t more
joins known t more =
    let given = text_given known t [] in
    record {
      low = position_within (same_text t) known;
      within = omega (arith, given.0, length-append (with_text known t) more);
      stays = id_kept known more t;
      count = elim (cases_lt (id_for known t) (length known)) [
        | inl there ↦ (let size = ap length (with_text-there known t there) in omega arith)
        | inr new ↦ (let size = ap length (with_text-new known t new) in let most = position_within (same_text t) known in omega (arith, length-append known (t ∷ [])))
      ];
      text = get_or_append_left (with_text known t) more [] (id_for known t) given.0 ∙ given.1;
    }

-- among distinct texts, each has the number of its place
pub id_of_place : (texts : Texts) (id : ℕ) → AreDistinct texts → id < length texts → id_for texts (get_or texts id []) ≡ id
unfolding IsDistinct
id_of_place [] id h lt = absurd (omega arith)
id_of_place (x ∷ xs) zero h lt = rw (nat_list_eq_equiv.refl x) refl
id_of_place (x ∷ xs) (suc k) h lt =
    let other : same_text x (get_or xs k []) ≡ false = (All-from_recursion (λ y. same_text x y ≡ false) xs h.0) k [] (omega arith) in
    let turned : same_text (get_or xs k []) x ≡ false = nat_list_eq_equiv.symm (get_or xs k []) x ∙ other in
    rw turned (let e = id_of_place xs k h.1 (omega arith) in omega arith)

-- a text that stands at a place of distinct texts has its number, and joins none
pub found_there : (texts : Texts) (id : ℕ) (t : List ℕ) → AreDistinct texts → id < length texts → slice_get texts id ≡ Some t → (id ≡ id_for texts t) × (texts ≡ with_text texts t)
found_there texts id t distinct lt is =
    let at : get_or texts id [] ≡ t = get_or_from_slice_get texts id t [] is in
    let place : id_for texts t ≡ id = subst (λ u. id_for texts u ≡ id) at (id_of_place texts id distinct lt) in
    (sym place, sym (with_text-there texts t (omega arith)))

-- where some of distinct texts were used, one of them or the next is used
pub next_used : (texts : Texts) (m id : ℕ) → AreDistinct texts → id ≤ m → max m (id + 1) ≤ length texts → with_text (take m texts) (get_or texts id []) ≡ take (max m (id + 1)) texts
next_used texts m id h low within =
    let size : length (take m texts) ≡ m = length-take-le m texts (omega arith) in
    elim (cases_lt id m) [
      | inl before ↦
          (let same : get_or (take m texts) id [] ≡ get_or texts id [] = get_or-take m texts id [] before in
          let stands : id_for (take m texts) (get_or texts id []) < length (take m texts) = subst (λ t. id_for (take m texts) t < length (take m texts)) same (text_stands (take m texts) id [] (omega arith)) in
          let count : m ≡ max m (id + 1) = omega arith in
          with_text-there (take m texts) (get_or texts id []) stands ∙ ap (λ n. take n texts) count)
      | inr next ↦
          (let is : id ≡ m = omega arith in
          let place = id_of_place texts id h (omega arith) in
          let new : length (take m texts) ≤ id_for (take m texts) (get_or texts id []) = elim (cases_lt (id_for (take m texts) (get_or texts id [])) (length (take m texts))) [
            | inl there ↦ (let early = id_for-append (take m texts) (drop m texts) (get_or texts id []) there in let whole = ap (λ l. id_for l (get_or texts id [])) (take-append-drop m texts) in absurd (omega arith))
            | inr le ↦ le
          ] in
          let count : m + 1 ≡ max m (id + 1) = omega arith in
          with_text-new (take m texts) (get_or texts id []) new ∙ ap (λ n. take m texts ++ get_or texts n [] ∷ []) is ∙ sym (take_more texts m [] (omega arith)) ∙ ap (λ n. take n texts) count)
    ]
