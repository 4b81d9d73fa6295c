-- Walks over cells from the last one back: what each step keeps, and that what is kept in the end stands last.
use Rattle.std.proofs.Common.{◌≡◌, ◌≢◌, ℕ, ◌+◌, ◌-◌, ◌<◌, ◌≤◌, ◌⊎◌, Bool, true, false, eqb, List, [], ◌∷◌, ◌++◌, length, map, drop, suc, get_or, refl, sym, ap, ◌∙◌, arith, subst, inl, inr, true≢false}
use Rattle.std.specs.Prelude.{not, Contains, ◌&&◌}
use Rattle.std.specs.List.{list_any}
use Rattle.std.specs.List.Sorted.{IsPermutation}
use Rattle.std.proofs.lemmas.Bool.{cases_eq, cases_lt}
use Rattle.std.proofs.lemmas.List.{get_or-drop, get_or-map, get_or_default, length-map, length-drop}
use Rattle.std.proofs.lemmas.List.Elements.{Contains-append_left, Contains-push, Contains-push_cases}
use Rattle.std.proofs.lemmas.List.Folds.{list_any_at, list_any_none}
use Rattle.std.proofs.lemmas.List.Sorted.{Contains-permutation, IsPermutation-sym}
use Rattle.std.proofs.lemmas.Map.Views.{Contains-from_any}
use Rattle.std.proofs.Common.{eqb-true, eq-eqb}
use Rattle.qd_base.specs.declared.cell.Cell.{Cell}
use Rattle.qd_base.specs.declared.cell.Cell.TheVariants as cell
use Rattle.qd_base.specs.Rows.{Row, cell_at, cell_eq, same_on}
use Rattle.qd_value.proofs.Orders.{cells-equal}
use Rattle.qd_latest.specs.Walks.{cell_in, AreOfTexts, HasMet, HasWalked, HoldMet, IsBehind, IsFollowed, IsLastOfCell, Keeps, KeepsAll, KeepsTexts}

pub null_or : (c : Cell) → (c ≡ cell.Null) ⊎ (c ≢ cell.Null)
null_or cell.Null = inl refl
null_or (cell.Long x) = inr (λ e. cc)
null_or (cell.Bool x) = inr (λ e. cc)
null_or (cell.Text x) = inr (λ e. cc)
null_or (cell.Time x) = inr (λ e. cc)

pub text_some : (c : Cell) (t : List ℕ) → c ≡ cell.Text t → c ≢ cell.Null
text_some c t e n = cc

one_text : (c d : Cell) (t u : List ℕ) → c ≡ cell.Text t → d ≡ cell.Text u → c ≡ d → t ≡ u
one_text c d t u e g same = cc

-- ---- a step: some more places are seen, which all hold one text

module _ (cells : List Cell) where
  -- new places that hold a text, all of them before those that were seen with that text
  pub record IsStep (Seen New Next : ℕ → Type 0) (t : List ℕ) : Type 0 where
    pub stay : (i : ℕ) → Seen i → Next i
    pub come : (i : ℕ) → New i → Next i
    pub split : (i : ℕ) → Next i → Seen i ⊎ New i
    pub holds : (i : ℕ) → New i → cell_in cells i ≡ cell.Text t
    pub before : (i k : ℕ) → New i → Seen k → cell_in cells k ≡ cell.Text t → (i < k) × (k < length cells)

  module _ (Seen New Next : ℕ → Type 0) (t : List ℕ) (step : IsStep Seen New Next t) (met : List (List ℕ)) (kept : List ℕ) (keeps : Keeps cells Seen kept) (meets : HasMet cells Seen met) where
    -- the text was met: nothing new is kept
    pub known_text : Contains met t → Keeps cells Next kept × HasMet cells Next met
    known_text known = (record { last = keeps.last; others = others }, record { seen = seen; texts = texts })
      where
        others : (i : ℕ) → Next i → Contains kept i ⊎ IsFollowed cells i
        others i next = elim (step.split i next) [
          | inl old ↦ keeps.others i old
          | inr new ↦ (let k = meets.texts t known in let late = step.before i k.0 new k.1 k.2 in inr (k.0, late.0, late.1, k.2 ∙ sym (step.holds i new)))
        ]

        seen : (i : ℕ) → Next i → (u : List ℕ) × Contains met u × (cell_in cells i ≡ cell.Text u)
        seen i next = elim (step.split i next) [ inl old ↦ meets.seen i old | inr new ↦ (t, known, step.holds i new) ]

        texts : (u : List ℕ) → Contains met u → (i : ℕ) × Next i × (cell_in cells i ≡ cell.Text u)
        texts u has = let k = meets.texts u has in (k.0, step.stay k.0 k.1, k.2)

    -- the text wasn't met: the last of its places is kept
    pub new_text : (p : ℕ) → New p → ((i : ℕ) → New i → i ≤ p) → ((k : ℕ) → p < k → k < length cells → cell_in cells k ≡ cell.Text t → Seen k) → p < length cells → ¬ Contains met t
        → Keeps cells Next (kept ++ p ∷ []) × HasMet cells Next (met ++ t ∷ [])
    new_text p first most behind there unknown = (record { last = last; others = others }, record { seen = seen; texts = texts })
      where
        is_last : IsLastOfCell cells p
        is_last = record {
          there = there;
          last = λ k low high same.
              let text : cell_in cells k ≡ cell.Text t = same ∙ step.holds p first in
              let u = meets.seen k (behind k low high text) in
              let one : u.0 ≡ t = one_text (cell_in cells k) (cell_in cells k) u.0 t u.2 text refl in
              unknown (subst (Contains met) one u.1);
        }

        last : (i : ℕ) → Contains (kept ++ p ∷ []) i → IsLastOfCell cells i
        last i has = elim (Contains-push_cases kept p i has) [ inl old ↦ keeps.last i old | inr same ↦ subst (IsLastOfCell cells) same is_last ]

        others : (i : ℕ) → Next i → Contains (kept ++ p ∷ []) i ⊎ IsFollowed cells i
        others i next = elim (step.split i next) [
          | inl old ↦ elim (keeps.others i old) [ inl has ↦ inl (Contains-append_left kept (p ∷ []) i has) | inr after ↦ inr after ]
          | inr new ↦ elim (cases_lt i p) [
            | inl less ↦ inr (p, less, there, step.holds p first ∙ sym (step.holds i new))
            | inr high ↦ (let low = most i new in let same : p ≡ i = omega (arith, low) in inl (subst (Contains (kept ++ p ∷ [])) same (Contains-push kept p)))
          ]
        ]

        seen : (i : ℕ) → Next i → (u : List ℕ) × Contains (met ++ t ∷ []) u × (cell_in cells i ≡ cell.Text u)
        seen i next = elim (step.split i next) [
          | inl old ↦ (let u = meets.seen i old in (u.0, Contains-append_left met (t ∷ []) u.0 u.1, u.2))
          | inr new ↦ (t, Contains-push met t, step.holds i new)
        ]

        texts : (u : List ℕ) → Contains (met ++ t ∷ []) u → (i : ℕ) × Next i × (cell_in cells i ≡ cell.Text u)
        texts u has = elim (Contains-push_cases met t u has) [
          | inl old ↦ (let k = meets.texts u old in (k.0, step.stay k.0 k.1, k.2))
          | inr same ↦ (p, step.come p first, step.holds p first ∙ ap (λ x. cell.Text x) same)
        ]

  -- the same places, said otherwise
  pub same_seen : (Seen Next : ℕ → Type 0) (met : List (List ℕ)) (kept : List ℕ) → ((i : ℕ) → Seen i → Next i) → ((i : ℕ) → Next i → Seen i) → Keeps cells Seen kept × HasMet cells Seen met → Keeps cells Next kept × HasMet cells Next met
  same_seen Seen Next met kept there back both = (
    record { last = both.0.last; others = λ i next. both.0.others i (back i next) },
    record { seen = λ i next. both.1.seen i (back i next); texts = λ u has. let k = both.1.texts u has in (k.0, there k.0 k.1, k.2) },
  )

-- ---- the places from one up to another, text by text

module _ (cells : List Cell) (from to : ℕ) (texts : List (List ℕ)) where
  -- a place of these whose text is one of the first j
  pub record IsAmong (j i : ℕ) : Type 0 where
    pub from_there : from ≤ i
    pub to_there : i < to
    pub id : ℕ
    pub low : id < j
    pub is : cell_in cells i ≡ cell.Text (get_or texts id [])

  abbrev pub IsSeen : ℕ → ℕ → Type 0
  IsSeen j i = IsBehind cells to i ⊎ IsAmong j i

  abbrev pub IsNew : ℕ → ℕ → Type 0
  IsNew j i = (from ≤ i) × (i < to) × (cell_in cells i ≡ cell.Text (get_or texts j []))

  -- what is known once the first j texts are gone over
  abbrev pub HasSeen : ℕ → List (List ℕ) → List ℕ → Type 0
  HasSeen j met kept = Keeps cells (IsSeen j) kept × HasMet cells (IsSeen j) met

module _ (cells : List Cell) (from to : ℕ) (texts : List (List ℕ)) (within : to ≤ length cells) (apart : (m n : ℕ) → m < length texts → n < length texts → get_or texts m [] ≡ get_or texts n [] → m ≡ n) where
  one_more : (j : ℕ) → j < length texts → IsStep cells (IsSeen cells from to texts j) (IsNew cells from to texts j) (IsSeen cells from to texts (j + 1)) (get_or texts j [])
  one_more j fits = record { stay = stay; come = come; split = split; holds = λ i new. new.2; before = before }
    where
      stay : (i : ℕ) → IsSeen cells from to texts j i → IsSeen cells from to texts (j + 1) i
      stay i seen = elim seen [
        | inl behind ↦ inl behind
        | inr among ↦ inr (record { from_there = among.from_there; to_there = among.to_there; id = among.id; low = omega (arith, among.low); is = among.is })
      ]

      come : (i : ℕ) → IsNew cells from to texts j i → IsSeen cells from to texts (j + 1) i
      come i new = inr (record { from_there = new.0; to_there = new.1; id = j; low = omega arith; is = new.2 })

      split : (i : ℕ) → IsSeen cells from to texts (j + 1) i → IsSeen cells from to texts j i ⊎ IsNew cells from to texts j i
      split i seen = elim seen [
        | inl behind ↦ inl (inl behind)
        | inr among ↦ elim (cases_eq among.id j) [
          | inl same ↦ inr (among.from_there, among.to_there, among.is ∙ ap (λ k. cell.Text (get_or texts k [])) same)
          | inr other ↦ inl (inr (record { from_there = among.from_there; to_there = among.to_there; id = among.id; low = omega (arith, among.low, other); is = among.is }))
        ]
      ]

      before : (i k : ℕ) → IsNew cells from to texts j i → IsSeen cells from to texts j k → cell_in cells k ≡ cell.Text (get_or texts j []) → (i < k) × (k < length cells)
      before i k new seen e = elim seen [
        | inl behind ↦ (omega (arith, new.1, behind.from), behind.there)
        | inr among ↦
            (let one : get_or texts among.id [] ≡ get_or texts j [] = one_text (cell_in cells k) (cell_in cells k) (get_or texts among.id []) (get_or texts j []) among.is e refl in
            let same : among.id ≡ j = apart among.id j (omega (arith, among.low)) fits one in
            absurd (omega (arith, among.low, same)))
      ]

  pub seen_none : (met : List (List ℕ)) (kept : List ℕ) → HasWalked cells to met kept → HasSeen cells from to texts 0 met kept
  seen_none met kept walked = same_seen cells (IsBehind cells to) (IsSeen cells from to texts 0) met kept (λ i behind. inl behind) (λ i seen. elim seen [ inl behind ↦ behind | inr among ↦ absurd (omega (arith, among.low)) ]) (walked.keeps, walked.meets)

  pub seen_all : (met : List (List ℕ)) (kept : List ℕ) (j : ℕ) → length texts ≤ j → from ≤ to → AreOfTexts texts cells from to → HasSeen cells from to texts j met kept → HasWalked cells from met kept
  seen_all met kept j done ordered known seen =
      let both = same_seen cells (IsSeen cells from to texts j) (IsBehind cells from) met kept there back seen in
      record { keeps = both.0; meets = both.1 }
    where
      there : (i : ℕ) → IsSeen cells from to texts j i → IsBehind cells from i
      there i is = elim is [
        | inl behind ↦ record { from = omega (arith, behind.from, ordered); there = behind.there; some = behind.some }
        | inr among ↦ record { from = among.from_there; there = omega (arith, among.to_there, within); some = text_some (cell_in cells i) (get_or texts among.id []) among.is }
      ]

      back : (i : ℕ) → IsBehind cells from i → IsSeen cells from to texts j i
      back i behind = elim (cases_lt i to) [
        | inl low ↦ elim (known i behind.from low) [
          | inl none ↦ absurd (behind.some none)
          | inr some ↦ inr (record { from_there = behind.from; to_there = low; id = some.0; low = omega (arith, some.1, done); is = some.2 })
        ]
        | inr high ↦ inl (record { from = high; there = behind.there; some = behind.some })
      ]

  -- no place holds the text
  pub seen_without : (met : List (List ℕ)) (kept : List ℕ) (j : ℕ) → j < length texts → ((i : ℕ) → from ≤ i → i < to → cell_in cells i ≡ cell.Text (get_or texts j []) → ⊥) → HasSeen cells from to texts j met kept → HasSeen cells from to texts (j + 1) met kept
  seen_without met kept j fits none seen =
      let step = one_more j fits in
      same_seen cells (IsSeen cells from to texts j) (IsSeen cells from to texts (j + 1)) met kept step.stay (λ i next. elim (step.split i next) [ inl old ↦ old | inr new ↦ absurd (none i new.0 new.1 new.2) ]) seen

  -- the text was met
  pub seen_known : (met : List (List ℕ)) (kept : List ℕ) (j : ℕ) → j < length texts → Contains met (get_or texts j []) → HasSeen cells from to texts j met kept → HasSeen cells from to texts (j + 1) met kept
  seen_known met kept j fits known seen = known_text cells (IsSeen cells from to texts j) (IsNew cells from to texts j) (IsSeen cells from to texts (j + 1)) (get_or texts j []) (one_more j fits) met kept seen.0 seen.1 known

  -- the last place of a text that wasn't met
  pub seen_new : (met : List (List ℕ)) (kept : List ℕ) (j p : ℕ) → j < length texts → from ≤ p → p < to → cell_in cells p ≡ cell.Text (get_or texts j [])
      → ((i : ℕ) → from ≤ i → i < to → cell_in cells i ≡ cell.Text (get_or texts j []) → i ≤ p) → ¬ Contains met (get_or texts j []) → HasSeen cells from to texts j met kept → HasSeen cells from to texts (j + 1) (met ++ get_or texts j [] ∷ []) (kept ++ p ∷ [])
  seen_new met kept j p fits low high is most unknown seen =
      new_text cells (IsSeen cells from to texts j) (IsNew cells from to texts j) (IsSeen cells from to texts (j + 1)) (get_or texts j []) (one_more j fits) met kept seen.0 seen.1 p (low, high, is) (λ i new. most i new.0 new.1 new.2) behind (omega (arith, within)) unknown
    where
      behind : (k : ℕ) → p < k → k < length cells → cell_in cells k ≡ cell.Text (get_or texts j []) → IsSeen cells from to texts j k
      behind k after there e = elim (cases_lt k to) [
        | inl less ↦ absurd (let h = most k (omega arith) less e in omega (arith, h))
        | inr late ↦ inl (record { from = late; there = there; some = text_some (cell_in cells k) (get_or texts j []) e })
      ]

-- ---- places that are passed

-- places whose texts were met
pub passed_on : (cells : List Cell) (a b : ℕ) (met : List (List ℕ)) (kept : List ℕ) → a ≤ b → HoldMet cells a b met → HasWalked cells b met kept → HasWalked cells a met kept
passed_on cells a b met kept ordered hold walked = record { keeps = record { last = walked.keeps.last; others = others }; meets = record { seen = seen; texts = texts } }
  where
    late : (i : ℕ) → b ≤ i → IsBehind cells a i → IsBehind cells b i
    late i high behind = record { from = high; there = behind.there; some = behind.some }

    others : (i : ℕ) → IsBehind cells a i → Contains kept i ⊎ IsFollowed cells i
    others i behind = elim (cases_lt i b) [
      | inl low ↦ elim (hold i behind.from low) [
        | inl none ↦ absurd (behind.some none)
        | inr some ↦ (let k = walked.meets.texts some.0 some.1 in let far : b ≤ k.0 = k.1.from in inr (k.0, omega (arith, far), k.1.there, k.2 ∙ sym some.2))
      ]
      | inr high ↦ walked.keeps.others i (late i high behind)
    ]

    seen : (i : ℕ) → IsBehind cells a i → (t : List ℕ) × Contains met t × (cell_in cells i ≡ cell.Text t)
    seen i behind = elim (cases_lt i b) [
      | inl low ↦ elim (hold i behind.from low) [ inl none ↦ absurd (behind.some none) | inr some ↦ some ]
      | inr high ↦ walked.meets.seen i (late i high behind)
    ]

    texts : (t : List ℕ) → Contains met t → (i : ℕ) × IsBehind cells a i × (cell_in cells i ≡ cell.Text t)
    texts t has = let k = walked.meets.texts t has in (k.0, record { from = omega (arith, k.1.from, ordered); there = k.1.there; some = k.1.some }, k.2)

pub walked_none : (cells : List Cell) (end : ℕ) → length cells ≤ end → HasWalked cells end [] []
walked_none cells end high = record {
  keeps = record { last = λ i has. absurd (omega (arith, has.1)); others = λ i behind. absurd (omega (arith, behind.from, behind.there)) };
  meets = record { seen = λ i behind. absurd (omega (arith, behind.from, behind.there)); texts = λ t has. absurd (omega (arith, has.1)) };
}

-- ---- NULL beside the texts, and the order of what is kept

module _ (cells : List Cell) (kept : List ℕ) (keeps : KeepsTexts cells kept) where
  pub without_null : ((k : ℕ) → 0 ≤ k → k < length cells → cell_in cells k ≢ cell.Null) → KeepsAll cells kept
  without_null none = record { last = keeps.last; others = λ i there. keeps.others i (record { from = omega arith; there = there; some = none i (omega arith) there }) }

  pub with_null : (p : ℕ) → p < length cells → cell_in cells p ≡ cell.Null → ((k : ℕ) → p < k → k < length cells → cell_in cells k ≢ cell.Null) → KeepsAll cells (kept ++ p ∷ [])
  with_null p low is behind = record { last = last; others = others }
    where
      last : (i : ℕ) → Contains (kept ++ p ∷ []) i → IsLastOfCell cells i
      last i has = elim (Contains-push_cases kept p i has) [
        | inl old ↦ keeps.last i old
        | inr same ↦ subst (IsLastOfCell cells) same (record { there = low; last = λ k after there e. behind k after there (e ∙ is) })
      ]

      others : (i : ℕ) → i < length cells → Contains (kept ++ p ∷ []) i ⊎ IsFollowed cells i
      others i there = elim (null_or (cell_in cells i)) [
        | inl none ↦ elim (cases_lt i p) [
          | inl less ↦ inr (p, less, low, is ∙ sym none)
          | inr high ↦ elim (cases_eq p i) [
            | inl same ↦ inl (subst (Contains (kept ++ p ∷ [])) same (Contains-push kept p))
            | inr other ↦ absurd (behind i (omega (arith, other)) there none)
          ]
        ]
        | inr some ↦ elim (keeps.others i (record { from = omega arith; there = there; some = some })) [ inl has ↦ inl (Contains-append_left kept (p ∷ []) i has) | inr after ↦ inr after ]
      ]

pub keeps_in_order : (cells : List Cell) (kept sorted : List ℕ) → IsPermutation kept sorted → KeepsAll cells kept → KeepsAll cells sorted
keeps_in_order cells kept sorted moved keeps = record {
  last = λ i has. keeps.last i (Contains-permutation sorted kept i (IsPermutation-sym kept sorted moved) has);
  others = λ i there. elim (keeps.others i there) [ inl has ↦ inl (Contains-permutation kept sorted i moved has) | inr after ↦ inr after ];
}

-- ---- the rows that are kept are the last ones of their keys

module _ (col : ℕ) (rows : List Row) where
  abbrev key_cells : List Cell
  key_cells = map (λ r. cell_at r col) rows

  cell_is : (i : ℕ) → i < length rows → cell_in key_cells i ≡ cell_at (get_or rows i []) col
  cell_is i low = get_or-map (λ r. cell_at r col) rows i [] cell.Null low

  and_true : (b : Bool) → (b && true) ≡ b
  and_true true = refl
  and_true false = refl

  unequal : (a b : Cell) → b ≢ a → cell_eq a b ≡ false
  unequal a b apart = by (cell_eq a b) (cells-equal a b).0
    where
      by : (x : Bool) → (x ≡ true → a ≡ b) → x ≡ false
      by true f = absurd (apart (sym (f refl)))
      by false f = refl

  equal : (a b : Cell) → b ≡ a → cell_eq a b ≡ true
  equal a b same = (cells-equal a b).1 (sym same)

  none_behind : (i : ℕ) → i < length rows → IsLastOfCell key_cells i → list_any (same_on (col ∷ []) (get_or rows i [])) (drop (suc i) rows) ≡ false
  none_behind i low last = list_any_none (same_on (col ∷ []) (get_or rows i [])) (drop (suc i) rows) (λ k d there.
      let high : suc i + k < length rows = omega (arith, there, length-drop (suc i) rows) in
      ap (same_on (col ∷ []) (get_or rows i [])) (get_or-drop (suc i) rows k d ∙ get_or_default rows (suc i + k) d [] high)
      ∙ and_true (cell_eq (cell_at (get_or rows i []) col) (cell_at (get_or rows (suc i + k) []) col))
      ∙ unequal (cell_at (get_or rows i []) col) (cell_at (get_or rows (suc i + k) []) col) (λ e. last.last (suc i + k) (omega arith) (omega (arith, high, length-map rows (λ r. cell_at r col))) (cell_is (suc i + k) high ∙ e ∙ sym (cell_is i low))))

  one_behind : (i : ℕ) → i < length rows → IsFollowed key_cells i → list_any (same_on (col ∷ []) (get_or rows i [])) (drop (suc i) rows) ≡ true
  one_behind i low after =
      let k : ℕ = after.0 in
      let less : i < after.0 = after.1 in
      let high : after.0 < length rows = omega (arith, after.2, length-map rows (λ r. cell_at r col)) in
      let place : suc i + (after.0 - suc i) ≡ after.0 = omega (arith, less) in
      list_any_at (same_on (col ∷ []) (get_or rows i [])) (drop (suc i) rows) (k - suc i) [] (omega (arith, length-drop (suc i) rows, less, high))
      (ap (same_on (col ∷ []) (get_or rows i [])) (get_or-drop (suc i) rows (k - suc i) [] ∙ ap (λ (x : ℕ). get_or rows x []) place)
      ∙ and_true (cell_eq (cell_at (get_or rows i []) col) (cell_at (get_or rows k []) col))
      ∙ equal (cell_at (get_or rows i []) col) (cell_at (get_or rows k []) col) (sym (cell_is k high) ∙ after.3 ∙ cell_is i low))

  pub kept_is_last : (kept : List ℕ) → KeepsAll key_cells kept → (i : ℕ) → i < length rows → list_any (eqb i) kept ≡ not (list_any (same_on (col ∷ []) (get_or rows i [])) (drop (suc i) rows))
  kept_is_last kept keeps i low = by (list_any (eqb i) kept) refl
    where
      by : (b : Bool) → list_any (eqb i) kept ≡ b → b ≡ not (list_any (same_on (col ∷ []) (get_or rows i [])) (drop (suc i) rows))
      by true e = sym (ap not (none_behind i low (keeps.last i (Contains-from_any (λ (x y : ℕ) (h : eqb x y ≡ true). eqb-true x y h) i kept e))))
      by false e = elim (keeps.others i (omega (arith, low, length-map rows (λ r. cell_at r col)))) [
        | inl has ↦ absurd (true≢false (sym (list_any_at (eqb i) kept has.0 i has.1 (eq-eqb i (get_or kept has.0 i) (sym has.2))) ∙ e))
        | inr after ↦ sym (ap not (one_behind i low after))
      ]
