-- The words after one changed, and who holds the lock.
use Rattle.std.proofs.Common.{◌≡◌, ◌≢◌, ◌⊎◌, ℕ, zero, suc, ◌+◌, ◌-◌, ◌*◌, ◌/◌, ◌%◌, ◌^◌, ◌<◌, ◌≤◌, Bool, true, false, List, [], ◌∷◌, ◌++◌, map, length, set, Some, None, refl, sym, ap, ◌∙◌, ⊎_elim, arith, eqb}
use Rattle.std.specs.Prelude.{◌&&◌, if◌then◌else◌, slice_index, Option}
use Rattle.std.proofs.lemmas.Bool.Decides.{eqb_tells}
use Rattle.std.proofs.lemmas.Nat.{div-mul-add, mod-mul-add, mod_below}
use Rattle.std.proofs.Math.Nat.{div-add-mod}
use Rattle.std.proofs.lemmas.List.{get_or-set_same, get_or-set_other, length-set}
use Rattle.qd_score_model.specs.declared.view.Place.{Place}
use Rattle.qd_score_model.specs.declared.view.Sight.{Sight}
use Rattle.qd_score_model.specs.declared.view.Version.{Version}
use Rattle.qd_score_model.specs.declared.limits.TheConstants.{PINS_END, ROWS}
use Rattle.qd_score_model.specs.Machine.{Board, sight, seen_by, hold_of, same_place, version_at}
use Rattle.qd_score_model.proofs.Boards.{same_or_other, same_place_is, test_same}
use Rattle.qd_score.specs.declared.limits.TheConstants.{VERSIONS_END}
use Rattle.qd_score.specs.Rule.{WordsShow, place_of, place_word, row_word}

pub map_set : {A C : Type 0} (f : A → C) (l : List A) (i : ℕ) (a : A) → map f (set l i a) ≡ set (map f l) i (f a)
map_set f [] i a = refl
map_set f (x ∷ xs) zero a = refl
map_set f (x ∷ xs) (suc i) a = ap (λ ys. f x ∷ ys) (map_set f xs i a)

pub map_push : {A C : Type 0} (f : A → C) (l : List A) (a : A) → map f (l ++ a ∷ []) ≡ map f l ++ f a ∷ []
map_push f [] a = refl
map_push f (x ∷ xs) a = ap (λ ys. f x ∷ ys) (map_push f xs a)

pub word_here : (words : List ℕ) (i n : ℕ) → i < length words → slice_index (set words i n) i ≡ n
word_here words i n lt = get_or-set_same words i n 0 lt

pub word_else : (words : List ℕ) (i j n : ℕ) → j ≢ i → slice_index (set words i n) j ≡ slice_index words j
word_else words i j n ne = get_or-set_other words i j n 0 ne

pub word_again : (words : List ℕ) (i : ℕ) → set words i (slice_index words i) ≡ words
word_again [] i = refl
word_again (x ∷ xs) zero = refl
word_again (x ∷ xs) (suc i) = ap (λ ys. x ∷ ys) (word_again xs i)

-- the lock shows nothing of these
pub lock_words : {S : Type 0} {current : Place} {pins : ℕ → ℕ} {live : ℕ → Bool} {versions : List (Option (Version S))} (words : List ℕ) (n : ℕ) → WordsShow current pins live versions words → WordsShow current pins live versions (set words 0 n)
lock_words words n h = record {
  count = length-set words 0 n ∙ h.count;
  place = word_else words 0 1 n (λ e. omega arith) ∙ h.place;
  row = h.row;
  rows = λ row lt. word_else words 0 (row + 2) n (λ e. omega arith) ∙ h.rows row lt;
  small = h.small;
}

-- the word of a row changed
pub row_words : {S : Type 0} {current : Place} {pins now : ℕ → ℕ} {live on : ℕ → Bool} {versions left : List (Option (Version S))} (words : List ℕ) (row n : ℕ) → WordsShow current pins live versions words
    → n ≡ row_word (now row) (on row) → ((r : ℕ) → r ≢ row → (now r ≡ pins r) × (on r ≡ live r)) → ((r : ℕ) (x : Version S) → version_at left r ≡ Some x → x.n < VERSIONS_END)
    → WordsShow current now on left (set words (row + 2) n)
row_words {pins = pins} {now = now} {live = live} {on = on} words row n h is same small = record {
  count = length-set words (row + 2) n ∙ h.count;
  place = word_else words (row + 2) 1 n (λ e. omega arith) ∙ h.place;
  row = h.row;
  rows = rows;
  small = small;
}
  where
    rows : (r : ℕ) → r < ROWS → slice_index (set words (row + 2) n) (r + 2) ≡ row_word (now r) (on r)
    rows r lt = ⊎_elim
        (λ (e : r ≡ row). ap (λ k. slice_index (set words (row + 2) n) (k + 2)) e ∙ (word_here words (row + 2) n (let c = h.count in omega arith) ∙ (is ∙ ap (λ k. row_word (now k) (on k)) (sym e))))
        (λ (ne : r ≢ row). word_else words (row + 2) (r + 2) n (λ e. ne (omega arith)) ∙ (h.rows r lt ∙ sym (λ i. row_word ((same r ne).0 i) ((same r ne).1 i))))
        (same_or_other r row)

-- the word of the current place changed
pub place_words : {S : Type 0} {current : Place} {pins : ℕ → ℕ} {live : ℕ → Bool} {versions : List (Option (Version S))} (words : List ℕ) (n : ℕ) (now : Place) → WordsShow current pins live versions words → n ≡ place_word now → now.row < ROWS → WordsShow now pins live versions (set words 1 n)
place_words words n now h is lt = record {
  count = length-set words 1 n ∙ h.count;
  place = word_here words 1 n (let c = h.count in omega arith) ∙ is;
  row = lt;
  rows = λ row l. word_else words 1 (row + 2) n (λ e. omega arith) ∙ h.rows row l;
  small = h.small;
}

pub row_below : (word : ℕ) → word % ROWS < ROWS
row_below word = mod_below word ROWS (omega arith)

pub place_of_word : (p : Place) → p.row < ROWS → place_of (place_word p) ≡ p
place_of_word p lt = λ i. record { n = high i; row = low i }
  where
    same : place_word p ≡ p.n * ROWS + p.row
    same = omega arith

    high : place_word p / ROWS ≡ p.n
    high = ap (λ k. k / ROWS) same ∙ div-mul-add p.n ROWS p.row lt

    low : place_word p % ROWS ≡ p.row
    low = ap (λ k. k % ROWS) same ∙ mod-mul-add p.n ROWS p.row lt

-- words that differ are those of two places
pub other_place : (a b : ℕ) → a ≢ b → same_place (place_of a) (place_of b) ≡ false
other_place a b ne = choose (same_place (place_of a) (place_of b)) refl
  where
    choose : (t : Bool) → same_place (place_of a) (place_of b) ≡ t → same_place (place_of a) (place_of b) ≡ false
    choose true e = let s = same_place_is (place_of a) (place_of b) e in absurd (ne (sym (div-add-mod a ROWS) ∙ ((λ i. ROWS * s.0 i + s.1 i) ∙ div-add-mod b ROWS)))
    choose false e = e

pub own_place : (p : Place) → same_place p p ≡ true
own_place p = λ i. test_same p.n p.n refl i && test_same p.row p.row refl i

bit_le : (b : Bool) → (if b then 1 else 0) ≤ 1
bit_le true = omega arith
bit_le false = omega arith

under : (w n : ℕ) → n < w → n % w ≡ n
under w n lt = let e : n ≡ 0 * w + n = omega arith in ap (λ m. m % w) e ∙ mod-mul-add 0 w n lt

-- a row without a live version goes live
pub turned_on : (pins : ℕ) → pins < PINS_END → (row_word pins false + 1) % 2 ^ 64 ≡ row_word pins true
turned_on pins lt = under (2 ^ 64) (row_word pins false + 1) (omega arith) ∙ omega arith

-- one pin more, and one less
pub one_more : (pins : ℕ) (live : Bool) → pins < PINS_END → (row_word pins live + 2) % 2 ^ 64 ≡ row_word (pins + 1) live
one_more pins live lt = let b = bit_le live in under (2 ^ 64) (row_word pins live + 2) (omega arith) ∙ omega arith

pub one_less : (pins : ℕ) (live : Bool) → pins < PINS_END → 0 < pins → (row_word pins live + (2 ^ 64 - 2)) % 2 ^ 64 ≡ row_word (pins - 1) live
one_less pins live lt some =
    let b = bit_le live in
    let e : row_word pins live + (2 ^ 64 - 2) ≡ 1 * 2 ^ 64 + row_word (pins - 1) live = omega arith in
    ap (λ n. n % 2 ^ 64) e ∙ mod-mul-add 1 (2 ^ 64) (row_word (pins - 1) live) (omega arith)

module _ {I S : Type 0} where
  -- who sees the board holds the lock
  pub held_by : (b : Board I S) (seat : ℕ) (h : Sight I S) → hold_of b seat ≡ Some h → (b.holder ≡ Some seat) × (sight b ≡ h)
  held_by b seat h e = by_holder b.holder refl e
    where
      by_test : (j : ℕ) → b.holder ≡ Some j → (t : Bool) → ((t ≡ true) × (seat ≡ j)) ⊎ ((t ≡ false) × (seat ≢ j)) → (if t then Some (sight b) else None) ≡ Some h → (b.holder ≡ Some seat) × (sight b ≡ h)
      by_test j is true s f = ⊎_elim (λ (x : (true ≡ true) × (seat ≡ j)). (is ∙ ap Some (sym x.1), (cc))) (λ (x : (true ≡ false) × (seat ≢ j)). absurd (cc)) s
      by_test j is false s f = absurd (cc)

      by_holder : (o : Option ℕ) → b.holder ≡ o → seen_by (sight b) seat o ≡ Some h → (b.holder ≡ Some seat) × (sight b ≡ h)
      by_holder None is f = absurd (cc)
      by_holder (Some j) is f = by_test j is (eqb seat j) (eqb_tells seat j) f
