-- Groups of rows by bucket and key: a bucket and key has one group, or no row.
use Rattle.std.proofs.Common.{◌≡◌, ℕ, ◌<◌, Bool, true, false, eqb, List, [], ◌∷◌, length, filter, get_or, refl, sym, ap, ap₂, ◌∙◌, arith, inl, inr}
use Rattle.std.specs.Prelude.{◌&&◌, ◌⊎◌}
use Rattle.std.specs.List.{range_with_len}
use Rattle.std.proofs.lemmas.Bool.{cases_eq, eq-eqb, ne_eqb, eqb-true, true≢false}
use Rattle.qd_sample.proofs.Lists.{filter_none, filter_some, range_head, range_single}

pub both_true : (a b : Bool) → a ≡ true → b ≡ true → (a && b) ≡ true
both_true a b ea eb = ap₂ (λ x y. x && y) ea eb

pub both_parts : (a b : Bool) → (a && b) ≡ true → (a ≡ true) × (b ≡ true)
both_parts true b e = (refl, e)
both_parts false b e = absurd (true≢false (sym e))

-- the groups of a bucket and key
abbrev pub picked : List ℕ → List ℕ → ℕ → ℕ → ℕ → List ℕ
picked of_bucket of_key groups b k = filter (λ g. eqb (get_or of_bucket g 0) b && eqb (get_or of_key g 0) k) (range_with_len 0 groups)

-- a bucket and key, of which these rows are, has no group and no row, or one group whose rows these are
pub record Sole {X : Type 0} (of_bucket of_key ns : List ℕ) (groups b k g : ℕ) (p : X → Bool) (d : X) (rows : List X) : Type 0 where
  pub only : picked of_bucket of_key groups b k ≡ g ∷ []
  pub low : g < groups
  pub key : get_or of_key g 0 ≡ k
  pub each : (i : ℕ) → i < length rows → eqb (get_or ns i 0) g ≡ p (get_or rows i d)
  pub some : 0 < length (filter p rows)

pub record Empty {X : Type 0} (of_bucket of_key : List ℕ) (groups b k : ℕ) (p : X → Bool) (rows : List X) : Type 0 where
  pub none : picked of_bucket of_key groups b k ≡ []
  pub empty : filter p rows ≡ []

module _ {X : Type 0} (n groups : ℕ) (bn kn ns fs of_bucket of_key : List ℕ)
    (told : (i g : ℕ) → i < n → g < groups → eqb (get_or ns i 0) g ≡ (eqb (get_or bn (get_or fs g 0) 0) (get_or bn i 0) && eqb (get_or kn (get_or fs g 0) 0) (get_or kn i 0)))
    (numbered : (i : ℕ) → i < n → get_or ns i 0 < groups)
    (first : (g : ℕ) → g < groups → get_or fs g 0 < n)
    (buckets : (g : ℕ) → g < groups → get_or of_bucket g 0 ≡ get_or bn (get_or fs g 0) 0)
    (keys : (g : ℕ) → g < groups → get_or of_key g 0 ≡ get_or kn (get_or fs g 0) 0)
    (b k : ℕ) (rows : List X) (p : X → Bool) (d : X) (size : length rows ≡ n)
    (agree : (i : ℕ) → i < n → p (get_or rows i d) ≡ (eqb (get_or bn i 0) b && eqb (get_or kn i 0) k)) where
  abbrev takes : ℕ → Bool
  takes g = eqb (get_or of_bucket g 0) b && eqb (get_or of_key g 0) k

  -- the group of a row of the bucket and key is one of theirs
  row_group : (i : ℕ) → i < n → p (get_or rows i d) ≡ true → takes (get_or ns i 0) ≡ true
  row_group i low pass =
      let g = get_or ns i 0 in
      let there = numbered i low in
      let here = both_parts (eqb (get_or bn i 0) b) (eqb (get_or kn i 0) k) (sym (agree i low) ∙ pass) in
      let same = both_parts (eqb (get_or bn (get_or fs g 0) 0) (get_or bn i 0)) (eqb (get_or kn (get_or fs g 0) 0) (get_or kn i 0)) (sym (told i g low there) ∙ eq-eqb g g refl) in
      let in_bucket : get_or of_bucket g 0 ≡ b = buckets g there ∙ eqb-true _ _ same.0 ∙ eqb-true _ _ here.0 in
      let of_k : get_or of_key g 0 ≡ k = keys g there ∙ eqb-true _ _ same.1 ∙ eqb-true _ _ here.1 in
      both_true (eqb (get_or of_bucket g 0) b) (eqb (get_or of_key g 0) k) (eq-eqb _ b in_bucket) (eq-eqb _ k of_k)

  -- a row's group, of a group of the bucket and key
  row_of : (g : ℕ) → g < groups → takes g ≡ true → (i : ℕ) → i < n → eqb (get_or ns i 0) g ≡ p (get_or rows i d)
  row_of g there pass i low =
      let parts = both_parts (eqb (get_or of_bucket g 0) b) (eqb (get_or of_key g 0) k) pass in
      let b_is : get_or bn (get_or fs g 0) 0 ≡ b = sym (buckets g there) ∙ eqb-true _ b parts.0 in
      let k_is : get_or kn (get_or fs g 0) 0 ≡ k = sym (keys g there) ∙ eqb-true _ k parts.1 in
      told i g low there ∙ ap₂ (λ x y. x && y) (ap (λ m. eqb m (get_or bn i 0)) b_is ∙ turned b (get_or bn i 0)) (ap (λ m. eqb m (get_or kn i 0)) k_is ∙ turned k (get_or kn i 0)) ∙ sym (agree i low)
    where
      turned : (x y : ℕ) → eqb x y ≡ eqb y x
      turned x y = elim (cases_eq x y) [
        | inl same ↦ (eq-eqb x y same ∙ sym (eq-eqb y x (sym same)))
        | inr other ↦ (ne_eqb x y other ∙ sym (ne_eqb y x (λ e. other (sym e))))
      ]

  -- a group that its own first row is of
  first_row : (g : ℕ) → g < groups → takes g ≡ true → p (get_or rows (get_or fs g 0) d) ≡ true
  first_row g there pass =
      let f = get_or fs g 0 in
      let self = told f g (first g there) there ∙ both_true (eqb (get_or bn f 0) (get_or bn f 0)) (eqb (get_or kn f 0) (get_or kn f 0)) (eq-eqb _ _ refl) (eq-eqb _ _ refl) in
      sym (row_of g there pass f (first g there)) ∙ self

  alone : (g : ℕ) → g < groups → takes g ≡ true → (x : ℕ) → x < groups → takes x ≡ eqb x g
  alone g there pass x x_there = by (takes x) refl
    where
      by : (t : Bool) → takes x ≡ t → takes x ≡ eqb x g
      by true is =
          let f = get_or fs x 0 in
          let mine : eqb (get_or ns f 0) x ≡ true = row_of x x_there is f (first x x_there) ∙ first_row x x_there is in
          let its : eqb (get_or ns f 0) g ≡ true = row_of g there pass f (first x x_there) ∙ first_row x x_there is in
          is ∙ sym (eq-eqb x g (sym (eqb-true _ x mine) ∙ eqb-true _ g its))
      by false is = is ∙ sym (ne_eqb x g (λ e. true≢false (sym pass ∙ ap takes (sym e) ∙ is)))

  pub sole : ((g : ℕ) × Sole of_bucket of_key ns groups b k g p d rows) ⊎ Empty of_bucket of_key groups b k p rows
  sole = by (picked of_bucket of_key groups b k) refl
    where
      by : (list : List ℕ) → picked of_bucket of_key groups b k ≡ list → ((g : ℕ) × Sole of_bucket of_key ns groups b k g p d rows) ⊎ Empty of_bucket of_key groups b k p rows
      by [] e = inr (record {
        none = e;
        empty = filter_none p rows d (λ i low. rejected i (omega (arith, size)) (p (get_or rows i d)) refl);
      })
        where
          rejected : (i : ℕ) → i < n → (t : Bool) → p (get_or rows i d) ≡ t → p (get_or rows i d) ≡ false
          rejected i low true is =
              let g = get_or ns i 0 in
              let there = numbered i low in
              let found = row_group i low is in
              let only = range_single takes g 0 groups (omega arith) (omega arith) (λ x l h. alone g there found x (omega arith)) in
              absurd (omega (arith, ap length (sym e ∙ only)))
          rejected i low false is = is
      by (g ∷ rest) e =
          let head = range_head takes 0 groups g rest e in
          let there : g < groups = omega (arith, head.1) in
          inl (
            g,
            record {
              only = range_single takes g 0 groups (omega arith) (omega arith) (λ x l h. alone g there head.0 x (omega arith));
              low = there;
              key = eqb-true _ k (both_parts (eqb (get_or of_bucket g 0) b) (eqb (get_or of_key g 0) k) head.0).1;
              each = λ i low. row_of g there head.0 i (omega (arith, size));
              some = filter_some p rows (get_or fs g 0) d (omega (arith, size, first g there)) (first_row g there head.0);
            },
          )
