-- Places that are listed latest first, and the chains that are made of them.
use Rattle.std.proofs.Common.{◌≡◌, ℕ, zero, suc, ◌+◌, ◌-◌, ◌<◌, ◌≤◌, ◌⊎◌, Bool, true, false, cond, eqb, List, [], ◌∷◌, ◌++◌, Option, Some, None, length, map, drop, replicate, get_or, slice_get, refl, sym, ap, ap₂, ◌∙◌, arith, subst, All, inl, inr, true≢false, eq-eqb}
use Rattle.std.specs.List.{slice_range}
use Rattle.std.proofs.lemmas.Bool.{cases_eq, cases_lt, cond-false, ne_eqb}
use Rattle.std.proofs.lemmas.Cmp.{nat_list_eq_equiv}
use Rattle.std.proofs.lemmas.List.{append-nil, append_assoc, ext_get_or, get_or-drop, get_or-map, get_or-replicate, get_or-take, length-drop, length-map, length-replicate, length-take}
use Rattle.std.proofs.lemmas.List.Folds.{drop_split}
use Rattle.std.proofs.lemmas.Map.Keys.{apart_from_distinct}
use Rattle.qd_base.specs.declared.cell.Cell.{Cell}
use Rattle.qd_base.specs.declared.cell.Cell.TheVariants as cell
use Rattle.qd_base.specs.declared.limits.TheConstants.{NULL_ID}
use Rattle.qd_base.specs.Dictionary.{same_text, AreDistinct}
use Rattle.qd_base.specs.Rows.{cell_eq}
use Rattle.qd_column.specs.Symbols.{symbol_cell, IsIdOf}
use Rattle.qd_column.proofs.SymbolLemmas.{null_cell}
use Rattle.qd_links.specs.Lists.{Lists, list_at, with_list, IsListed}
use Rattle.qd_links.proofs.CallerLemmas.{list_at-same, list_at-other, pushed_or_listed}
use Rattle.qd_latest.specs.Chains.{chain, latest_first}
use Rattle.qd_latest.specs.Walks.{cell_in}

-- ---- places, latest first

zero_more : (at : ℕ) → at + 0 ≡ at
zero_more at = omega arith

suc_more : (at n : ℕ) → suc at + n ≡ at + suc n
suc_more at n = omega arith

-- the first of a list with one item more at its end
first_of : (l : List ℕ) (at : ℕ) → slice_get (l ++ at ∷ []) 0 ≡ (elim (slice_get l 0) as (λ o. Option ℕ) [ None ↦ Some at | Some n ↦ Some n ])
first_of [] at = refl
first_of (x ∷ l) at = refl

module _ {X : Type 0} where
  pub latest_first-append : (test : X → Bool) (at : ℕ) (xs ys : List X) → latest_first test at (xs ++ ys) ≡ latest_first test (at + length xs) ys ++ latest_first test at xs
  latest_first-append test at [] ys = ap (λ i. latest_first test i ys) (sym (zero_more at)) ∙ sym (append-nil (latest_first test (at + 0) ys))
  latest_first-append test at (x ∷ xs) ys =
      ap (λ l. cond (test x) (l ++ at ∷ []) l) (latest_first-append test (suc at) xs ys ∙ ap (λ i. latest_first test i ys ++ latest_first test (suc at) xs) (suc_more at (length xs)))
      ∙ by (test x) (latest_first test (at + suc (length xs)) ys) (latest_first test (suc at) xs)
    where
      by : (b : Bool) (l m : List ℕ) → cond b ((l ++ m) ++ at ∷ []) (l ++ m) ≡ l ++ cond b (m ++ at ∷ []) m
      by true l m = append_assoc l m (at ∷ [])
      by false l m = refl

  pub latest_first-same : (test other : X → Bool) (at : ℕ) (xs : List X) → All (λ x. test x ≡ other x) xs → latest_first test at xs ≡ latest_first other at xs
  latest_first-same test other at [] same = refl
  latest_first-same test other at (x ∷ xs) same =
      ap₂ (λ b l. cond b (l ++ at ∷ []) l) (same 0 x (omega arith)) (latest_first-same test other (suc at) xs (λ k d low. same (suc k) d (omega (arith, low))))

  -- the first place of a list: the last item that passes
  pub record IsLastPass (test : X → Bool) (at : ℕ) (xs : List X) (found : Option ℕ) : Type 0 where
    pub none : found ≡ None → (k : ℕ) (d : X) → k < length xs → test (get_or xs k d) ≡ false
    pub low : (n : ℕ) → found ≡ Some n → at ≤ n
    pub high : (n : ℕ) → found ≡ Some n → n < at + length xs
    pub passes : (n : ℕ) (d : X) → found ≡ Some n → test (get_or xs (n - at) d) ≡ true
    pub most : (n k : ℕ) (d : X) → found ≡ Some n → k < length xs → test (get_or xs k d) ≡ true → at + k ≤ n

  none_of : (test : X → Bool) (at : ℕ) → IsLastPass test at [] None
  none_of test at = record { none = λ e k d low. absurd (omega (arith, low)); low = λ n e. cc; high = λ n e. cc; passes = λ n d e. cc; most = λ n k d e low pass. absurd (omega (arith, low)) }

  pub last_pass : (test : X → Bool) (at : ℕ) (xs : List X) → IsLastPass test at xs (slice_get (latest_first test at xs) 0)
  last_pass test at [] = none_of test at
  last_pass test at (x ∷ xs) = by (test x) refl (slice_get (latest_first test (suc at) xs) 0) refl (last_pass test (suc at) xs)
    where
      later : (n : ℕ) → suc at ≤ n → n - at ≡ suc (n - suc at)
      later n h = omega (arith, h)

      beside : (n : ℕ) (d : X) → suc at ≤ n → get_or (x ∷ xs) (n - at) d ≡ get_or xs (n - suc at) d
      beside n d h = ap (λ k. get_or (x ∷ xs) k d) (later n h)

      -- an item behind the first passes
      some : (n : ℕ) → IsLastPass test (suc at) xs (Some n) → IsLastPass test at (x ∷ xs) (Some n)
      some n is = record {
        none = λ e. cc;
        low = λ m e. let same : n ≡ m = cc in let h = is.low n refl in omega (arith, h, same);
        high = λ m e. let same : n ≡ m = cc in let h = is.high n refl in omega (arith, h, same);
        passes = λ m d e. let same : n ≡ m = cc in subst (λ z. test (get_or (x ∷ xs) (z - at) d) ≡ true) same (ap test (beside n d (is.low n refl)) ∙ is.passes n d refl);
        most = λ m k d e there pass. let same : n ≡ m = cc in subst (λ z. at + k ≤ z) same (up n k d is there pass);
      }
        where
          up : (n k : ℕ) (d : X) → IsLastPass test (suc at) xs (Some n) → k < suc (length xs) → test (get_or (x ∷ xs) k d) ≡ true → at + k ≤ n
          up n zero d is there pass = let h = is.low n refl in omega (arith, h)
          up n (suc k) d is there pass = let h = is.most n k d refl (omega (arith, there)) pass in omega (arith, h)

      -- none behind the first does
      alone : IsLastPass test (suc at) xs None → test x ≡ true → IsLastPass test at (x ∷ xs) (Some at)
      alone is holds = record {
        none = λ e. cc;
        low = λ m e. let same : at ≡ m = cc in omega (arith, same);
        high = λ m e. let same : at ≡ m = cc in omega (arith, same);
        passes = λ m d e. let same : at ≡ m = cc in let here : m - at ≡ 0 = omega (arith, same) in ap (λ k. test (get_or (x ∷ xs) k d)) here ∙ holds;
        most = λ m k d e there pass. let same : at ≡ m = cc in subst (λ z. at + k ≤ z) same (up k d there pass);
      }
        where
          up : (k : ℕ) (d : X) → k < suc (length xs) → test (get_or (x ∷ xs) k d) ≡ true → at + k ≤ at
          up zero d there pass = omega arith
          up (suc k) d there pass = absurd (true≢false (sym pass ∙ is.none refl k d (omega (arith, there))))

      neither : IsLastPass test (suc at) xs None → test x ≡ false → IsLastPass test at (x ∷ xs) None
      neither is fails = record { none = λ e. go; low = λ n e. cc; high = λ n e. cc; passes = λ n d e. cc; most = λ n k d e. cc }
        where
          go : (k : ℕ) (d : X) → k < suc (length xs) → test (get_or (x ∷ xs) k d) ≡ false
          go zero d there = fails
          go (suc k) d there = is.none refl k d (omega (arith, there))

      by : (b : Bool) → test x ≡ b → (o : Option ℕ) → slice_get (latest_first test (suc at) xs) 0 ≡ o → IsLastPass test (suc at) xs o → IsLastPass test at (x ∷ xs) (slice_get (cond b (latest_first test (suc at) xs ++ at ∷ []) (latest_first test (suc at) xs)) 0)
      by true e None g is = subst (IsLastPass test at (x ∷ xs)) (sym (first_of (latest_first test (suc at) xs) at ∙ ap (λ o. elim o as (λ o. Option ℕ) [ None ↦ Some at | Some n ↦ Some n ]) g)) (alone is e)
      by true e (Some n) g is = subst (IsLastPass test at (x ∷ xs)) (sym (first_of (latest_first test (suc at) xs) at ∙ ap (λ o. elim o as (λ o. Option ℕ) [ None ↦ Some at | Some n ↦ Some n ]) g)) (some n is)
      by false e None g is = subst (IsLastPass test at (x ∷ xs)) (sym g) (neither is e)
      by false e (Some n) g is = subst (IsLastPass test at (x ∷ xs)) (sym g) (some n is)

pub latest_first-map : {X Y : Type 0} (test : Y → Bool) (f : X → Y) (at : ℕ) (xs : List X) → latest_first test at (map f xs) ≡ latest_first (λ x. test (f x)) at xs
latest_first-map test f at [] = refl
latest_first-map test f at (x ∷ xs) = ap (λ l. cond (test (f x)) (l ++ at ∷ []) l) (latest_first-map test f (suc at) xs)

-- ---- one node more

module _ (v : Lists) (id node : ℕ) (id_in : id < length v.lists) where
  pub pushed_list : (j : ℕ) → list_at (with_list v id (list_at v id ++ node ∷ [])) j ≡ list_at v j ++ latest_first (eqb j) node (id ∷ [])
  pushed_list j = elim (cases_eq j id) [
    | inl same ↦
        ap (list_at (with_list v id (list_at v id ++ node ∷ []))) same ∙ list_at-same v id (list_at v id ++ node ∷ []) id_in
        ∙ ap (λ k. list_at v k ++ node ∷ []) (sym same) ∙ ap (λ b. list_at v j ++ cond b (node ∷ []) []) (sym (eq-eqb j id same))
    | inr other ↦
        list_at-other v id j (list_at v id ++ node ∷ []) other
        ∙ sym (append-nil (list_at v j)) ∙ ap (λ b. list_at v j ++ cond b (node ∷ []) []) (sym (ne_eqb j id other))
  ]

  pub pushed_above : ((other : ℕ) → IsListed v other → node < other) → (other : ℕ) → IsListed (with_list v id (list_at v id ++ node ∷ [])) other → node ≤ other
  pushed_above above other listed = elim (pushed_or_listed v id node id_in other listed) [ inl same ↦ omega (arith, same) | inr old ↦ let h = above other old in omega (arith, h) ]

pub unlisted_list : (v : Lists) (id node j : ℕ) → id ≡ NULL_ID → length v.lists ≤ NULL_ID → j < length v.lists → list_at v j ≡ list_at v j ++ latest_first (eqb j) node (id ∷ [])
unlisted_list v id node j none few low =
    sym (append-nil (list_at v j)) ∙ ap (λ b. list_at v j ++ cond b (node ∷ []) []) (sym (ne_eqb j id (λ e. apart NULL_ID few (e ∙ none))))
  where
    apart : (top : ℕ) → length v.lists ≤ top → j ≡ top → ⊥
    apart top a e = omega (arith, a, e, low)

-- ---- the nodes of ids, from the last one back to a place

pub record IsLinked (old new : Lists) (ids : List ℕ) (from i : ℕ) : Type 0 where
  pub within : i ≤ length ids
  pub nodes : new.nodes ≡ old.nodes
  pub count : length new.lists ≡ length old.lists
  pub lists : (j : ℕ) → j < length old.lists → list_at new j ≡ list_at old j ++ latest_first (eqb j) (from + i) (drop i ids)
  pub above : (node : ℕ) → IsListed new node → from + i ≤ node

pub linked_none : (v : Lists) (ids : List ℕ) (from to i : ℕ) → i ≡ length ids → from + length ids ≡ to → ((node : ℕ) → IsListed v node → to ≤ node) → IsLinked v v ids from i
linked_none v ids from to i all count above = record {
  within = omega (arith, all);
  nodes = refl;
  count = refl;
  lists = λ j low. sym (append-nil (list_at v j)) ∙ ap (λ l. list_at v j ++ latest_first (eqb j) (from + i) l) (sym (past i ids (omega (arith, all))));
  above = λ node listed. let h = above node listed in omega (arith, h, all, count);
}
  where
    past : (i : ℕ) (xs : List ℕ) → length xs ≤ i → drop i xs ≡ []
    past zero [] h = refl
    past zero (x ∷ xs) h = absurd (omega (arith, h))
    past (suc i) [] h = refl
    past (suc i) (x ∷ xs) h = past i xs (omega (arith, h))

one_less : {X : Type 0} (i : ℕ) (xs : List X) (d : X) → i < length xs → drop i xs ≡ get_or xs i d ∷ drop (suc i) xs
one_less zero [] d h = absurd (omega (arith, h))
one_less zero (x ∷ xs) d h = refl
one_less (suc i) [] d h = absurd (omega (arith, h))
one_less (suc i) (x ∷ xs) d h = one_less i xs d (omega (arith, h))

pub linked_more : (old v new : Lists) (ids : List ℕ) (from i next : ℕ) → suc next ≡ i → IsLinked old v ids from i → new.nodes ≡ v.nodes → length new.lists ≡ length v.lists
    → ((j : ℕ) → j < length v.lists → list_at new j ≡ list_at v j ++ latest_first (eqb j) (from + next) (get_or ids next 0 ∷ [])) → ((node : ℕ) → IsListed new node → from + next ≤ node) → IsLinked old new ids from next
linked_more old v new ids from i next before is nodes count lists above = record {
  within = omega (arith, is.within, before);
  nodes = nodes ∙ is.nodes;
  count = count ∙ is.count;
  lists = λ j low.
      lists j (omega (arith, low, is.count)) ∙ ap (λ l. l ++ latest_first (eqb j) (from + next) (get_or ids next 0 ∷ [])) (is.lists j low)
      ∙ append_assoc (list_at old j) (latest_first (eqb j) (from + i) (drop i ids)) (latest_first (eqb j) (from + next) (get_or ids next 0 ∷ []))
      ∙ ap (λ l. list_at old j ++ l)
      (ap₂ (λ k l. latest_first (eqb j) k l ++ latest_first (eqb j) (from + next) (get_or ids next 0 ∷ [])) (at before) (ap (λ k. drop k ids) (sym before))
      ∙ sym (latest_first-append (eqb j) (from + next) (get_or ids next 0 ∷ []) (drop (suc next) ids))
      ∙ ap (latest_first (eqb j) (from + next)) (sym (one_less next ids 0 (omega (arith, is.within, before)))));
  above = above;
}
  where
    at : suc next ≡ i → from + i ≡ from + next + 1
    at e = omega (arith, e)

-- ---- the chains of cells, from the last one back to a place

pub apart_texts : (texts : List (List ℕ)) (j id : ℕ) → AreDistinct texts → j < length texts → id < length texts → (j ≡ id → ⊥) → same_text (get_or texts j []) (get_or texts id []) ≡ false
apart_texts texts j id distinct j_low id_low other = elim (cases_lt j id) [
  | inl less ↦ apart_from_distinct same_text texts j id [] distinct less id_low
  | inr high ↦ nat_list_eq_equiv.symm (get_or texts j []) (get_or texts id []) ∙ apart_from_distinct same_text texts id j [] distinct (omega (arith, high, other)) j_low
]

-- two ids of one text are one
pub one_id : (texts : List (List ℕ)) → AreDistinct texts → (m n : ℕ) → m < length texts → n < length texts → get_or texts m [] ≡ get_or texts n [] → m ≡ n
one_id texts distinct m n m_low n_low same = elim (cases_eq m n) [
  | inl e ↦ e
  | inr other ↦ absurd (true≢false (sym (nat_list_eq_equiv.refl (get_or texts m [])) ∙ ap (same_text (get_or texts m [])) same ∙ apart_texts texts m n distinct m_low n_low other))
]

-- whether the text of an id is the cell of another one
pub id_test : (texts : List (List ℕ)) (j id : ℕ) → AreDistinct texts → length texts ≤ NULL_ID → j < length texts → IsIdOf texts id → cell_eq (cell.Text (get_or texts j [])) (symbol_cell texts id) ≡ eqb j id
id_test texts j id distinct few low known = elim known [
  | inl none ↦
      ap (λ k. cell_eq (cell.Text (get_or texts j [])) (symbol_cell texts k)) none ∙ ap (cell_eq (cell.Text (get_or texts j []))) (null_cell texts)
      ∙ sym (ne_eqb j id (λ e. below (subst (λ k. k < length texts) (e ∙ none) low)))
  | inr there ↦
      ap (cell_eq (cell.Text (get_or texts j []))) (cond-false (eqb id NULL_ID) cell.Null (cell.Text (get_or texts id [])) (ne_eqb id NULL_ID (λ e. below (subst (λ k. k < length texts) e there))))
      ∙ elim (cases_eq j id) [
        | inl same ↦ ap (λ k. same_text (get_or texts j []) (get_or texts k [])) (sym same) ∙ nat_list_eq_equiv.refl (get_or texts j []) ∙ sym (eq-eqb j id same)
        | inr other ↦ apart_texts texts j id distinct low there other ∙ sym (ne_eqb j id other)
      ]
]
  where
    below : NULL_ID < length texts → ⊥
    below h = omega (arith, h, few)

pub record IsChained (cells : List Cell) (texts : List (List ℕ)) (v : Lists) (at : ℕ) : Type 0 where
  pub within : at ≤ length cells
  pub nodes : v.nodes ≡ length cells
  pub count : length v.lists ≡ length texts
  pub each : (j : ℕ) → j < length texts → list_at v j ≡ latest_first (cell_eq (cell.Text (get_or texts j []))) at (drop at cells)
  pub above : (node : ℕ) → IsListed v node → at ≤ node

pub chained_none : (cells : List Cell) (texts : List (List ℕ)) (v : Lists) (d at : ℕ) → at ≡ length cells → d ≡ length texts → v.nodes ≡ at → v.lists ≡ replicate d [] → ((node : ℕ) → ¬ IsListed v node) → IsChained cells texts v at
chained_none cells texts v d at all count nodes lists none = record {
  within = omega (arith, all);
  nodes = nodes ∙ all;
  count = ap length lists ∙ length-replicate d [] ∙ count;
  each = λ j low. ap (λ (l : List (List ℕ)). get_or l j []) lists ∙ get_or-replicate d j [] [] (omega (arith, low, count)) ∙ ap (latest_first (cell_eq (cell.Text (get_or texts j []))) at) (sym (past at cells (omega (arith, all))));
  above = λ node listed. absurd (none node listed);
}
  where
    past : {X : Type 0} (i : ℕ) (xs : List X) → length xs ≤ i → drop i xs ≡ []
    past zero [] h = refl
    past zero (x ∷ xs) h = absurd (omega (arith, h))
    past (suc i) [] h = refl
    past (suc i) (x ∷ xs) h = past i xs (omega (arith, h))

module _ (cells : List Cell) (texts : List (List ℕ)) (distinct : AreDistinct texts) (few : length texts ≤ NULL_ID) (v new : Lists) (at next : ℕ) (ids : List ℕ) (size : next + length ids ≡ at) (is : IsChained cells texts v at)
    (known : All (IsIdOf texts) ids) (hold : (k : ℕ) → k < length ids → cell_in cells (next + k) ≡ symbol_cell texts (get_or ids k 0)) where
  part : slice_range cells next at ≡ map (symbol_cell texts) ids
  part = ext_get_or cell.Null (slice_range cells next at) (map (symbol_cell texts) ids) (omega (arith, length-take (at - next) (drop next cells), length-drop next cells, is.within, size, length-map ids (symbol_cell texts))) each
    where
      each : (i : ℕ) → i < length (slice_range cells next at) → get_or (slice_range cells next at) i cell.Null ≡ get_or (map (symbol_cell texts) ids) i cell.Null
      each i low =
          let less : i < length ids = omega (arith, low, length-take (at - next) (drop next cells), length-drop next cells, is.within, size) in
          get_or-take (at - next) (drop next cells) i cell.Null (omega (arith, less, size)) ∙ get_or-drop next cells i cell.Null ∙ hold i less ∙ sym (get_or-map (symbol_cell texts) ids i 0 cell.Null less)

  pub chained_more : new.nodes ≡ v.nodes → length new.lists ≡ length v.lists → ((j : ℕ) → j < length v.lists → list_at new j ≡ list_at v j ++ latest_first (eqb j) next ids) → ((node : ℕ) → IsListed new node → next ≤ node) → IsChained cells texts new next
  chained_more nodes count lists above = record {
    within = omega (arith, is.within, size);
    nodes = nodes ∙ is.nodes;
    count = count ∙ is.count;
    each = each;
    above = above;
  }
    where
      test : ℕ → Cell → Bool
      test j = cell_eq (cell.Text (get_or texts j []))

      behind : next + length (map (symbol_cell texts) ids) ≡ at
      behind = omega (arith, size, length-map ids (symbol_cell texts))

      each : (j : ℕ) → j < length texts → list_at new j ≡ latest_first (cell_eq (cell.Text (get_or texts j []))) next (drop next cells)
      each j low =
          lists j (omega (arith, low, is.count))
          ∙ ap₂ (λ l m. l ++ m) (is.each j low) (sym (latest_first-map (test j) (symbol_cell texts) next ids ∙ latest_first-same (λ id. test j (symbol_cell texts id)) (eqb j) next ids (λ k d there. id_test texts j (get_or ids k d) distinct few low (known k d there))))
          ∙ ap (λ k. latest_first (test j) k (drop at cells) ++ latest_first (test j) next (map (symbol_cell texts) ids)) (sym behind)
          ∙ sym (latest_first-append (test j) next (map (symbol_cell texts) ids) (drop at cells))
          ∙ ap (latest_first (test j) next) (ap (λ l. l ++ drop at cells) (sym part) ∙ sym (drop_split cells next at (omega (arith, size))))

pub chained_all : (cells : List Cell) (texts : List (List ℕ)) (v : Lists) (at n : ℕ) → at ≡ 0 → length cells ≡ n → IsChained cells texts v at → v ≡ record { nodes = n; lists = map (chain cells) texts }
chained_all cells texts v at n first size is = both v (record { nodes = n; lists = map (chain cells) texts }) (is.nodes ∙ size) (ext_get_or [] v.lists (map (chain cells) texts) (is.count ∙ sym (length-map texts (chain cells))) each)
  where
    both : (a b : Lists) → a.nodes ≡ b.nodes → a.lists ≡ b.lists → a ≡ b
    both a b e g = ap₂ (λ (n : ℕ) (l : List (List ℕ)). record { nodes = n; lists = l }) e g

    each : (j : ℕ) → j < length v.lists → get_or v.lists j [] ≡ get_or (map (chain cells) texts) j []
    each j low = is.each j (omega (arith, low, is.count)) ∙ ap (λ k. latest_first (cell_eq (cell.Text (get_or texts j []))) k (drop k cells)) first ∙ sym (get_or-map (chain cells) texts j [] [] (omega (arith, low, is.count)))

-- what the front of a chain is
pub front_of : (cells : List Cell) (texts : List (List ℕ)) (j : ℕ) → j < length texts → IsLastPass (cell_eq (cell.Text (get_or texts j []))) 0 cells (slice_get (get_or (map (chain cells) texts) j []) 0)
front_of cells texts j low = subst (λ (l : List ℕ). IsLastPass (cell_eq (cell.Text (get_or texts j []))) 0 cells (slice_get l 0)) (sym (get_or-map (chain cells) texts j [] [] low)) (last_pass (cell_eq (cell.Text (get_or texts j []))) 0 cells)

pub known_low : (n id : ℕ) → (id ≡ NULL_ID) ⊎ (id < n) → (id ≡ NULL_ID → ⊥) → id < n
known_low n id known some = elim known [ inl none ↦ absurd (some none) | inr low ↦ low ]
