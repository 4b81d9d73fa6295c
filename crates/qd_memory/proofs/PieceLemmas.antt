-- A batch cut into pieces, each of one partition.
use Rattle.std.proofs.Common.{◌≡◌, ℕ, zero, suc, ◌+◌, ◌-◌, ◌<◌, ◌≤◌, Bool, false, inl, inr, ⊎_elim, List, [], ◌∷◌, ◌++◌, length, take, drop, get_or, refl, sym, ap, ◌∙◌, arith, All, subst, slice_range, length-drop}
use Rattle.std.specs.Prelude.{◌⊎◌}
use Rattle.std.specs.List.{AllByRecursion, IsDistinct, fold}
use Rattle.std.proofs.lemmas.List.{get_or-drop, get_or-take, get_or_default, length-take-le, take_all}
use Rattle.std.proofs.lemmas.List.Sums.{fold-append}
use Rattle.qd_base.specs.declared.schema.Schema.{Schema}
use Rattle.qd_base.specs.Lawful.{IsRowOf}
use Rattle.qd_base.specs.Rows.{Row, put, same_on}
use Rattle.qd_block.specs.Blocks.{Block, IsWhole}
use Rattle.qd_merge.proofs.Parts.{all-part, part_joined}
use Rattle.qd_memory.specs.declared.slots.Slot.{Slot}
use Rattle.qd_memory.specs.Kept.{joined, partition_of, HasPut, IsBatchOf, IsFull, IsPiece}

each_drop : {X : Type 0} (P : X → Type 0) (n : ℕ) (xs : List X) → AllByRecursion P xs → AllByRecursion P (take n xs)
each_drop P zero xs h = tt
each_drop P (suc n) [] h = tt
each_drop P (suc n) (x ∷ xs) h = (h.0, each_drop P n xs h.1)

module _ {X : Type 0} (e : X → X → Bool) where
  distinct_take : (n : ℕ) (xs : List X) → IsDistinct e xs → IsDistinct e (take n xs)
  unfolding IsDistinct
  distinct_take zero xs d = tt
  distinct_take (suc n) [] d = tt
  distinct_take (suc n) (x ∷ xs) d = (each_drop (λ y. e x y ≡ false) n xs d.0, distinct_take n xs d.1)

  distinct_drop : (n : ℕ) (xs : List X) → IsDistinct e xs → IsDistinct e (drop n xs)
  unfolding IsDistinct
  distinct_drop zero xs d = d
  distinct_drop (suc n) [] d = tt
  distinct_drop (suc n) (x ∷ xs) d = distinct_drop n xs d.1

plus_none : (n : ℕ) → n + 0 ≡ n
plus_none n = omega arith

minus_none : (n : ℕ) → n - 0 ≡ n
minus_none n = omega arith

-- rows of a batch from one up to another, where they lie in the partition of the first
pub piece_is : (s : Schema) (b p : Block) (from to : ℕ) → IsBatchOf s b → p ≡ record b { rows = slice_range b.rows from to } → IsWhole p → from < to → to ≤ length b.rows
    → ((k : ℕ) → from ≤ k → k < to → partition_of s (get_or b.rows k []) ≡ partition_of s (get_or b.rows from [])) → IsPiece s p
piece_is s b p from to batch is whole low high together =
    let rows : p.rows ≡ slice_range b.rows from to = ap (λ (x : Block). x.rows) is in
    let kinds = ap (λ (x : Block). x.kinds) is ∙ batch.kinds in
    let col : p.time_col ≡ s.time_col = ap (λ (x : Block). x.time_col) is ∙ batch.time_col in
    let fit : All (IsRowOf s) p.rows = subst (All (IsRowOf s)) (sym rows) (all-part (IsRowOf s) b.rows from to high (λ k d ge lt. batch.fit k d (omega arith))) in
    let count : length (slice_range b.rows from to) ≡ to - from = length-take-le (to - from) (drop from b.rows) (omega (arith, length-drop from b.rows)) in
    let first : get_or p.rows 0 [] ≡ get_or b.rows from [] = ap (λ (l : List Row). get_or l 0 []) rows ∙ get_or-take (to - from) (drop from b.rows) 0 [] (omega arith) ∙ get_or-drop from b.rows 0 [] ∙ ap (λ (n : ℕ). get_or b.rows n []) (plus_none from) in
    let lies : All (λ (r : Row). partition_of s r ≡ partition_of s (get_or b.rows from [])) (slice_range b.rows from to) =
    all-part (λ (r : Row). partition_of s r ≡ partition_of s (get_or b.rows from [])) b.rows from to high (λ k d ge lt. ap (partition_of s) (get_or_default b.rows k d [] (omega arith)) ∙ together k ge lt) in
    record {
      batch = record {
        whole = whole;
        kinds = kinds;
        time_col = col;
        fit = fit;
        batch = record {
          in_order = subst (λ (c : ℕ). Rattle.qd_base.specs.Laws.IsInOrder c p.rows) col whole.order;
          distinct = ⊎_elim (λ none. inl none) (λ d. inr (subst (IsDistinct (same_on s.keys)) (sym rows) (distinct_take (same_on s.keys) (to - from) (drop from b.rows) (distinct_drop (same_on s.keys) from b.rows d)))) batch.batch.distinct;
        };
      };
      full = record {
        whole = whole;
        kinds = kinds;
        time_col = col;
        fit = fit;
        some = omega (arith, ap length rows, count, low);
        together = subst (λ (l : List Row). All (λ (r : Row). partition_of s r ≡ partition_of s (get_or p.rows 0 [])) l) (sym rows) (λ k d lt. lies k d lt ∙ ap (partition_of s) (sym first));
      };
    }

-- a piece more
pub piece_put : (s : Schema) (old middle now : List Slot) (rows : List Row) (from to : ℕ) → from ≤ to → HasPut s old (take from rows) middle → HasPut s middle (slice_range rows from to) now → HasPut s old (take to rows) now
piece_put s old middle now rows from to low first second =
    let f = put s.time_col s.keys in
    let all : take to rows ≡ take from rows ++ slice_range rows from to = ap (λ (n : ℕ). take n rows) (sym (minus_none to)) ∙ part_joined rows 0 from to (omega arith) low ∙ ap (λ (n : ℕ). take n rows ++ slice_range rows from to) (minus_none from) in
    record {
      slots = second.slots;
      rows = second.rows ∙ ap (λ (l : List Row). fold f l (slice_range rows from to)) first.rows ∙ sym (fold-append f (joined s.cols old) (take from rows) (slice_range rows from to)) ∙ ap (fold f (joined s.cols old)) (sym all);
    }

pub pieces_done : (s : Schema) (old now : List Slot) (rows : List Row) (from : ℕ) → length rows ≤ from → HasPut s old (take from rows) now → HasPut s old rows now
pieces_done s old now rows from all done = subst (λ (l : List Row). HasPut s old l now) (take_all from rows all) done
