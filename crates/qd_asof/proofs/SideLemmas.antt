-- Rows of both sides, over the blocks of both.
use Rattle.std.proofs.Common.{◌≡◌, ℕ, zero, suc, ◌+◌, ◌-◌, ◌<◌, ◌≤◌, List, [], ◌∷◌, ◌++◌, Option, Some, None, length, map, take, get_or, refl, sym, ap, ap₂, ◌∙◌, arith, subst, slice_get, length-append, append_assoc, drop}
use Rattle.std.specs.List.{range_with_len}
use Rattle.std.proofs.lemmas.List.{append-nil, get_or_append_left, get_or-append_right, map_push, take_all, take_more}
use Rattle.std.proofs.lemmas.List.FromFn.{map-range_with_len_more}
use Rattle.std.proofs.lemmas.Option.{get_or_from_slice_get, slice_get-get_or}
use Rattle.qd_base.specs.declared.schema.Col.{Col}
use Rattle.qd_base.specs.Rows.{Row}
use Rattle.qd_block.specs.Blocks.{Block, kinds_in}
use Rattle.qd_block.proofs.RowLemmas.{got_there}
use Rattle.qd_expr.specs.Passing.{row_in, with_places}
use Rattle.qd_expr.proofs.CellLemmas.{row_found}
use Rattle.qd_rows.specs.Runs.{Spot}
use Rattle.qd_rows.specs.Sets.{Joined, ResultRows, absent, block_at, no_block, right_row, row_of_place, rows_in, side_row, with_place, IsPlace, IsPlaced, IsRight, IsRowAt, IsSide}
use Rattle.qd_asof.specs.Choices.{both_sides, moved, no_place, place_in, right_cells, row_beside, IsChoice, IsThere}

-- ---- blocks

pub blocks_next : (old new : ResultRows) (first : ResultRows) (from : List Block) (b : ℕ) (x : Block) → old ≡ record first { blocks = first.blocks ++ take b from } → slice_get from b ≡ Some x → new ≡ record old { blocks = old.blocks ++ x ∷ [] }
    → new ≡ record first { blocks = first.blocks ++ take (b + 1) from }
blocks_next old new first from b x is found more =
    more ∙ ap (λ (o : ResultRows). record o { blocks = o.blocks ++ x ∷ [] }) is
    ∙ ap (λ (bs : List Block). record first { blocks = bs })
    (append_assoc first.blocks (take b from) (x ∷ [])
    ∙ ap (λ (bs : List Block). first.blocks ++ bs) (ap (λ (y : Block). take b from ++ y ∷ []) (sym (get_or_from_slice_get from b x x found)) ∙ sym (take_more from b x (got_there from b x found))))

pub blocks_begun : (first : ResultRows) (from : List Block) → first ≡ record first { blocks = first.blocks ++ take 0 from }
blocks_begun first from = ap (λ (bs : List Block). record first { blocks = bs }) (sym (append-nil first.blocks))

pub blocks_done : (set first : ResultRows) (from : List Block) (b : ℕ) → length from ≤ b → set ≡ record first { blocks = first.blocks ++ take b from } → set ≡ record first { blocks = first.blocks ++ from }
blocks_done set first from b done is = is ∙ ap (λ (bs : List Block). record first { blocks = first.blocks ++ bs }) (take_all b from done)

left_block : (a b : List Block) (i : ℕ) → i < length a → block_at (a ++ b) i ≡ block_at a i
left_block a b i low = get_or_append_left a b no_block i low

add_less : (n i : ℕ) → n + i - n ≡ i
add_less n i = omega arith

right_block : (a b : List Block) (i : ℕ) → block_at (a ++ b) (length a + i) ≡ block_at b i
right_block a b i = get_or-append_right a b (length a) (length a + i) no_block refl (omega arith) ∙ ap (block_at b) (add_less (length a) i)

-- a row is there among more blocks
abbrev IsRowIn : List Col → Block → ℕ → Type 0
IsRowIn cols x i = (i < length x.rows) × (x.kinds ≡ take (length x.kinds) (kinds_in cols))

pub left_there : (a b : List Block) (cols : List Col) (p : Spot) → IsRowAt a cols p → IsRowAt (a ++ b) cols p
left_there a b cols p at =
    let is : IsRowIn cols (block_at (a ++ b) p.0) p.1 = subst (λ (x : Block). IsRowIn cols x p.1) (sym (left_block a b p.0 at.block)) (at.row, at.kinds) in
    record { block = omega (arith, length-append a b, at.block); row = is.0; kinds = is.1 }

pub right_there : (a b : List Block) (cols : List Col) (p : Spot) → IsRowAt b cols p → IsRowAt (a ++ b) cols (length a + p.0, p.1)
right_there a b cols p at =
    let is : IsRowIn cols (block_at (a ++ b) (length a + p.0)) p.1 = subst (λ (x : Block). IsRowIn cols x p.1) (sym (right_block a b p.0)) (at.row, at.kinds) in
    record { block = omega (arith, length-append a b, at.block); row = is.0; kinds = is.1 }

abbrev moved_to : ℕ → Joined → Option Spot
moved_to shift q = Some (shift + q.0.0, q.0.1)

-- the place of a right row that is taken
pub moved_place : (right : ResultRows) (shift j : ℕ) (p : Joined) → slice_get right.places j ≡ Some p → moved shift right (Some j) ≡ Some (shift + p.0.0, p.0.1)
moved_place right shift j p found = ap (moved_to shift) (get_or_from_slice_get right.places j p no_place found)

pub moved_there : (right : ResultRows) (j : ℕ) (p : Joined) → slice_get right.places j ≡ Some p → IsRowAt right.blocks right.left p.0 → IsThere right (Some j)
moved_there right j p found at = subst (λ (q : Joined). IsRowAt right.blocks right.left q.0) (sym (get_or_from_slice_get right.places j p no_place found)) at

-- ---- rows

abbrev row_with : List Col → ℕ → Block → Row
row_with cols i x = get_or x.rows i [] ++ absent (drop (length x.kinds) cols)

-- a row of a set without right columns is that of its place alone
row_alone : (s : ResultRows) (i : ℕ) (p : Joined) → s.right ≡ None → slice_get s.places i ≡ Some p → side_row s.blocks s.left (Some p.0) ≡ row_in s i
row_alone s i p alone found =
    sym (row_found s i p found
    ∙ ap (λ (cols : Option (List Col)). side_row s.blocks s.left (Some p.0) ++ right_row s.blocks cols p.1) alone
    ∙ append-nil (side_row s.blocks s.left (Some p.0)))

-- the left rows so far, each beside the right row that it takes
pub record AreBeside (left right : ResultRows) (choices : List (Option ℕ)) (set : ResultRows) (i : ℕ) : Type 0 where
  pub over : set ≡ with_places (both_sides left right) set.places
  pub rows : map (row_of_place (both_sides left right)) set.places ≡ map (row_beside left right choices) (range_with_len 0 i)

module _ (left right : ResultRows) (left_alone : left.right ≡ None) (right_alone : right.right ≡ None) where
  left_cells : (i : ℕ) (p : Joined) → slice_get left.places i ≡ Some p → p.0.0 < length left.blocks → side_row (left.blocks ++ right.blocks) left.left (Some p.0) ≡ row_in left i
  left_cells i p found low = ap (row_with left.left p.0.1) (left_block left.blocks right.blocks p.0.0 low) ∙ row_alone left i p left_alone found

  chosen_cells : (c : Option ℕ) → IsChoice (length right.places) c → right_row (left.blocks ++ right.blocks) (Some right.left) (moved (length left.blocks) right c) ≡ right_cells right c
  chosen_cells None there = refl
  chosen_cells (Some j) there =
      ap (row_with right.left (place_in right j).1) (right_block left.blocks right.blocks (place_in right j).0)
      ∙ row_alone right j (get_or right.places j no_place) right_alone (slice_get-get_or right.places j no_place there)

  pub beside_none : (choices : List (Option ℕ)) (set : ResultRows) → set ≡ both_sides left right → AreBeside left right choices set 0
  beside_none choices set empty = record {
    over = empty ∙ ap (λ (s : ResultRows). with_places (both_sides left right) s.places) (sym empty);
    rows = ap (λ (s : ResultRows). map (row_of_place (both_sides left right)) s.places) empty;
  }

  pub beside_more : (choices : List (Option ℕ)) (set new : ResultRows) (i : ℕ) (p : Joined) (c : Option ℕ) → slice_get left.places i ≡ Some p → IsPlaced left p → c ≡ get_or choices i None → IsChoice (length right.places) c
      → new ≡ with_place set (p.0, moved (length left.blocks) right c) → AreBeside left right choices set i → AreBeside left right choices new (i + 1)
  beside_more choices set new i p c found there is chosen more held = record {
    over =
        more ∙ ap (λ (s : ResultRows). with_place s (p.0, moved (length left.blocks) right c)) held.over
        ∙ ap (λ (s : ResultRows). with_places (both_sides left right) s.places) (sym more);
    rows =
        ap (λ (s : ResultRows). map (row_of_place (both_sides left right)) s.places) more
        ∙ map_push (row_of_place (both_sides left right)) set.places (p.0, moved (length left.blocks) right c)
        ∙ ap₂ (λ (l : List Row) (r : Row). l ++ r ∷ []) held.rows
        (ap₂ (λ (a b : Row). a ++ b) (left_cells i p found there.left.block) (chosen_cells c chosen) ∙ ap (λ (o : Option ℕ). row_in left i ++ right_cells right o) is)
        ∙ sym (map-range_with_len_more (row_beside left right choices) 0 i i (omega arith));
  }

  -- a left row's place, with the right row's, is one of the set
  pub beside_place : (choices : List (Option ℕ)) (set : ResultRows) (i : ℕ) (p : Joined) (c : Option ℕ) → IsPlaced left p → IsThere right c → AreBeside left right choices set i → IsPlaced set (p.0, moved (length left.blocks) right c)
  beside_place choices set i p c there chosen held =
      subst (λ (s : ResultRows). IsPlaced s (p.0, moved (length left.blocks) right c)) (sym held.over) (record { left = left_there left.blocks right.blocks left.left p.0 there.left; right = side c chosen })
    where
      side : (c : Option ℕ) → IsThere right c → IsSide (left.blocks ++ right.blocks) right.left (moved (length left.blocks) right c)
      side None at = tt
      side (Some j) at = right_there left.blocks right.blocks right.left (place_in right j) at

  pub beside_all : (choices : List (Option ℕ)) (set : ResultRows) (i n : ℕ) → i ≡ n → AreBeside left right choices set i → rows_in set ≡ map (row_beside left right choices) (range_with_len 0 n)
  beside_all choices set i n end held = ap rows_in held.over ∙ held.rows ∙ ap (λ k. map (row_beside left right choices) (range_with_len 0 k)) end
