-- Steps of loops over parts and over tables.
use Rattle.std.proofs.Common.{◌≡◌, ℕ, zero, suc, ◌+◌, ◌^◌, ◌<◌, ◌≤◌, max, Bool, true, false, cond, not, nat_eq, List, [], ◌∷◌, ◌++◌, length, map, get_or, take, drop, fold, All, Contains, Option, Some, None, is_some, refl, sym, ap, subst, ◌∙◌, inl, inr, append-nil, append_assoc, arith}
use Rattle.std.specs.List.{list_any, flat_map}
use Rattle.std.proofs.lemmas.List.{take_more, drop_more, take-append-drop, map-append, length-append, length-map}
use Rattle.std.proofs.lemmas.List.Elements.{All-nil, All-cons, All-head, All-tail, Contains-push_cases, Contains-append_cases, Contains-append_left, Contains-append_right}
use Rattle.qd_base.specs.declared.part.Part.{Part}
use Rattle.qd_manifest.specs.declared.shape.TableParts.{TableParts}
use Rattle.qd_manifest.specs.Spelling.{blocks_in, blocks_of}
use Rattle.qd_catalog.specs.declared.blocks.Kept.{Kept}
use Rattle.qd_catalog.specs.Versions.{parts_of, next_after}
use Rattle.qd_catalog.specs.Tracked.{new_in, AreListed, ListsAll, Unlists}
use Rattle.qd_catalog.proofs.KeptLemmas.{lists_more, new_in_step, new_in_steps, new_in-append}
use Rattle.qd_catalog.proofs.RetireLemmas.{unlists_more}

-- one more part
module _ (parts : List Part) (i : ℕ) (d : Part) (lt : i < length parts) where
  pub parts_more : take (i + 1) parts ≡ take i parts ++ get_or parts i d ∷ []
  parts_more = take_more parts i d lt

  pub blocks_more : blocks_in (take (i + 1) parts) ≡ blocks_in (take i parts) ++ (get_or parts i d).block ∷ []
  blocks_more = ap blocks_in parts_more ∙ map-append (λ (x : Part). x.block) (take i parts) (get_or parts i d ∷ [])

  pub parts_left : drop i parts ≡ get_or parts i d ∷ drop (i + 1) parts
  parts_left = drop_more parts i d lt

  pub list_step : (first old new : ℕ → Option Kept) (row : ℕ) → ListsAll first old row (take i parts) → ListsAll old new row (get_or parts i d ∷ []) → ListsAll first new row (take (i + 1) parts)
  list_step first old new row h k = subst (λ (ps : List Part). ListsAll first new row ps) (sym parts_more) (lists_more first old new row (take i parts) (get_or parts i d ∷ []) h k)

  pub new_step : (old new : ℕ → Option Kept) (row : ℕ) → ListsAll old new row (get_or parts i d ∷ []) → length (new_in new (blocks_in (drop (i + 1) parts))) + cond (is_some (old (get_or parts i d).block)) 0 1 ≤ length (new_in old (blocks_in (drop i parts)))
  new_step old new row h = subst (λ (ps : List Part). length (new_in new (blocks_in (drop (i + 1) parts))) + cond (is_some (old (get_or parts i d).block)) 0 1 ≤ length (new_in old (blocks_in ps))) (sym parts_left) (new_in_step old new row (get_or parts i d) (blocks_in (drop (i + 1) parts)) h)

  pub unlist_step : (first old new : ℕ → Option Kept) (row : ℕ) (before between after : List ℕ) → Unlists first old row (blocks_in (take i parts)) before between → Unlists old new row ((get_or parts i d).block ∷ []) between after → Unlists first new row (blocks_in (take (i + 1) parts)) before after
  unlist_step first old new row before between after h k = subst (λ (bs : List ℕ). Unlists first new row bs before after) (sym blocks_more) (unlists_more first old new row (blocks_in (take i parts)) ((get_or parts i d).block ∷ []) before between after h k)

blocks_of-append : (xs ys : List TableParts) → blocks_of (xs ++ ys) ≡ blocks_of xs ++ blocks_of ys
blocks_of-append [] ys = refl
blocks_of-append (x ∷ xs) ys = ap (λ (l : List ℕ). blocks_in x.parts ++ l) (blocks_of-append xs ys) ∙ sym (append_assoc (blocks_in x.parts) (blocks_of xs) (blocks_of ys))

parts_of-append : (xs ys : List TableParts) → parts_of (xs ++ ys) ≡ parts_of xs ++ parts_of ys
parts_of-append [] ys = refl
parts_of-append (x ∷ xs) ys = ap (λ (l : List Part). x.parts ++ l) (parts_of-append xs ys) ∙ sym (append_assoc x.parts (parts_of xs) (parts_of ys))

module _ (tables : List TableParts) (i : ℕ) (t : TableParts) (lt : i < length tables) (at : t ≡ get_or tables i t) where
  tables_more : take (i + 1) tables ≡ take i tables ++ t ∷ []
  tables_more = take_more tables i t lt ∙ ap (λ (x : TableParts). take i tables ++ x ∷ []) (sym at)

  pub table_blocks_more : blocks_of (take (i + 1) tables) ≡ blocks_of (take i tables) ++ blocks_in t.parts
  table_blocks_more = ap blocks_of tables_more ∙ blocks_of-append (take i tables) (t ∷ []) ∙ ap (λ (l : List ℕ). blocks_of (take i tables) ++ l) (append-nil (blocks_in t.parts))

  pub table_parts_more : parts_of (take (i + 1) tables) ≡ parts_of (take i tables) ++ t.parts
  table_parts_more = ap parts_of tables_more ∙ parts_of-append (take i tables) (t ∷ []) ∙ ap (λ (l : List Part). parts_of (take i tables) ++ l) (append-nil t.parts)

  pub table_blocks_left : blocks_of (drop i tables) ≡ blocks_in t.parts ++ blocks_of (drop (i + 1) tables)
  table_blocks_left = ap blocks_of (drop_more tables i t lt ∙ ap (λ (x : TableParts). x ∷ drop (i + 1) tables) (sym at))

  pub table_list_step : (first old new : ℕ → Option Kept) (row : ℕ) → ListsAll first old row (parts_of (take i tables)) → ListsAll old new row t.parts → ListsAll first new row (parts_of (take (i + 1) tables))
  table_list_step first old new row h k = subst (λ (ps : List Part). ListsAll first new row ps) (sym table_parts_more) (lists_more first old new row (parts_of (take i tables)) t.parts h k)

  pub table_new_step : (old new : ℕ → Option Kept) (row : ℕ) → ListsAll old new row t.parts → length (new_in new (blocks_of (drop (i + 1) tables))) + length (new_in old (blocks_in t.parts)) ≤ length (new_in old (blocks_of (drop i tables)))
  table_new_step old new row h = subst (λ (bs : List ℕ). length (new_in new (blocks_of (drop (i + 1) tables))) + length (new_in old (blocks_in t.parts)) ≤ length (new_in old bs)) (sym table_blocks_left) (new_in_steps old new row t.parts (blocks_of (drop (i + 1) tables)) h)

  pub table_unlist_step : (first old new : ℕ → Option Kept) (row : ℕ) (before between after : List ℕ) → Unlists first old row (blocks_of (take i tables)) before between → Unlists old new row (blocks_in t.parts) between after → Unlists first new row (blocks_of (take (i + 1) tables)) before after
  table_unlist_step first old new row before between after h k = subst (λ (bs : List ℕ). Unlists first new row bs before after) (sym table_blocks_more) (unlists_more first old new row (blocks_of (take i tables)) (blocks_in t.parts) before between after h k)

-- what the new blocks of one more block take
one_new : (kept : ℕ → Option Kept) (b : ℕ) (c : Bool) → length (cond (not c) (b ∷ []) []) ≡ cond c 0 1
one_new kept b true = refl
one_new kept b false = refl

pub new_in_push : (kept : ℕ → Option Kept) (xs : List ℕ) (b : ℕ) → length (new_in kept (xs ++ b ∷ [])) ≡ length (new_in kept xs) + cond (is_some (kept b)) 0 1
new_in_push kept xs b = new_in-append kept xs (b ∷ []) ∙ ap (λ (n : ℕ). length (new_in kept xs) + n) (one_new kept b (is_some (kept b)))

pub listed_push : (kept : ℕ → Option Kept) (xs : List ℕ) (b : ℕ) → AreListed kept xs → ((k : Kept) → kept b ≡ Some k → list_any (λ row. row) k.rows ≡ true) → AreListed kept (xs ++ b ∷ [])
listed_push kept xs b h f = λ q k c e. elim (Contains-push_cases xs b q c) [
  | inl earlier ↦ h q k earlier e
  | inr same ↦ f k (ap kept same ∙ e)
]

pub listed_append : (kept : ℕ → Option Kept) (xs ys : List ℕ) → AreListed kept xs → AreListed kept ys → AreListed kept (xs ++ ys)
listed_append kept xs ys h f = λ q k c e. elim (Contains-append_cases xs ys q c) [
  | inl earlier ↦ h q k earlier e
  | inr later ↦ f q k later e
]

-- the greatest block
pub next_append : (n : ℕ) (xs ys : List ℕ) → next_after n (xs ++ ys) ≡ next_after (next_after n xs) ys
next_append n [] ys = refl
next_append n (x ∷ xs) ys = next_append (max n (x + 1)) xs ys

-- each block of the parts and of the tables to come
block_at : (parts : List Part) (i : ℕ) (d : Part) → i < length parts → get_or (blocks_in parts) i d.block ≡ (get_or parts i d).block
block_at [] i d lt = refl
block_at (p ∷ parts) zero d lt = refl
block_at (p ∷ parts) (suc i) d lt = block_at parts i d (omega (arith, lt))

pub small_part : (parts : List Part) (i : ℕ) (d : Part) → i < length parts → All (λ b. b + 1 < 2 ^ 64) (blocks_in parts) → (get_or parts i d).block + 1 < 2 ^ 64
small_part parts i d lt h =
    let within : i < length (blocks_in parts) = omega (arith, length-map parts (λ (x : Part). x.block)) in
    subst (λ (b : ℕ). b + 1 < 2 ^ 64) (block_at parts i d lt) (h i d.block within)

all_right : (P : ℕ → Type 0) (xs ys : List ℕ) → All P (xs ++ ys) → All P ys
all_right P [] ys h = h
all_right P (x ∷ xs) ys h = all_right P xs ys (All-tail P x (xs ++ ys) h)

all_left : (P : ℕ → Type 0) (xs ys : List ℕ) → All P (xs ++ ys) → All P xs
all_left P [] ys h = All-nil P
all_left P (x ∷ xs) ys h = All-cons P x xs (All-head P x (xs ++ ys) h) (all_left P xs ys (All-tail P x (xs ++ ys) h))

pub small_table : (tables : List TableParts) (i : ℕ) (t : TableParts) → i < length tables → t ≡ get_or tables i t → All (λ b. b + 1 < 2 ^ 64) (blocks_of tables) → All (λ b. b + 1 < 2 ^ 64) (blocks_in t.parts)
small_table [] i t lt at h = absurd (omega (arith, lt))
small_table (x ∷ tables) zero t lt at h = subst (λ (y : TableParts). All (λ b. b + 1 < 2 ^ 64) (blocks_in y.parts)) (sym at) (all_left (λ b. b + 1 < 2 ^ 64) (blocks_in x.parts) (blocks_of tables) h)
small_table (x ∷ tables) (suc i) t lt at h = small_table tables i t (omega (arith, lt)) at (all_right (λ b. b + 1 < 2 ^ 64) (blocks_in x.parts) (blocks_of tables) h)

-- what all blocks need, the blocks at one place need
module _ (parts : List Part) (i : ℕ) (d : Part) (lt : i < length parts) where
  abbrev block : ℕ
  block = (get_or parts i d).block

  parts_split : blocks_in parts ≡ blocks_in (take (i + 1) parts) ++ blocks_in (drop (i + 1) parts)
  parts_split = ap blocks_in (sym (take-append-drop (i + 1) parts)) ∙ map-append (λ (x : Part). x.block) (take (i + 1) parts) (drop (i + 1) parts)

  pub room_at : (kept : ℕ → Option Kept) → length (new_in kept (blocks_in (take i parts))) + cond (is_some (kept block)) 0 1 ≤ length (new_in kept (blocks_in parts))
  room_at kept =
      let all = ap (λ (bs : List ℕ). length (new_in kept bs)) parts_split ∙ new_in-append kept (blocks_in (take (i + 1) parts)) (blocks_in (drop (i + 1) parts)) in
      let one = ap (λ (bs : List ℕ). length (new_in kept bs)) (blocks_more parts i d lt) ∙ new_in_push kept (blocks_in (take i parts)) block in
      omega (arith, all, one)

  pub listed_at : (kept : ℕ → Option Kept) → AreListed kept (blocks_in parts) → AreListed kept (block ∷ [])
  listed_at kept h = λ b k c e. h b k (subst (λ (bs : List ℕ). Contains bs b) (sym parts_split) (Contains-append_left (blocks_in (take (i + 1) parts)) (blocks_in (drop (i + 1) parts)) b (subst (λ (bs : List ℕ). Contains bs b) (sym (blocks_more parts i d lt)) (Contains-append_right (blocks_in (take i parts)) (block ∷ []) b c)))) e

module _ (tables : List TableParts) (i : ℕ) (t : TableParts) (lt : i < length tables) (at : t ≡ get_or tables i t) where
  tables_split : blocks_of tables ≡ blocks_of (take (i + 1) tables) ++ blocks_of (drop (i + 1) tables)
  tables_split = ap blocks_of (sym (take-append-drop (i + 1) tables)) ∙ blocks_of-append (take (i + 1) tables) (drop (i + 1) tables)

  pub table_room_at : (kept : ℕ → Option Kept) → length (new_in kept (blocks_of (take i tables))) + length (new_in kept (blocks_in t.parts)) ≤ length (new_in kept (blocks_of tables))
  table_room_at kept =
      let all = ap (λ (bs : List ℕ). length (new_in kept bs)) tables_split ∙ new_in-append kept (blocks_of (take (i + 1) tables)) (blocks_of (drop (i + 1) tables)) in
      let one = ap (λ (bs : List ℕ). length (new_in kept bs)) (table_blocks_more tables i t lt at) ∙ new_in-append kept (blocks_of (take i tables)) (blocks_in t.parts) in
      omega (arith, all, one)

  pub table_listed_at : (kept : ℕ → Option Kept) → AreListed kept (blocks_of tables) → AreListed kept (blocks_in t.parts)
  table_listed_at kept h = λ b k c e. h b k (subst (λ (bs : List ℕ). Contains bs b) (sym tables_split) (Contains-append_left (blocks_of (take (i + 1) tables)) (blocks_of (drop (i + 1) tables)) b (subst (λ (bs : List ℕ). Contains bs b) (sym (table_blocks_more tables i t lt at)) (Contains-append_right (blocks_of (take i tables)) (blocks_in t.parts) b c)))) e
