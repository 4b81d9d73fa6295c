-- What the parts of a next version show of old blocks, which new ones they name, and the rows that go behind old ones.
use Rattle.std.proofs.Common.{◌≡◌, ◌⊎◌, inl, inr, ℕ, zero, suc, ◌+◌, ◌-◌, ◌<◌, ◌≤◌, max, false, leb, nat_eq, List, [], ◌∷◌, ◌++◌, Some, length, map, take, drop, get_or, refl, sym, ap, ap₂, ◌∙◌, arith, Contains, subst, slice_get, slice_range, append_assoc, length-append}
use Rattle.std.specs.List.{AllByRecursion, IsDistinct, filter}
use Rattle.std.proofs.lemmas.Bool.{cases_lt}
use Rattle.std.proofs.lemmas.List.{get_or-map, length-map, map-append, take-append-le, take_all}
use Rattle.std.proofs.lemmas.List.Elements.{All-contains, All-contains_itself, All-from_recursion, Contains-append_left, Contains-append_right, recursion_from_All}
use Rattle.qd_base.specs.declared.part.Part.{Part}
use Rattle.qd_base.specs.declared.schema.Col.{Col}
use Rattle.qd_base.specs.declared.schema.Schema.{Schema}
use Rattle.qd_base.specs.Database.{StoredTable}
use Rattle.qd_base.specs.Rows.{Row, time_of}
use Rattle.qd_base.proofs.Lists.{IsDistinct-append, IsDistinct-cons, IsDistinct-nil}
use Rattle.qd_time.specs.Units.{start_of, unit_of}
use Rattle.qd_block.specs.Blocks.{Block, kinds_in}
use Rattle.qd_manifest.specs.declared.shape.TableParts.{TableParts}
use Rattle.qd_manifest.specs.Spelling.{blocks_in, blocks_of, no_part}
use Rattle.qd_merge.specs.declared.plan.Act.{Act}
use Rattle.qd_merge.specs.declared.plan.Act.TheVariants as act
use Rattle.qd_merge.specs.declared.shares.Rules.{Rules}
use Rattle.qd_merge.specs.Acts.{before, between, new_part, part_end, partitions}
use Rattle.qd_merge.specs.Merged.{block_in}
use Rattle.qd_rows.specs.Sets.{no_block}
use Rattle.qd_apply.specs.Arrivals.{rest}
use Rattle.qd_apply.specs.Laws.{growth_block, parts_at, GoesOnFrom, IsGrowth}
use Rattle.qd_apply.specs.Next.{acts_of, all_grown, all_made, all_pieces, appended, batch_of, blocks_made, first_counts, first_parts, grown_from, growths, in_table, new_piece, no_piece, pieces_after, pieces_in, rules_of, shape_after, shortened, table_after, table_grown, table_made, times_in, written, Growth, Piece, TableGrowth}
use Rattle.qd_apply.specs.Waiting.{Waits}
use Rattle.qd_apply.proofs.ActLemmas.{growths_append, growths_gap}
use Rattle.qd_apply.proofs.EachLemmas.{each_append, each_front, each_map, each_then}
use Rattle.qd_apply.proofs.LeaveLemmas.{IsBatchOf}
use Rattle.qd_apply.proofs.NumberLemmas.{KeepUp}
use Rattle.qd_apply.proofs.PieceLemmas.{IsPiece}
use Rattle.qd_apply.proofs.RangeLemmas.{before_within}
use Rattle.qd_apply.proofs.ShapeLemmas.{acts_keep, first_pieces, first_up, pieces_numbers, shape_numbers, AreGrown, FirstGrows, IsOld}
use Rattle.qd_apply.proofs.ShareLemmas.{acts_last, acts_more, here_acts, on_share, walked_acts}
use Rattle.qd_apply.proofs.StayLemmas.{slice_count}
use Rattle.qd_apply.proofs.TableLemmas.{acts_are, batch_is, olds_of, Grows}

-- ---- lists

there_first : {X : Type 0} (x : X) (xs : List X) → Contains (x ∷ xs) x
there_first x xs = (0, omega arith, refl)

there_later : {X : Type 0} (y : X) (xs : List X) (x : X) → Contains xs x → Contains (y ∷ xs) x
there_later y xs x (k, low, is) = (suc k, omega (arith, low), is)

pub contains_mapped : {X Y : Type 0} (f : X → Y) (xs : List X) (x : X) → Contains xs x → Contains (map f xs) (f x)
contains_mapped f [] x (k, low, is) = absurd (omega (arith, low))
contains_mapped f (y ∷ xs) x (zero, low, is) = (0, omega arith, ap f is)
contains_mapped f (y ∷ xs) x (suc k, low, is) = there_later (f y) (map f xs) (f x) (contains_mapped f xs x (k, omega (arith, low), is))

-- what a mapped list has comes from a member
pub contains_map : {X Y : Type 0} (f : X → Y) (xs : List X) (y : Y) → Contains (map f xs) y → (x : X) × Contains xs x × (f x ≡ y)
contains_map f [] y (k, low, is) = absurd (omega (arith, low))
contains_map f (x ∷ xs) y (zero, low, is) = (x, there_first x xs, is)
contains_map f (x ∷ xs) y (suc k, low, is) = let later = contains_map f xs y (k, omega (arith, low), is) in (later.0, there_later x xs later.0 later.1, later.2)

-- ---- what a piece shows of an old block

-- An old piece shows a front of its block's rows, or has got some behind.
abbrev pub GoesOnIn : (ℕ → Block) → List Part → List Growth → ℕ → Piece → Type 0
GoesOnIn blocks ps grown bound x = x.part.block < bound
    → ((k : ℕ) × (x.block ≡ record (blocks x.part.block) { rows = take k (blocks x.part.block).rows }))
    ⊎ ((g : Growth) × Contains grown g × ((get_or ps g.part no_part).block ≡ x.part.block) × (x.block ≡ record (blocks x.part.block) { rows = (blocks x.part.block).rows ++ g.rows.rows }))

module _ (blocks : ℕ → Block) (ps : List Part) (s : Schema) (rows : List Row) where
  abbrev old : List Piece
  old = pieces_in blocks ps

  abbrev piece_of : Part → Piece
  piece_of p = record { part = p; block = blocks p.block }

  got : (n : ℕ) → n < length old → get_or old n no_piece ≡ piece_of (get_or ps n no_part)
  got n lt = get_or-map piece_of ps n no_part no_piece (omega (arith, lt, length-map ps piece_of))

  go_on : (all : List Growth) (bound from next : ℕ) (acts : List Act) → bound ≤ next → KeepUp (length old) from acts → ((g : Growth) → Contains (growths s rows acts) g → Contains all g)
      → AllByRecursion (GoesOnIn blocks ps all bound) (pieces_after s old rows next acts)
  go_on all bound from next [] le up have = tt
  go_on all bound from next (act.Keep n ∷ acts) le up have = (
    subst (GoesOnIn blocks ps all bound) (sym (got n up.1))
        (λ lt. let b : Block = blocks (get_or ps n no_part).block in inl (length b.rows, ap (λ (l : List Row). let c : Block = record b { rows = l } in c) (sym (take_all (length b.rows) b.rows (omega arith))))),
    go_on all bound (suc n) next acts le up.2 have,
  )
  go_on all bound from next (act.Append n i j ∷ acts) le up have =
      let g : Growth = record { part = n; rows = block_in s (slice_range rows i j) } in (
        subst (λ (y : Piece). GoesOnIn blocks ps all bound (record { part = record y.part { rows = y.part.rows + (j - i); hi = time_of s.time_col (get_or rows (j - 1) []) }; block = record y.block { rows = y.block.rows ++ slice_range rows i j } })) (sym (got n up.1))
            (λ lt. inr (g, have g (there_first g (growths s rows acts)), refl, refl)),
        go_on all bound (suc n) next acts le up.2 (λ h there. have h (there_later g (growths s rows acts) h there)),
      )
  go_on all bound from next (act.Shorten n k ∷ acts) le up have = (
    subst (λ (y : Piece). GoesOnIn blocks ps all bound (record { part = record y.part { rows = k; hi = time_of s.time_col (get_or y.block.rows (k - 1) []) }; block = record y.block { rows = take k y.block.rows } })) (sym (got n up.1))
        (λ lt. inl (k, refl)),
    go_on all bound (suc n) next acts le up.2 have,
  )
  go_on all bound from next (act.Write p skip i j ∷ acts) le up have = ((λ lt. absurd (omega (arith, lt, le))), go_on all bound from (suc next) acts (omega (arith, le)) up have)

-- the same of all tables
abbrev pub GoesOn : (ℕ → Block) → ℕ → List TableParts → List TableGrowth → Piece → Type 0
GoesOn blocks bound shape grown x = x.part.block < bound
    → ((k : ℕ) × (x.block ≡ record (blocks x.part.block) { rows = take k (blocks x.part.block).rows }))
    ⊎ ((g : TableGrowth) × Contains grown g × (growth_block shape g ≡ x.part.block) × (x.block ≡ record (blocks x.part.block) { rows = (blocks x.part.block).rows ++ g.rows.rows }))

pub parts_at_drop : (shape : List TableParts) (n : ℕ) → parts_at shape n ≡ first_parts (drop n shape)
parts_at_drop [] zero = refl
parts_at_drop [] (suc n) = refl
parts_at_drop (x ∷ xs) zero = refl
parts_at_drop (x ∷ xs) (suc n) = parts_at_drop xs n

pub counts_drop : (written : List (List ℕ)) (n : ℕ) → get_or written n [] ≡ first_counts (drop n written)
counts_drop [] zero = refl
counts_drop [] (suc n) = refl
counts_drop (x ∷ xs) zero = refl
counts_drop (x ∷ xs) (suc n) = counts_drop xs n

rest_list : {X : Type 0} (i : ℕ) (xs : List X) → rest (drop i xs) ≡ drop (i + 1) xs
rest_list i xs = let e : suc i ≡ i + 1 = omega arith in next i xs ∙ ap (λ (n : ℕ). drop n xs) e
  where
    next : {X : Type 0} (i : ℕ) (xs : List X) → rest (drop i xs) ≡ drop (suc i) xs
    next zero [] = refl
    next zero (x ∷ xs) = refl
    next (suc i) [] = refl
    next (suc i) (x ∷ xs) = next i xs

first_numbers : (P : ℕ → Type 0) (shape : List TableParts) → AllByRecursion P (blocks_of shape) → AllByRecursion P (blocks_in (first_parts shape))
first_numbers P [] h = tt
first_numbers P (x ∷ xs) h = each_front P (blocks_in x.parts) (blocks_of xs) h

module _ (blocks : ℕ → Block) (bound split : ℕ) (whole : List TableParts) (counted : List (List ℕ)) (all : List TableGrowth) where
  go_on_from : (n : ℕ) (shape : List TableParts) (wr : List (List ℕ)) (ts : List StoredTable) (next : ℕ) → shape ≡ drop n whole → wr ≡ drop n counted → bound ≤ next
      → ((g : TableGrowth) → Contains (grown_from n blocks wr split shape ts) g → Contains all g)
      → AllByRecursion (GoesOn blocks bound whole all) (all_pieces blocks next wr split shape ts)
  go_on_from n shape wr [] next at at' le have = tt
  go_on_from n shape wr (t ∷ ts) next at at' le have =
      let ps : List Part = first_parts shape in
      let counts : List ℕ = first_counts wr in
      let mine = table_made blocks counts split ps t in
      let here : List Growth = table_grown blocks counts split ps t in
      let later = grown_from (n + 1) blocks (rest wr) split (rest shape) ts in
      let parts_are : parts_at whole n ≡ ps = parts_at_drop whole n ∙ ap first_parts (sym at) in
      let lift : (x : Piece) → GoesOnIn blocks ps here bound x → GoesOn blocks bound whole all x =
      λ x is lt. lifted x n here (is lt) (λ g there. have (in_table n g) (Contains-append_left (map (in_table n) here) later (in_table n g) (contains_mapped (in_table n) here g there)))
      (λ g. ap (λ (l : List Part). (get_or l g.part no_part).block) parts_are) in
      each_append (GoesOn blocks bound whole all) (table_after blocks next counts split ps t) (all_pieces blocks (next + length mine) (rest wr) split (rest shape) ts)
      (each_then (GoesOnIn blocks ps here bound) (GoesOn blocks bound whole all) lift (table_after blocks next counts split ps t)
      (go_on blocks ps t.schema (batch_of t) here bound 0 next (acts_of blocks counts split ps t) le (acts_keep blocks counts split ps t) (λ g there. there)))
      (go_on_from (n + 1) (rest shape) (rest wr) ts (next + length mine) (ap rest at ∙ rest_list n whole) (ap rest at' ∙ rest_list n counted) (omega (arith, le))
      (λ g there. have g (Contains-append_right (map (in_table n) here) later g there)))
    where
      lifted : (x : Piece) (n : ℕ) (here : List Growth)
          → ((k : ℕ) × (x.block ≡ record (blocks x.part.block) { rows = take k (blocks x.part.block).rows }))
          ⊎ ((g : Growth) × Contains here g × ((get_or (first_parts shape) g.part no_part).block ≡ x.part.block) × (x.block ≡ record (blocks x.part.block) { rows = (blocks x.part.block).rows ++ g.rows.rows }))
          → ((g : Growth) → Contains here g → Contains all (in_table n g))
          → ((g : Growth) → growth_block whole (in_table n g) ≡ (get_or (first_parts shape) g.part no_part).block)
          → ((k : ℕ) × (x.block ≡ record (blocks x.part.block) { rows = take k (blocks x.part.block).rows }))
          ⊎ ((g : TableGrowth) × Contains all g × (growth_block whole g ≡ x.part.block) × (x.block ≡ record (blocks x.part.block) { rows = (blocks x.part.block).rows ++ g.rows.rows }))
      lifted x n here (inl h) have same = inl h
      lifted x n here (inr (g, there, number, is)) have same = inr (in_table n g, have g there, same g ∙ number, is)

pub all_go_on : (blocks : ℕ → Block) (bound split : ℕ) (shape : List TableParts) (wr : List (List ℕ)) (ts : List StoredTable) → AllByRecursion (λ (n : ℕ). n < bound) (blocks_of shape)
    → AllByRecursion (GoesOn blocks bound shape (all_grown blocks wr split shape ts)) (all_pieces blocks bound wr split shape ts)
all_go_on blocks bound split shape wr ts low = go_on_from blocks bound split shape wr (all_grown blocks wr split shape ts) 0 shape wr ts bound refl refl (omega arith) (λ g there. there)

-- what a piece shows is what its number shows
pub as_shown : (shape : List TableParts) (blocks : ℕ → Block) (grown : List TableGrowth) (new : ℕ → Block) (x : Piece) → new x.part.block ≡ x.block
    → ((k : ℕ) × (x.block ≡ record (blocks x.part.block) { rows = take k (blocks x.part.block).rows }))
    ⊎ ((g : TableGrowth) × Contains grown g × (growth_block shape g ≡ x.part.block) × (x.block ≡ record (blocks x.part.block) { rows = (blocks x.part.block).rows ++ g.rows.rows }))
    → GoesOnFrom shape blocks grown new x.part.block
as_shown shape blocks grown new x shows (inl (k, is)) = inl (k, shows ∙ is)
as_shown shape blocks grown new x shows (inr (g, there, number, is)) = inr (g, there, number, shows ∙ is)

-- ---- the new blocks

-- a piece has a number and a block
abbrev pub HasPiece : List Piece → ℕ → Block → Type 0
HasPiece xs n b = (x : Piece) × Contains xs x × (x.part.block ≡ n) × (x.block ≡ b)

has_later : (y : Piece) (xs : List Piece) (n : ℕ) (b : Block) → HasPiece xs n b → HasPiece (y ∷ xs) n b
has_later y xs n b (x, there, number, is) = (x, there_later y xs x there, number, is)

has_new : (s : Schema) (old : List Piece) (rows : List Row) (next : ℕ) (acts : List Act) (k : ℕ) → k < length (blocks_made s old rows acts) → HasPiece (pieces_after s old rows next acts) (next + k) (get_or (blocks_made s old rows acts) k no_block)
has_new s old rows next [] k lt = absurd (omega (arith, lt))
has_new s old rows next (act.Keep n ∷ acts) k lt = has_later (get_or old n no_piece) (pieces_after s old rows next acts) (next + k) (get_or (blocks_made s old rows acts) k no_block) (has_new s old rows next acts k lt)
has_new s old rows next (act.Append n i j ∷ acts) k lt = has_later (appended s old rows n i j) (pieces_after s old rows next acts) (next + k) (get_or (blocks_made s old rows acts) k no_block) (has_new s old rows next acts k lt)
has_new s old rows next (act.Shorten n m ∷ acts) k lt = has_later (shortened s old n m) (pieces_after s old rows next acts) (next + k) (get_or (blocks_made s old rows acts) k no_block) (has_new s old rows next acts k lt)
has_new s old rows next (act.Write p skip i j ∷ acts) zero lt =
    let x = new_piece s next (written s old rows p skip i j) in
    let e : next ≡ next + 0 = omega arith in
    (x, there_first x (pieces_after s old rows (suc next) acts), e, refl)
has_new s old rows next (act.Write p skip i j ∷ acts) (suc k) lt =
    let e : suc next + k ≡ next + suc k = omega arith in
    has_later (new_piece s next (written s old rows p skip i j)) (pieces_after s old rows (suc next) acts) (next + suc k) (get_or (blocks_made s old rows acts) k no_block)
    (subst (λ (n : ℕ). HasPiece (pieces_after s old rows (suc next) acts) n (get_or (blocks_made s old rows acts) k no_block)) e (has_new s old rows (suc next) acts k (omega (arith, lt))))

has_left : (xs ys : List Piece) (n : ℕ) (b : Block) → HasPiece xs n b → HasPiece (xs ++ ys) n b
has_left xs ys n b (x, there, number, is) = (x, Contains-append_left xs ys x there, number, is)

has_right : (xs ys : List Piece) (n : ℕ) (b : Block) → HasPiece ys n b → HasPiece (xs ++ ys) n b
has_right xs ys n b (x, there, number, is) = (x, Contains-append_right xs ys x there, number, is)

pub all_new : (blocks : ℕ → Block) (split : ℕ) (wr : List (List ℕ)) (shape : List TableParts) (ts : List StoredTable) (next k : ℕ) → k < length (all_made blocks wr split shape ts)
    → HasPiece (all_pieces blocks next wr split shape ts) (next + k) (get_or (all_made blocks wr split shape ts) k no_block)
all_new blocks split wr shape [] next k lt = absurd (omega (arith, lt))
all_new blocks split wr shape (t ∷ ts) next k lt =
    let ps : List Part = first_parts shape in
    let counts : List ℕ = first_counts wr in
    let mine = table_made blocks counts split ps t in
    let more = all_made blocks (rest wr) split (rest shape) ts in
    let after = table_after blocks next counts split ps t in
    let behind = all_pieces blocks (next + length mine) (rest wr) split (rest shape) ts in
    elim (cases_lt k (length mine)) [
      | inl here ↦
          subst (HasPiece (after ++ behind) (next + k)) (sym (Rattle.std.proofs.lemmas.List.get_or_append_left mine more no_block k here))
          (has_left after behind (next + k) (get_or mine k no_block) (has_new t.schema (pieces_in blocks ps) (batch_of t) next (acts_of blocks counts split ps t) k here))
      | inr far ↦
          (let i = k - length mine in
          let e : (next + length mine) + (k - length mine) ≡ next + k = omega (arith, far) in
          let there = all_new blocks split (rest wr) (rest shape) ts (next + length mine) (k - length mine) (omega (arith, lt, far, length-append mine more)) in
          subst (HasPiece (after ++ behind) (next + k)) (sym (Rattle.std.proofs.Math.Seq.get_or-append_right mine more k no_block far))
          (subst (λ (n : ℕ). HasPiece (after ++ behind) n (get_or more (k - length mine) no_block)) e (has_right after behind ((next + length mine) + (k - length mine)) (get_or more (k - length mine) no_block) there)))
    ]

-- ---- and the old ones

pub old_numbers : (blocks : ℕ → Block) (wr : List (List ℕ)) (split : ℕ) (shape : List TableParts) (ts : List StoredTable) (next n : ℕ) → Contains (blocks_of (shape_after blocks next wr split shape ts)) n → n < next → Contains (blocks_of shape) n
old_numbers blocks wr split shape ts next n there =
    let P : ℕ → Type 0 = λ m. m < next → Contains (blocks_of shape) m in
    let before : AllByRecursion P (blocks_of shape) = each_then (Contains (blocks_of shape)) P (λ m is low. is) (blocks_of shape) (recursion_from_All (Contains (blocks_of shape)) (blocks_of shape) (All-contains_itself (blocks_of shape))) in
    let each : AllByRecursion P (blocks_of (shape_after blocks next wr split shape ts)) = shape_numbers P blocks wr split shape ts next before (λ m ge lt low. absurd (omega (arith, ge, low))) in
    All-contains P (blocks_of (shape_after blocks next wr split shape ts)) n (All-from_recursion P (blocks_of (shape_after blocks next wr split shape ts)) each) there

-- ---- rows that go behind

-- what is known of rows that go behind those of a part of a table
pub record GoesInto (counts : List ℕ) (s : Schema) (ps : List Part) (g : Growth) : Type 0 where
  pub there : g.part < length ps
  pub all : (get_or ps g.part no_part).rows ≡ get_or counts g.part 0
  pub full : (get_or ps g.part no_part).cols ≡ length s.cols
  pub kinds : g.rows.kinds ≡ kinds_in s.cols
  pub time_col : g.rows.time_col ≡ s.time_col
  pub some : 0 < length g.rows.rows

module _ (s : Schema) (rows : List Row) (split : ℕ) (counts : List ℕ) (olds : ℕ → List ℕ) (all : List Part) where
  abbrev r : Rules
  r = rules_of split s

  abbrev times : List ℕ
  times = times_in s rows

  go_into : (ps front : List Part) (done n : ℕ) → all ≡ front ++ ps → n ≡ length front → AllByRecursion (GoesInto counts s all) (growths s rows (walked_acts r counts olds times done n ps))
  go_into [] front done n is at =
      subst (λ (l : List Act). AllByRecursion (GoesInto counts s all) (growths s rows l)) (sym (acts_last r counts olds times done n))
      (subst (AllByRecursion (GoesInto counts s all)) (sym (growths_gap s rows (unit_of s.unit) times (partitions (unit_of s.unit) (filter (λ t. leb done t) times)))) tt)
  go_into (p ∷ ps) front done n is at =
      let u = unit_of s.unit in
      let from = max done (start_of u p.lo) in
      let to = part_end u p ps in
      let gap = map (new_part u times) (partitions u (between done from times)) in
      let i = before from times in
      let j = before to times in
      let here = here_acts r counts olds times n p i j in
      let later = walked_acts r counts olds times to (suc n) ps in
      let P : Growth → Type 0 = GoesInto counts s all in
      let within : j ≤ length rows = omega (arith, before_within to times, length-map rows (time_of s.time_col)) in
      let there : get_or all n no_part ≡ p = ap (λ (l : List Part). get_or l n no_part) is ∙ ap (λ (m : ℕ). get_or (front ++ p ∷ ps) m no_part) at ∙ Rattle.std.proofs.Math.Seq.get_or-append_seam front p ps no_part in
      let known : n < length all = omega (arith, at, ap length is, length-append front (p ∷ ps)) in
      let mine : AllByRecursion P (growths s rows here) =
      on_share r olds times n p (get_or counts n 0) i j (λ l. AllByRecursion P (growths s rows l))
      (λ none. tt)
      (λ some app. (
        record {
          there = known;
          all = ap (λ (q : Part). q.rows) there ∙ app.all;
          full = ap (λ (q : Part). q.cols) there ∙ app.full;
          kinds = refl;
          time_col = refl;
          some = (let e = slice_count rows i j within in omega (arith, e, some));
        },
        tt,
      ))
      (λ some front_some whole. tt) (λ some front_some. tt) (λ some. tt) in
      let rest_of = go_into ps (front ++ p ∷ []) to (suc n) (is ∙ sym (append_assoc front (p ∷ []) ps)) (omega (arith, at, length-append front (p ∷ []))) in
      subst (λ (l : List Act). AllByRecursion P (growths s rows l)) (sym (acts_more r counts olds times done n p ps))
      (subst (AllByRecursion P) (sym (growths_append s rows gap (here ++ later) ∙ ap₂ (λ (a b : List Growth). a ++ b) (growths_gap s rows u times (partitions u (between done from times))) (growths_append s rows here later)))
      (each_append P (growths s rows here) (growths s rows later) mine rest_of))

table_into : (blocks : ℕ → Block) (counts : List ℕ) (split : ℕ) (ps : List Part) (t : StoredTable) → IsBatchOf t.schema (batch_of t) → AllByRecursion (IsPiece t.schema) (pieces_in blocks ps) → Rattle.qd_apply.proofs.ShareLemmas.AreAscending (pieces_in blocks ps)
    → AllByRecursion (GoesInto counts t.schema ps) (table_grown blocks counts split ps t)
table_into blocks counts split ps t batch each up =
    subst (λ (l : List Act). AllByRecursion (GoesInto counts t.schema ps) (growths t.schema (batch_of t) l)) (sym (acts_are blocks counts split ps t batch each up))
    (go_into t.schema (batch_of t) split counts (olds_of t.schema blocks ps) ps ps [] 0 0 refl refl)

-- the table of a number
got_table : (whole : List TableParts) (n : ℕ) (x : TableParts) (xs : List TableParts) → x ∷ xs ≡ drop n whole → slice_get whole n ≡ Some x
got_table [] zero x xs e = absurd (cc (e))
got_table [] (suc n) x xs e = absurd (cc (e))
got_table (y ∷ ys) zero x xs e = (let first : x ≡ y = cc in ap Some (sym first))
got_table (y ∷ ys) (suc n) x xs e = got_table ys n x xs e

got_part : (ps : List Part) (n : ℕ) → n < length ps → slice_get ps n ≡ Some (get_or ps n no_part)
got_part [] n lt = absurd (omega (arith, lt))
got_part (p ∷ ps) zero lt = refl
got_part (p ∷ ps) (suc n) lt = got_part ps n (omega (arith, lt))

-- the kinds of all columns are those of a part's that has as many
kinds_old : (old new : Schema) (cols : ℕ) → Grows old new → cols ≡ length new.cols → cols ≤ length old.cols → kinds_in new.cols ≡ take cols (kinds_in old.cols)
kinds_old old new cols g full few =
    let cols_are : new.cols ≡ old.cols ++ g.more = ap (λ (x : Schema). x.cols) g.is in
    let both : kinds_in new.cols ≡ kinds_in old.cols ++ kinds_in g.more = ap kinds_in cols_are ∙ map-append (λ (c : Col). c.kind) old.cols g.more in
    let count : length (kinds_in new.cols) ≡ length new.cols = length-map new.cols (λ (c : Col). c.kind) in
    let count_old : length (kinds_in old.cols) ≡ length old.cols = length-map old.cols (λ (c : Col). c.kind) in
    sym (take_all cols (kinds_in new.cols) (omega (arith, full, count)))
    ∙ ap (take cols) both
    ∙ take-append-le cols (kinds_in old.cols) (kinds_in g.more) (omega (arith, few, count_old))

module _ (blocks : ℕ → Block) (split : ℕ) (whole : List TableParts) (counted : List (List ℕ)) where
  is_growth : (n : ℕ) (shape : List TableParts) (wr : List (List ℕ)) (t : StoredTable) (g : Growth) → shape ≡ drop n whole → wr ≡ drop n counted → AllByRecursion (IsOld blocks) shape → FirstGrows shape t
      → GoesInto (first_counts wr) t.schema (first_parts shape) g → IsGrowth whole counted (in_table n g)
  is_growth n [] wr t g at at' old grows is = let lt = is.there in absurd (omega (arith, lt))
  is_growth n (x ∷ xs) wr t g at at' old grows is =
      let p : Part = get_or x.parts g.part no_part in
      let piece = All-from_recursion (IsPiece x.schema) (pieces_in blocks x.parts) old.0.each g.part no_piece (let lt = is.there in omega (arith, lt, length-map x.parts (λ (q : Part). let y : Piece = record { part = q; block = blocks q.block } in y))) in
      let its : IsPiece x.schema (record { part = p; block = blocks p.block }) = subst (IsPiece x.schema) (get_or-map (λ (q : Part). let y : Piece = record { part = q; block = blocks q.block } in y) x.parts g.part no_part no_piece is.there) piece in
      record {
        table = x;
        part = p;
        its_table = got_table whole n x xs at;
        its_part = got_part x.parts g.part is.there;
        all = is.all ∙ ap (λ (l : List ℕ). get_or l g.part 0) (ap first_counts at' ∙ sym (counts_drop counted n));
        kinds = is.kinds ∙ kinds_old x.schema t.schema p.cols grows is.full its.columns;
        time_col = is.time_col ∙ ap (λ (y : Schema). y.time_col) grows.is;
        some = is.some;
      }

  growths_from : (n : ℕ) (shape : List TableParts) (wr : List (List ℕ)) (ts : List StoredTable) → shape ≡ drop n whole → wr ≡ drop n counted → AllByRecursion (IsOld blocks) shape → AreGrown shape ts → AllByRecursion Waits ts
      → AllByRecursion (IsGrowth whole counted) (grown_from n blocks wr split shape ts)
  growths_from n shape wr [] at at' old grown waits = tt
  growths_from n shape wr (t ∷ ts) at at' old grown waits =
      let ps : List Part = first_parts shape in
      let counts : List ℕ = first_counts wr in
      let here : List Growth = table_grown blocks counts split ps t in
      let into = table_into blocks counts split ps t (batch_is t waits.0.schema waits.0.fit) (first_pieces blocks shape t old grown.0) (first_up blocks shape old) in
      each_append (IsGrowth whole counted) (map (in_table n) here) (grown_from (n + 1) blocks (rest wr) split (rest shape) ts)
      (each_map (IsGrowth whole counted) (in_table n) here (each_then (GoesInto counts t.schema ps) (λ (g : Growth). IsGrowth whole counted (in_table n g)) (λ g is. is_growth n shape wr t g at at' old grown.0 is) here into))
      (growths_from (n + 1) (rest shape) (rest wr) ts (ap rest at ∙ rest_list n whole) (ap rest at' ∙ rest_list n counted) (rest_old shape old) grown.1 waits.1)
    where
      rest_old : (xs : List TableParts) → AllByRecursion (IsOld blocks) xs → AllByRecursion (IsOld blocks) (rest xs)
      rest_old [] h = tt
      rest_old (y ∷ ys) h = h.1

pub all_growths : (blocks : ℕ → Block) (split : ℕ) (shape : List TableParts) (wr : List (List ℕ)) (ts : List StoredTable) → AllByRecursion (IsOld blocks) shape → AreGrown shape ts → AllByRecursion Waits ts
    → AllByRecursion (IsGrowth shape wr) (all_grown blocks wr split shape ts)
all_growths blocks split shape wr ts old grown waits = growths_from blocks split shape wr 0 shape wr ts refl refl old grown waits

-- ---- no block gets rows twice

-- the numbers of the blocks of a table that get rows
abbrev into_of : List Part → Growth → ℕ
into_of ps g = (get_or ps g.part no_part).block

module _ (s : Schema) (rows : List Row) (ps : List Part) where
  into_each : (Q : ℕ → Type 0) (from : ℕ) (acts : List Act) → KeepUp (length ps) from acts → ((i : ℕ) → from ≤ i → i < length ps → Q (get_or ps i no_part).block) → AllByRecursion Q (map (into_of ps) (growths s rows acts))
  into_each Q from [] up h = tt
  into_each Q from (act.Keep n ∷ acts) up h = into_each Q (suc n) acts up.2 (λ i ge lt. h i (omega (arith, up.0, ge)) lt)
  into_each Q from (act.Append n a b ∷ acts) up h = (h n up.0 up.1, into_each Q (suc n) acts up.2 (λ i ge lt. h i (omega (arith, up.0, ge)) lt))
  into_each Q from (act.Shorten n m ∷ acts) up h = into_each Q (suc n) acts up.2 (λ i ge lt. h i (omega (arith, up.0, ge)) lt)
  into_each Q from (act.Write p skip a b ∷ acts) up h = into_each Q from acts up h

  into_apart : (from : ℕ) (acts : List Act) → KeepUp (length ps) from acts → ((i j : ℕ) → i < j → j < length ps → nat_eq (get_or ps i no_part).block (get_or ps j no_part).block ≡ false) → IsDistinct nat_eq (map (into_of ps) (growths s rows acts))
  into_apart from [] up apart = IsDistinct-nil nat_eq
  into_apart from (act.Keep n ∷ acts) up apart = into_apart (suc n) acts up.2 apart
  into_apart from (act.Append n a b ∷ acts) up apart =
      IsDistinct-cons nat_eq (get_or ps n no_part).block (map (into_of ps) (growths s rows acts))
      (into_each (λ m. nat_eq (get_or ps n no_part).block m ≡ false) (suc n) acts up.2 (λ i ge lt. apart n i (omega (arith, ge)) lt))
      (into_apart (suc n) acts up.2 apart)
  into_apart from (act.Shorten n m ∷ acts) up apart = into_apart (suc n) acts up.2 apart
  into_apart from (act.Write p skip a b ∷ acts) up apart = into_apart from acts up apart

parts_apart : (ps : List Part) → IsDistinct nat_eq (blocks_in ps) → (i j : ℕ) → i < j → j < length ps → nat_eq (get_or ps i no_part).block (get_or ps j no_part).block ≡ false
unfolding IsDistinct
parts_apart [] d i j lt within = absurd (omega (arith, lt, within))
parts_apart (p ∷ ps) d i zero lt within = absurd (omega (arith, lt))
parts_apart (p ∷ ps) d zero (suc j) lt within = All-from_recursion (λ (q : Part). nat_eq p.block q.block ≡ false) ps (unmap (λ (n : ℕ). nat_eq p.block n ≡ false) ps d.0) j no_part (omega (arith, within))
  where
    unmap : (P : ℕ → Type 0) (qs : List Part) → AllByRecursion P (blocks_in qs) → AllByRecursion (λ (q : Part). P q.block) qs
    unmap P [] h = tt
    unmap P (q ∷ qs) h = (h.0, unmap P qs h.1)
parts_apart (p ∷ ps) d (suc i) (suc j) lt within = parts_apart ps d.1 i j (omega (arith, lt)) (omega (arith, within))

-- a map over a map
block_map : (whole : List TableParts) (n : ℕ) (ps : List Part) (gs : List Growth) → parts_at whole n ≡ ps → map (growth_block whole) (map (in_table n) gs) ≡ map (into_of ps) gs
block_map whole n ps [] e = refl
block_map whole n ps (g ∷ gs) e = ap₂ (λ (b : ℕ) (l : List ℕ). b ∷ l) (ap (λ (l : List Part). (get_or l g.part no_part).block) e) (block_map whole n ps gs e)

module _ (blocks : ℕ → Block) (split : ℕ) (whole : List TableParts) where
  parts_keep : (counts : List ℕ) (ps : List Part) (t : StoredTable) → KeepUp (length ps) 0 (acts_of blocks counts split ps t)
  parts_keep counts ps t = subst (λ (n : ℕ). KeepUp n 0 (acts_of blocks counts split ps t)) (length-map ps (λ (p : Part). let x : Piece = record { part = p; block = blocks p.block } in x)) (acts_keep blocks counts split ps t)

  numbers_at : (Q : ℕ → Type 0) (ps : List Part) → AllByRecursion Q (blocks_in ps) → (i : ℕ) → i < length ps → Q (get_or ps i no_part).block
  numbers_at Q [] h i lt = absurd (omega (arith, lt))
  numbers_at Q (p ∷ ps) h zero lt = h.0
  numbers_at Q (p ∷ ps) h (suc i) lt = numbers_at Q ps h.1 i (omega (arith, lt))

  -- what holds of the numbers of blocks that tables name holds of those that get rows
  rest_into : (Q : ℕ → Type 0) (n : ℕ) (shape : List TableParts) (wr : List (List ℕ)) (ts : List StoredTable) → shape ≡ drop n whole → AllByRecursion Q (blocks_of shape) → AllByRecursion Q (map (growth_block whole) (grown_from n blocks wr split shape ts))
  rest_into Q n shape wr [] at h = tt
  rest_into Q n shape wr (t ∷ ts) at h =
      let ps : List Part = first_parts shape in
      let here : List Growth = table_grown blocks (first_counts wr) split ps t in
      let later = grown_from (n + 1) blocks (rest wr) split (rest shape) ts in
      let parts_are : parts_at whole n ≡ ps = parts_at_drop whole n ∙ ap first_parts (sym at) in
      subst (AllByRecursion Q) (sym (map-append (growth_block whole) (map (in_table n) here) later))
      (each_append Q (map (growth_block whole) (map (in_table n) here)) (map (growth_block whole) later)
      (subst (AllByRecursion Q) (sym (block_map whole n ps here parts_are)) (into_each t.schema (batch_of t) ps Q 0 (acts_of blocks (first_counts wr) split ps t) (parts_keep (first_counts wr) ps t) (λ i ge lt. numbers_at Q ps (first_numbers Q shape h) i lt)))
      (rest_into Q (n + 1) (rest shape) (rest wr) ts (ap rest at ∙ rest_list n whole) (rest_numbers shape h)))
    where
      rest_numbers : (xs : List TableParts) → AllByRecursion Q (blocks_of xs) → AllByRecursion Q (blocks_of (rest xs))
      rest_numbers [] k = tt
      rest_numbers (x ∷ xs) k = Rattle.qd_apply.proofs.EachLemmas.each_back Q (blocks_in x.parts) (blocks_of xs) k

  apart_from : (n : ℕ) (shape : List TableParts) (wr : List (List ℕ)) (ts : List StoredTable) → shape ≡ drop n whole → IsDistinct nat_eq (blocks_of shape) → IsDistinct nat_eq (map (growth_block whole) (grown_from n blocks wr split shape ts))
  apart_from n shape wr [] at d = IsDistinct-nil nat_eq
  apart_from n shape wr (t ∷ ts) at d =
      let ps : List Part = first_parts shape in
      let acts = acts_of blocks (first_counts wr) split ps t in
      let here : List Growth = table_grown blocks (first_counts wr) split ps t in
      let later = grown_from (n + 1) blocks (rest wr) split (rest shape) ts in
      let parts_are : parts_at whole n ≡ ps = parts_at_drop whole n ∙ ap first_parts (sym at) in
      let next_at : rest shape ≡ drop (n + 1) whole = ap rest at ∙ rest_list n whole in
      let behind : List ℕ = map (growth_block whole) later in
      let Q : ℕ → Type 0 = λ x. AllByRecursion (λ (y : ℕ). nat_eq x y ≡ false) behind in
      let across = each_then (λ (x : ℕ). AllByRecursion (λ (y : ℕ). nat_eq x y ≡ false) (blocks_of (rest shape))) Q
      (λ x h. rest_into (λ (y : ℕ). nat_eq x y ≡ false) (n + 1) (rest shape) (rest wr) ts next_at h) (blocks_in ps) (Rattle.qd_apply.proofs.ShapeLemmas.across shape d) in
      subst (IsDistinct nat_eq) (sym (map-append (growth_block whole) (map (in_table n) here) later ∙ ap (λ (l : List ℕ). l ++ behind) (block_map whole n ps here parts_are)))
      (IsDistinct-append nat_eq (map (into_of ps) here) behind
      (into_apart t.schema (batch_of t) ps 0 acts (parts_keep (first_counts wr) ps t) (parts_apart ps (Rattle.qd_apply.proofs.ShapeLemmas.first_distinct shape d)))
      (apart_from (n + 1) (rest shape) (rest wr) ts next_at (Rattle.qd_apply.proofs.ShapeLemmas.rest_distinct shape d))
      (into_each t.schema (batch_of t) ps Q 0 acts (parts_keep (first_counts wr) ps t) (λ i ge lt. numbers_at Q ps across i lt)))

pub growths_apart : (blocks : ℕ → Block) (split : ℕ) (shape : List TableParts) (wr : List (List ℕ)) (ts : List StoredTable) → IsDistinct nat_eq (blocks_of shape) → IsDistinct nat_eq (map (growth_block shape) (all_grown blocks wr split shape ts))
growths_apart blocks split shape wr ts d = apart_from blocks split shape 0 shape wr ts refl d
