-- All tables of the next version.
use Rattle.std.proofs.Common.{◌≡◌, ℕ, zero, suc, ◌+◌, ◌^◌, ◌<◌, ◌≤◌, Bool, true, false, cond, eqb, nat_eq, List, [], ◌∷◌, ◌++◌, length, map, get_or, refl, sym, ap, ap₂, ◌∙◌, arith, subst, length-append}
use Rattle.std.specs.List.{AllByRecursion, IsDistinct, fold}
use Rattle.std.proofs.lemmas.Bool.{eq-eqb, ne_eqb}
use Rattle.std.proofs.lemmas.List.{length-map, map-append}
use Rattle.std.proofs.lemmas.List.Elements.{All-from_recursion}
use Rattle.qd_base.specs.declared.limits.TheConstants.{MAX_TIME}
use Rattle.qd_base.specs.declared.part.Part.{Part}
use Rattle.qd_base.specs.Database.{Database, StoredTable}
use Rattle.qd_base.specs.Rows.{Row, put}
use Rattle.qd_base.proofs.Lists.{IsDistinct-append, IsDistinct-nil}
use Rattle.qd_block.specs.Blocks.{Block}
use Rattle.qd_manifest.specs.declared.shape.TableParts.{TableParts}
use Rattle.qd_manifest.specs.Spelling.{blocks_in, blocks_of}
use Rattle.qd_merge.proofs.Wide.{map-map}
use Rattle.qd_apply.specs.Arrivals.{all_settled, first_rows, rest, settled, wide}
use Rattle.qd_apply.specs.Next.{acts_of, all_made, all_pieces, batch_of, blocks_shown, first_counts, first_parts, no_piece, pieces_in, rules_of, shape_after, table_after, table_made, times_in, Piece}
use Rattle.qd_apply.specs.Stands.{rows_in_parts}
use Rattle.qd_apply.specs.Waiting.{Waits}
use Rattle.qd_apply.proofs.EachLemmas.{each_append, each_back, each_front, each_map, each_then}
use Rattle.qd_apply.proofs.NumberLemmas.{keep_up, numbers_apart, spread_numbers, KeepUp}
use Rattle.qd_apply.proofs.PieceLemmas.{IsPiece}
use Rattle.qd_apply.proofs.ShareLemmas.{AreAscending}
use Rattle.qd_apply.proofs.TableLemmas.{joined_grown, olds_of, pieces_grow, rows_of_pieces, table_leaves, table_stands, Grows, TableStands}

-- ---- the tables of a version

-- the database that parts come to
abbrev pub shown : (ℕ → Block) → List TableParts → Database
shown blocks shape = map (λ (t : TableParts). let x : StoredTable = record { schema = t.schema; rows = rows_in_parts t.schema.cols blocks t.parts } in x) shape

-- a table of a version, with its blocks
pub record IsOld (blocks : ℕ → Block) (t : TableParts) : Type 0 where
  pub each : AllByRecursion (IsPiece t.schema) (pieces_in blocks t.parts)
  pub up : AreAscending (pieces_in blocks t.parts)

abbrev pub FirstGrows : List TableParts → StoredTable → Type 0
FirstGrows [] t = Unit {0}
FirstGrows (x ∷ xs) t = Grows x.schema t.schema

-- the tables that are there, with new columns, and new ones behind
abbrev pub AreGrown : List TableParts → List StoredTable → Type 0
AreGrown shape [] = shape ≡ []
AreGrown shape (t ∷ ts) = FirstGrows shape t × AreGrown (rest shape) ts

each_rest : (P : TableParts → Type 0) (shape : List TableParts) → AllByRecursion P shape → AllByRecursion P (rest shape)
each_rest P [] h = tt
each_rest P (x ∷ xs) h = h.1

pub first_pieces : (blocks : ℕ → Block) (shape : List TableParts) (t : StoredTable) → AllByRecursion (IsOld blocks) shape → FirstGrows shape t → AllByRecursion (IsPiece t.schema) (pieces_in blocks (first_parts shape))
first_pieces blocks [] t old grows = tt
first_pieces blocks (x ∷ xs) t old grows = pieces_grow x.schema t.schema (pieces_in blocks x.parts) grows old.0.each

pub first_up : (blocks : ℕ → Block) (shape : List TableParts) → AllByRecursion (IsOld blocks) shape → AreAscending (pieces_in blocks (first_parts shape))
first_up blocks [] old = tt
first_up blocks (x ∷ xs) old = old.0.up

first_wide : (blocks : ℕ → Block) (shape : List TableParts) (t : StoredTable) → AllByRecursion (IsOld blocks) shape → FirstGrows shape t → map (wide t.schema.cols) (first_rows (shown blocks shape)) ≡ rows_in_parts t.schema.cols blocks (first_parts shape)
first_wide blocks [] t old grows = refl
first_wide blocks (x ∷ xs) t old grows =
    ap (map (wide t.schema.cols)) (sym (rows_of_pieces x.schema blocks x.parts))
    ∙ joined_grown x.schema t.schema (pieces_in blocks x.parts) grows old.0.each
    ∙ rows_of_pieces t.schema blocks x.parts

rest_shown : (blocks : ℕ → Block) (shape : List TableParts) → rest (shown blocks shape) ≡ shown blocks (rest shape)
rest_shown blocks [] = refl
rest_shown blocks (x ∷ xs) = refl

-- ---- a block by its number

-- where no two pieces have one number, each one's block is the one that is shown by its number
pub pieces_shown : (blocks : ℕ → Block) (xs : List Piece) → IsDistinct nat_eq (map (λ (x : Piece). x.part.block) xs) → AllByRecursion (λ (x : Piece). blocks_shown blocks xs x.part.block ≡ x.block) xs
unfolding IsDistinct
pieces_shown blocks [] d = tt
pieces_shown blocks (x ∷ xs) d =
    let n : ℕ = x.part.block in
    let here : nat_eq n n ≡ true = eq-eqb n n refl in
    let apart : AllByRecursion (λ (y : Piece). nat_eq n y.part.block ≡ false) xs = each_unmap (λ (m : ℕ). nat_eq n m ≡ false) xs d.0 in
    let later = Rattle.qd_apply.proofs.EachLemmas.each_both (λ (y : Piece). nat_eq n y.part.block ≡ false) (λ (y : Piece). blocks_shown blocks xs y.part.block ≡ y.block) xs apart (pieces_shown blocks xs d.1) in (
      ap (λ (b : Bool). cond b x.block (blocks_shown blocks xs n)) here,
      each_then (λ (y : Piece). (nat_eq n y.part.block ≡ false) × (blocks_shown blocks xs y.part.block ≡ y.block)) (λ (y : Piece). cond (nat_eq n y.part.block) x.block (blocks_shown blocks xs y.part.block) ≡ y.block)
          (λ y h. ap (λ (b : Bool). cond b x.block (blocks_shown blocks xs y.part.block)) h.0 ∙ h.1) xs later,
    )
  where
    each_unmap : (P : ℕ → Type 0) (ys : List Piece) → AllByRecursion P (map (λ (y : Piece). y.part.block) ys) → AllByRecursion (λ (y : Piece). P y.part.block) ys
    each_unmap P [] h = tt
    each_unmap P (y ∷ ys) h = (h.0, each_unmap P ys h.1)

pieces_count : (blocks : ℕ → Block) (ps : List Part) → length (pieces_in blocks ps) ≡ length ps
pieces_count blocks ps = length-map ps (λ (p : Part). let x : Piece = record { part = p; block = blocks p.block } in x)

pieces_each : (Q : Piece → Type 0) (blocks : ℕ → Block) (ps : List Part) → AllByRecursion (λ (p : Part). Q (record { part = p; block = blocks p.block })) ps → AllByRecursion Q (pieces_in blocks ps)
pieces_each Q blocks [] h = tt
pieces_each Q blocks (p ∷ ps) h = (h.0, pieces_each Q blocks ps h.1)

pub acts_keep : (blocks : ℕ → Block) (counts : List ℕ) (split : ℕ) (ps : List Part) (t : StoredTable) → KeepUp (length (pieces_in blocks ps)) 0 (acts_of blocks counts split ps t)
acts_keep blocks counts split ps t =
    keep_up (rules_of split t.schema) counts (olds_of t.schema blocks ps) (length (pieces_in blocks ps)) (times_in t.schema (batch_of t)) ps (omega (arith, pieces_count blocks ps))

numbers_each : (Q : ℕ → Type 0) (ps : List Part) → AllByRecursion Q (blocks_in ps) → AllByRecursion (λ (p : Part). Q p.block) ps
numbers_each Q [] h = tt
numbers_each Q (p ∷ ps) h = (h.0, numbers_each Q ps h.1)

-- ---- tables that stand for tables

abbrev pub StandAll : (ℕ → Block) → List TableParts → Database → Type 0
StandAll blocks [] [] = Unit {0}
StandAll blocks [] (t ∷ ts) = ⊥
StandAll blocks (x ∷ xs) [] = ⊥
StandAll blocks (x ∷ xs) (t ∷ ts) = (x.schema ≡ t.schema) × TableStands blocks x.schema x.parts t.rows × StandAll blocks xs ts

first_numbers : (P : ℕ → Type 0) (shape : List TableParts) → AllByRecursion P (blocks_of shape) → AllByRecursion P (blocks_in (first_parts shape))
first_numbers P [] h = tt
first_numbers P (x ∷ xs) h = each_front P (blocks_in x.parts) (blocks_of xs) h

rest_numbers : (P : ℕ → Type 0) (shape : List TableParts) → AllByRecursion P (blocks_of shape) → AllByRecursion P (blocks_of (rest shape))
rest_numbers P [] h = tt
rest_numbers P (x ∷ xs) h = each_back P (blocks_in x.parts) (blocks_of xs) h

pub shape_stands : (blocks new : ℕ → Block) (split : ℕ) (written : List (List ℕ)) (shape : List TableParts) (ts : List StoredTable) (next : ℕ) → AllByRecursion (IsOld blocks) shape → AreGrown shape ts → AllByRecursion Waits ts
    → AllByRecursion (λ (x : Piece). new x.part.block ≡ x.block) (all_pieces blocks next written split shape ts)
    → AllByRecursion (λ (t : StoredTable). length t.rows < 2 ^ 64) (all_settled (shown blocks shape) ts)
    → StandAll new (shape_after blocks next written split shape ts) (all_settled (shown blocks shape) ts)
shape_stands blocks new split written shape [] next old grown waits named few = tt
shape_stands blocks new split written shape (t ∷ ts) next old grown waits named few =
    let ps : List Part = first_parts shape in
    let counts : List ℕ = first_counts written in
    let mine = table_made blocks counts split ps t in
    let after = table_after blocks next counts split ps t in
    let f = put t.schema.time_col t.schema.keys in
    let Q : Piece → Type 0 = λ x. new x.part.block ≡ x.block in
    let more = all_pieces blocks (next + length mine) (rest written) split (rest shape) ts in
    let rows_are : fold f (rows_in_parts t.schema.cols blocks ps) t.rows ≡ (settled (first_rows (shown blocks shape)) t).rows = ap (λ (l : List Row). fold f l t.rows) (sym (first_wide blocks shape t old grown.0)) in
    let leaves = table_leaves blocks next counts split ps t waits.0.schema waits.0.fit (first_pieces blocks shape t old grown.0) (first_up blocks shape old) in
    let count : length (fold f (rows_in_parts t.schema.cols blocks ps) t.rows) < 2 ^ 64 = subst (λ (l : List Row). length l < 2 ^ 64) (sym rows_are) few.0 in
    let stands = table_stands t.schema new after (MAX_TIME + 1) (fold f (rows_in_parts t.schema.cols blocks ps) t.rows) leaves (each_front Q after more named) count in
    let rest_few : AllByRecursion (λ (x : StoredTable). length x.rows < 2 ^ 64) (all_settled (shown blocks (rest shape)) ts) = subst (λ (d : Database). AllByRecursion (λ (x : StoredTable). length x.rows < 2 ^ 64) (all_settled d ts)) (rest_shown blocks shape) few.1 in
    let tail = shape_stands blocks new split (rest written) (rest shape) ts (next + length mine) (each_rest (IsOld blocks) shape old) grown.1 waits.1 (each_back Q after more named) rest_few in (
      refl,
      subst (TableStands new t.schema (map (λ (x : Piece). x.part) after)) rows_are stands,
      subst (λ (d : Database). StandAll new (shape_after blocks (next + length mine) (rest written) split (rest shape) ts) (all_settled d ts)) (sym (rest_shown blocks shape)) tail,
    )

-- the numbers of all pieces are those that the tables name
pub pieces_numbers : (blocks : ℕ → Block) (split : ℕ) (written : List (List ℕ)) (shape : List TableParts) (ts : List StoredTable) (next : ℕ)
    → blocks_of (shape_after blocks next written split shape ts) ≡ map (λ (x : Piece). x.part.block) (all_pieces blocks next written split shape ts)
pieces_numbers blocks split written shape [] next = refl
pieces_numbers blocks split written shape (t ∷ ts) next =
    let after = table_after blocks next (first_counts written) split (first_parts shape) t in
    let n = next + length (table_made blocks (first_counts written) split (first_parts shape) t) in
    ap₂ (λ (a b : List ℕ). a ++ b) (map-map (λ (p : Part). p.block) (λ (x : Piece). x.part) after) (pieces_numbers blocks split (rest written) (rest shape) ts n)
    ∙ sym (map-append (λ (x : Piece). x.part.block) after (all_pieces blocks n (rest written) split (rest shape) ts))

-- ---- the numbers of all blocks

table_numbers : (Q : ℕ → Type 0) (blocks : ℕ → Block) (next : ℕ) (counts : List ℕ) (split : ℕ) (ps : List Part) (t : StoredTable) → AllByRecursion Q (blocks_in ps) → ((n : ℕ) → next ≤ n → n < next + length (table_made blocks counts split ps t) → Q n)
    → AllByRecursion Q (blocks_in (map (λ (x : Piece). x.part) (table_after blocks next counts split ps t)))
table_numbers Q blocks next counts split ps t old new =
    let kept : AllByRecursion (λ (x : Piece). Q x.part.block) (pieces_in blocks ps) = pieces_each (λ (x : Piece). Q x.part.block) blocks ps (numbers_each Q ps old) in
    subst (AllByRecursion Q) (sym (map-map (λ (p : Part). p.block) (λ (x : Piece). x.part) (table_after blocks next counts split ps t)))
    (spread_numbers t.schema (pieces_in blocks ps) (batch_of t) Q 0 next (acts_of blocks counts split ps t) (acts_keep blocks counts split ps t) (λ i ge lt. All-from_recursion (λ (x : Piece). Q x.part.block) (pieces_in blocks ps) kept i no_piece lt) new)

pub shape_numbers : (Q : ℕ → Type 0) (blocks : ℕ → Block) (written : List (List ℕ)) (split : ℕ) (shape : List TableParts) (ts : List StoredTable) (next : ℕ) → AllByRecursion Q (blocks_of shape) → ((n : ℕ) → next ≤ n → n < next + length (all_made blocks written split shape ts) → Q n)
    → AllByRecursion Q (blocks_of (shape_after blocks next written split shape ts))
shape_numbers Q blocks written split shape [] next old new = tt
shape_numbers Q blocks written split shape (t ∷ ts) next old new =
    let ps : List Part = first_parts shape in
    let counts : List ℕ = first_counts written in
    let mine = table_made blocks counts split ps t in
    let more = all_made blocks (rest written) split (rest shape) ts in
    each_append Q (blocks_in (map (λ (x : Piece). x.part) (table_after blocks next counts split ps t))) (blocks_of (shape_after blocks (next + length mine) (rest written) split (rest shape) ts))
    (table_numbers Q blocks next counts split ps t (first_numbers Q shape old) (λ n ge lt. new n ge (omega (arith, lt, length-append mine more))))
    (shape_numbers Q blocks (rest written) split (rest shape) ts (next + length mine) (rest_numbers Q shape old) (λ n ge lt. new n (omega (arith, ge)) (omega (arith, lt, length-append mine more))))

-- ---- no two have one number

distinct_at : (blocks : ℕ → Block) (ps : List Part) → IsDistinct nat_eq (blocks_in ps) → (i j : ℕ) → i < j → j < length (pieces_in blocks ps) → eqb (get_or (pieces_in blocks ps) i no_piece).part.block (get_or (pieces_in blocks ps) j no_piece).part.block ≡ false
unfolding IsDistinct
distinct_at blocks [] d i j lt within = absurd (omega arith)
distinct_at blocks (p ∷ ps) d i zero lt within = absurd (omega arith)
distinct_at blocks (p ∷ ps) d zero (suc j) lt within =
    All-from_recursion (λ (x : Piece). eqb p.block x.part.block ≡ false) (pieces_in blocks ps) (pieces_each (λ (x : Piece). eqb p.block x.part.block ≡ false) blocks ps (numbers_each (λ (n : ℕ). eqb p.block n ≡ false) ps d.0)) j no_piece (omega (arith, within))
distinct_at blocks (p ∷ ps) d (suc i) (suc j) lt within = distinct_at blocks ps d.1 i j (omega (arith, lt)) (omega (arith, within))

distinct_front : (xs ys : List ℕ) → IsDistinct nat_eq (xs ++ ys) → IsDistinct nat_eq xs
unfolding IsDistinct
distinct_front [] ys d = tt
distinct_front (x ∷ xs) ys d = (each_front (λ (y : ℕ). nat_eq x y ≡ false) xs ys d.0, distinct_front xs ys d.1)

distinct_back : (xs ys : List ℕ) → IsDistinct nat_eq (xs ++ ys) → IsDistinct nat_eq ys
unfolding IsDistinct
distinct_back [] ys d = d
distinct_back (x ∷ xs) ys d = distinct_back xs ys d.1

distinct_across : (xs ys : List ℕ) → IsDistinct nat_eq (xs ++ ys) → AllByRecursion (λ (x : ℕ). AllByRecursion (λ (y : ℕ). nat_eq x y ≡ false) ys) xs
unfolding IsDistinct
distinct_across [] ys d = tt
distinct_across (x ∷ xs) ys d = (each_back (λ (y : ℕ). nat_eq x y ≡ false) xs ys d.0, distinct_across xs ys d.1)

pub first_distinct : (shape : List TableParts) → IsDistinct nat_eq (blocks_of shape) → IsDistinct nat_eq (blocks_in (first_parts shape))
first_distinct [] d = IsDistinct-nil nat_eq
first_distinct (x ∷ xs) d = distinct_front (blocks_in x.parts) (blocks_of xs) d

pub rest_distinct : (shape : List TableParts) → IsDistinct nat_eq (blocks_of shape) → IsDistinct nat_eq (blocks_of (rest shape))
rest_distinct [] d = IsDistinct-nil nat_eq
rest_distinct (x ∷ xs) d = distinct_back (blocks_in x.parts) (blocks_of xs) d

pub across : (shape : List TableParts) → IsDistinct nat_eq (blocks_of shape) → AllByRecursion (λ (x : ℕ). AllByRecursion (λ (y : ℕ). nat_eq x y ≡ false) (blocks_of (rest shape))) (blocks_in (first_parts shape))
across [] d = tt
across (x ∷ xs) d = distinct_across (blocks_in x.parts) (blocks_of xs) d

table_distinct : (blocks : ℕ → Block) (bound next : ℕ) (counts : List ℕ) (split : ℕ) (ps : List Part) (t : StoredTable) → bound ≤ next → AllByRecursion (λ (n : ℕ). n < bound) (blocks_in ps) → IsDistinct nat_eq (blocks_in ps) → IsDistinct nat_eq (blocks_in (map (λ (x : Piece). x.part) (table_after blocks next counts split ps t)))
table_distinct blocks bound next counts split ps t le low d =
    let old = pieces_in blocks ps in
    let few : AllByRecursion (λ (x : Piece). x.part.block < bound) old = pieces_each (λ (x : Piece). x.part.block < bound) blocks ps (numbers_each (λ (n : ℕ). n < bound) ps low) in
    subst (IsDistinct nat_eq) (sym (map-map (λ (p : Part). p.block) (λ (x : Piece). x.part) (table_after blocks next counts split ps t)))
    (numbers_apart t.schema old (batch_of t) bound 0 next (acts_of blocks counts split ps t) le (acts_keep blocks counts split ps t) (λ i lt. All-from_recursion (λ (x : Piece). x.part.block < bound) old few i no_piece lt) (distinct_at blocks ps d))

pub shape_distinct : (blocks : ℕ → Block) (bound : ℕ) (written : List (List ℕ)) (split : ℕ) (shape : List TableParts) (ts : List StoredTable) (next : ℕ) → bound ≤ next → AllByRecursion (λ (n : ℕ). n < bound) (blocks_of shape) → IsDistinct nat_eq (blocks_of shape)
    → IsDistinct nat_eq (blocks_of (shape_after blocks next written split shape ts))
shape_distinct blocks bound written split shape [] next le low d = IsDistinct-nil nat_eq
shape_distinct blocks bound written split shape (t ∷ ts) next le low d =
    let ps : List Part = first_parts shape in
    let counts : List ℕ = first_counts written in
    let mine = table_made blocks counts split ps t in
    let after = next + length mine in
    let first = blocks_in (map (λ (x : Piece). x.part) (table_after blocks next counts split ps t)) in
    let later = blocks_of (shape_after blocks after (rest written) split (rest shape) ts) in
    let rest_low = rest_numbers (λ (n : ℕ). n < bound) shape low in
    let Q : ℕ → Type 0 = λ x. AllByRecursion (λ (y : ℕ). nat_eq x y ≡ false) later in
    let both = Rattle.qd_apply.proofs.EachLemmas.each_both (λ (x : ℕ). x < bound) (λ (x : ℕ). AllByRecursion (λ (y : ℕ). nat_eq x y ≡ false) (blocks_of (rest shape))) (blocks_in ps) (first_numbers (λ (n : ℕ). n < bound) shape low) (across shape d) in
    let old_apart : AllByRecursion Q (blocks_in ps) =
    each_then (λ (x : ℕ). (x < bound) × AllByRecursion (λ (y : ℕ). nat_eq x y ≡ false) (blocks_of (rest shape))) Q
    (λ x h. let few = h.0 in shape_numbers (λ (y : ℕ). nat_eq x y ≡ false) blocks (rest written) split (rest shape) ts after h.1 (λ n ge lt. ne_eqb x n (λ e. omega (arith, few, ge, le, e)))) (blocks_in ps) both in
    let new_apart : (n : ℕ) → next ≤ n → n < after → Q n =
    λ n ge lt. shape_numbers (λ (y : ℕ). nat_eq n y ≡ false) blocks (rest written) split (rest shape) ts after
    (each_then (λ (y : ℕ). y < bound) (λ (y : ℕ). nat_eq n y ≡ false) (λ y few. ne_eqb n y (λ e. omega (arith, few, ge, le, e))) (blocks_of (rest shape)) rest_low)
    (λ m high few. ne_eqb n m (λ e. omega (arith, lt, high, e))) in
    IsDistinct-append nat_eq first later
    (table_distinct blocks bound next counts split ps t le (first_numbers (λ (n : ℕ). n < bound) shape low) (first_distinct shape d))
    (shape_distinct blocks bound (rest written) split (rest shape) ts after (omega (arith, le)) rest_low (rest_distinct shape d))
    (table_numbers Q blocks next counts split ps t old_apart new_apart)
