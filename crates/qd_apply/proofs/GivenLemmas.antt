-- Shares carried out one after another, over the old parts that they read.
use Rattle.std.proofs.Common.{◌≡◌, ℕ, zero, suc, ◌+◌, ◌-◌, ◌<◌, ◌≤◌, min, inl, inr, ⊎_elim, List, [], ◌∷◌, ◌++◌, length, map, take, drop, get_or, refl, sym, ap, ap₂, ◌∙◌, arith, subst, append_assoc, slice_range, length-append, length-drop}
use Rattle.std.specs.List.{AllByRecursion, IsDistinct}
use Rattle.std.proofs.lemmas.Bool.{cases_lt}
use Rattle.std.proofs.lemmas.List.{drop-drop, length-map, map-append, take_all}
use Rattle.std.proofs.Math.Seq.{drop-cons}
use Rattle.qd_base.specs.declared.part.Part.{Part}
use Rattle.qd_base.specs.declared.schema.ColType.{ColType}
use Rattle.qd_base.specs.declared.schema.Schema.{Schema}
use Rattle.qd_base.specs.Laws.{IsInOrder}
use Rattle.qd_base.specs.Rows.{Row, same_on}
use Rattle.qd_block.specs.Blocks.{Block}
use Rattle.qd_merge.specs.declared.shares.Share.{Share}
use Rattle.qd_merge.specs.declared.shares.Share.TheVariants as share
use Rattle.qd_merge.specs.Merged.{block_in, merged}
use Rattle.qd_apply.specs.declared.olds.OldPart.{OldPart}
use Rattle.qd_apply.specs.Given.{all_grown_by, all_made_by, grown_by, made_by, merged_into, parts_by, parts_left, read_by, reads, writes, written_by, IsBatchBlock}
use Rattle.qd_apply.specs.Next.{new_piece, Growth}
use Rattle.qd_apply.proofs.GivenLists.{distinct_drop, distinct_take}
use Rattle.qd_apply.proofs.RangeLemmas.{each_drop}

-- ---- lists

pub no_more : {X : Type 0} (n : ℕ) (xs : List X) → length xs ≤ n → drop n xs ≡ []
no_more zero [] h = refl
no_more zero (x ∷ xs) h = absurd (omega arith)
no_more (suc n) [] h = refl
no_more (suc n) (x ∷ xs) h = no_more n xs (omega arith)

take_none : {X : Type 0} (n : ℕ) (xs : List X) → xs ≡ [] → take n xs ≡ []
take_none zero xs e = refl
take_none (suc n) [] e = refl
take_none (suc n) (x ∷ xs) e = absurd (cc (e))

pub drop_at : {X : Type 0} (i : ℕ) (xs : List X) (x : X) → i < length xs → x ≡ get_or xs i x → drop i xs ≡ x ∷ drop (i + 1) xs
drop_at i xs x lt is = let e : suc i ≡ i + 1 = omega arith in drop-cons xs i x lt ∙ ap₂ (λ y n. y ∷ drop n xs) (sym is) e

pub drop_more : {X : Type 0} (a b : ℕ) (xs : List X) → drop (a + b) xs ≡ drop b (drop a xs)
drop_more a b xs = sym (drop-drop b a xs)

pub rest_all : {X : Type 0} (n : ℕ) (xs : List X) → take (length xs - n) (drop n xs) ≡ drop n xs
rest_all n xs = take_all (length xs - n) (drop n xs) (omega (arith, length-drop n xs))

-- ---- rows within a batch

pub clamped : {X : Type 0} (xs : List X) (from to a b : ℕ) → b ≡ min to (length xs) → a ≡ min from b → slice_range xs a b ≡ slice_range xs from to
clamped xs from to a b hb ha = elim (cases_lt from b) [
  | inl lt ↦ (
      let first : a ≡ from = omega (arith, ha, lt) in
      ap (λ (n : ℕ). take (b - n) (drop n xs)) first ∙ elim (cases_lt (length xs) to) [
        | inl more ↦ (
            let all : length (drop from xs) ≤ b - from = omega (arith, length-drop from xs, hb, more) in
            let all' : length (drop from xs) ≤ to - from = omega (arith, length-drop from xs, hb, more) in
            take_all (b - from) (drop from xs) all ∙ sym (take_all (to - from) (drop from xs) all'))
        | inr le ↦ (let same : b ≡ to = omega (arith, hb, le) in ap (λ (n : ℕ). take (n - from) (drop from xs)) same)
      ])
  | inr le ↦ (
      let none : b - a ≡ 0 = omega (arith, ha, le) in
      ap (λ (n : ℕ). take n (drop a xs)) none ∙ sym (elim (cases_lt from to) [
        | inl lt ↦ take_none (to - from) (drop from xs) (no_more from xs (omega (arith, hb, le, lt)))
        | inr ge ↦ (let zero_left : to - from ≡ 0 = omega (arith, ge) in ap (λ (n : ℕ). take n (drop from xs)) zero_left)
      ]))
]

-- rows of a batch are a batch
pub batch_within : (s : Schema) (b r : Block) (from to : ℕ) → IsBatchBlock s b → r ≡ record b { rows = slice_range b.rows from to } → IsInOrder r.time_col r.rows → IsBatchBlock s r
batch_within s b r from to batch is order =
    let rows : r.rows ≡ slice_range b.rows from to = ap (λ (x : Block). x.rows) is in
    let col : r.time_col ≡ s.time_col = ap (λ (x : Block). x.time_col) is ∙ batch.time_col in
    record {
      kinds = ap (λ (x : Block). x.kinds) is ∙ batch.kinds;
      time_col = col;
      batch = record {
        in_order = subst (λ (c : ℕ). IsInOrder c r.rows) col order;
        distinct = ⊎_elim (λ none. inl none) (λ d. inr (subst (IsDistinct (same_on s.keys)) (sym rows) (distinct_take (same_on s.keys) (to - from) (drop from b.rows) (distinct_drop (same_on s.keys) from b.rows d)))) batch.batch.distinct;
      };
    }

-- ---- one share more

pub made_count : (s : Schema) (rows : List Row) (a : Share) (given : List OldPart) → length (made_by s rows a given) ≡ written_by a
made_count s rows (share.Keep n) given = refl
made_count s rows (share.Append n i j) given = refl
made_count s rows (share.Merge n i j) given = refl
made_count s rows (share.New i j) given = refl

module _ (s : Schema) (parts : List Part) (rows : List Row) where
  pub next_parts : (next k k' i read : ℕ) (shares : List Share) (a : Share) (given : List OldPart) (kept kept' all : List Part) → i < length shares → a ≡ get_or shares i a
      → kept ++ parts_by s parts rows (next + k) (drop i shares) (drop read given) ≡ all → kept' ≡ kept ++ parts_left s parts rows (next + k) a (drop read given) → k' ≡ k + written_by a
      → kept' ++ parts_by s parts rows (next + k') (drop (i + 1) shares) (drop (read + read_by a) given) ≡ all
  next_parts next k k' i read shares a given kept kept' all lt is so_far more count =
      let number : next + k' ≡ (next + k) + written_by a = omega (arith, count) in
      let here = parts_left s parts rows (next + k) a (drop read given) in
      let later = parts_by s parts rows ((next + k) + written_by a) (drop (i + 1) shares) (drop (read_by a) (drop read given)) in
      ap₂ (λ (l : List Part) (n : ℕ). l ++ parts_by s parts rows n (drop (i + 1) shares) (drop (read + read_by a) given)) more number
      ∙ ap (λ (g : List OldPart). (kept ++ here) ++ parts_by s parts rows ((next + k) + written_by a) (drop (i + 1) shares) g) (drop_more read (read_by a) given)
      ∙ append_assoc kept here later
      ∙ ap (λ (l : List Share). kept ++ parts_by s parts rows (next + k) l (drop read given)) (sym (drop_at i shares a lt is))
      ∙ so_far

  pub next_made : (i read : ℕ) (shares : List Share) (a : Share) (given : List OldPart) (made made' all : List Block) → i < length shares → a ≡ get_or shares i a
      → made ++ all_made_by s rows (drop i shares) (drop read given) ≡ all → made' ≡ made ++ made_by s rows a (drop read given)
      → made' ++ all_made_by s rows (drop (i + 1) shares) (drop (read + read_by a) given) ≡ all
  next_made i read shares a given made made' all lt is so_far more =
      ap₂ (λ (l : List Block) (g : List OldPart). l ++ all_made_by s rows (drop (i + 1) shares) g) more (drop_more read (read_by a) given)
      ∙ append_assoc made (made_by s rows a (drop read given)) (all_made_by s rows (drop (i + 1) shares) (drop (read_by a) (drop read given)))
      ∙ ap (λ (l : List Share). made ++ all_made_by s rows l (drop read given)) (sym (drop_at i shares a lt is))
      ∙ so_far

  pub next_grown : {Y : Type 0} (f : Growth → Y) (i : ℕ) (shares : List Share) (a : Share) (grown grown' all : List Y) → i < length shares → a ≡ get_or shares i a
      → grown ++ map f (all_grown_by s rows (drop i shares)) ≡ all → grown' ≡ grown ++ map f (grown_by s rows a)
      → grown' ++ map f (all_grown_by s rows (drop (i + 1) shares)) ≡ all
  next_grown {Y} f i shares a grown grown' all lt is so_far more =
      let here = grown_by s rows a in
      let later = all_grown_by s rows (drop (i + 1) shares) in
      ap (λ (l : List Y). l ++ map f later) more
      ∙ append_assoc grown (map f here) (map f later)
      ∙ ap (λ (l : List Y). grown ++ l) (sym (map-append f here later))
      ∙ ap (λ (l : List Share). grown ++ map f (all_grown_by s rows l)) (sym (drop_at i shares a lt is))
      ∙ so_far

  pub made_more : {X : Type 0} (f : X → Block) (a : Share) (given : List OldPart) (old new : List X) → map f new ≡ map f old ++ made_by s rows a given → length new ≡ length old + written_by a
  made_more f a given old new e = omega (arith, ap length e, length-map new f, length-map old f, length-append (map f old) (made_by s rows a given), made_count s rows a given)

pub reads_next : (i : ℕ) (shares : List Share) (a : Share) → i < length shares → a ≡ get_or shares i a → reads (drop i shares) ≡ read_by a + reads (drop (i + 1) shares)
reads_next i shares a lt is = ap reads (drop_at i shares a lt is)

pub writes_next : (i : ℕ) (shares : List Share) (a : Share) → i < length shares → a ≡ get_or shares i a → writes (drop i shares) ≡ written_by a + writes (drop (i + 1) shares)
writes_next i shares a lt is = ap writes (drop_at i shares a lt is)

-- ---- the old parts that are left

pub given_left : {X : Type 0} (P : X → Type 0) (n : ℕ) (xs : List X) → AllByRecursion P xs → AllByRecursion P (take (length xs - n) (drop n xs))
given_left P n xs h = subst (AllByRecursion P) (sym (rest_all n xs)) (each_drop P n xs h)

-- ---- what is written

-- rows of a batch, as a block of the table's
pub batch_rows : (s : Schema) (b r : Block) (from to : ℕ) → IsBatchBlock s b → r ≡ record b { rows = slice_range b.rows from to } → r ≡ block_in s (slice_range b.rows from to)
batch_rows s b r from to is e = e ∙ ap₂ (λ (k : List ColType) (c : ℕ). let x : Block = record { kinds = k; time_col = c; rows = slice_range b.rows from to } in x) is.kinds is.time_col

module _ (s : Schema) (batch r old b : Block) (from to : ℕ) (is : IsBatchBlock s batch) (rows_are : r ≡ record batch { rows = slice_range batch.rows from to }) (block_is : b ≡ merged s.keys old 0 r) where
  pub block_made : b ≡ merged_into s old batch.rows from to
  block_made = block_is ∙ ap (λ (x : Block). merged s.keys old 0 x) (batch_rows s batch r from to is rows_are)

  pub block_timed : s.time_col ≡ b.time_col
  block_timed = sym (ap (λ (x : Block). x.time_col) block_made)

  pub write_parts : (next : ℕ) (p : Part) (kept new : List Part) → p ≡ (new_piece s next b).part → new ≡ kept ++ p ∷ [] → new ≡ kept ++ (new_piece s next (merged_into s old batch.rows from to)).part ∷ []
  write_parts next p kept new p_is more = more ∙ ap (λ (q : Part). kept ++ q ∷ []) (p_is ∙ ap (λ (x : Block). (new_piece s next x).part) block_made)
