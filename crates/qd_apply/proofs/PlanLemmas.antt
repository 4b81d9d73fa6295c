-- What the shares of a plan read, and that they make of it what their acts make of the whole blocks.
use Rattle.std.proofs.Common.{◌≡◌, ℕ, zero, suc, ◌+◌, ◌-◌, ◌<◌, ◌≤◌, ◌&&◌, Bool, true, false, cond, eqb, ltb, leb, List, [], ◌∷◌, ◌++◌, Some, length, map, take, drop, get_or, refl, sym, ap, ap₂, ◌∙◌, arith, subst, append_assoc, slice_range, length-append}
use Rattle.std.specs.List.{AllByRecursion, filter, flat_map}
use Rattle.std.proofs.lemmas.Bool.{eqb-true}
use Rattle.std.proofs.lemmas.List.{get_or-map, length-map, map-append}
use Rattle.qd_base.specs.declared.part.Part.{Part}
use Rattle.qd_base.specs.declared.schema.Schema.{Schema}
use Rattle.qd_base.specs.declared.unit.TimeUnit.{TimeUnit}
use Rattle.qd_base.specs.Database.{StoredTable}
use Rattle.qd_base.specs.Rows.{Row, time_of}
use Rattle.qd_time.specs.Units.{unit_of}
use Rattle.qd_block.specs.Blocks.{Block}
use Rattle.qd_manifest.specs.declared.shape.TableParts.{TableParts}
use Rattle.qd_manifest.specs.Spelling.{no_part}
use Rattle.qd_merge.specs.declared.plan.Act.{Act}
use Rattle.qd_merge.specs.declared.plan.Act.TheVariants as act
use Rattle.qd_merge.specs.declared.shares.Rules.{Rules}
use Rattle.qd_merge.specs.declared.shares.Share.{Share}
use Rattle.qd_merge.specs.declared.shares.Share.TheVariants as share
use Rattle.qd_merge.specs.Acts.{before, between, partitions}
use Rattle.qd_merge.specs.Merged.{block_in, merged}
use Rattle.qd_merge.specs.Owners.{is_number, owned, owner, strays}
use Rattle.qd_merge.specs.Shares.{acts_on, first_rows, goes_behind, new_share, place_of, share_of, share_on, shares_behind, split_on}
use Rattle.qd_apply.specs.declared.olds.OldPart.{OldPart}
use Rattle.qd_apply.specs.declared.olds.Stay.{Stay}
use Rattle.qd_apply.specs.declared.olds.Stay.TheVariants as stay
use Rattle.qd_apply.specs.declared.plans.Planned.{Planned}
use Rattle.qd_apply.specs.Arrivals.{rest}
use Rattle.qd_apply.specs.Given.{all_grown_by, all_made_by, grown_by, made_by, merged_into, part_with, parts_by, parts_left, read_by, reads, staying, writes, written_by, IsOld, IsShareOf}
use Rattle.qd_apply.specs.Next.{batch_of, blocks_made, first_parts, growths, in_table, new_piece, no_piece, pieces_after, pieces_in, rules_of, shares_of, times_in, Growth, Piece, TableGrowth}
use Rattle.qd_apply.specs.Olds.{block_at, cut_at, late_by, part_read, stay_of, times_of}
use Rattle.qd_apply.specs.Plans.{all_by, all_reads, all_writes, grown_by_all, shape_by, AreEarlier, ArePlanned, IsPlanned}
use Rattle.qd_apply.proofs.ActLemmas.{blocks_append, growths_append, on_split, share_writes}
use Rattle.qd_apply.proofs.EachLemmas.{each_append}
use Rattle.qd_apply.proofs.GivenLemmas.{drop_at, drop_more, made_count}
use Rattle.qd_apply.proofs.LeaveLemmas.{pieces_append}

-- ---- shares of a table's parts

new_shares : (count : ℕ) (u : TimeUnit) (times starts : List ℕ) → AllByRecursion (IsShareOf count) (map (new_share u times) starts)
new_shares count u times [] = tt
new_shares count u times (t ∷ starts) = (tt, new_shares count u times starts)

on_part : (r : Rules) (count number : ℕ) (p : Part) (held : ℕ) (times : List ℕ) (i j : ℕ) → number < count → IsShareOf count (share_on r number p held times i j)
on_part r count number p held times i j lt = first (leb j i)
  where
    second : (b : Bool) → IsShareOf count (cond b (share.Append number i j) (share.Merge number i j))
    second true = lt
    second false = lt

    first : (b : Bool) → IsShareOf count (cond b (share.Keep number) (cond (goes_behind r p held (get_or times i 0)) (share.Append number i j) (share.Merge number i j)))
    first true = lt
    first false = second (goes_behind r p held (get_or times i 0))

within_since : (r : Rules) (all : List Part) (counts times : List ℕ) (count low number : ℕ) (parts : List Part) → number + length parts ≤ count → AllByRecursion (IsShareOf count) (shares_behind r all counts times low number parts)
within_since r all counts times count low number [] few = new_shares count (unit_of r.unit) times (partitions (unit_of r.unit) (filter (λ t. leb low t) (strays (unit_of r.unit) all times)))
within_since r all counts times count low number (p ∷ ps) few =
    let u = unit_of r.unit in
    let starts = partitions u (between low p.lo (strays u all times)) in
    let from = place_of (λ t. is_number number (owner u all t)) times in
    each_append (IsShareOf count) (map (new_share u times) starts) (share_of r all counts times number p ∷ shares_behind r all counts times p.lo (suc number) ps)
    (new_shares count u times starts)
    (on_part r count number p (get_or counts number 0) times from (from + length (owned u all number times)) (omega (arith, few)), within_since r all counts times count p.lo (suc number) ps (omega (arith, few)))

pub shares_within : (counts : List ℕ) (split : ℕ) (parts : List Part) (t : StoredTable) → AllByRecursion (IsShareOf (length parts)) (shares_of counts split parts t)
shares_within counts split parts t = within_since (rules_of split t.schema) parts counts (times_in t.schema (batch_of t)) (length parts) 0 0 parts (omega arith)

-- ---- old parts as a merge reads them, over all blocks by their numbers

pub got_time : (col : ℕ) (rows : List Row) (i : ℕ) → get_or (map (time_of col) rows) i 0 ≡ time_of col (get_or rows i [])
got_time col [] i = refl
got_time col (r ∷ rows) zero = refl
got_time col (r ∷ rows) (suc i) = got_time col rows i

-- what holds of each kind of split, and of what stays, holds of one
on_cut : (r : Rules) (n first : ℕ) (times : List ℕ) (i j : ℕ) (P : Stay → List Act → Type 0)
    → (before first times ≡ length times → P stay.All (act.Keep n ∷ act.Write (Some n) (before first times) i j ∷ []))
    → P (stay.First (before first times) (get_or times (before first times - 1) 0)) (act.Shorten n (before first times) ∷ act.Write (Some n) (before first times) i j ∷ [])
    → P stay.Nothing (act.Write (Some n) 0 i j ∷ [])
    → P (stay_of r.split_rows first times) (split_on r n (before first times) (length times) i j)
on_cut r n first times i j P all some none = enough (ltb 0 (before first times) && leb r.split_rows (before first times))
  where
    whole : (b : Bool) → eqb (before first times) (length times) ≡ b
        → P (cond b stay.All (stay.First (before first times) (get_or times (before first times - 1) 0))) (cond b (act.Keep n) (act.Shorten n (before first times)) ∷ act.Write (Some n) (before first times) i j ∷ [])
    whole true e = all (eqb-true (before first times) (length times) e)
    whole false e = some

    enough : (b : Bool)
        → P (cond b (cond (eqb (before first times) (length times)) stay.All (stay.First (before first times) (get_or times (before first times - 1) 0))) stay.Nothing)
        (cond b (first_rows n (before first times) (length times) ∷ act.Write (Some n) (before first times) i j ∷ []) (act.Write (Some n) 0 i j ∷ []))
    enough true = whole (eqb (before first times) (length times)) refl
    enough false = none

module _ (blocks : ℕ → Block) (r : Rules) (s : Schema) (parts : List Part) (rows : List Row) where
  -- the times of the rows of a part's block
  abbrev olds : ℕ → List ℕ
  olds n = times_in s (block_at blocks parts n).rows

  -- what is read
  abbrev pub reading : List Share → List OldPart
  reading list = map (part_read blocks r.split_rows parts) (late_by 0 (times_in s rows) list)

  abbrev pub AreTimed : List OldPart → Type 0
  AreTimed given = AllByRecursion (λ (o : OldPart). o.rest.time_col ≡ s.time_col) given

  left_over : (a : Share) (list : List Share) → drop (read_by a) (reading (a ∷ list)) ≡ reading list
  left_over (share.Keep n) list = refl
  left_over (share.Append n i j) list = refl
  left_over (share.Merge n i j) list = refl
  left_over (share.New i j) list = refl

  timed_left : (a : Share) (list : List Share) → AreTimed (reading (a ∷ list)) → AreTimed (reading list)
  timed_left (share.Keep n) list timed = timed
  timed_left (share.Append n i j) list timed = timed
  timed_left (share.Merge n i j) list timed = timed.1
  timed_left (share.New i j) list timed = timed

  got : (n : ℕ) → n < length parts → get_or (pieces_in blocks parts) n no_piece ≡ record { part = get_or parts n no_part; block = block_at blocks parts n }
  got n lt = get_or-map (λ (q : Part). let x : Piece = record { part = q; block = blocks q.block } in x) parts n no_part no_piece lt

  -- a part that rows are merged into
  module _ (n i j : ℕ) (lt : n < length parts) (timed : (block_at blocks parts n).time_col ≡ s.time_col) where
    timed_so : stay_of r.split_rows (get_or (times_in s rows) i 0) (times_of (block_at blocks parts n)) ≡ stay_of r.split_rows (get_or (times_in s rows) i 0) (olds n)
    timed_so = ap (λ (c : ℕ). stay_of r.split_rows (get_or (times_in s rows) i 0) (map (time_of c) (block_at blocks parts n).rows)) timed

    abbrev Leave : ℕ → Stay → List Act → Type 0
    Leave next stays acts =
        staying (get_or parts n no_part) stays ++ (new_piece s next (merged_into s (cut_at stays (block_at blocks parts n)).rest rows i j)).part ∷ []
        ≡ map (λ (x : Piece). x.part) (pieces_after s (pieces_in blocks parts) rows next acts)

    abbrev Make : Stay → List Act → Type 0
    Make stays acts = merged_into s (cut_at stays (block_at blocks parts n)).rest rows i j ∷ [] ≡ blocks_made s (pieces_in blocks parts) rows acts

    count : length (olds n) ≡ length (block_at blocks parts n).rows
    count = length-map (block_at blocks parts n).rows (time_of s.time_col)

    merge_leaves : (next : ℕ) → Leave next (stay_of r.split_rows (get_or (times_in s rows) i 0) (times_of (block_at blocks parts n))) (split_on r n (before (get_or (times_in s rows) i 0) (olds n)) (length (olds n)) i j)
    merge_leaves next =
        subst (λ (x : Stay). Leave next x (split_on r n (before (get_or (times_in s rows) i 0) (olds n)) (length (olds n)) i j)) (sym timed_so)
        (on_cut r n (get_or (times_in s rows) i 0) (olds n) i j (Leave next)
        (λ whole. (
        let m : length (block_at blocks parts n).rows ≡ before (get_or (times_in s rows) i 0) (olds n) = sym (whole ∙ count) in
        ap (λ (k : ℕ). get_or parts n no_part ∷ (new_piece s next (merged s.keys (block_at blocks parts n) k (block_in s (slice_range rows i j)))).part ∷ []) m
        ∙ ap (λ (x : Piece). x.part ∷ (new_piece s next (merged s.keys x.block (before (get_or (times_in s rows) i 0) (olds n)) (block_in s (slice_range rows i j)))).part ∷ []) (sym (got n lt))))
        (ap (λ (t : ℕ). (let p : Part = record (get_or parts n no_part) { rows = before (get_or (times_in s rows) i 0) (olds n); hi = t } in p) ∷ (new_piece s next (merged s.keys (block_at blocks parts n) (before (get_or (times_in s rows) i 0) (olds n)) (block_in s (slice_range rows i j)))).part ∷ [])
        (got_time s.time_col (block_at blocks parts n).rows (before (get_or (times_in s rows) i 0) (olds n) - 1))
        ∙ ap (λ (x : Piece). (let p : Part = record x.part { rows = before (get_or (times_in s rows) i 0) (olds n); hi = time_of s.time_col (get_or x.block.rows (before (get_or (times_in s rows) i 0) (olds n) - 1) []) } in p) ∷ (new_piece s next (merged s.keys x.block (before (get_or (times_in s rows) i 0) (olds n)) (block_in s (slice_range rows i j)))).part ∷ []) (sym (got n lt)))
        (ap (λ (x : Piece). (new_piece s next (merged s.keys x.block 0 (block_in s (slice_range rows i j)))).part ∷ []) (sym (got n lt))))

    merge_makes : Make (stay_of r.split_rows (get_or (times_in s rows) i 0) (times_of (block_at blocks parts n))) (split_on r n (before (get_or (times_in s rows) i 0) (olds n)) (length (olds n)) i j)
    merge_makes =
        subst (λ (x : Stay). Make x (split_on r n (before (get_or (times_in s rows) i 0) (olds n)) (length (olds n)) i j)) (sym timed_so)
        (on_cut r n (get_or (times_in s rows) i 0) (olds n) i j Make
        (λ whole. (
        let m : length (block_at blocks parts n).rows ≡ before (get_or (times_in s rows) i 0) (olds n) = sym (whole ∙ count) in
        ap (λ (k : ℕ). merged s.keys (block_at blocks parts n) k (block_in s (slice_range rows i j)) ∷ []) m
        ∙ ap (λ (x : Piece). merged s.keys x.block (before (get_or (times_in s rows) i 0) (olds n)) (block_in s (slice_range rows i j)) ∷ []) (sym (got n lt))))
        (ap (λ (x : Piece). merged s.keys x.block (before (get_or (times_in s rows) i 0) (olds n)) (block_in s (slice_range rows i j)) ∷ []) (sym (got n lt)))
        (ap (λ (x : Piece). merged s.keys x.block 0 (block_in s (slice_range rows i j)) ∷ []) (sym (got n lt))))

  -- a share leaves and makes what its acts do
  share_leaves : (next : ℕ) (a : Share) (list : List Share) → IsShareOf (length parts) a → AreTimed (reading (a ∷ list))
      → parts_left s parts rows next a (reading (a ∷ list)) ≡ map (λ (x : Piece). x.part) (pieces_after s (pieces_in blocks parts) rows next (acts_on r olds (times_in s rows) a))
  share_leaves next (share.Keep n) list lt timed = ap (λ (x : Piece). x.part ∷ []) (sym (got n lt))
  share_leaves next (share.Append n i j) list lt timed = ap (λ (x : Piece). part_with s x.part rows i j ∷ []) (sym (got n lt))
  share_leaves next (share.Merge n i j) list lt timed = merge_leaves n i j lt timed.0 next
  share_leaves next (share.New i j) list lt timed = refl

  share_makes : (a : Share) (list : List Share) → IsShareOf (length parts) a → AreTimed (reading (a ∷ list)) → made_by s rows a (reading (a ∷ list)) ≡ blocks_made s (pieces_in blocks parts) rows (acts_on r olds (times_in s rows) a)
  share_makes (share.Keep n) list lt timed = refl
  share_makes (share.Append n i j) list lt timed = refl
  share_makes (share.Merge n i j) list lt timed = merge_makes n i j lt timed.0
  share_makes (share.New i j) list lt timed = refl

  share_grows : (a : Share) → grown_by s rows a ≡ growths s rows (acts_on r olds (times_in s rows) a)
  share_grows (share.Keep n) = refl
  share_grows (share.Append n i j) = refl
  share_grows (share.Merge n i j) = on_split r n (before (get_or (times_in s rows) i 0) (olds n)) (length (olds n)) i j (λ l. [] ≡ growths s rows l) refl refl refl
  share_grows (share.New i j) = refl

  pub parts_serve : (next : ℕ) (list : List Share) → AllByRecursion (IsShareOf (length parts)) list → AreTimed (reading list)
      → parts_by s parts rows next list (reading list) ≡ map (λ (x : Piece). x.part) (pieces_after s (pieces_in blocks parts) rows next (flat_map (acts_on r olds (times_in s rows)) list))
  parts_serve next [] each timed = refl
  parts_serve next (a ∷ list) each timed =
      let old = pieces_in blocks parts in
      let mine = acts_on r olds (times_in s rows) a in
      let more = flat_map (acts_on r olds (times_in s rows)) list in
      let count : length (blocks_made s old rows mine) ≡ written_by a = share_writes s old rows r olds (times_in s rows) a in
      ap₂ (λ (x y : List Part). x ++ y)
      (share_leaves next a list each.0 timed)
      (ap₂ (λ (n : ℕ) (g : List OldPart). parts_by s parts rows n list g) (ap (λ (n : ℕ). next + n) (sym count)) (left_over a list)
      ∙ parts_serve (next + length (blocks_made s old rows mine)) list each.1 (timed_left a list timed))
      ∙ sym (map-append (λ (x : Piece). x.part) (pieces_after s old rows next mine) (pieces_after s old rows (next + length (blocks_made s old rows mine)) more))
      ∙ ap (map (λ (x : Piece). x.part)) (sym (pieces_append s old rows next mine more))

  pub made_serve : (list : List Share) → AllByRecursion (IsShareOf (length parts)) list → AreTimed (reading list)
      → all_made_by s rows list (reading list) ≡ blocks_made s (pieces_in blocks parts) rows (flat_map (acts_on r olds (times_in s rows)) list)
  made_serve [] each timed = refl
  made_serve (a ∷ list) each timed =
      let old = pieces_in blocks parts in
      let mine = acts_on r olds (times_in s rows) a in
      ap₂ (λ (x y : List Block). x ++ y)
      (share_makes a list each.0 timed)
      (ap (λ (g : List OldPart). all_made_by s rows list g) (left_over a list) ∙ made_serve list each.1 (timed_left a list timed))
      ∙ sym (blocks_append s old rows mine (flat_map (acts_on r olds (times_in s rows)) list))

  pub grown_serve : (list : List Share) → all_grown_by s rows list ≡ growths s rows (flat_map (acts_on r olds (times_in s rows)) list)
  grown_serve [] = refl
  grown_serve (a ∷ list) =
      let mine = acts_on r olds (times_in s rows) a in
      ap₂ (λ (x y : List Growth). x ++ y) (share_grows a) (grown_serve list)
      ∙ sym (growths_append s rows mine (flat_map (acts_on r olds (times_in s rows)) list))

-- ---- the parts that rows are merged into

pub late_count : (table : ℕ) (times : List ℕ) (list : List Share) → length (late_by table times list) ≡ reads list
late_count table times [] = refl
late_count table times (share.Keep p ∷ list) = let e = late_count table times list in omega (arith, e)
late_count table times (share.Append p a b ∷ list) = let e = late_count table times list in omega (arith, e)
late_count table times (share.Merge p a b ∷ list) = let e = late_count table times list in omega (arith, e)
late_count table times (share.New a b ∷ list) = let e = late_count table times list in omega (arith, e)

-- ---- one table more

-- some of the old parts at hand
pub given_some : {X : Type 0} (read end count : ℕ) (xs : List X) → end ≡ read + count → take (end - read) (drop read xs) ≡ take count (drop read xs)
given_some read end count xs e = let n : end - read ≡ count = omega (arith, e) in ap (λ (m : ℕ). take m (drop read xs)) n

rest_next : (i : ℕ) (xs : List TableParts) → rest (drop i xs) ≡ drop (suc i) xs
rest_next zero [] = refl
rest_next zero (x ∷ xs) = refl
rest_next (suc i) [] = refl
rest_next (suc i) (x ∷ xs) = rest_next i xs

rest_more : (i : ℕ) (xs : List TableParts) → rest (drop i xs) ≡ drop (i + 1) xs
rest_more i xs = let e : suc i ≡ i + 1 = omega arith in rest_next i xs ∙ ap (λ (n : ℕ). drop n xs) e

pub plan_next : (shape : List TableParts) (ps : List Planned) (given : List OldPart) (i read : ℕ) (p : Planned) → i < length ps → p ≡ get_or ps i p → ArePlanned (drop i shape) (drop i ps) → AreEarlier (drop i ps) (drop read given)
    → IsPlanned (first_parts (drop i shape)) p × AllByRecursion (IsOld p.schema) (take (reads p.shares.items) (drop read given)) × ArePlanned (drop (i + 1) shape) (drop (i + 1) ps) × AreEarlier (drop (i + 1) ps) (drop (read + reads p.shares.items) given)
plan_next shape ps given i read p lt is planned early =
    let cut = drop_at i ps p lt is in
    let a = subst (ArePlanned (drop i shape)) cut planned in
    let b = subst (λ (l : List Planned). AreEarlier l (drop read given)) cut early in (
      a.0,
      b.0,
      subst (λ (l : List TableParts). ArePlanned l (drop (i + 1) ps)) (rest_more i shape) a.1,
      subst (AreEarlier (drop (i + 1) ps)) (sym (drop_more read (reads p.shares.items) given)) b.1,
    )

pub shape_next : (shape : List TableParts) (ps : List Planned) (given : List OldPart) (i read first k k' : ℕ) (p : Planned) (made : List TableParts) (s : Schema) (parts : List Part) (all : List TableParts) → i < length ps → p ≡ get_or ps i p
    → made ++ shape_by (drop i shape) (drop i ps) (first + k) (drop read given) ≡ all → s ≡ p.schema → parts ≡ parts_by p.schema (first_parts (drop i shape)) p.batch.rows (first + k) p.shares.items (take (reads p.shares.items) (drop read given)) → k' ≡ k + writes p.shares.items
    → (made ++ record { schema = s; parts = parts } ∷ []) ++ shape_by (drop (i + 1) shape) (drop (i + 1) ps) (first + k') (drop (read + reads p.shares.items) given) ≡ all
shape_next shape ps given i read first k k' p made s parts all lt is so_far schema_is parts_are more =
    let number : first + k' ≡ (first + k) + writes p.shares.items = omega (arith, more) in
    let here : List TableParts = shape_by (drop (i + 1) shape) (drop (i + 1) ps) (first + k') (drop (read + reads p.shares.items) given) in
    append_assoc made (record { schema = s; parts = parts } ∷ []) here
    ∙ ap (λ (l : List TableParts). made ++ l)
    (ap (λ (l : List TableParts). record { schema = s; parts = parts } ∷ l)
    (ap₂ (λ (n : ℕ) (g : List OldPart). shape_by (drop (i + 1) shape) (drop (i + 1) ps) n g) number (drop_more read (reads p.shares.items) given)
    ∙ ap (λ (l : List TableParts). shape_by l (drop (i + 1) ps) ((first + k) + writes p.shares.items) (drop (reads p.shares.items) (drop read given))) (sym (rest_more i shape)))
    ∙ ap₂ (λ (x : Schema) (l : List Part). (let t : TableParts = record { schema = x; parts = l } in t) ∷ shape_by (rest (drop i shape)) (drop (i + 1) ps) ((first + k) + writes p.shares.items) (drop (reads p.shares.items) (drop read given))) schema_is parts_are
    ∙ ap (λ (l : List Planned). shape_by (drop i shape) l (first + k) (drop read given)) (sym (drop_at i ps p lt is)))
    ∙ so_far

pub all_next : (ps : List Planned) (given : List OldPart) (i read : ℕ) (p : Planned) (made made' all : List Block) → i < length ps → p ≡ get_or ps i p → made ++ all_by (drop i ps) (drop read given) ≡ all
    → made' ≡ made ++ all_made_by p.schema p.batch.rows p.shares.items (take (reads p.shares.items) (drop read given)) → made' ++ all_by (drop (i + 1) ps) (drop (read + reads p.shares.items) given) ≡ all
all_next ps given i read p made made' all lt is so_far more =
    let mine = all_made_by p.schema p.batch.rows p.shares.items (take (reads p.shares.items) (drop read given)) in
    ap₂ (λ (l : List Block) (g : List OldPart). l ++ all_by (drop (i + 1) ps) g) more (drop_more read (reads p.shares.items) given)
    ∙ append_assoc made mine (all_by (drop (i + 1) ps) (drop (reads p.shares.items) (drop read given)))
    ∙ ap (λ (l : List Planned). made ++ all_by l (drop read given)) (sym (drop_at i ps p lt is))
    ∙ so_far

pub grown_next : (ps : List Planned) (i : ℕ) (p : Planned) (grown grown' all : List TableGrowth) → i < length ps → p ≡ get_or ps i p → grown ++ grown_by_all i (drop i ps) ≡ all
    → grown' ≡ grown ++ map (in_table i) (all_grown_by p.schema p.batch.rows p.shares.items) → grown' ++ grown_by_all (i + 1) (drop (i + 1) ps) ≡ all
grown_next ps i p grown grown' all lt is so_far more =
    let mine = map (in_table i) (all_grown_by p.schema p.batch.rows p.shares.items) in
    ap (λ (l : List TableGrowth). l ++ grown_by_all (i + 1) (drop (i + 1) ps)) more
    ∙ append_assoc grown mine (grown_by_all (i + 1) (drop (i + 1) ps))
    ∙ ap (λ (l : List Planned). grown ++ grown_by_all i l) (sym (drop_at i ps p lt is))
    ∙ so_far

pub all_reads_next : (ps : List Planned) (i : ℕ) (p : Planned) → i < length ps → p ≡ get_or ps i p → all_reads (drop i ps) ≡ reads p.shares.items + all_reads (drop (i + 1) ps)
all_reads_next ps i p lt is = ap all_reads (drop_at i ps p lt is)

pub all_writes_next : (ps : List Planned) (i : ℕ) (p : Planned) → i < length ps → p ≡ get_or ps i p → all_writes (drop i ps) ≡ writes p.shares.items + all_writes (drop (i + 1) ps)
all_writes_next ps i p lt is = ap all_writes (drop_at i ps p lt is)

pub all_made_count : (s : Schema) (rows : List Row) (list : List Share) (given : List OldPart) → length (all_made_by s rows list given) ≡ writes list
all_made_count s rows [] given = refl
all_made_count s rows (a ∷ list) given =
    let later = all_made_count s rows list (drop (read_by a) given) in
    omega (arith, length-append (made_by s rows a given) (all_made_by s rows list (drop (read_by a) given)), made_count s rows a given, later)

pub all_made_more : {X : Type 0} (f : X → Block) (s : Schema) (rows : List Row) (list : List Share) (given : List OldPart) (old new : List X) → map f new ≡ map f old ++ all_made_by s rows list given → length new ≡ length old + writes list
all_made_more f s rows list given old new e = omega (arith, ap length e, length-map new f, length-map old f, length-append (map f old) (all_made_by s rows list given), all_made_count s rows list given)

pub reads_few : (list : List Share) → reads list ≤ length list
reads_few [] = omega arith
reads_few (share.Keep p ∷ list) = let e = reads_few list in omega (arith, e)
reads_few (share.Append p a b ∷ list) = let e = reads_few list in omega (arith, e)
reads_few (share.Merge p a b ∷ list) = let e = reads_few list in omega (arith, e)
reads_few (share.New a b ∷ list) = let e = reads_few list in omega (arith, e)
