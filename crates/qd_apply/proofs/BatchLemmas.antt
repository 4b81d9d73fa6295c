-- Rows of earlier stages, made as wide as the table, in order of time with those behind.
use Rattle.std.proofs.Common.{◌≡◌, ℕ, eqb, List, [], ◌∷◌, ◌++◌, length, map, drop, refl, sym, ap, ap₂, ◌∙◌, arith, append_assoc, append-nil, subst, Option}
use Rattle.std.specs.List.{AllByRecursion, fold}
use Rattle.std.proofs.lemmas.Grind.{flat_map-append}
use Rattle.std.proofs.lemmas.List.Elements.{filter-append}
use Rattle.qd_base.specs.declared.schema.Col.{Col}
use Rattle.qd_base.specs.declared.schema.ColType.{ColType}
use Rattle.qd_base.specs.declared.schema.Schema.{Schema}
use Rattle.qd_base.specs.Database.{missing}
use Rattle.qd_base.specs.Laws.{at_time, IsInOrder}
use Rattle.qd_base.specs.Rows.{Row, put, time_of}
use Rattle.qd_base.proofs.Order.{at_time-fold, in_order-fold, time-longer}
use Rattle.qd_base.proofs.Sorted.{stable_is_put}
use Rattle.qd_base.proofs.Tables.{missing-time}
use Rattle.qd_block.specs.Blocks.{Block, Building, in_time_order, kinds_in}
use Rattle.qd_merge.specs.Batch.{batch}
use Rattle.qd_merge.specs.Merged.{block_in, merged, with_missing}
use Rattle.qd_apply.specs.Arrivals.{wide}
use Rattle.qd_apply.specs.Next.{batch_of}
use Rattle.qd_apply.specs.Waiting.{begun_rows, staged, waiting, IsBegun, IsStage}
use Rattle.qd_apply.proofs.EachLemmas.{each_back, each_front}
use Rattle.qd_apply.proofs.PieceLemmas.{missing_cells}
use Rattle.qd_apply.proofs.WideLemmas.{filter_images}

time_padded : (col : ℕ) (r : Row) (ks : List ColType) → time_of col (r ++ map missing ks) ≡ time_of col r
time_padded col r [] = ap (time_of col) (append-nil r)
time_padded col r (k ∷ ks) =
    ap (time_of col) (sym (append_assoc r (missing k ∷ []) (map missing ks)))
    ∙ time_padded col (r ++ missing k ∷ []) ks
    ∙ time-longer col (missing k) (missing-time k) r col

every : {X : Type 0} (P : X → Type 0) → ((x : X) → P x) → (xs : List X) → AllByRecursion P xs
every P f [] = tt
every P f (x ∷ xs) = (f x, every P f xs)

module _ (col : ℕ) where
  at_wider : (kinds : List ColType) (t : ℕ) (rows : List Row) → at_time col t (map (with_missing kinds) rows) ≡ map (with_missing kinds) (at_time col t rows)
  at_wider kinds t rows =
      filter_images (λ r. eqb (time_of col r) t) (λ r. eqb (time_of col r) t) (with_missing kinds) rows
      (every (λ (r : Row). eqb (time_of col (with_missing kinds r)) t ≡ eqb (time_of col r) t) (λ r. ap (λ (n : ℕ). eqb n t) (time_padded col r (drop (length r) kinds))) rows)

  pub at_sorted : (t : ℕ) (rows : List Row) → at_time col t (in_time_order col rows) ≡ at_time col t rows
  at_sorted t rows = at_time-fold col t [] rows

  pub at_append : (t : ℕ) (xs ys : List Row) → at_time col t (xs ++ ys) ≡ at_time col t xs ++ at_time col t ys
  at_append t xs ys = filter-append (λ x. eqb (time_of col x) t) xs ys

  pub sorted_order : (rows : List Row) → IsInOrder col (in_time_order col rows)
  sorted_order rows = in_order-fold col [] [] rows tt

wide_is : (cols : List Col) (rows : List Row) → map (with_missing (kinds_in cols)) rows ≡ map (wide cols) rows
wide_is cols [] = refl
wide_is cols (r ∷ rows) = ap₂ (λ (a : Row) (l : List Row). a ∷ l) (ap (λ (m : Row). r ++ m) (missing_cells (length r) cols)) (wide_is cols rows)

-- the rows of stages stand before others, moment by moment, and these are in order
pub record AreJoined (col : ℕ) (cols : List Col) (stages : List Building) (last : List Row) (left : List Building) (rows : List Row) : Type 0 where
  pub order : IsInOrder col rows
  pub same : (t : ℕ) → at_time col t (staged cols left ++ rows) ≡ at_time col t (staged cols stages ++ last)

pub joined_first : (col : ℕ) (cols : List Col) (stages : List Building) (last : List Row) → IsInOrder col last → AreJoined col cols stages last stages last
joined_first col cols stages last order = record { order = order; same = λ t. refl }

staged_last : (cols : List Col) (left : List Building) (b : Building) → staged cols (left ++ b ∷ []) ≡ staged cols left ++ map (wide cols) b.rows
staged_last cols left b = flat_map-append (λ (x : Building). map (wide cols) x.rows) left (b ∷ []) ∙ ap (λ (l : List Row). staged cols left ++ l) (append-nil (map (wide cols) b.rows))

pub joined_next : (col : ℕ) (cols : List Col) (stages : List Building) (last : List Row) (all left : List Building) (b : Building) (rows next : List Row) → all ≡ left ++ b ∷ [] → AreJoined col cols stages last all rows
    → next ≡ fold (put col []) (map (with_missing (kinds_in cols)) (in_time_order col b.rows)) rows → IsInOrder col next → AreJoined col cols stages last left next
joined_next col cols stages last all left b rows next split are is order = record {
  order = order;
  same = λ t. (
      let ks = kinds_in cols in
      let here : at_time col t (map (with_missing ks) (in_time_order col b.rows)) ≡ at_time col t (map (wide cols) b.rows) =
      at_wider col ks t (in_time_order col b.rows) ∙ ap (map (with_missing ks)) (at_sorted col t b.rows) ∙ sym (at_wider col ks t b.rows) ∙ ap (at_time col t) (wide_is cols b.rows) in
      at_append col t (staged cols left) next
      ∙ ap (λ (l : List Row). at_time col t (staged cols left) ++ l) (ap (at_time col t) is ∙ at_time-fold col t (map (with_missing ks) (in_time_order col b.rows)) rows ∙ ap (λ (l : List Row). l ++ at_time col t rows) here)
      ∙ sym (append_assoc (at_time col t (staged cols left)) (at_time col t (map (wide cols) b.rows)) (at_time col t rows))
      ∙ ap (λ (l : List Row). l ++ at_time col t rows) (sym (at_append col t (staged cols left) (map (wide cols) b.rows)) ∙ ap (at_time col t) (sym (staged_last cols left b) ∙ ap (staged cols) (sym split)))
      ∙ sym (at_append col t (staged cols all) rows)
      ∙ are.same t
      );
}

pub joined_all : (col : ℕ) (cols : List Col) (stages : List Building) (last : List Row) (left : List Building) (rows : List Row) → left ≡ [] → AreJoined col cols stages last left rows → rows ≡ in_time_order col (staged cols stages ++ last)
joined_all col cols stages last left rows none are =
    stable_is_put col rows (staged cols stages ++ last) are.order (λ t. ap (λ (l : List Building). at_time col t (staged cols l ++ rows)) (sym none) ∙ are.same t)

-- rows in order of time, behind others
pub sorted_behind : (col : ℕ) (front rows : List Row) → in_time_order col (front ++ in_time_order col rows) ≡ in_time_order col (front ++ rows)
sorted_behind col front rows =
    stable_is_put col (in_time_order col (front ++ in_time_order col rows)) (front ++ rows) (sorted_order col (front ++ in_time_order col rows))
    (λ t. at_sorted col t (front ++ in_time_order col rows) ∙ at_append col t front (in_time_order col rows) ∙ ap (λ (l : List Row). at_time col t front ++ l) (at_sorted col t rows) ∙ sym (at_append col t front rows))

pub sorted_same : (col : ℕ) (rows : List Row) → IsInOrder col rows → in_time_order col rows ≡ rows
sorted_same col rows order = sym (stable_is_put col rows rows order (λ t. refl))

-- ---- a stage more, and the batch of all

pub record IsJoining (s : Schema) (stages : List Building) (last : List Row) (left : List Building) (b : Block) : Type 0 where
  pub kinds : b.kinds ≡ kinds_in s.cols
  pub time_col : b.time_col ≡ s.time_col
  pub each : AllByRecursion (IsStage s) left
  pub joined : AreJoined s.time_col s.cols stages last left b.rows

pub stage_joined : (s : Schema) (stages : List Building) (last : List Row) (all left : List Building) (b : Building) (keys : List ℕ) (old rows next : Block) → all ≡ left ++ b ∷ [] → AllByRecursion (IsStage s) all → rows.kinds ≡ kinds_in s.cols → rows.time_col ≡ s.time_col
    → AreJoined s.time_col s.cols stages last all rows.rows → keys ≡ [] → old ≡ record { kinds = b.kinds; time_col = b.time_col; rows = in_time_order b.time_col b.rows } → next ≡ merged keys old 0 rows → IsInOrder next.time_col next.rows
    → IsJoining s stages last left next
stage_joined s stages last all left b keys old rows next split each kinds col are none is made order =
    let parts : AllByRecursion (IsStage s) (left ++ b ∷ []) = subst (AllByRecursion (IsStage s)) split each in
    let stage : IsStage s b = (each_back (IsStage s) left (b ∷ []) parts).0 in
    let next_col : next.time_col ≡ s.time_col = ap (λ (x : Block). x.time_col) made ∙ col in
    let old_rows : old.rows ≡ in_time_order s.time_col b.rows = ap (λ (x : Block). x.rows) is ∙ ap (λ (c : ℕ). in_time_order c b.rows) stage.time_col in
    let next_rows : next.rows ≡ fold (put s.time_col []) (map (with_missing (kinds_in s.cols)) (in_time_order s.time_col b.rows)) rows.rows =
    ap (λ (x : Block). x.rows) made
    ∙ ap₂ (λ (c : ℕ) (ks : List ℕ). fold (put c ks) (map (with_missing rows.kinds) old.rows) rows.rows) col none
    ∙ ap₂ (λ (ks : List ColType) (l : List Row). fold (put s.time_col []) (map (with_missing ks) l) rows.rows) kinds old_rows in
    record {
      kinds = ap (λ (x : Block). x.kinds) made ∙ kinds;
      time_col = next_col;
      each = each_front (IsStage s) left (b ∷ []) parts;
      joined = joined_next s.time_col s.cols stages last all left b rows.rows next.rows split are next_rows (subst (λ (c : ℕ). IsInOrder c next.rows) next_col order);
    }

none_left : {X : Type 0} (xs : List X) → length xs ≡ 0 → xs ≡ []
none_left [] e = refl
none_left (x ∷ xs) e = absurd (omega (arith, e))

block_is : (s : Schema) (b : Block) (rows : List Row) → b.kinds ≡ kinds_in s.cols → b.time_col ≡ s.time_col → b.rows ≡ rows → b ≡ block_in s rows
block_is s b rows k t r =
    ap (λ (ks : List ColType). let x : Block = record { kinds = ks; time_col = b.time_col; rows = b.rows } in x) k
    ∙ ap (λ (c : ℕ). let x : Block = record { kinds = kinds_in s.cols; time_col = c; rows = b.rows } in x) t
    ∙ ap (block_in s) r

pub all_joined : (s : Schema) (stages : List Building) (last : List Row) (left : List Building) (b : Block) → b.kinds ≡ kinds_in s.cols → b.time_col ≡ s.time_col → AreJoined s.time_col s.cols stages last left b.rows → length left ≡ 0
    → b ≡ block_in s (in_time_order s.time_col (staged s.cols stages ++ last))
all_joined s stages last left b kinds col are none = block_is s b (in_time_order s.time_col (staged s.cols stages ++ last)) kinds col (joined_all s.time_col s.cols stages last left b.rows (none_left left none) are)

pub batch_made : (s : Schema) (stages : List Building) (current : Option Building) (b : Building) (last sorted block : Block) → b.rows ≡ begun_rows current → IsBegun s b → last ≡ record { kinds = b.kinds; time_col = b.time_col; rows = in_time_order b.time_col b.rows }
    → sorted ≡ block_in s (in_time_order s.time_col (staged s.cols stages ++ last.rows))
    → ((came : List Row) → sorted.rows ≡ in_time_order sorted.time_col came → block ≡ record sorted { rows = batch sorted.time_col s.keys came }) → block ≡ block_in s (batch_of (waiting s stages current))
batch_made s stages current b last sorted block rows begun last_is sorted_is made =
    let col = s.time_col in
    let front = staged s.cols stages in
    let came : List Row = front ++ begun_rows current in
    let last_rows : last.rows ≡ in_time_order col (begun_rows current) = ap (λ (x : Block). x.rows) last_is ∙ ap₂ in_time_order begun.time_col rows in
    let is : sorted ≡ block_in s (in_time_order col came) = sorted_is ∙ ap (block_in s) (ap (λ (l : List Row). in_time_order col (front ++ l)) last_rows ∙ sorted_behind col front (begun_rows current)) in
    made came (ap (λ (x : Block). x.rows) is ∙ ap (λ (c : ℕ). in_time_order c came) (sym (ap (λ (x : Block). x.time_col) is)))
    ∙ ap (λ (x : Block). let y : Block = record x { rows = batch x.time_col s.keys came } in y) is
