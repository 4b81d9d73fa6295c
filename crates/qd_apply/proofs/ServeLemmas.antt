-- Plans serve as the batches of tables do.
use Rattle.std.proofs.Common.{◌≡◌, ℕ, zero, suc, ◌+◌, ◌≤◌, ◌<◌, List, [], ◌∷◌, ◌++◌, All, length, map, take, drop, refl, sym, ap, ap₂, ◌∙◌, arith, subst, length-drop, append_assoc, get_or}
use Rattle.std.specs.Prelude.{reverse}
use Rattle.std.specs.List.{AllByRecursion, flat_map}
use Rattle.std.specs.Prelude.{Vec}
use Rattle.std.specs.declared.alloc.Global.{Global}
use Rattle.std.specs.List.Sorted.{IsNonDecreasing}
use Rattle.std.proofs.lemmas.List.Elements.{recursion_from_All}
use Rattle.std.proofs.lemmas.List.{length-map, map-append, length-reverse, length_push, reverse-append, reverse-reverse, take_all, take_at}
use Rattle.qd_base.specs.declared.cell.Cell.TheVariants as cell
use Rattle.qd_base.specs.declared.limits.TheConstants.{MAX_TIME}
use Rattle.qd_base.specs.declared.part.Part.{Part}
use Rattle.qd_base.specs.declared.schema.Schema.{Schema}
use Rattle.qd_base.specs.Database.{StoredTable}
use Rattle.qd_base.specs.Lawful.{IsSchema}
use Rattle.qd_base.specs.Rows.{Row, cell_at, time_of}
use Rattle.qd_block.specs.Blocks.{Block, in_time_order, kinds_in}
use Rattle.qd_manifest.specs.declared.shape.TableParts.{TableParts}
use Rattle.qd_merge.specs.declared.plan.Act.{Act}
use Rattle.qd_merge.specs.declared.shares.Rules.{Rules}
use Rattle.qd_merge.specs.declared.shares.Share.{Share}
use Rattle.qd_merge.specs.declared.shares.Share.TheVariants as share
use Rattle.qd_manifest.specs.Spelling.{no_part, AreParts}
use Rattle.qd_merge.specs.Batch.{last_of_equals}
use Rattle.qd_merge.specs.Laws.{IsBatch}
use Rattle.qd_merge.specs.Merged.{block_in}
use Rattle.qd_merge.specs.Owners.{AreInOrder}
use Rattle.qd_merge.specs.Shares.{acts, acts_on, shares}
use Rattle.qd_merge.proofs.Batches.{batch_is_batch, lasts-lasts}
use Rattle.qd_merge.proofs.Times.{times_lent}
use Rattle.qd_rows.specs.Sets.{no_block}
use Rattle.qd_apply.specs.declared.olds.Late.{Late}
use Rattle.qd_apply.specs.declared.olds.OldPart.{OldPart}
use Rattle.qd_apply.specs.declared.plans.Planned.{Planned}
use Rattle.qd_apply.specs.Arrivals.{rest}
use Rattle.qd_apply.specs.Given.{all_grown_by, all_made_by, parts_by, reads, writes, IsOld, IsShareOf}
use Rattle.qd_apply.specs.Laws.{CountsParts}
use Rattle.qd_apply.specs.Next.{acts_of, all_grown, all_made, batch_of, blocks_made, first_counts, first_parts, grown_from, growths, in_table, pieces_after, pieces_in, rules_of, shape_after, shares_of, table_after, table_grown, table_made, times_in, Growth, Piece, TableGrowth}
use Rattle.qd_apply.specs.Olds.{all_late, block_at, late_by, old_read, part_read, table_late, times_of}
use Rattle.qd_apply.specs.Plans.{all_by, all_reads, all_writes, grown_by_all, late_from, plan_late, planned_table, read_from, shape_by, with_batch, writes_in, AreEarlier, AreOldsFor, ArePlanned, ArePlansOf, IsPlanOf, IsPlanned}
use Rattle.qd_apply.specs.Waiting.{Waits}
use Rattle.qd_apply.proofs.BatchLemmas.{sorted_same}
use Rattle.qd_apply.proofs.EachLemmas.{each_then}
use Rattle.qd_apply.proofs.GivenLemmas.{drop_at, no_more}
use Rattle.qd_apply.proofs.LeaveLemmas.{moments, rising}
use Rattle.qd_apply.proofs.PlanLemmas.{all_made_count, got_time, grown_serve, late_count, made_serve, parts_serve, reading, shares_within, AreTimed}
use Rattle.qd_apply.proofs.ShareLemmas.{ascending_order}
use Rattle.qd_apply.proofs.TableLemmas.{ascend, batch_is, parts_of_pieces}

-- ---- the plan of a table

pub times_of_batch : (t : StoredTable) (b : Block) (times : List ℕ) → b ≡ block_in t.schema (batch_of t) → map (λ x. cell.Time x) times ≡ map (λ r. cell_at r b.time_col) b.rows → times ≡ map (time_of t.schema.time_col) (batch_of t)
times_of_batch t b times is lent = sym (times_lent t.schema.time_col times (batch_of t) (lent ∙ ap (λ (x : Block). map (λ (r : Row). cell_at r x.time_col) x.rows) is))

pub times_in_order : (t : StoredTable) (times : List ℕ) → Waits t → times ≡ map (time_of t.schema.time_col) (batch_of t) → IsNonDecreasing times
times_in_order t times waits is = subst IsNonDecreasing (sym is) (rising t.schema [] (batch_of t) (batch_is t waits.schema waits.fit))

pub times_few : (t : StoredTable) (times : List ℕ) → Waits t → times ≡ map (time_of t.schema.time_col) (batch_of t) → All (λ n. n ≤ MAX_TIME) times
times_few t times waits is = subst (All (λ n. n ≤ MAX_TIME)) (sym is) (moments t.schema [] (batch_of t) (batch_is t waits.schema waits.fit))

pub plan_of : (counts : List ℕ) (split : ℕ) (parts : List Part) (t : StoredTable) (s : Schema) (b : Block) (r : Rules) (list : Vec Share Global) (times : List ℕ) → Waits t → s ≡ t.schema → b ≡ block_in t.schema (batch_of t) → times ≡ map (time_of t.schema.time_col) (batch_of t)
    → r ≡ rules_of split s → list.items ≡ shares r parts counts times → IsPlanOf counts split parts t (record { schema = s; batch = b; rules = r; shares = list })
plan_of counts split parts t s b r list times waits schema_is block_is times_are rules_are shares_are = record {
  waits = waits;
  schema = schema_is;
  batch = block_is;
  rules = rules_are ∙ ap (rules_of split) schema_is;
  shares = shares_are ∙ ap₂ (λ (x : Rules) (l : List ℕ). shares x parts counts l) (rules_are ∙ ap (rules_of split) schema_is) times_are;
}

-- it can be carried out
pub plan_fits : (counts : List ℕ) (split : ℕ) (parts : List Part) (t : StoredTable) (p : Planned) → IsPlanOf counts split parts t p → IsPlanned parts p
plan_fits counts split parts t p is = record {
  schema = subst IsSchema (sym is.schema) is.waits.schema;
  batch = record {
    kinds = ap (λ (x : Block). x.kinds) is.batch ∙ ap (λ (x : Schema). kinds_in x.cols) (sym is.schema);
    time_col = ap (λ (x : Block). x.time_col) is.batch ∙ ap (λ (x : Schema). x.time_col) (sym is.schema);
    batch = subst (λ (x : Schema). IsBatch x.time_col x.keys p.batch.rows) (sym is.schema) (subst (IsBatch t.schema.time_col t.schema.keys) (sym (ap (λ (x : Block). x.rows) is.batch)) (batch_is_batch t.schema.time_col t.schema.keys t.rows));
  };
  shares = subst (AllByRecursion (IsShareOf (length parts))) (sym is.shares) (shares_within counts split parts t);
}

-- what it makes is what the table's batch leaves
module _ (blocks : ℕ → Block) (counts : List ℕ) (split : ℕ) (parts : List Part) (t : StoredTable) (p : Planned) (is : IsPlanOf counts split parts t p) where
  abbrev of_plan : {X : Type 0} → (Schema → List Row → List Act → X) → X
  of_plan {X} f = f p.schema p.batch.rows (flat_map (acts_on p.rules (λ n. times_in p.schema (block_at blocks parts n).rows) (times_in p.schema p.batch.rows)) p.shares.items)

  -- the plan's own words for the acts, and the table's
  plan_acts : {X : Type 0} (f : Schema → List Row → List Act → X) → of_plan f ≡ f t.schema (batch_of t) (acts_of blocks counts split parts t)
  plan_acts {X} f =
      ap₂ (λ (r : Rules) (l : List Share). f p.schema p.batch.rows (flat_map (acts_on r (λ n. times_in p.schema (block_at blocks parts n).rows) (times_in p.schema p.batch.rows)) l)) is.rules is.shares
      ∙ ap₂ (λ (s : Schema) (l : List Row). f s l (flat_map (acts_on (rules_of split t.schema) (λ n. times_in s (block_at blocks parts n).rows) (times_in s l)) (shares_of counts split parts t))) is.schema (ap (λ (x : Block). x.rows) is.batch)

  rules_are : p.rules.split_rows ≡ split
  rules_are = ap (λ (r : Rules). r.split_rows) is.rules

  -- what is read for it, by its rules
  reading_is : map (part_read blocks split parts) (plan_late 0 p) ≡ reading blocks p.rules p.schema parts p.batch.rows p.shares.items
  reading_is =
      ap₂ (λ (n c : ℕ). map (part_read blocks n parts) (late_by 0 (map (time_of c) p.batch.rows) p.shares.items)) (sym rules_are) (plan_fits counts split parts t p is).batch.time_col

  module _ (early : AllByRecursion (IsOld p.schema) (map (part_read blocks split parts) (plan_late 0 p))) where
    timed : AreTimed blocks p.rules p.schema parts p.batch.rows (reading blocks p.rules p.schema parts p.batch.rows p.shares.items)
    timed = subst (λ (l : List OldPart). AllByRecursion (λ (o : OldPart). o.rest.time_col ≡ p.schema.time_col) l) reading_is
        (each_then (IsOld p.schema) (λ (o : OldPart). o.rest.time_col ≡ p.schema.time_col) (λ o h. h.time_col) (map (part_read blocks split parts) (plan_late 0 p)) early)

    pub plan_parts : (next : ℕ) → parts_by p.schema parts p.batch.rows next p.shares.items (map (part_read blocks split parts) (plan_late 0 p)) ≡ map (λ (x : Piece). x.part) (table_after blocks next counts split parts t)
    plan_parts next =
        ap (λ (g : List OldPart). parts_by p.schema parts p.batch.rows next p.shares.items g) reading_is
        ∙ parts_serve blocks p.rules p.schema parts p.batch.rows next p.shares.items (plan_fits counts split parts t p is).shares timed
        ∙ plan_acts (λ s l xs. map (λ (x : Piece). x.part) (pieces_after s (pieces_in blocks parts) l next xs))

    pub plan_made : all_made_by p.schema p.batch.rows p.shares.items (map (part_read blocks split parts) (plan_late 0 p)) ≡ table_made blocks counts split parts t
    plan_made =
        ap (λ (g : List OldPart). all_made_by p.schema p.batch.rows p.shares.items g) reading_is
        ∙ made_serve blocks p.rules p.schema parts p.batch.rows p.shares.items (plan_fits counts split parts t p is).shares timed
        ∙ plan_acts (λ s l xs. blocks_made s (pieces_in blocks parts) l xs)

  pub plan_grown : all_grown_by p.schema p.batch.rows p.shares.items ≡ table_grown blocks counts split parts t
  plan_grown =
      grown_serve blocks p.rules p.schema parts p.batch.rows p.shares.items
      ∙ plan_acts (λ s l xs. growths s l xs)

-- ---- the plans of all tables

-- what is read for a plan, and for those behind it
module _ (blocks : ℕ → Block) (split : ℕ) (parts : List Part) (p : Planned) (back : List OldPart) where
  count : length (map (part_read blocks split parts) (plan_late 0 p)) ≡ reads p.shares.items
  count = length-map (plan_late 0 p) (part_read blocks split parts) ∙ late_count 0 (times_of p.batch) p.shares.items

  taken : take (reads p.shares.items) (map (part_read blocks split parts) (plan_late 0 p) ++ back) ≡ map (part_read blocks split parts) (plan_late 0 p)
  taken = take_at (map (part_read blocks split parts) (plan_late 0 p)) back (reads p.shares.items) count

  left_is : drop (reads p.shares.items) (map (part_read blocks split parts) (plan_late 0 p) ++ back) ≡ back
  left_is = Rattle.std.proofs.lemmas.List.drop_at (map (part_read blocks split parts) (plan_late 0 p)) back (reads p.shares.items) count

-- its rows are of the table's first columns
early_parts : (blocks : ℕ → Block) (split : ℕ) (shape : List TableParts) (p : Planned) (ps : List Planned) → AreEarlier (p ∷ ps) (read_from blocks split shape (p ∷ ps))
    → AllByRecursion (IsOld p.schema) (map (part_read blocks split (first_parts shape)) (plan_late 0 p)) × AreEarlier ps (read_from blocks split (rest shape) ps)
early_parts blocks split shape p ps early = (
  subst (AllByRecursion (IsOld p.schema)) (taken blocks split (first_parts shape) p (read_from blocks split (rest shape) ps)) early.0,
  subst (AreEarlier ps) (left_is blocks split (first_parts shape) p (read_from blocks split (rest shape) ps)) early.1,
)

pub shape_serves : (blocks : ℕ → Block) (written : List (List ℕ)) (split : ℕ) (shape : List TableParts) (ts : List StoredTable) (ps : List Planned) (next : ℕ) → ArePlansOf written split shape ts ps → AreEarlier ps (read_from blocks split shape ps)
    → shape_by shape ps next (read_from blocks split shape ps) ≡ shape_after blocks next written split shape ts
shape_serves blocks written split shape [] [] next plans early = refl
shape_serves blocks written split shape [] (p ∷ ps) next plans early = absurd plans
shape_serves blocks written split shape (t ∷ ts) [] next plans early = absurd plans
shape_serves blocks written split shape (t ∷ ts) (p ∷ ps) next plans early =
    let parts : List Part = first_parts shape in
    let counts : List ℕ = first_counts written in
    let mine : List OldPart = map (part_read blocks split parts) (plan_late 0 p) in
    let back : List OldPart = read_from blocks split (rest shape) ps in
    let each = early_parts blocks split shape p ps early in
    let number : next + writes p.shares.items ≡ next + length (table_made blocks counts split parts t) =
    ap (λ (n : ℕ). next + n) (sym (all_made_count p.schema p.batch.rows p.shares.items mine) ∙ ap length (plan_made blocks counts split parts t p plans.0 each.0)) in
    ap₂ (λ (x : TableParts) (l : List TableParts). x ∷ l)
    (ap₂ (λ (s : Schema) (l : List Part). let y : TableParts = record { schema = s; parts = l } in y) plans.0.schema
    (ap (λ (g : List OldPart). parts_by p.schema parts p.batch.rows next p.shares.items g) (taken blocks split parts p back) ∙ plan_parts blocks counts split parts t p plans.0 each.0 next))
    (ap₂ (λ (n : ℕ) (g : List OldPart). shape_by (rest shape) ps n g) number (left_is blocks split parts p back) ∙ shape_serves blocks (rest written) split (rest shape) ts ps (next + length (table_made blocks counts split parts t)) plans.1 each.1)

pub made_serves : (blocks : ℕ → Block) (written : List (List ℕ)) (split : ℕ) (shape : List TableParts) (ts : List StoredTable) (ps : List Planned) → ArePlansOf written split shape ts ps → AreEarlier ps (read_from blocks split shape ps)
    → all_by ps (read_from blocks split shape ps) ≡ all_made blocks written split shape ts
made_serves blocks written split shape [] [] plans early = refl
made_serves blocks written split shape [] (p ∷ ps) plans early = absurd plans
made_serves blocks written split shape (t ∷ ts) [] plans early = absurd plans
made_serves blocks written split shape (t ∷ ts) (p ∷ ps) plans early =
    let parts : List Part = first_parts shape in
    let counts : List ℕ = first_counts written in
    let back : List OldPart = read_from blocks split (rest shape) ps in
    let each = early_parts blocks split shape p ps early in
    ap₂ (λ (a b : List Block). a ++ b)
    (ap (λ (g : List OldPart). all_made_by p.schema p.batch.rows p.shares.items g) (taken blocks split parts p back) ∙ plan_made blocks counts split parts t p plans.0 each.0)
    (ap (λ (g : List OldPart). all_by ps g) (left_is blocks split parts p back) ∙ made_serves blocks (rest written) split (rest shape) ts ps plans.1 each.1)

pub grown_serves : (n : ℕ) (blocks : ℕ → Block) (written : List (List ℕ)) (split : ℕ) (shape : List TableParts) (ts : List StoredTable) (ps : List Planned) → ArePlansOf written split shape ts ps → grown_by_all n ps ≡ grown_from n blocks written split shape ts
grown_serves n blocks written split shape [] [] plans = refl
grown_serves n blocks written split shape [] (p ∷ ps) plans = absurd plans
grown_serves n blocks written split shape (t ∷ ts) [] plans = absurd plans
grown_serves n blocks written split shape (t ∷ ts) (p ∷ ps) plans =
    ap₂ (λ (a b : List TableGrowth). a ++ b)
    (ap (map (in_table n)) (plan_grown blocks (first_counts written) split (first_parts shape) t p plans.0))
    (grown_serves (n + 1) blocks (rest written) split (rest shape) ts ps plans.1)

pub plans_fit : (written : List (List ℕ)) (split : ℕ) (shape : List TableParts) (ts : List StoredTable) (ps : List Planned) → ArePlansOf written split shape ts ps → ArePlanned shape ps
plans_fit written split shape [] [] plans = tt
plans_fit written split shape [] (p ∷ ps) plans = absurd plans
plans_fit written split shape (t ∷ ts) [] plans = absurd plans
plans_fit written split shape (t ∷ ts) (p ∷ ps) plans = (plan_fits (first_counts written) split (first_parts shape) t p plans.0, plans_fit (rest written) split (rest shape) ts ps plans.1)

-- ---- one plan more

drop_rest : {X : Type 0} (n : ℕ) (xs : List X) → drop (suc n) xs ≡ drop n (rest xs)
drop_rest n [] = sym (no_more n [] (omega arith))
drop_rest n (x ∷ xs) = refl

-- the plan of a table of a number
abbrev pub IsPlanAt : List (List ℕ) → ℕ → List TableParts → ℕ → StoredTable → Planned → Type 0
IsPlanAt written split shape n t p = IsPlanOf (first_counts (drop n written)) split (first_parts (drop n shape)) t p

pub plans_push : (written : List (List ℕ)) (split : ℕ) (shape : List TableParts) (ts : List StoredTable) (ps : List Planned) (t : StoredTable) (p : Planned) → ArePlansOf written split shape ts ps → IsPlanAt written split shape (length ps) t p → ArePlansOf written split shape (ts ++ t ∷ []) (ps ++ p ∷ [])
plans_push written split shape [] [] t p plans is = (is, tt)
plans_push written split shape [] (q ∷ ps) t p plans is = absurd plans
plans_push written split shape (u ∷ ts) [] t p plans is = absurd plans
plans_push written split shape (u ∷ ts) (q ∷ ps) t p plans is = (
  plans.0,
  plans_push (rest written) split (rest shape) ts ps t p plans.1
      (subst (λ (l : List TableParts). IsPlanOf (first_counts (drop (length ps) (rest written))) split (first_parts l) t p) (drop_rest (length ps) shape)
      (subst (λ (l : List (List ℕ)). IsPlanOf (first_counts l) split (first_parts (drop (suc (length ps)) shape)) t p) (drop_rest (length ps) written) is)),
)

-- the tables that are left, the first of them last
pub record ArePlannedSo (written : List (List ℕ)) (split : ℕ) (shape : List TableParts) (ts left : List StoredTable) (ps : List Planned) : Type 0 where
  pub few : length ps ≤ length ts
  pub plans : ArePlansOf written split shape (take (length ps) ts) ps
  pub left_are : reverse left ≡ drop (length ps) ts

cut_next : {X : Type 0} (n : ℕ) (xs r : List X) (x : X) → drop n xs ≡ x ∷ r → (take (suc n) xs ≡ take n xs ++ x ∷ []) × (drop (suc n) xs ≡ r)
cut_next zero [] r x e = absurd (cc (e))
cut_next zero (y ∷ xs) r x e = let first : y ≡ x = cc in let back : xs ≡ r = cc in (ap (λ z. z ∷ []) first, back)
cut_next (suc n) [] r x e = absurd (cc (e))
cut_next (suc n) (y ∷ xs) r x e = let ih = cut_next n xs r x e in (ap (λ l. y ∷ l) ih.0, ih.1)

pub planned_first : (written : List (List ℕ)) (split : ℕ) (shape : List TableParts) (ts left : List StoredTable) (ps : List Planned) → left ≡ reverse ts → ps ≡ [] → ArePlannedSo written split shape ts left ps
planned_first written split shape ts left ps turned none =
    subst (λ (l : List Planned). ArePlannedSo written split shape ts left l) (sym none) (record { few = omega arith; plans = tt; left_are = ap reverse turned ∙ reverse-reverse ts })

pub planned_next : (written : List (List ℕ)) (split : ℕ) (shape : List TableParts) (ts all left : List StoredTable) (ps ps' : List Planned) (t : StoredTable) (p : Planned) → all ≡ left ++ t ∷ [] → ArePlannedSo written split shape ts all ps → IsPlanAt written split shape (length ps) t p → ps' ≡ ps ++ p ∷ [] → ArePlannedSo written split shape ts left ps'
planned_next written split shape ts all left ps ps' t p parted so is ps_is =
    let n = length ps in
    let e : t ∷ reverse left ≡ drop n ts = sym (ap reverse parted ∙ reverse-append left (t ∷ [])) ∙ so.left_are in
    let cut = cut_next n ts (reverse left) t (sym e) in
    let size : length ps' ≡ suc n = omega (arith, ap length ps_is, length_push ps p) in
    record {
      few = omega (arith, size, ap length e, length-drop n ts);
      plans = subst (λ (m : ℕ). ArePlansOf written split shape (take m ts) ps') (sym size)
          (subst (λ (l : List Planned). ArePlansOf written split shape (take (suc n) ts) l) (sym ps_is)
          (subst (λ (l : List StoredTable). ArePlansOf written split shape l (ps ++ p ∷ [])) (sym cut.0) (plans_push written split shape (take n ts) ps t p so.plans is)));
      left_are = sym (ap (λ (m : ℕ). drop m ts) size ∙ cut.1);
    }

pub planned_all : (written : List (List ℕ)) (split : ℕ) (shape : List TableParts) (ts left : List StoredTable) (ps : List Planned) → length left ≡ 0 → ArePlannedSo written split shape ts left ps → ArePlansOf written split shape ts ps
planned_all written split shape ts left ps none so =
    let size : length ts ≤ length ps = omega (arith, ap length so.left_are, length-reverse left, none, length-drop (length ps) ts) in
    subst (λ (l : List StoredTable). ArePlansOf written split shape l ps) (take_all (length ps) ts size) so.plans

-- ---- what a plan shows

last_again : (keys : List ℕ) (rows : List Row) → last_of_equals keys (last_of_equals keys rows) ≡ last_of_equals keys rows
last_again [] rows = refl
last_again (k ∷ ks) rows = lasts-lasts (k ∷ ks) rows

pub batch_again : (t : StoredTable) → batch_of (with_batch t) ≡ batch_of t
batch_again t =
    ap (last_of_equals t.schema.keys) (sorted_same t.schema.time_col (batch_of t) (batch_is_batch t.schema.time_col t.schema.keys t.rows).in_order)
    ∙ last_again t.schema.keys (in_time_order t.schema.time_col t.rows)

pub plan_shown : (counts : List ℕ) (split : ℕ) (parts : List Part) (t : StoredTable) (p : Planned) → IsPlanOf counts split parts t p → planned_table p ≡ with_batch t
plan_shown counts split parts t p is = ap₂ (λ (s : Schema) (l : List Row). let x : StoredTable = record { schema = s; rows = l } in x) is.schema (ap (λ (x : Block). x.rows) is.batch)

pub plan_again : (counts : List ℕ) (split : ℕ) (parts : List Part) (t : StoredTable) (p : Planned) → IsPlanOf counts split parts t p → IsPlanOf counts split parts (planned_table p) p
plan_again counts split parts t p is = subst (λ (x : StoredTable). IsPlanOf counts split parts x p) (sym (plan_shown counts split parts t p is)) (record {
  waits = record { schema = is.waits.schema; fit = (batch_is t is.waits.schema is.waits.fit).fit };
  schema = is.schema;
  batch = is.batch ∙ ap (block_in t.schema) (sym (batch_again t));
  rules = is.rules;
  shares = is.shares ∙ ap (λ (l : List Row). shares (rules_of split t.schema) parts counts (times_in t.schema l)) (sym (batch_again t));
})

pub plans_again : (written : List (List ℕ)) (split : ℕ) (shape : List TableParts) (ts : List StoredTable) (ps : List Planned) → ArePlansOf written split shape ts ps → ArePlansOf written split shape (map planned_table ps) ps
plans_again written split shape [] [] plans = tt
plans_again written split shape [] (p ∷ ps) plans = absurd plans
plans_again written split shape (t ∷ ts) [] plans = absurd plans
plans_again written split shape (t ∷ ts) (p ∷ ps) plans = (plan_again (first_counts written) split (first_parts shape) t p plans.0, plans_again (rest written) split (rest shape) ts ps plans.1)

pub plans_shown : (written : List (List ℕ)) (split : ℕ) (shape : List TableParts) (ts : List StoredTable) (ps : List Planned) → ArePlansOf written split shape ts ps → map planned_table ps ≡ map with_batch ts
plans_shown written split shape [] [] plans = refl
plans_shown written split shape [] (p ∷ ps) plans = absurd plans
plans_shown written split shape (t ∷ ts) [] plans = absurd plans
plans_shown written split shape (t ∷ ts) (p ∷ ps) plans = ap₂ (λ (x : StoredTable) (l : List StoredTable). x ∷ l) (plan_shown (first_counts written) split (first_parts shape) t p plans.0) (plans_shown (rest written) split (rest shape) ts ps plans.1)

-- the next version by a draft's tables is that by their batches (so that qd_store may cite merging_stands of the draft)
module _ (blocks : ℕ → Block) (counts : List ℕ) (split : ℕ) (parts : List Part) (t : StoredTable) where
  -- the table's own acts of any rows
  abbrev of_rows : {X : Type 0} → (List Row → List Act → X) → List Row → X
  of_rows {X} f l = f l (acts (rules_of split t.schema) parts counts (times_in t.schema l) (λ n. times_in t.schema (blocks (get_or parts n no_part).block).rows))

  again : {X : Type 0} (f : List Row → List Act → X) → of_rows f (batch_of (with_batch t)) ≡ of_rows f (batch_of t)
  again {X} f = ap (of_rows f) (batch_again t)

  pub after_again : (next : ℕ) → table_after blocks next counts split parts (with_batch t) ≡ table_after blocks next counts split parts t
  after_again next = again (λ l xs. pieces_after t.schema (pieces_in blocks parts) l next xs)

  pub made_same : table_made blocks counts split parts (with_batch t) ≡ table_made blocks counts split parts t
  made_same = again (λ l xs. blocks_made t.schema (pieces_in blocks parts) l xs)

  pub grown_same : table_grown blocks counts split parts (with_batch t) ≡ table_grown blocks counts split parts t
  grown_same = again (λ l xs. growths t.schema l xs)

pub shape_again : (blocks : ℕ → Block) (written : List (List ℕ)) (split : ℕ) (shape : List TableParts) (next : ℕ) (ts : List StoredTable) → shape_after blocks next written split shape (map with_batch ts) ≡ shape_after blocks next written split shape ts
shape_again blocks written split shape next [] = refl
shape_again blocks written split shape next (t ∷ ts) =
    let counts : List ℕ = first_counts written in
    let parts : List Part = first_parts shape in
    ap₂ (λ (ps : List Piece) (l : List TableParts). (let x : TableParts = record { schema = t.schema; parts = map (λ (y : Piece). y.part) ps } in x) ∷ l) (after_again blocks counts split parts t next)
    (ap (λ (l : List Block). shape_after blocks (next + length l) (rest written) split (rest shape) (map with_batch ts)) (made_same blocks counts split parts t)
    ∙ shape_again blocks (rest written) split (rest shape) (next + length (table_made blocks counts split parts t)) ts)

pub made_again : (blocks : ℕ → Block) (written : List (List ℕ)) (split : ℕ) (shape : List TableParts) (ts : List StoredTable) → all_made blocks written split shape (map with_batch ts) ≡ all_made blocks written split shape ts
made_again blocks written split shape [] = refl
made_again blocks written split shape (t ∷ ts) =
    ap₂ (λ (a b : List Block). a ++ b) (made_same blocks (first_counts written) split (first_parts shape) t) (made_again blocks (rest written) split (rest shape) ts)

pub grown_again_from : (n : ℕ) (blocks : ℕ → Block) (written : List (List ℕ)) (split : ℕ) (shape : List TableParts) (ts : List StoredTable) → grown_from n blocks written split shape (map with_batch ts) ≡ grown_from n blocks written split shape ts
grown_again_from n blocks written split shape [] = refl
grown_again_from n blocks written split shape (t ∷ ts) =
    ap₂ (λ (a : List Growth) (b : List TableGrowth). map (in_table n) a ++ b) (grown_same blocks (first_counts written) split (first_parts shape) t) (grown_again_from (n + 1) blocks (rest written) split (rest shape) ts)

pub grown_again : (blocks : ℕ → Block) (written : List (List ℕ)) (split : ℕ) (shape : List TableParts) (ts : List StoredTable) → all_grown blocks written split shape (map with_batch ts) ≡ all_grown blocks written split shape ts
grown_again blocks written split shape ts = grown_again_from 0 blocks written split shape ts

-- what a plan's shares read and write is what its tables' shares do
pub late_is : (n : ℕ) (counts : List ℕ) (split : ℕ) (parts : List Part) (t : StoredTable) (p : Planned) → IsPlanOf counts split parts t p → plan_late n p ≡ table_late n counts split parts t
late_is n counts split parts t p is = ap₂ (λ (b : Block) (xs : List Share). late_by n (times_of b) xs) is.batch is.shares

pub reads_shown : (blocks : ℕ → Block) (written : List (List ℕ)) (split : ℕ) (shape : List TableParts) (ts : List StoredTable) (ps : List Planned) → ArePlansOf written split shape ts ps → old_read blocks written split shape ts ≡ read_from blocks split shape ps
reads_shown blocks written split shape [] [] plans = refl
reads_shown blocks written split shape [] (p ∷ ps) plans = absurd plans
reads_shown blocks written split shape (t ∷ ts) [] plans = absurd plans
reads_shown blocks written split shape (t ∷ ts) (p ∷ ps) plans =
    ap₂ (λ (xs : List Late) (l : List OldPart). map (part_read blocks split (first_parts shape)) xs ++ l) (sym (late_is 0 (first_counts written) split (first_parts shape) t p plans.0)) (reads_shown blocks (rest written) split (rest shape) ts ps plans.1)

pub writes_shown : (written : List (List ℕ)) (split : ℕ) (shape : List TableParts) (ts : List StoredTable) (ps : List Planned) → ArePlansOf written split shape ts ps → writes_in written split shape ts ≡ all_writes ps
writes_shown written split shape [] [] plans = refl
writes_shown written split shape [] (p ∷ ps) plans = absurd plans
writes_shown written split shape (t ∷ ts) [] plans = absurd plans
writes_shown written split shape (t ∷ ts) (p ∷ ps) plans = ap₂ (λ (xs : List Share) (n : ℕ). writes xs + n) (sym plans.0.shares) (writes_shown (rest written) split (rest shape) ts ps plans.1)

pub olds_serve : (written : List (List ℕ)) (split : ℕ) (shape : List TableParts) (ts : List StoredTable) (ps : List Planned) (given : List OldPart) → ArePlansOf written split shape ts ps → AreOldsFor written split shape ts given → AreEarlier ps given × (all_reads ps ≤ length given)
olds_serve written split shape [] [] given plans are = (tt, omega arith)
olds_serve written split shape [] (p ∷ ps) given plans are = absurd plans
olds_serve written split shape (t ∷ ts) [] given plans are = absurd plans
olds_serve written split shape (t ∷ ts) (p ∷ ps) given plans are =
    let a : AreOldsFor written split shape (t ∷ ts) given = are in
    let some : reads p.shares.items ≤ length given = subst (λ (xs : List Share). reads xs ≤ length given) (sym plans.0.shares) a.0 in
    let here : AllByRecursion (IsOld p.schema) (take (reads p.shares.items) given) =
    subst (λ (s : Schema). AllByRecursion (IsOld s) (take (reads p.shares.items) given)) (sym plans.0.schema) (subst (λ (xs : List Share). AllByRecursion (IsOld t.schema) (take (reads xs) given)) (sym plans.0.shares) a.1) in
    let later = olds_serve (rest written) split (rest shape) ts ps (drop (reads p.shares.items) given) plans.1 (subst (λ (xs : List Share). AreOldsFor (rest written) split (rest shape) ts (drop (reads xs) given)) (sym plans.0.shares) a.2) in
    ((here, later.0), omega (arith, some, later.1, length-drop (reads p.shares.items) given))

pub late_shown : (n : ℕ) (written : List (List ℕ)) (split : ℕ) (shape : List TableParts) (ts : List StoredTable) (ps : List Planned) → ArePlansOf written split shape ts ps → late_from n ps ≡ all_late n written split shape ts
late_shown n written split shape [] [] plans = refl
late_shown n written split shape [] (p ∷ ps) plans = absurd plans
late_shown n written split shape (t ∷ ts) [] plans = absurd plans
late_shown n written split shape (t ∷ ts) (p ∷ ps) plans =
    ap₂ (λ (a b : List Late). a ++ b) (late_is n (first_counts written) split (first_parts shape) t p plans.0) (late_shown (n + 1) (rest written) split (rest shape) ts ps plans.1)

-- ---- one share, and one table, whose late parts are told

late_cons : (table : ℕ) (times : List ℕ) (a : Share) (list : List Share) → late_by table times (a ∷ list) ≡ late_by table times (a ∷ []) ++ late_by table times list
late_cons table times (share.Keep p) list = refl
late_cons table times (share.Append p a b) list = refl
late_cons table times (share.Merge p a b) list = refl
late_cons table times (share.New a b) list = refl

pub late_next : (table : ℕ) (times : List ℕ) (i : ℕ) (list : List Share) (a : Share) (so new all : List Late) → i < length list → a ≡ get_or list i a → so ++ late_by table times (drop i list) ≡ all → new ≡ so ++ late_by table times (a ∷ [])
    → new ++ late_by table times (drop (i + 1) list) ≡ all
late_next table times i list a so new all lt is so_far more =
    let later = late_by table times (drop (i + 1) list) in
    ap (λ (l : List Late). l ++ late_by table times (drop (i + 1) list)) more
    ∙ append_assoc so (late_by table times (a ∷ [])) later
    ∙ ap (λ (l : List Late). so ++ l) (sym (late_cons table times a (drop (i + 1) list)) ∙ ap (late_by table times) (sym (drop_at i list a lt is)))
    ∙ so_far

-- the part of one share, by the batch's own words for its time
pub late_here : (table : ℕ) (b : Block) (a : Share) (part i j first : ℕ) (so new : List Late) → a ≡ share.Merge part i j → first ≡ time_of b.time_col (get_or b.rows i []) → new ≡ so ++ record { table = table; part = part; first = first } ∷ []
    → new ≡ so ++ late_by table (times_of b) (a ∷ [])
late_here table b a part i j first so new a_is first_is more =
    more
    ∙ ap (λ (n : ℕ). so ++ (let l : Late = record { table = table; part = part; first = n } in l) ∷ []) (first_is ∙ sym (got_time b.time_col b.rows i))
    ∙ ap (λ (x : Share). so ++ late_by table (times_of b) (x ∷ [])) (sym a_is)

pub plan_told : (i : ℕ) (ps : List Planned) (p : Planned) (so new all : List Late) → i < length ps → p ≡ get_or ps i p → so ++ late_from i (drop i ps) ≡ all → new ≡ so ++ plan_late i p → new ++ late_from (i + 1) (drop (i + 1) ps) ≡ all
plan_told i ps p so new all lt is so_far more =
    ap (λ (l : List Late). l ++ late_from (i + 1) (drop (i + 1) ps)) more
    ∙ append_assoc so (plan_late i p) (late_from (i + 1) (drop (i + 1) ps))
    ∙ ap (λ (l : List Planned). so ++ late_from i l) (sym (drop_at i ps p lt is))
    ∙ so_far

-- ---- the parts of a version's table of a number

parts_order : (s : Schema) (ps : List Part) → AreParts s ps → AreInOrder ps
parts_order s ps are =
    let blocks : ℕ → Block = λ n. no_block in
    let each : AllByRecursion (λ (p : Part). p.lo ≤ p.hi) ps = recursion_from_All (λ (p : Part). p.lo ≤ p.hi) ps (λ k d lt. (are.each k d lt).in_order) in
    subst AreInOrder (parts_of_pieces blocks ps) (ascending_order (pieces_in blocks ps) (in_pieces blocks ps each) (ascend blocks ps each are.apart))
  where
    in_pieces : (blocks : ℕ → Block) (qs : List Part) → AllByRecursion (λ (p : Part). p.lo ≤ p.hi) qs → AllByRecursion (λ (x : Piece). x.part.lo ≤ x.part.hi) (pieces_in blocks qs)
    in_pieces blocks [] h = tt
    in_pieces blocks (q ∷ qs) h = (h.0, in_pieces blocks qs h.1)

-- they are in order, begin no later than moments go, and there is a count for each
pub record MayPlan (counts : List ℕ) (ps : List Part) : Type 0 where
  pub order : AreInOrder ps
  pub begin : All (λ (p : Part). p.lo ≤ MAX_TIME) ps
  pub many : length counts ≡ length ps

pub may_plan : (n : ℕ) (shape : List TableParts) (written : List (List ℕ)) → All (λ (t : TableParts). AreParts t.schema t.parts) shape → CountsParts shape written → MayPlan (first_counts (drop n written)) (first_parts (drop n shape))
may_plan n [] [] parts counts = none n n
  where
    none : (a b : ℕ) → MayPlan (first_counts (drop a [])) (first_parts (drop b []))
    none zero zero = record { order = λ i j lt within. absurd (omega (arith, lt, within)); begin = λ k d lt. absurd (omega (arith, lt)); many = refl }
    none zero (suc b) = record { order = λ i j lt within. absurd (omega (arith, lt, within)); begin = λ k d lt. absurd (omega (arith, lt)); many = refl }
    none (suc a) zero = record { order = λ i j lt within. absurd (omega (arith, lt, within)); begin = λ k d lt. absurd (omega (arith, lt)); many = refl }
    none (suc a) (suc b) = record { order = λ i j lt within. absurd (omega (arith, lt, within)); begin = λ k d lt. absurd (omega (arith, lt)); many = refl }
may_plan n [] (c ∷ cs) parts counts = absurd (cc (counts))
may_plan n (x ∷ xs) [] parts counts = absurd (cc (counts))
may_plan zero (x ∷ xs) (c ∷ cs) parts counts =
    let are = parts 0 x (omega arith) in
    record {
      order = parts_order x.schema x.parts are;
      begin = λ k d lt. (let is = are.each k d lt in let a = is.in_order in let b = is.timely in omega (arith, a, b));
      many = cc;
    }
may_plan (suc n) (x ∷ xs) (c ∷ cs) parts counts = may_plan n xs cs (λ k d lt. parts (suc k) d (omega (arith, lt))) cc
