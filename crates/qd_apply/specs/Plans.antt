-- Plans: the batches of tables, and how they are shared out among their parts.
use Rattle.std.specs.Prelude.{◌≡◌, ℕ, ◌+◌, ◌≤◌, List, [], ◌∷◌, ◌++◌, drop, length, map, take}
use Rattle.std.specs.Arc.{arc_value}
use Rattle.std.specs.List.{AllByRecursion}
use Rattle.qd_base.specs.declared.part.Part.{Part}
use Rattle.qd_base.specs.Database.{StoredTable}
use Rattle.qd_base.specs.Lawful.{IsSchema}
use Rattle.qd_block.specs.Blocks.{Block}
use Rattle.qd_manifest.specs.declared.shape.TableParts.{TableParts}
use Rattle.qd_merge.specs.Merged.{block_in}
use Rattle.qd_apply.specs.declared.merging.Grown.{Grown}
use Rattle.qd_apply.specs.declared.olds.Late.{Late}
use Rattle.qd_apply.specs.declared.olds.OldPart.{OldPart}
use Rattle.qd_apply.specs.declared.plans.Planned.{Planned}
use Rattle.qd_apply.specs.Arrivals.{rest}
use Rattle.qd_apply.specs.Given.{all_grown_by, all_made_by, parts_by, reads, writes, IsBatchBlock, IsOld, IsShareOf}
use Rattle.qd_apply.specs.Next.{batch_of, first_counts, first_parts, in_table, rules_of, shares_of, TableGrowth}
use Rattle.qd_apply.specs.Olds.{late_by, part_read, times_of}
use Rattle.qd_apply.specs.Waiting.{Waits}

-- what is planned for a table over its parts
pub record IsPlanned (parts : List Part) (p : Planned) : Type 0 where
  pub schema : IsSchema p.schema
  pub batch : IsBatchBlock p.schema p.batch
  pub shares : AllByRecursion (IsShareOf (length parts)) p.shares.items

abbrev pub ArePlanned : List TableParts → List Planned → Type 0
ArePlanned shape [] = Unit {0}
ArePlanned shape (p ∷ ps) = IsPlanned (first_parts shape) p × ArePlanned (rest shape) ps

-- how many old parts plans read, and how many blocks they write
abbrev pub all_reads : List Planned → ℕ
all_reads [] = 0
all_reads (p ∷ ps) = reads p.shares.items + all_reads ps

abbrev pub all_writes : List Planned → ℕ
all_writes [] = 0
all_writes (p ∷ ps) = writes p.shares.items + all_writes ps

-- old parts that plans read, the rows of each of its table's first columns
abbrev pub AreEarlier : List Planned → List OldPart → Type 0
AreEarlier [] given = Unit {0}
AreEarlier (p ∷ ps) given = AllByRecursion (IsOld p.schema) (take (reads p.shares.items) given) × AreEarlier ps (drop (reads p.shares.items) given)

-- what plans make: tables with their parts, the blocks that are written, and the rows that go behind those of parts, in
-- order
abbrev pub shape_by : List TableParts → List Planned → ℕ → List OldPart → List TableParts
shape_by shape [] next given = []
shape_by shape (p ∷ ps) next given =
    record { schema = p.schema; parts = parts_by p.schema (first_parts shape) p.batch.rows next p.shares.items (take (reads p.shares.items) given) }
    ∷ shape_by (rest shape) ps (next + writes p.shares.items) (drop (reads p.shares.items) given)

abbrev pub all_by : List Planned → List OldPart → List Block
all_by [] given = []
all_by (p ∷ ps) given = all_made_by p.schema p.batch.rows p.shares.items (take (reads p.shares.items) given) ++ all_by ps (drop (reads p.shares.items) given)

abbrev pub grown_by_all : ℕ → List Planned → List TableGrowth
grown_by_all n [] = []
grown_by_all n (p ∷ ps) = map (in_table n) (all_grown_by p.schema p.batch.rows p.shares.items) ++ grown_by_all (n + 1) ps

-- rows that a merge puts behind those of a part
abbrev pub growth_of : Grown → TableGrowth
growth_of g = record { table = g.table; part = g.part; rows = arc_value g.rows }

-- ---- plans and the tables that they are of

-- the plan of a table whose rows wait: its batch, and how that is shared out among its parts
pub record IsPlanOf (counts : List ℕ) (split : ℕ) (parts : List Part) (t : StoredTable) (p : Planned) : Type 0 where
  pub waits : Waits t
  pub schema : p.schema ≡ t.schema
  pub batch : p.batch ≡ block_in t.schema (batch_of t)
  pub rules : p.rules ≡ rules_of split t.schema
  pub shares : p.shares.items ≡ shares_of counts split parts t

abbrev pub ArePlansOf : List (List ℕ) → ℕ → List TableParts → List StoredTable → List Planned → Type 0
ArePlansOf written split shape [] [] = Unit {0}
ArePlansOf written split shape [] (p ∷ ps) = ⊥
ArePlansOf written split shape (t ∷ ts) [] = ⊥
ArePlansOf written split shape (t ∷ ts) (p ∷ ps) = IsPlanOf (first_counts written) split (first_parts shape) t p × ArePlansOf (rest written) split (rest shape) ts ps

-- the parts that plans merge rows into, the first plan being that of the table of a number
abbrev pub plan_late : ℕ → Planned → List Late
plan_late n p = late_by n (times_of p.batch) p.shares.items

abbrev pub late_from : ℕ → List Planned → List Late
late_from n [] = []
late_from n (p ∷ ps) = plan_late n p ++ late_from (n + 1) ps

-- what is read of them, over blocks by their numbers, in order
abbrev pub read_from : (ℕ → Block) → ℕ → List TableParts → List Planned → List OldPart
read_from blocks split shape [] = []
read_from blocks split shape (p ∷ ps) = map (part_read blocks split (first_parts shape)) (plan_late 0 p) ++ read_from blocks split (rest shape) ps

-- ---- what a plan shows

-- the table of a plan, and any table, with the batch in place of the rows that wait
abbrev pub planned_table : Planned → StoredTable
planned_table p = record { schema = p.schema; rows = p.batch.rows }

abbrev pub with_batch : StoredTable → StoredTable
with_batch t = record { schema = t.schema; rows = batch_of t }

-- how many blocks a merge writes
abbrev pub writes_in : List (List ℕ) → ℕ → List TableParts → List StoredTable → ℕ
writes_in written split shape [] = 0
writes_in written split shape (t ∷ ts) = writes (shares_of (first_counts written) split (first_parts shape) t) + writes_in (rest written) split (rest shape) ts

-- old parts for those that rows are merged into, the rows of each of its table's first columns
abbrev pub AreOldsFor : List (List ℕ) → ℕ → List TableParts → List StoredTable → List OldPart → Type 0
AreOldsFor written split shape [] given = given ≡ []
AreOldsFor written split shape (t ∷ ts) given =
    let n = reads (shares_of (first_counts written) split (first_parts shape) t) in
    (n ≤ length given) × AllByRecursion (IsOld t.schema) (take n given) × AreOldsFor (rest written) split (rest shape) ts (drop n given)

-- a plan over a version's tables
pub record IsPlan (written : List (List ℕ)) (split : ℕ) (shape : List TableParts) (ps : List Planned) (list : List Late) : Type 0 where
  pub plans : ArePlansOf written split shape (map planned_table ps) ps
  pub late : list ≡ late_from 0 ps
