-- Which parts of a table a batch touches, and how. QuestDB documentation: partitions, out-of-order ingestion.
use Rattle.std.specs.Prelude.{ℕ, suc, ◌+◌, ◌==◌, ◌&&◌, not, nat_lt, nat_le, min, max, List, [], ◌∷◌, ◌++◌, None, Some, if◌then◌else◌, filter, length, map}
use Rattle.qd_base.specs.declared.limits.TheConstants.{MAX_TIME}
use Rattle.qd_base.specs.declared.part.Part.{Part}
use Rattle.qd_base.specs.declared.unit.TimeUnit.{TimeUnit}
use Rattle.qd_time.specs.Units.{start_of, end_of}
use Rattle.qd_merge.specs.declared.plan.Act.{Act}
use Rattle.qd_merge.specs.declared.plan.Act.TheVariants as act

-- how many times are before a moment
abbrev pub before : ℕ → List ℕ → ℕ
before moment times = length (filter (λ t. nat_lt t moment) times)

-- the times from one moment up to another
abbrev pub between : ℕ → ℕ → List ℕ → List ℕ
between from to times = filter (λ t. nat_le from t && nat_lt t to) times

-- the starts of the partitions of times, each once, in the order of the times
abbrev pub partitions : TimeUnit → List ℕ → List ℕ
partitions unit [] = []
partitions unit (t ∷ ts) = start_of unit t ∷ filter (λ s. not (s == start_of unit t)) (partitions unit ts)

-- the first moment behind the partition of a time, as far as moments go
abbrev pub partition_end : TimeUnit → ℕ → ℕ
partition_end unit time = if nat_le (end_of unit time) MAX_TIME then end_of unit time else MAX_TIME + 1

-- A partition without parts gets one, of its rows in the batch.
abbrev pub new_part : TimeUnit → List ℕ → ℕ → Act
new_part unit times start = act.Write None 0 (before start times) (before (partition_end unit start) times)

-- where a part's rows of the batch end: at the next part of its partition, or at the end of that
abbrev pub part_end : TimeUnit → Part → List Part → ℕ
part_end unit part [] = partition_end unit part.lo
part_end unit part (next ∷ rest) = min next.lo (partition_end unit part.lo)

-- A part without rows in the batch is kept; else it is written anew, whole, with them.
abbrev pub on_part : ℕ → ℕ → ℕ → Act
on_part part from to = if from == to then act.Keep part else act.Write (Some part) 0 from to

-- The acts on parts, the first of which has a number, for the batch's times from a moment on. The first part of a
-- partition takes the partition's rows from its start on, each other part those from its own first time on.
abbrev pub acts_from : TimeUnit → List ℕ → ℕ → ℕ → List Part → List Act
acts_from unit times done number [] = map (new_part unit times) (partitions unit (filter (nat_le done) times))
acts_from unit times done number (part ∷ parts) =
    let from = max done (start_of unit part.lo) in
    let to = part_end unit part parts in
    map (new_part unit times) (partitions unit (between done from times)) ++ on_part number (before from times) (before to times) ∷ acts_from unit times to (suc number) parts

-- the acts on a table's parts, in order of time, for a batch with these times
abbrev pub acts : TimeUnit → List Part → List ℕ → List Act
acts unit parts times = acts_from unit times 0 0 parts
