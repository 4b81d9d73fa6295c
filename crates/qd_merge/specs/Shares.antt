-- What becomes of the parts of a table when a batch comes. QuestDB documentation: partitions, out-of-order ingestion,
-- splitting of partitions.
use Rattle.std.specs.Prelude.{◌≡◌, ◌≢◌, ℕ, suc, ◌+◌, ◌≤◌, ◌&&◌, Bool, nat_eq, nat_lt, nat_le, List, [], ◌∷◌, ◌++◌, None, Some, if◌then◌else◌, filter, length, map, slice_index_or, slice_range, All}
use Rattle.std.specs.Option.{option_to_list}
use Rattle.std.specs.List.{flat_map, range_with_len, AllByRecursion}
use Rattle.std.specs.List.Sorted.{IsNonDecreasing}
use Rattle.qd_base.specs.declared.limits.TheConstants.{MAX_TIME}
use Rattle.qd_base.specs.declared.part.Part.{Part}
use Rattle.qd_base.specs.declared.unit.TimeUnit.{TimeUnit}
use Rattle.qd_time.specs.Units.{start_of, unit_of}
use Rattle.qd_merge.specs.declared.plan.Act.{Act}
use Rattle.qd_merge.specs.declared.plan.Act.TheVariants as act
use Rattle.qd_merge.specs.declared.shares.Rules.{Rules}
use Rattle.qd_merge.specs.declared.shares.Share.{Share}
use Rattle.qd_merge.specs.declared.shares.Share.TheVariants as share
use Rattle.qd_merge.specs.declared.shares.Split.{Split}
use Rattle.qd_merge.specs.Acts.{before, between, partition_end, partitions}
use Rattle.qd_merge.specs.Owners.{is_number, owned, owner, strays, AreInOrder}

-- ---- which rows a part gets, and whether they go behind its own

-- Rows from a time on stand behind all rows of a part, and replace none of them.
abbrev pub is_behind : Bool → Part → ℕ → Bool
is_behind keyed p time = if keyed then nat_lt p.hi time else nat_le p.hi time

-- They may be appended to it: it shows all rows that its block's files hold, and all columns of the table.
abbrev pub goes_behind : Rules → Part → ℕ → ℕ → Bool
goes_behind r p written time = nat_eq p.rows written && (nat_eq p.cols r.cols && is_behind r.keyed p time)

-- what becomes of a part whose rows of the batch are those from one up to another
abbrev pub share_on : Rules → ℕ → Part → ℕ → List ℕ → ℕ → ℕ → Share
share_on r n p written times from to =
    if nat_le to from then share.Keep n
    else if goes_behind r p written (slice_index_or times from 0) then share.Append n from to
    else share.Merge n from to

-- the place of the first of some times that passes a test, or their number
abbrev pub place_of : (ℕ → Bool) → List ℕ → ℕ
place_of test [] = 0
place_of test (t ∷ ts) = if test t then 0 else suc (place_of test ts)

-- the share of a part of a number: the rows that it owns, which stand together in the batch
abbrev pub share_of : Rules → List Part → List ℕ → List ℕ → ℕ → Part → Share
share_of r parts written times n p =
    let unit = unit_of r.unit in
    let from = place_of (λ t. is_number n (owner unit parts t)) times in
    share_on r n p (slice_index_or written n 0) times from (from + length (owned unit parts n times))

-- A partition without parts gets one, of its rows in the batch.
abbrev pub new_share : TimeUnit → List ℕ → ℕ → Share
new_share unit times start = share.New (before start times) (before (partition_end unit start) times)

-- ---- a whole table

-- The shares of parts, the first of which has a number, and those of partitions without parts among them, in order of
-- time: in front of a part stand those behind the part before it, which begins at a moment.
abbrev pub shares_behind : Rules → List Part → List ℕ → List ℕ → ℕ → ℕ → List Part → List Share
shares_behind r all written times low n [] = map (new_share (unit_of r.unit) times) (partitions (unit_of r.unit) (filter (nat_le low) (strays (unit_of r.unit) all times)))
shares_behind r all written times low n (p ∷ ps) =
    map (new_share (unit_of r.unit) times) (partitions (unit_of r.unit) (between low p.lo (strays (unit_of r.unit) all times)))
    ++ share_of r all written times n p ∷ shares_behind r all written times p.lo (suc n) ps

-- how a batch with these times is shared out among the parts of a table
abbrev pub shares : Rules → List Part → List ℕ → List ℕ → List Share
shares r parts written times = shares_behind r parts written times 0 0 parts

-- ---- acts

-- what becomes of a part of which the first rows stay
abbrev pub first_rows : ℕ → ℕ → ℕ → Act
first_rows part count rows = if nat_eq count rows then act.Keep part else act.Shorten part count

-- What becomes of a part with rows of the batch among or before its own: where some of its rows, and enough, stand before
-- all of these, they stay as they lie, and those behind are written with the batch's rows; else all are.
abbrev pub split_on : Rules → ℕ → ℕ → ℕ → ℕ → ℕ → List Act
split_on r part count rows from to =
    if nat_lt 0 count && nat_le r.split_rows count then first_rows part count rows ∷ act.Write (Some part) count from to ∷ []
    else act.Write (Some part) 0 from to ∷ []

-- the acts of a split, as code has it
abbrev pub split_acts : Split → List Act
split_acts s = option_to_list s.stays ++ s.write ∷ []

-- the acts of a share; the times of a part's own rows are known by its number
abbrev pub acts_on : Rules → (ℕ → List ℕ) → List ℕ → Share → List Act
acts_on r olds times (share.Keep n) = act.Keep n ∷ []
acts_on r olds times (share.Append n from to) = act.Append n from to ∷ []
acts_on r olds times (share.Merge n from to) = split_on r n (before (slice_index_or times from 0) (olds n)) (length (olds n)) from to
acts_on r olds times (share.New from to) = act.Write None 0 from to ∷ []

abbrev pub acts_of : Rules → (ℕ → List ℕ) → List ℕ → List Share → List Act
acts_of r olds times list = flat_map (acts_on r olds times) list

-- the acts on a table's parts, in order of time, for a batch with these times
abbrev pub acts : Rules → List Part → List ℕ → List ℕ → (ℕ → List ℕ) → List Act
acts r parts written times olds = acts_of r olds times (shares r parts written times)

-- the numbers of the parts that have rows of the batch, in order
abbrev pub touched_by : Share → List ℕ
touched_by (share.Keep n) = []
touched_by (share.Append n from to) = n ∷ []
touched_by (share.Merge n from to) = n ∷ []
touched_by (share.New from to) = []

abbrev pub touched : List Share → List ℕ
touched list = flat_map touched_by list

-- ---- laws

-- A part's share has exactly the rows that belong to it, and it is kept exactly where there are none. That of a partition
-- without parts has exactly those rows of the partition, and there are some.
abbrev pub IsOwners : TimeUnit → List Part → List ℕ → Share → Type 0
IsOwners unit parts times (share.Keep n) = owned unit parts n times ≡ []
IsOwners unit parts times (share.Append n from to) = (slice_range times from to ≡ owned unit parts n times) × (owned unit parts n times ≢ [])
IsOwners unit parts times (share.Merge n from to) = (slice_range times from to ≡ owned unit parts n times) × (owned unit parts n times ≢ [])
IsOwners unit parts times (share.New from to) = (start : ℕ) × (slice_range times from to ≡ filter (λ t. nat_eq start (start_of unit t)) (strays unit parts times)) × (slice_range times from to ≢ [])

-- the number of the part that a share is of
abbrev pub part_of : Share → List ℕ
part_of (share.Keep n) = n ∷ []
part_of (share.Append n from to) = n ∷ []
part_of (share.Merge n from to) = n ∷ []
part_of (share.New from to) = []

-- Each part has one share, in their order; each share has its owner's rows.
pub record AreOwners (unit : TimeUnit) (parts : List Part) (times : List ℕ) (list : List Share) : Type 0 where
  pub each : AllByRecursion (IsOwners unit parts times) list
  pub all : flat_map part_of list ≡ range_with_len 0 (length parts)

abbrev pub SharesAreOwners : Type 0
SharesAreOwners = (r : Rules) (parts : List Part) (written times : List ℕ) → AreInOrder parts → IsNonDecreasing times → All (λ p. p.lo ≤ MAX_TIME) parts → All (λ t. t ≤ MAX_TIME) times → AreOwners (unit_of r.unit) parts times (shares r parts written times)
