-- Which part of a table a row belongs to. QuestDB documentation: partitions, out-of-order ingestion.
use Rattle.std.specs.Prelude.{ℕ, suc, ◌<◌, Bool, false, ◌==◌, ◌&&◌, not, nat_eq, nat_le, List, [], ◌∷◌, Option, Some, None, is_some, if◌then◌else◌, filter, length, slice_index_or}
use Rattle.std.specs.Option.{option_or}
use Rattle.qd_base.specs.declared.part.Part.{Part}
use Rattle.qd_base.specs.declared.unit.TimeUnit.{TimeUnit}
use Rattle.qd_time.specs.Units.{start_of}

-- the number of the first, and of the last, of some parts of which a test holds; they are numbered from a number on
abbrev pub first_with : (Part → Bool) → ℕ → List Part → Option ℕ
first_with test n [] = None
first_with test n (p ∷ ps) = if test p then Some n else first_with test (suc n) ps

abbrev pub last_with : (Part → Bool) → ℕ → List Part → Option ℕ
last_with test n [] = None
last_with test n (p ∷ ps) = option_or (last_with test (suc n) ps) (if test p then Some n else None)

-- whether a part lies in the partition of a time; and begins no later
abbrev pub is_beside : TimeUnit → ℕ → Part → Bool
is_beside unit time p = start_of unit p.lo == start_of unit time

abbrev pub begins_by : TimeUnit → ℕ → Part → Bool
begins_by unit time p = is_beside unit time p && nat_le p.lo time

-- The number of the part that rows of a time belong to: of the parts of its partition the last that begins no later, else
-- the first. They belong to none where the partition has no part.
abbrev pub owner : TimeUnit → List Part → ℕ → Option ℕ
owner unit parts time = option_or (last_with (begins_by unit time) 0 parts) (first_with (is_beside unit time) 0 parts)

abbrev pub is_number : ℕ → Option ℕ → Bool
is_number n None = false
is_number n (Some k) = nat_eq n k

-- those of some times whose rows belong to a part, and to none
abbrev pub owned : TimeUnit → List Part → ℕ → List ℕ → List ℕ
owned unit parts n times = filter (λ t. is_number n (owner unit parts t)) times

abbrev pub strays : TimeUnit → List Part → List ℕ → List ℕ
strays unit parts times = filter (λ t. not (is_some (owner unit parts t))) times

abbrev pub no_part : Part
no_part = record { block = 0; rows = 0; cols = 0; lo = 0; hi = 0 }

-- parts in order of time, none of which begins where another one does
abbrev pub AreInOrder : List Part → Type 0
AreInOrder parts = (i j : ℕ) → i < j → j < length parts → (slice_index_or parts i no_part).lo < (slice_index_or parts j no_part).lo
