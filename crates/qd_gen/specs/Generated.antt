-- The generated input: lines of one table, cut into a hundred batches, with every eighth line in the batch behind its
-- own; then what is asked of them. It is this project's own.
use Rattle.std.specs.Prelude.{ℕ, ◌+◌, ◌-◌, ◌*◌, ◌/◌, ◌%◌, Bool, not, List, [], ◌∷◌, ◌++◌, ◌==◌, codes, map, if◌then◌else◌}
use Rattle.std.specs.List.{filter, flat_map, range_with_len}
use Rattle.std.specs.Fmt.{decimal}
use Rattle.qd_base.specs.declared.request.Request.{Request}
use Rattle.qd_base.specs.declared.request.Request.TheVariants as request
use Rattle.qd_frames.specs.Frames.{frame}

-- Line i, counted from 0: one of three sensors in turn; a value from 0 to 999 that goes on by 7; a time in nanoseconds
-- that goes on by half a minute with each three lines, from 2024-01-01 on.
abbrev pub line : (number i : ℕ) → List ℕ
line number i = codes "gen,sensor=s" ++ decimal (i % 3) ++ codes " v=" ++ decimal ((number + 7 * i) % 1000) ++ codes "i " ++ decimal (1704067200000000000 + 30000000000 * (i / 3)) ++ 10 ∷ []

-- every eighth line is late
abbrev pub is_late : ℕ → Bool
is_late i = i % 8 == 7

-- the lines that belong to a batch, in order: of a hundred batches each has as large a part of them
abbrev pub own : (lines batch : ℕ) → List ℕ
own lines batch = filter (λ i. 100 * i / lines == batch) (range_with_len 0 lines)

-- what comes at the front of a batch: the late lines of the one before it
abbrev pub late_before : (lines batch : ℕ) → List ℕ
late_before lines batch = if batch == 0 then [] else filter is_late (own lines (batch - 1))

-- what stays of the lines of a batch: those that aren't late, and all of the last one's
abbrev pub kept : (lines batch : ℕ) → List ℕ
kept lines batch = if batch == 99 then own lines batch else filter (λ i. not (is_late i)) (own lines batch)

-- the text of a batch
abbrev pub batch_text : (number lines batch : ℕ) → List ℕ
batch_text number lines batch = flat_map (line number) (late_before lines batch ++ kept lines batch)

-- the batch as it is asked to be written
abbrev pub write : (number lines batch : ℕ) → Request
write number lines batch = request.Write (batch_text number lines batch)

-- what is asked behind the batches
abbrev pub questions : List Request
questions =
    request.Apply
    ∷ request.Sql (codes "SELECT count(), sum(v), min(v), max(v) FROM gen")
    ∷ request.Sql (codes "gen LATEST ON timestamp PARTITION BY sensor")
    ∷ request.Sql (codes "SELECT timestamp, count(), last(v) FROM gen SAMPLE BY 6h")
    ∷ request.End ∷ []

-- the first n batches, in order
unfoldable pub writes : (number lines n : ℕ) → List Request
writes number lines n = map (write number lines) (range_with_len 0 n)

-- all that is asked: the hundred batches, and the questions
abbrev pub requests : (number lines : ℕ) → List Request
requests number lines = writes number lines 100 ++ questions

-- the bytes of the input: a frame for each request
abbrev pub input : (number lines : ℕ) → List ℕ
input number lines = flat_map frame (requests number lines)
