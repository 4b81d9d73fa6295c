-- How a catalogue keeps its blocks. No public clause cites this module.
--
-- A block that is listed or retired has the rows of the versions that list it, and the number of its rows.
use Rattle.std.specs.Prelude.{◌≡◌, ℕ, ◌+◌, ◌<◌, ◌≤◌, max, Bool, true, false, ◌||◌, ◌&&◌, not, ◌==◌, nat_eq, if◌then◌else◌, ◌↔◌, List, [], ◌∷◌, ◌++◌, length, replicate, filter, is_some, Option, Some, None, Contains, slice_index_or, slice_set}
use Rattle.std.specs.List.{IsDistinct, list_any}
use Rattle.std.specs.Option.{option_map}
use Rattle.qd_catalog.specs.declared.blocks.Kept.{Kept}
use Rattle.qd_catalog.specs.declared.version.Version.{Version}
use Rattle.qd_base.specs.declared.part.Part.{Part}
use Rattle.qd_manifest.specs.Spelling.{blocks_in}
use Rattle.qd_catalog.specs.Versions.{lists, shown}

-- whether a row lists the block of this record
abbrev pub listed_by : Kept → ℕ → Bool
listed_by k row = slice_index_or k.rows row false

abbrev pub is_listed : Option Kept → ℕ → Bool
is_listed None row = false
is_listed (Some k) row = listed_by k row

-- of a block that isn't kept
abbrev pub no_rows : Kept
no_rows = record { written = 0; rows = replicate 64 false }

abbrev pub kept_in : Option Kept → Kept
kept_in None = no_rows
kept_in (Some k) = k

-- one more row lists the block, and shows so many of its rows
abbrev pub and_row : Kept → ℕ → ℕ → Kept
and_row k row n = record { written = max k.written n; rows = slice_set k.rows row true }

-- one row fewer lists the block
abbrev pub but_row : ℕ → Kept → Kept
but_row row k = record k { rows = slice_set k.rows row false }

-- the block goes with a row, the last that lists it
abbrev pub goes : Option Kept → ℕ → Bool
goes None row = false
goes (Some k) row = listed_by k row && not (list_any (λ b. b) (but_row row k).rows)

-- The blocks that are kept are those that some row lists, or that were listed once; each knows the rows that list it.
pub record Tracks (kept : ℕ → Option Kept) (listed : ℕ → ℕ → Bool) : Type 0 where
  pub rows : (b : ℕ) (k : Kept) → kept b ≡ Some k → length k.rows ≡ 64
  pub there : (b : ℕ) (k : Kept) → kept b ≡ Some k → (row : ℕ) → row < 64 → listed_by k row ≡ listed row b
  pub absent : (b : ℕ) → kept b ≡ None → (row : ℕ) → row < 64 → listed row b ≡ false

-- The queue holds the kept blocks that no row lists, each once.
pub record Queues (kept : ℕ → Option Kept) (listed : ℕ → ℕ → Bool) (retired : List ℕ) : Type 0 where
  pub once : IsDistinct nat_eq retired
  pub there : (b : ℕ) → Contains retired b → kept b ≡ None → ⊥
  pub free : (b : ℕ) → Contains retired b → (row : ℕ) → row < 64 → listed row b ≡ false
  pub all : (b : ℕ) (k : Kept) → kept b ≡ Some k → ((row : ℕ) → row < 64 → listed row b ≡ false) → Contains retired b

-- Each block of the queue stands there once, and is kept; none of its rows lists it.
pub record Waits (kept : ℕ → Option Kept) (retired : List ℕ) : Type 0 where
  pub once : IsDistinct nat_eq retired
  pub free : (b : ℕ) → Contains retired b → (k : Kept) × (kept b ≡ Some k) × (list_any (λ row. row) k.rows ≡ false)

-- which row lists which block
abbrev pub listing : List (Option Version) → ℕ → ℕ → Bool
listing versions row block = lists (slice_index_or versions row None) block

-- the blocks of a list that aren't kept, each as often as it stands there
abbrev pub new_in : (ℕ → Option Kept) → List ℕ → List ℕ
new_in kept blocks = filter (λ b. not (is_some (kept b))) blocks

-- blocks of which each that is kept is listed by some row
abbrev pub AreListed : (ℕ → Option Kept) → List ℕ → Type 0
AreListed kept blocks = (b : ℕ) (k : Kept) → Contains blocks b → kept b ≡ Some k → list_any (λ row. row) k.rows ≡ true

-- A row lists the blocks of parts, and shows their rows.
abbrev pub ListsAll : (ℕ → Option Kept) → (ℕ → Option Kept) → ℕ → List Part → Type 0
ListsAll old new row parts = (b : ℕ) → new b ≡ (if list_any (nat_eq b) (blocks_in parts) then Some (and_row (kept_in (old b)) row (shown parts b)) else old b)

-- A row lists the blocks no more, and those that go with it are behind the queue as it was, each once.
pub record Unlists (old new : ℕ → Option Kept) (row : ℕ) (blocks before after : List ℕ) : Type 0 where
  pub kept : (b : ℕ) → new b ≡ (if list_any (nat_eq b) blocks then option_map (but_row row) (old b) else old b)
  pub gone : List ℕ
  pub queue : after ≡ before ++ gone
  pub once : IsDistinct nat_eq gone
  pub exactly : (b : ℕ) → Contains gone b ↔ ((list_any (nat_eq b) blocks ≡ true) × (goes (old b) row ≡ true))
