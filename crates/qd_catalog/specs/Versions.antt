-- The catalogue of versions: which versions are live and what they show, which blocks no live version lists any more, and
-- how many rows were written to each block. The rule is this project's own: a block's files stay until the last live
-- version that lists it is gone, as in multi-version concurrency control.
use Rattle.std.specs.Prelude.{◌≡◌, ◌≢◌, ℕ, ◌+◌, ◌^◌, ◌<◌, ◌≤◌, max, Bool, true, false, ◌↔◌, List, [], ◌∷◌, ◌++◌, length, fold, filter, map, not, nat_eq, if◌then◌else◌, ◌==◌, is_some, Option, Some, None, Contains, IsTrue, slice_index_or, slice_set, replicate, All}
use Rattle.std.specs.List.{flat_map, list_any, IsDistinct}
use Rattle.qd_base.specs.declared.part.Part.{Part}
use Rattle.qd_manifest.specs.declared.shape.TableParts.{TableParts}
use Rattle.qd_manifest.specs.Spelling.{blocks_of}
use Rattle.qd_catalog.specs.declared.version.Version.{Version}

-- what contracts see of a catalogue
pub record Versions : Type 0 where
  -- one for each of the 64 rows
  pub versions : List (Option Version)
  -- the row of the newest version
  pub current : ℕ
  pub next_block : ℕ
  -- blocks, each with the number of rows that were written to it
  pub written : List (ℕ × ℕ)
  -- blocks that no live version lists any more, in the order in which their last versions went
  pub retired : List ℕ
  -- how many new blocks there is memory for
  pub spare : ℕ

abbrev pub version_at : Versions → ℕ → Option Version
version_at v row = slice_index_or v.versions row None

-- the row is live
abbrev pub IsLive : Versions → ℕ → Type 0
IsLive v row = is_some (version_at v row) ≡ true

-- the number of the current version
abbrev pub n_of : Option Version → Option ℕ
n_of None = None
n_of (Some x) = Some x.n

abbrev pub current_n : Versions → Option ℕ
current_n v = n_of (version_at v v.current)

-- whether a version lists a block: some part of its tables names it
abbrev pub lists : Option Version → ℕ → Bool
lists None block = false
lists (Some x) block = list_any (nat_eq block) (blocks_of x.shape)

-- a live version lists the block
abbrev pub IsListed : Versions → ℕ → Type 0
IsListed v block = (row : ℕ) × (lists (version_at v row) block ≡ true)

-- the number beside a block; 0 where it isn't there
abbrev pub rows_in : List (ℕ × ℕ) → ℕ → ℕ
rows_in [] block = 0
rows_in (e ∷ es) block = if nat_eq block e.0 then e.1 else rows_in es block

abbrev pub written_of : Versions → ℕ → ℕ
written_of v block = rows_in v.written block

-- whether a block is listed or retired
abbrev pub is_kept : Versions → ℕ → Bool
is_kept v block = list_any (λ e. nat_eq block e.0) v.written

-- the most rows of a block that parts show
abbrev pub shown : List Part → ℕ → ℕ
shown [] block = 0
shown (p ∷ ps) block = if p.block == block then max p.rows (shown ps block) else shown ps block

abbrev pub parts_of : List TableParts → List Part
parts_of tables = flat_map (λ t. t.parts) tables

-- one more than the greatest of blocks, and no less than a number
abbrev pub next_after : ℕ → List ℕ → ℕ
next_after next blocks = fold (λ n b. max n (b + 1)) next blocks

-- the blocks of a shape that are new, each as often as a part names it
abbrev pub new_blocks : Versions → List TableParts → List ℕ
new_blocks v shape = filter (λ b. not (is_kept v b)) (blocks_of shape)

-- what a version needs to be added
pub record MayAdd (v : Versions) (n : ℕ) (shape : List TableParts) : Type 0 where
  pub newer : (k : ℕ) → current_n v ≡ Some k → k < n
  pub room : length (new_blocks v shape) ≤ v.spare
  pub unretired : (b : ℕ) → Contains (blocks_of shape) b → Contains v.retired b → ⊥
  pub small : All (λ b. b + 1 < 2 ^ 64) (blocks_of shape)

-- A version was added: its row was free, and is live and current now; all other rows are as before.
pub record Adds (old new : Versions) (n : ℕ) (shape : List TableParts) (row : ℕ) : Type 0 where
  pub within : row < 64
  pub free : version_at old row ≡ None
  pub versions : new.versions ≡ slice_set old.versions row (Some (record { n = n; shape = shape }))
  pub current : new.current ≡ row
  pub next_block : new.next_block ≡ next_after old.next_block (blocks_of shape)
  pub written : (b : ℕ) → written_of new b ≡ max (written_of old b) (shown (parts_of shape) b)
  pub retired : new.retired ≡ old.retired

-- The blocks that went with a row: those that its version listed and no live version does now, each once.
pub record AreGone (old new : Versions) (row : ℕ) (gone : List ℕ) : Type 0 where
  pub once : IsDistinct nat_eq gone
  pub exactly : (b : ℕ) → Contains gone b ↔ ((lists (version_at old row) b ≡ true) × (IsListed new b → ⊥))

-- A row was retired: it is free now, and the blocks that went with it are queued.
pub record Retires (old new : Versions) (row : ℕ) : Type 0 where
  pub versions : new.versions ≡ slice_set old.versions row None
  pub current : new.current ≡ old.current
  pub next_block : new.next_block ≡ old.next_block
  pub written : (b : ℕ) → written_of new b ≡ written_of old b
  pub gone : List ℕ
  pub retired : new.retired ≡ old.retired ++ gone
  pub are_gone : AreGone old new row gone

-- The front of the queue was taken out.
pub record Sweeps (old new : Versions) (block : ℕ) : Type 0 where
  pub versions : new.versions ≡ old.versions
  pub current : new.current ≡ old.current
  pub next_block : new.next_block ≡ old.next_block
  pub written : (b : ℕ) → written_of new b ≡ (if block == b then 0 else written_of old b)
  pub retired : old.retired ≡ block ∷ new.retired

-- row 0 is the one live row
abbrev pub first_row : ℕ → List TableParts → List (Option Version)
first_row n shape = Some (record { n = n; shape = shape }) ∷ replicate 63 None

-- the catalogue of one version
pub record IsOpened (v : Versions) (n next : ℕ) (shape : List TableParts) : Type 0 where
  pub versions : v.versions ≡ first_row n shape
  pub current : v.current ≡ 0
  pub next_block : v.next_block ≡ next
  pub written : (b : ℕ) → written_of v b ≡ shown (parts_of shape) b
  pub retired : v.retired ≡ []

-- all but room is as before
pub record SameVersions (old new : Versions) : Type 0 where
  pub versions : new.versions ≡ old.versions
  pub current : new.current ≡ old.current
  pub next_block : new.next_block ≡ old.next_block
  pub written : new.written ≡ old.written
  pub retired : new.retired ≡ old.retired
