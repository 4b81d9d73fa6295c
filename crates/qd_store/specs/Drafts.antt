-- Drafts: what becomes of transactions that are merged into the current version, and how that follows a history.
use Rattle.std.specs.Prelude.{◌≡◌, ℕ, ◌+◌, ◌^◌, ◌<◌, ◌≤◌, Bool, not, List, [], ◌∷◌, All, Some, Result, Ok, Err, length, map, take, drop}
use Rattle.std.specs.Arc.{arc_value}
use Rattle.std.specs.List.{list_any, take_while}
use Rattle.qd_base.specs.declared.op.Entry.{Entry}
use Rattle.qd_base.specs.Database.{Database, schemas_of}
use Rattle.qd_base.specs.Lawful.{LawfulFrom}
use Rattle.qd_base.specs.Replay.{first, replay}
use Rattle.qd_base.specs.Schemas.{HasNoSetKeys, sets_keys}
use Rattle.qd_block.specs.Blocks.{Block}
use Rattle.qd_catalog.specs.declared.version.Version.{Version}
use Rattle.qd_catalog.specs.Versions.{Versions, version_at}
use Rattle.qd_apply.specs.declared.olds.OldPart.{OldPart}
use Rattle.qd_apply.specs.Arrivals.{arrivals}
use Rattle.qd_apply.specs.Drafts.{Planning}
use Rattle.qd_apply.specs.Next.{grown_after, made_after, manifest_after}
use Rattle.qd_apply.specs.Olds.{old_read}
use Rattle.qd_apply.specs.Plans.{with_batch}
use Rattle.qd_apply.specs.Stands.{StandsFor}
use Rattle.qd_durable.specs.declared.fault.LogFault.{LogFault}
use Rattle.qd_durable.specs.declared.fault.LogFault.TheVariants as fault
use Rattle.qd_manifest.specs.declared.shape.TableParts.{TableParts}
use Rattle.qd_manifest.specs.Spelling.{IsManifest, schemas_in}
use Rattle.qd_versions.specs.declared.published.GrownBlock.{GrownBlock}
use Rattle.qd_versions.specs.declared.published.NewBlock.{NewBlock}
use Rattle.qd_versions.specs.Publishing.{AreNumbered}
use Rattle.qd_versions.specs.Stores.{manifest_in}
use Rattle.qd_store.specs.Grown.{growth_of, rows_written, AreShownWhole}
use Rattle.qd_store.specs.Stores.{Book}

-- what contracts see of a draft: its plan, and what its merge reads of the parts that rows are merged into, in order
pub record Drafted : Type 0 where
  pub plan : Planning
  pub olds : List OldPart

-- what they see of one that is merged: of how many transactions the version is that was merged into, and the next one; the tables of
-- the next one, its new blocks, and the rows that go behind those of parts of the version that was merged into
pub record Merging : Type 0 where
  pub base : ℕ
  pub upto : ℕ
  pub shape : List TableParts
  pub blocks : List NewBlock
  pub grown : List GrownBlock

-- ---- rounds

-- whether a transaction sets keys: whether any of its changes does
abbrev pub sets_keys_in : Entry → Bool
sets_keys_in e = list_any sets_keys e.ops

-- the transactions before the first one that sets keys
abbrev pub before_keys : List Entry → List Entry
before_keys es = take_while (λ e. not (sets_keys_in e)) es

-- What one draft takes of transactions: the first one, and those behind it before the next one that sets keys.
abbrev pub round_of : List Entry → List Entry
round_of [] = []
round_of (e ∷ es) = e ∷ before_keys es

-- ---- drafts of some transactions

-- Transactions may follow a version: it has a manifest, and over blocks by their numbers it stands for a database that they go on
-- with lawfully; none but the first sets keys; and there is room. `next` is above the numbers of all blocks so far.
pub record MayFollow (next : ℕ) (x : Version) (es : List Entry) (contents : ℕ → Block) (db : Database) : Type 0 where
  pub manifest : IsManifest x.n (manifest_in next x.shape)
  pub stands : StandsFor contents x.shape db
  pub lawful : LawfulFrom (schemas_of db) es
  pub keys : HasNoSetKeys (drop 1 es)
  pub some : 0 < length es
  pub room : x.n + length es ≤ 2 ^ 30
  pub few : All (λ t. length t.rows < 2 ^ 64) (replay db es)

-- the plan of their merge, by how many rows the files of the version's blocks hold, and how many rows may stay where they lie
abbrev pub plan_of : List (List ℕ) → ℕ → ℕ → Version → List Entry → Planning
plan_of written split next x es = record {
  base = x.n;
  upto = x.n + length es;
  next_block = next;
  shape = x.shape;
  tables = map with_batch (arrivals (schemas_in x.shape) es);
  written = written;
  split_rows = split;
}

-- a draft of transactions that follow a version
pub record IsDraft (next : ℕ) (x : Version) (es : List Entry) (contents : ℕ → Block) (db : Database) (d : Drafted) : Type 0 where
  pub follows : MayFollow next x es contents db
  pub written : List (List ℕ)
  pub split : ℕ
  pub plan : d.plan ≡ plan_of written split next x es
  pub read : d.olds ≡ old_read contents written split x.shape (plan_of written split next x es).tables

-- the same, merged: the next version's tables, its new blocks at their numbers, and the rows that go behind those of parts
pub record IsMerged (next : ℕ) (x : Version) (es : List Entry) (contents : ℕ → Block) (db : Database) (m : Merging) : Type 0 where
  pub follows : MayFollow next x es contents db
  pub written : List (List ℕ)
  pub split : ℕ
  pub base : m.base ≡ x.n
  pub upto : m.upto ≡ x.n + length es
  pub shape : m.shape ≡ (manifest_after contents written split (manifest_in next x.shape) es).shape
  pub numbered : AreNumbered next m.blocks
  pub blocks : map (λ b. arc_value b.of) m.blocks ≡ made_after contents written split x.shape es
  pub grown : map growth_of m.grown ≡ grown_after contents written split x.shape es

-- ---- over some version

abbrev pub IsDraftInto : ℕ → Version → Drafted → Type 0
IsDraftInto next x d = (es : List Entry) × (contents : ℕ → Block) × (db : Database) × IsDraft next x es contents db d

abbrev pub IsMergedInto : ℕ → Version → Merging → Type 0
IsMergedInto next x m = (es : List Entry) × (contents : ℕ → Block) × (db : Database) × IsMerged next x es contents db m

abbrev pub IsSomeDraft : Drafted → Type 0
IsSomeDraft d = (next : ℕ) × (x : Version) × IsDraftInto next x d

abbrev pub IsSomeMerged : Merging → Type 0
IsSomeMerged m = (next : ℕ) × (x : Version) × IsMergedInto next x m

-- Of the current version: a draft has how many rows were written to its blocks, and a merge puts rows only behind those of parts
-- that show all of them.
abbrev pub IsDraftOver : Versions → Drafted → Type 0
IsDraftOver v d = (x : Version) × (version_at v v.current ≡ Some x) × IsDraftInto v.next_block x d × (d.plan.written ≡ rows_written v x.shape)

abbrev pub Extends : Versions → Merging → Type 0
Extends v m = AreShownWhole v m.grown

abbrev pub IsMergedOver : Versions → Merging → Type 0
IsMergedOver v m = (x : Version) × (version_at v v.current ≡ Some x) × IsMergedInto v.next_block x m × Extends v m

-- ---- of a history

-- the transactions of a history behind the first ones, up to a number
abbrev pub between : List Entry → ℕ → ℕ → List Entry
between h from upto = drop from (take upto h)

-- The round of the transactions of a history behind the current version, up to a number, is drafted. What the files hold is never
-- damaged.
abbrev pub IsDraftedFrom : Result Drafted LogFault → Book → List Entry → ℕ → Type 0
IsDraftedFrom (Ok d) s h upto = (x : Version) × (contents : ℕ → Block) × (version_at s.versions.versions s.versions.versions.current ≡ Some x)
    × IsDraft s.versions.versions.next_block x (round_of (between h x.n upto)) contents (first h x.n) d
IsDraftedFrom (Err (fault.Damaged file at)) s h upto = ⊥
IsDraftedFrom (Err fault.Vol) s h upto = Unit {0}
IsDraftedFrom (Err fault.Memory) s h upto = Unit {0}

-- What is merged are the transactions of a history behind the current version.
abbrev pub IsNextOf : Book → List Entry → Merging → Type 0
IsNextOf s h m = (x : Version) × (contents : ℕ → Block) × (version_at s.versions.versions s.versions.versions.current ≡ Some x) × IsMerged s.versions.versions.next_block x (between h x.n m.upto) contents (first h x.n) m
