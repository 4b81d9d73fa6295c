-- What each call makes of a told volume: at every moment inside it, and behind it.
use Rattle.std.specs.Prelude.{ℕ, List, Result, Ok, Err}
use Rattle.qd_volume.specs.Disk.{Disk}
use Rattle.qd_durable.specs.Moments.{EachNow, LeavesOnly, Moves, SameBut}
use Rattle.qd_txnfile.specs.Versions.{GivesVersion, Version, is_version_file}
use Rattle.qd_txnfile.specs.States.{GivesKnown, GivesOneOf, Knows, Root}

-- each image of a call is one from before it in all other files
abbrev pub ChangesVersionFiles : Disk → Disk → Type 0
ChangesVersionFiles before after = Moves (SameBut is_version_file) before after

-- the version that a volume is made with
abbrev pub initial : List ℕ → Version
initial manifest = record { n = 0; manifest = manifest }

-- the files are made: each image gives the version, and the root knows it
abbrev pub IsCreated : {E : Type 0} → Result Root E → Version → Disk → Type 0
IsCreated (Ok root) v disk = EachNow disk (GivesVersion v) × ((later : Version) → Knows root v later disk)
IsCreated (Err fault) v disk = Unit {0}

pub record Creates {E : Type 0} (result : Result Root E) (v : Version) (before after : Disk) : Type 0 where
  pub created : IsCreated result v after
  pub elsewhere : ChangesVersionFiles before after

-- the gate of an older version is closed: at each moment a crash leaves the current version
pub record Closes (old new : Root) (before after : Disk) : Type 0 where
  pub any_moment : (current last : Version) → Knows old current last before → LeavesOnly before after (GivesVersion current)
  pub known : (current last next : Version) → Knows old current last before → Knows new current next after
  pub elsewhere : ChangesVersionFiles before after

-- A version is written into the other file: at each moment a crash leaves the current one.
pub record WritesBody (old new : Root) (next : Version) (before after : Disk) : Type 0 where
  pub any_moment : (current last : Version) → Knows old current last before → LeavesOnly before after (GivesVersion current)
  pub known : (current last : Version) → Knows old current last before → Knows new current next after
  pub elsewhere : ChangesVersionFiles before after

-- What is known behind a flip: after an Ok the next version is the current one, and each image gives it alone.
abbrev pub IsFlipped : {T E : Type 0} → Result T E → Root → Version → Version → Disk → Type 0
IsFlipped (Ok done) new current next disk = EachNow disk (GivesVersion next) × ((later : Version) → Knows new next later disk)
IsFlipped (Err fault) new current next disk = Knows new current next disk

-- The gate of the version in the other file is opened: at each moment a crash leaves the current version or the next one.
pub record Flips {T E : Type 0} (result : Result T E) (old new : Root) (before after : Disk) : Type 0 where
  pub any_moment : (current next : Version) → Knows old current next before → LeavesOnly before after (GivesOneOf current next)
  pub behind : (current next : Version) → Knows old current next before → IsFlipped result new current next after
  pub elsewhere : ChangesVersionFiles before after

-- what is known behind a repair: after an Ok each image gives the current version alone
abbrev pub IsRepaired : {T E : Type 0} → Result T E → Root → Version → Version → Disk → Type 0
IsRepaired (Ok done) new current next disk = EachNow disk (GivesVersion current) × Knows new current next disk
IsRepaired (Err fault) new current next disk = Knows new current next disk

-- The gate of the other file is closed again. Nothing but what could be left before can be left at any moment.
pub record Repairs {T E : Type 0} (result : Result T E) (old new : Root) (before after : Disk) : Type 0 where
  pub any_moment : (current next : Version) → Knows old current next before → LeavesOnly before after (GivesKnown old.other current next)
  pub behind : (current next : Version) → Knows old current next before → IsRepaired result new current next after
  pub elsewhere : ChangesVersionFiles before after
