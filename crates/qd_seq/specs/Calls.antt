-- What each call makes of a told volume: at every moment inside it, and behind it.
use Rattle.std.specs.Prelude.{ℕ, ◌+◌, nat_eq, List, [], ◌∷◌, ◌++◌, length, Option, None, Some, Result, Ok, Err}
use Rattle.qd_base.specs.declared.part.WalRef.{WalRef}
use Rattle.qd_volume.specs.Disk.{Disk}
use Rattle.qd_durable.specs.Moments.{EachNow, LeavesOnly, Moves, SameBut, Touches}
use Rattle.qd_seq.specs.Layout.{GivesList, place_of}
use Rattle.qd_seq.specs.States.{GivesKnown, GivesOneOf, Knows}

-- each image of a call is one from before it in all other files
abbrev pub ChangesLog : Disk → Disk → Type 0
ChangesLog before after = Moves (SameBut (nat_eq 1)) before after

-- the log is made: each image gives the list without a reference
abbrev pub IsCreated : {T E : Type 0} → Result T E → Disk → Type 0
IsCreated (Ok log) disk = EachNow disk (GivesList []) × Knows [] None disk
IsCreated (Err fault) disk = Unit {0}

-- At each moment nothing but the mark and the first gate differs from what was there, whatever is answered.
pub record Creates {T E : Type 0} (result : Result T E) (before after : Disk) : Type 0 where
  pub created : IsCreated result after
  pub touches : Touches 1 0 9 before after
  pub elsewhere : ChangesLog before after

-- What is known behind an append: after an Ok each image gives the list with the new reference alone.
abbrev pub IsAppended : {T E : Type 0} → Result T E → List WalRef → WalRef → Option WalRef → Disk → Type 0
IsAppended (Ok n) refs ref pending disk = EachNow disk (GivesList (refs ++ ref ∷ [])) × Knows (refs ++ ref ∷ []) None disk
IsAppended (Err fault) refs ref pending disk = Knows refs pending disk

-- Where an append failed and nothing is pending, the gate of its record wasn't written: only what is behind it was.
abbrev pub IsGateLeft : {T E : Type 0} → Result T E → ℕ → Option WalRef → Disk → Disk → Type 0
IsGateLeft (Ok n) at pending before after = Unit {0}
IsGateLeft (Err fault) at None before after = Touches 1 (place_of at + 1) 25 before after
IsGateLeft (Err fault) at (Some ref) before after = Unit {0}

-- A reference is appended: at each moment a crash leaves the list as it was, or that with the new reference.
pub record Appends {T E : Type 0} (result : Result T E) (refs : List WalRef) (ref : WalRef) (pending : Option WalRef) (before after : Disk) : Type 0 where
  pub any_moment : Knows refs None before → LeavesOnly before after (GivesOneOf refs ref)
  pub behind : Knows refs None before → IsAppended result refs ref pending after
  pub gate : IsGateLeft result (length refs) pending before after
  pub elsewhere : ChangesLog before after

-- what is known behind a repair: after an Ok each image gives the list alone
abbrev pub IsRepaired : {T E : Type 0} → Result T E → List WalRef → Option WalRef → Disk → Type 0
IsRepaired (Ok done) refs pending disk = EachNow disk (GivesList refs) × Knows refs None disk
IsRepaired (Err fault) refs pending disk = Knows refs pending disk

-- The gate behind the last record is closed again. Nothing but what could be left before can be left at any moment.
pub record Repairs {T E : Type 0} (result : Result T E) (refs : List WalRef) (pending : Option WalRef) (before after : Disk) : Type 0 where
  pub any_moment : Knows refs pending before → LeavesOnly before after (GivesKnown refs pending)
  pub behind : Knows refs pending before → IsRepaired result refs pending after
  pub elsewhere : ChangesLog before after
