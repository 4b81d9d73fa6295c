-- What a session over a store begins with and leaves, and what is said where no store is opened.
use Rattle.std.specs.Prelude.{◌≡◌, ◌⊎◌, ℕ, List, [], ◌++◌, length, Option, None}
use Rattle.qd_store_backend.specs.Backs.{AreUsual, Back, BeginsWith, current, n_in}
use Rattle.qd_store_backend.specs.Rounds.{IsOnlyOne}
use Rattle.qd_store_backend.specs.Volumes.{IsDamagedAt, IsUnopened}
use Rattle.qd_base.specs.declared.op.Entry.{Entry}
use Rattle.qd_base.specs.declared.request.Reply.{Reply}
use Rattle.qd_base.specs.declared.request.Reply.TheVariants as reply
use Rattle.qd_durable.specs.Moments.{Told}
use Rattle.qd_host.specs.Hosts.{Supply}
use Rattle.qd_io.specs.Clocks.{Timeline}
use Rattle.qd_io.specs.Ends.{HasRisen}
use Rattle.qd_print.specs.Printed.{reply_bytes}
use Rattle.qd_session.specs.Session.{PutTo}
use Rattle.qd_store.specs.declared.fault.OpenFault.{OpenFault}
use Rattle.qd_store.specs.declared.fault.OpenFault.TheVariants as fault
use Rattle.qd_store.specs.Opening.{HasFirstRow}
use Rattle.qd_store.specs.Owned.{Store as Owned}
use Rattle.qd_top.specs.declared.status.Status.{Status}
use Rattle.qd_top.specs.declared.status.Status.TheVariants as status
use Rattle.qd_top.specs.Run.{AsksFor, IsBegun, IsEnded, RanOver, Store, Traffic, fresh}
use Rattle.qd_volume.specs.Calls.{Storage}
use Rattle.qd_volume.specs.Disk.{Disk}

-- a store with the history that is told of it, as a run knows it
abbrev pub store_with : Owned → Option (List Entry) → Option Entry → Timeline → Store
store_with owned history pending clock = record {
  history = history;
  sequenced = length owned.store.sequence.refs;
  applied = n_in (current owned.store);
  pending = pending;
  volume_faults = owned.storage.faults;
  clock = clock;
}

-- as it begins: nothing is left behind the history
abbrev pub begun_of : Owned → Option (List Entry) → Timeline → Store
begun_of owned history clock = store_with owned history None clock

abbrev pub store_of : Back → Timeline → Store
store_of back clock = store_with back.parts.owned back.parts.history back.left clock

-- a host that has this volume on its shelf
abbrev pub with_volume : Storage → Supply → Supply
with_volume storage host = record host { shelf = storage.disk }

-- all that a host shows beside its volumes, and what it counted of those that came back, is as it was
pub record HasLent (host host' : Supply) : Type 0 where
  pub clock_times : host'.clock_times ≡ host.clock_times
  pub clock_faults : host'.clock_faults ≡ host.clock_faults
  pub volume_faults : host'.volume_faults ≡ host.volume_faults

-- A store was opened, or made, on the volume that a host gave, so that a session over it may begin.
pub record IsServable (found : Option (List Entry)) (host host' : Supply) (owned : Owned) : Type 0 where
  pub usual : AreUsual owned.store.limits
  pub alone : IsOnlyOne owned.store.versions.versions
  pub first : HasFirstRow owned.store.versions.versions
  pub told : BeginsWith found owned
  pub settled : owned.store.sequence.pending ≡ None
  pub lent : HasLent host host'
  pub faults : host'.lent_faults ≡ owned.storage.faults
  pub begun : IsBegun found host (begun_of owned found (fresh host'))

-- A host was asked for a volume that no store could be had of: no clock was read, and this is what was made of the volume.
pub record Refuses (Change : Disk → Disk → Type 0) (host host' : Supply) : Type 0 where
  pub clock_faults : host'.clock_faults ≡ host.clock_faults
  pub volume : Told host.shelf host'.shelf Change

-- by the reason
abbrev pub HasNoStore : OpenFault → (host host' : Supply) → Type 0
HasNoStore fault.NotMade host host' = ⊥
HasNoStore fault.Vol host host' = Refuses IsUnopened host host' × HasRisen host.volume_faults host'.volume_faults
HasNoStore (fault.Damaged file at) host host' = Refuses (IsDamagedAt file at) host host'
HasNoStore fault.Memory host host' = Refuses IsUnopened host host'

-- a volume was asked for of this folder, or of one without a name; or a call found no memory for it
abbrev pub Names : (old new : Option (List (List ℕ))) → Option (List ℕ) → (no_memory : Type 0) → Type 0
Names old new dir no_memory = AsksFor old new dir ⊎ (no_memory × (new ≡ old))

-- the statuses of a host whose volume has no store
abbrev pub IsOfNoStore : Status → Type 0
IsOfNoStore status.NoVolume = Unit {0}
IsOfNoStore status.Damaged = Unit {0}
IsOfNoStore other = ⊥

-- a session over a store of the host's volume, which the host has taken back, ended with a status
abbrev pub RanFrom : (Reply → List ℕ) → Store → (host host' : Supply) → Traffic → Status → Type 0
RanFrom print before host host' t s = (after : Store) × IsEnded host host' before after × RanOver print before after t s

-- The place of a damage was written, or a prefix of it where a write failed or no memory was found.
abbrev pub SaysDamage : (file at : ℕ) → (output output' : Option (List ℕ)) → Status → Type 0
SaysDamage file at output output' status.Damaged = PutTo output output' (reply_bytes (reply.Damaged file at))
SaysDamage file at output output' status.WriteFault = (bytes missing : List ℕ) × PutTo output output' bytes × (reply_bytes (reply.Damaged file at) ≡ bytes ++ missing)
SaysDamage file at output output' status.NoMemory = (bytes missing : List ℕ) × PutTo output output' bytes × (reply_bytes (reply.Damaged file at) ≡ bytes ++ missing)
SaysDamage file at output output' other = ⊥

-- why no store was opened was said
abbrev pub SaysFault : OpenFault → (output output' : Option (List ℕ)) → Status → Type 0
SaysFault fault.NotMade output output' s = ⊥
SaysFault fault.Vol output output' s = (s ≡ status.NoVolume) × PutTo output output' []
SaysFault (fault.Damaged file at) output output' s = SaysDamage file at output output' s
SaysFault fault.Memory output output' s = (s ≡ status.NoMemory) × PutTo output output' []
