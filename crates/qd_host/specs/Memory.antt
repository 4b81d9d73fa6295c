-- A host in memory: the clock, the volume and the listener that it has, and which of its calls fail.
use Rattle.std.specs.Prelude.{◌≡◌, ℕ, zero, suc, Bool, true, false, List, [], ◌∷◌, ◌++◌, map, Option, None, Some, Result, Ok, Err}
use Rattle.qd_io.specs.declared.pair.Both.{Both}
use Rattle.qd_io.specs.Ends.{Stream}
use Rattle.qd_io.specs.Memory.{Plan, Ticking, Unread, Written, after_failure, after_pass, counted, fails_now, steady}
use Rattle.qd_net.specs.Memory.{Waiting, nobody}
use Rattle.qd_io.specs.declared.fault.IoFault.{IoFault}
use Rattle.qd_io.specs.declared.fault.IoFault.TheVariants.{Failed, Memory}
use Rattle.qd_volume.specs.Disk.{Disk}
use Rattle.qd_volume.specs.Memory as volume
use Rattle.qd_host.specs.declared.lent.Lent.{Lent}
use Rattle.qd_host.specs.Hosts.{and_named}
use Rattle.qd_host.specs.Lent.{device_of, faults_of}

-- a connection in memory
abbrev pub Wire : Type 0
Wire = Both Unread Written

pub record InMemory : Type 0 where
  -- the clock that was set and is not given yet
  pub clock : Option Ticking
  -- how many calls have failed of the clocks that were given back
  pub clock_faults : ℕ
  -- the volume on the shelf, where it isn't lent
  pub shelf : Option volume.InMemory
  -- which calls of `volume` fail
  pub plan : Plan
  -- how many calls have failed: of `volume`, and of the volumes that were given back
  pub volume_faults : ℕ
  -- the folders of which a volume was asked for
  pub folders : List (List ℕ)
  -- the listener that was set and is not given yet
  pub door : Option (Waiting Wire)
  -- the ports of which a listener was asked for
  pub ports : List ℕ
  -- how many calls have failed of the listeners that were given back
  pub listener_faults : ℕ
  -- whether every start of a thread is to be refused
  pub refuses_starts : Bool
  -- how many were refused
  pub starts_failed : ℕ
  -- the wires that were given back, how many more there is room for, and whether one was dropped since there was none
  pub wires : List Wire
  pub room : ℕ
  pub dropped : Bool

-- a host that has this volume, calls of which fail, and nothing else
abbrev pub with_volume : volume.InMemory → Plan → InMemory
with_volume given plan = record {
  clock = None;
  clock_faults = 0;
  shelf = Some given;
  plan = plan;
  volume_faults = 0;
  folders = [];
  door = None;
  ports = [];
  listener_faults = 0;
  refuses_starts = false;
  starts_failed = 0;
  wires = [];
  room = 0;
  dropped = false;
}

-- the clock that it gives next: the one that was set, or one that gives 0 at each call
abbrev pub clock_in : Option Ticking → Ticking
clock_in None = steady 0
clock_in (Some clock) = clock

-- the changes made to the volume on the shelf
abbrev pub disk_on : Option volume.InMemory → Option Disk
disk_on None = None
disk_on (Some volume) = Some volume.disk

-- the volume that the next call of `volume` gives: none where that call fails, or the shelf is empty
abbrev pub unless_failing : Bool → Option volume.InMemory → Option volume.InMemory
unless_failing true shelf = None
unless_failing false shelf = shelf

abbrev pub lent_next : InMemory → Option volume.InMemory
lent_next host = unless_failing (fails_now host.plan) host.shelf

-- a host once a volume is asked for, of a folder or of none
abbrev pub asked : InMemory → Option (List ℕ) → InMemory
asked host dir = record host { folders = and_named host.folders dir }

-- a call of `volume` that gives one
pub record Lends (old new : InMemory) (dir : Option (List ℕ)) (lent : Lent volume.InMemory) : Type 0 where
  pub volume : lent_next old ≡ Some (device_of lent)
  pub none_failed : faults_of lent ≡ 0
  pub host : new ≡ record (asked old dir) { shelf = None; plan = after_pass old.plan }

-- a call of `volume` that gives none, and is counted
pub record LendsNone (old new : InMemory) (dir : Option (List ℕ)) : Type 0 where
  pub volume : lent_next old ≡ None
  pub host : new ≡ record (asked old dir) { plan = after_failure old.plan; volume_faults = counted old.volume_faults }

-- what a call of `volume` does to a host in memory: where there is no memory for the folder's name, nothing
abbrev pub MemLends : InMemory → InMemory → Option (List ℕ) → Result (Lent volume.InMemory) IoFault → Type 0
MemLends old new dir (Ok lent) = Lends old new dir lent
MemLends old new dir (Err Failed) = LendsNone old new dir
MemLends old new dir (Err Memory) = new ≡ old

-- the listener that it gives next: the one that was set, or one to which nobody comes
abbrev pub door_in : Option (Waiting Wire) → Waiting Wire
door_in None = nobody
door_in (Some door) = door

-- a call of `listener` that gives one
pub record Listens (old new : InMemory) (port : ℕ) (lent : Lent (Waiting Wire)) : Type 0 where
  pub door : device_of lent ≡ door_in old.door
  pub none_failed : faults_of lent ≡ 0
  pub host : new ≡ record old { door = None; ports = old.ports ++ port ∷ [] }

-- what a call of `listener` does to a host in memory: it gives one, unless there is no memory for the port's number
abbrev pub MemListens : InMemory → InMemory → ℕ → Result (Lent (Waiting Wire)) IoFault → Type 0
MemListens old new port (Ok lent) = Listens old new port lent
MemListens old new port (Err Failed) = ⊥
MemListens old new port (Err Memory) = new ≡ old

-- a host that has taken a wire back: where there is no room for it, it is dropped
abbrev pub kept_in : ℕ → Wire → InMemory → InMemory
kept_in zero wire host = record host { dropped = true }
kept_in (suc room) wire host = record host { wires = host.wires ++ wire ∷ []; room = room }

abbrev pub with_wire : Wire → InMemory → InMemory
with_wire wire host = kept_in host.room wire host

-- the wires that were given back, told where none was dropped
abbrev pub told_wires : (Wire → Stream) → List Wire → (dropped : Bool) → Option (List Stream)
told_wires stream wires true = None
told_wires stream wires false = Some (map stream wires)
