-- What a host shows of the machine that it gives to a program: clocks, a volume and listeners, each of which it lends and takes
-- back, and the threads that may be started.
use Rattle.std.specs.Prelude.{◌≡◌, ◌⊎◌, ℕ, ◌-◌, nat_le, cond, Bool, List, [], ◌∷◌, ◌++◌, map, Option, Some, None, option_map, Result, Ok, Err}
use Rattle.qd_io.specs.Clocks.{Times}
use Rattle.qd_io.specs.Ends.{Stream, counts_together, last_count}
use Rattle.qd_io.specs.declared.fault.IoFault.{IoFault}
use Rattle.qd_io.specs.declared.fault.IoFault.TheVariants as fault
use Rattle.qd_volume.specs.Calls.{Storage}
use Rattle.qd_volume.specs.Disk.{Disk}

-- What a host shows at a moment.
pub record Supply : Type 0 where
  -- the times of the clock that it gives next, where it tells them
  pub clock_times : Option Times
  -- how many calls have failed of the clocks that were given back
  pub clock_faults : ℕ
  -- the changes made to the volume that it gives next, where it tells them
  pub shelf : Option Disk
  -- how many calls have failed: of `volume`, and of the volumes that were given back
  pub volume_faults : ℕ
  -- how many calls had failed of the volume that is lent, when it was given
  pub lent_faults : ℕ
  -- the folders of which a volume was asked for, by their names, the first one first, where it tells them
  pub folders : Option (List (List ℕ))
  -- the wires of the listener that it gives next, the first one first, where it tells them
  pub wires : Option (List Stream)
  -- the ports of which a listener was asked for, the first one first, where it tells them
  pub ports : Option (List ℕ)
  -- how many calls have failed: of `listener`, and of the listeners that were given back
  pub listener_faults : ℕ
  -- whether it wants every start of a thread to be refused
  pub refuses_starts : Bool
  -- how many starts of threads were refused, as far as it was told
  pub starts_failed : ℕ
  -- the wires that were given back, the first one first, as they were then, where it tells them
  pub returned : Option (List Stream)

-- a host that has given a clock: only the times of the next one may be others
abbrev pub without_clock : Option Times → Supply → Supply
without_clock next supply = record supply { clock_times = next }

-- a host that has taken back a clock with so many faults: they are counted with those of the clocks before
abbrev pub after_clock : ℕ → Supply → Supply
after_clock faults supply = record supply { clock_faults = counts_together supply.clock_faults faults }

-- how much a count of faults rose; from one that stands at its greatest number nobody knows, and it is that number
abbrev pub risen : ℕ → ℕ → ℕ
risen before now = cond (nat_le last_count now) last_count (now - before)

-- a host that has taken back a volume: it is on the shelf, and the faults that it had since it was lent are counted
abbrev pub after_volume : Storage → Supply → Supply
after_volume storage supply = record supply { shelf = storage.disk; volume_faults = counts_together supply.volume_faults (risen supply.lent_faults storage.faults) }

-- a host that was asked for a listener: only what it shows of listeners may be as in another one
abbrev pub with_listeners_of : Supply → Supply → Supply
with_listeners_of other supply = record supply { wires = other.wires; ports = other.ports; listener_faults = other.listener_faults }

-- a host that has taken back a listener with so many faults
abbrev pub after_listener : ℕ → Supply → Supply
after_listener faults supply = record supply { listener_faults = counts_together supply.listener_faults faults }

-- a host that was told of so many refused starts
abbrev pub after_starts : ℕ → Supply → Supply
after_starts refused supply = record supply { starts_failed = counts_together supply.starts_failed refused }

-- a host that has taken back a wire: only the wires that are told may be others
abbrev pub with_returned : Option (List Stream) → Supply → Supply
with_returned returned supply = record supply { returned = returned }

-- A wire that was given back is told behind those before. Where there was no room to keep it, none is told any more.
abbrev pub Returns : (old new : Option (List Stream)) → Stream → Type 0
Returns None new wire = new ≡ None
Returns (Some wires) new wire = (new ≡ Some (wires ++ wire ∷ [])) ⊎ (new ≡ None)

-- what some wires show, where they are told
abbrev pub shown : {W : Type 0} → (W → Stream) → Option (List W) → Option (List Stream)
shown stream wires = option_map (map stream) wires

-- all that a host shows of its clocks is as it was
pub record ClocksStay (old new : Supply) : Type 0 where
  pub times : new.clock_times ≡ old.clock_times
  pub faults : new.clock_faults ≡ old.clock_faults

-- all that a host shows of its listeners, of the wires that it took back and of threads is as it was
pub record ConnectionsStay (old new : Supply) : Type 0 where
  pub wires : new.wires ≡ old.wires
  pub ports : new.ports ≡ old.ports
  pub listener_faults : new.listener_faults ≡ old.listener_faults
  pub refuses_starts : new.refuses_starts ≡ old.refuses_starts
  pub starts_failed : new.starts_failed ≡ old.starts_failed
  pub returned : new.returned ≡ old.returned

-- what was asked for, once one more is, or one that nothing is named for: the folders of volumes, the ports of listeners
abbrev pub and_named : {A : Type 0} → List A → Option A → List A
and_named names None = names
and_named names (Some name) = names ++ name ∷ []

-- What asking for a device makes of the names that are told. Where no memory was found nothing was asked for.
abbrev pub Names : {A T : Type 0} → (old new : Option (List A)) → Option A → Result T IoFault → Type 0
Names None new name result = new ≡ None
Names (Some names) new name (Ok device) = new ≡ Some (and_named names name)
Names (Some names) new name (Err fault.Failed) = new ≡ Some (and_named names name)
Names (Some names) new name (Err fault.Memory) = new ≡ Some names
