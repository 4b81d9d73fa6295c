-- The files of a volume in memory as a map from their numbers to their bytes. A file that the map doesn't have has no bytes.
use Rattle.std.specs.Prelude.{◌≡◌, ℕ, nat_eq, cond, List, [], Option, None, Some, Vec}
use Rattle.std.specs.Ordering.{nat_cmp}
use Rattle.std.specs.BTreeMap.{BTreeMap, get}
use Rattle.std.specs.declared.alloc.Global.{Global}
use Rattle.qd_volume.specs.Files.{File, after_change, settled}
use Rattle.qd_volume.specs.Disk.{Call, Disk, reads_of}

abbrev pub Contents : Type 0
Contents = BTreeMap ℕ (Vec ℕ Global)

abbrev pub items_of : Option (Vec ℕ Global) → List ℕ
items_of None = []
items_of (Some bytes) = bytes.items

-- the bytes of a file
abbrev pub held : Contents → ℕ → List ℕ
held files file = items_of (get nat_cmp files file)

-- one file has these bytes now, and the others theirs
abbrev pub Puts : Contents → Contents → ℕ → List ℕ → Type 0
Puts old new file bytes = (other : ℕ) → held new other ≡ cond (nat_eq file other) bytes (held old other)

-- each file has the bytes that it had
abbrev pub Same : Contents → Contents → Type 0
Same old new = (file : ℕ) → held new file ≡ held old file

-- each file has the bytes that it reads after these changes
abbrev pub Tells : Disk → Contents → Type 0
Tells disk files = (file : ℕ) → held files file ≡ reads_of disk file

-- What is known of each file. One that isn't there has had no change.
abbrev pub known_or_new : Option File → File
known_or_new None = settled []
known_or_new (Some file) = file

abbrev pub known : BTreeMap ℕ File → ℕ → File
known files file = known_or_new (get nat_cmp files file)

-- a change was made to one file
abbrev pub Learns : BTreeMap ℕ File → BTreeMap ℕ File → Call → Type 0
Learns old new call = (other : ℕ) → known new other ≡ cond (nat_eq call.file other) (after_change (known old call.file) call.change) (known old other)
