-- What a told history says of a store.
use Rattle.std.proofs.Common.{◌≡◌, List, Option, Some, None, IfSome, length, sym, ◌∙◌, []}
use Rattle.qd_base.specs.declared.op.Entry.{Entry}
use Rattle.qd_base.specs.Database.{schemas_of}
use Rattle.qd_base.specs.Replay.{after}
use Rattle.qd_base.proofs.Tables.{schemas_of-replay}
use Rattle.qd_volume.specs.Disk.{reads_of}
use Rattle.qd_sequencer.proofs.Held.{spelled_long}
use Rattle.qd_store.specs.Owned.{Store}
use Rattle.qd_store.proofs.OpenTold.{reads_now}
use Rattle.qd_store_backend.specs.Backs.{IsTold}

pub told_schemas : (owned : Store) (o : Option (List Entry)) → IfSome o (IsTold owned) → IfSome o (λ h. owned.store.sequence.schemas ≡ schemas_of (after h))
told_schemas owned None is = tt
told_schemas owned (Some h) (disk, next, same, holds) = holds.sequence.schemas ∙ sym (schemas_of-replay [] h)

pub told_count : (owned : Store) (o : Option (List Entry)) → IfSome o (IsTold owned) → IfSome o (λ h. length owned.store.sequence.refs ≡ length h)
told_count owned None is = tt
told_count owned (Some h) (disk, next, same, holds) = spelled_long owned.store.sequence.refs h (reads_of disk) (holds.sequence.spelled (reads_of disk) (reads_now disk))
