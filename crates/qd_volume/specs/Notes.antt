-- What a note of a volume in memory says.
use Rattle.std.specs.Prelude.{[]}
use Rattle.qd_volume.specs.declared.memory.note.Noted.{Noted}
use Rattle.qd_volume.specs.declared.memory.note.Noted.TheVariants as noted
use Rattle.qd_volume.specs.Files.{Change, Cut, Spoiled, Synced, Uncut, Wrote}

abbrev pub change_of : Noted → Change
change_of (noted.Wrote at bytes) = Wrote at bytes.items
change_of (noted.Unwritten at size) = Spoiled at size []
change_of (noted.Cut len) = Cut len
change_of (noted.Uncut len) = Uncut len
change_of noted.Synced = Synced
