-- What a volume in memory without a record holds.
use Rattle.qd_volume.specs.Contents.{Contents}
use Rattle.qd_volume.specs.declared.memory.heap.HeapVolume.{HeapVolume}

-- the files that have some bytes
abbrev pub files_of : HeapVolume → Contents
files_of volume = volume.files
