-- Segments of write-ahead logs, and where entries lie in them.
use Rattle.std.specs.Prelude.{ℕ, ◌+◌, ◌*◌, ◌^◌, Bool, nat_le, if◌then◌else◌, List, take, drop}
use Rattle.qd_base.specs.declared.part.WalRef.{WalRef}
use Rattle.qd_wal.specs.declared.writer.WalWriter.{WalWriter}

-- the number of the file that holds a segment of a log
abbrev pub segment_file : ℕ → ℕ → ℕ
segment_file wal segment = 2 ^ 63 + wal * 2 ^ 24 + segment

-- the file of an entry
abbrev pub file_in : WalRef → ℕ
file_in at = segment_file at.wal at.segment

-- the segment that was written last has reached its size, so that the next entry begins another one
abbrev pub is_full : WalWriter → ℕ → Bool
is_full w seg_bytes = nat_le seg_bytes w.end

-- the place of the next entry, of so many bytes
abbrev pub ref_for : WalWriter → ℕ → ℕ → WalRef
ref_for w seg_bytes len = record {
  wal = w.wal;
  segment = if is_full w seg_bytes then w.segment + 1 else w.segment;
  start = if is_full w seg_bytes then 0 else w.end;
  len = len;
}

-- a writer behind an entry
abbrev pub behind : WalRef → WalWriter
behind at = record { wal = at.wal; segment = at.segment; end = at.start + at.len }

-- the bytes of an entry in those of its segment, as far as they are there
abbrev pub part_at : List ℕ → WalRef → List ℕ
part_at bytes at = take at.len (drop at.start bytes)
