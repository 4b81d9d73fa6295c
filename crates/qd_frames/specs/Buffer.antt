-- What the buffer of a front of frames holds.
use Rattle.std.specs.Prelude.{◌≡◌, ℕ, ◌+◌, ◌<◌, ◌≤◌, List, [], ◌++◌, length, Option, Some, None}
use Rattle.qd_base.specs.declared.limits.TheConstants.{LAST_OFFSET}
use Rattle.qd_frames.specs.declared.head.Text.{Text}
use Rattle.qd_frames.specs.declared.buffer.FrameBuffer.{FrameBuffer}
use Rattle.qd_frames.specs.Frames.{Frames}
use Rattle.qd_frames.specs.Heads.{header, limit}

-- the bytes of a text's frame that have come: its header, and this much of it
abbrev pub bytes_of : Option Text → List ℕ → List ℕ
bytes_of None payload = payload
bytes_of (Some text) payload = header text.kind text.size ++ payload

-- a text is gathered only behind its header, and has at most as many bytes as that says
abbrev pub IsGathered : Option Text → List ℕ → Type 0
IsGathered None payload = payload ≡ []
IsGathered (Some text) payload = (length payload ≤ text.size) × (text.size ≤ limit text.kind) × (text.head ≡ length (header text.kind text.size))

-- the bytes that wait
abbrev pub waiting_of : FrameBuffer → List ℕ
waiting_of p = bytes_of p.current p.payload.items ++ p.rest

-- the bytes that wait, and the offset of the first
abbrev pub frames_of : FrameBuffer → Frames
frames_of p = record { waiting = waiting_of p; start = p.start }

-- n bytes may go right to the current text: it lacks as many, and nothing waits behind it
abbrev pub FitsDirect : Option Text → List ℕ → List ℕ → ℕ → Type 0
FitsDirect None payload rest n = n ≡ 0
FitsDirect (Some text) payload rest n = (length payload + n ≤ text.size) × (0 < n → rest ≡ [])

abbrev pub GoesDirect : FrameBuffer → ℕ → Type 0
GoesDirect p n = FitsDirect p.current p.payload.items p.rest n

-- what holds of the buffer between two calls: no offset passes the last one
pub record IsSound (p : FrameBuffer) : Type 0 where
  pub gathered : IsGathered p.current p.payload.items
  pub room : p.start + length (waiting_of p) ≤ LAST_OFFSET
