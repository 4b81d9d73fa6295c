-- What the reader of a front holds.
use Rattle.std.specs.Prelude.{ℕ, ◌+◌, ◌≤◌, List, length}
use Rattle.qd_base.specs.declared.limits.TheConstants.{LAST_OFFSET}
use Rattle.qd_pgwire.specs.declared.limits.TheConstants.{MAX_MESSAGE_LENGTH}
use Rattle.qd_pgwire.specs.declared.found.Kind.{Kind}
use Rattle.qd_pgwire.specs.declared.found.Kind.TheVariants as kind
use Rattle.qd_pgwire.specs.declared.found.Found.{Found}
use Rattle.qd_pgwire.specs.declared.found.Found.TheVariants as found
use Rattle.qd_pgwire.specs.declared.reader.Reader.{Reader}
use Rattle.qd_pgwire.specs.Steps.{Pgs}

-- how many bytes a message has at least, and at most
abbrev pub least : Kind → ℕ
least kind.Query = 6
least k = 5

abbrev pub most : ℕ
most = 1 + MAX_MESSAGE_LENGTH

-- a message that was found lies in the bytes
abbrev pub Fits : List ℕ → Found → Type 0
Fits bytes found.Short = Unit {0}
Fits bytes found.Wrong = Unit {0}
Fits bytes (found.Whole k size) = (least k ≤ size) × (size ≤ length bytes) × (size ≤ most)

-- what holds of a reader between two calls: no offset passes the last one
abbrev pub IsSound : Reader → Type 0
IsSound r = r.start + length r.queue ≤ LAST_OFFSET

-- what is seen of a reader
abbrev pub pgs_of : Reader → Pgs
pgs_of r = record { waiting = r.queue; start = r.start; mode = r.mode }
