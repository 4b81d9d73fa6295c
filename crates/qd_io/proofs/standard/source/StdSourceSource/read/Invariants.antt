use Rattle.std.proofs.Common.{◌≡◌}
use Rattle.std.specs.Io.KnownBytes.{Keeps}
use Rattle.qd_io.proofs.standard.source.StdSourceSource.read.Given as goal

-- a read that a signal interrupts takes nothing
abbrev pub invariant-loop : goal.invariant-loop
invariant-loop g l =
    Keeps (g.R.Read.remaining l.initial.self.reader) (g.R.Read.remaining l.self.reader) × (l.self.failures ≡ l.initial.self.failures)
