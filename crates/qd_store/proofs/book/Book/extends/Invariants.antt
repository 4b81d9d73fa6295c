use Rattle.std.proofs.Common.{take}
use Rattle.qd_store.specs.Grown.{AreShownWhole}
use Rattle.qd_store.proofs.book.Book.extends.Given as goal

abbrev pub invariant-loop-grown : goal.invariant-loop-grown
invariant-loop-grown l = AreShownWhole l.self.versions.versions (take l.grown-index l.grown-items)
