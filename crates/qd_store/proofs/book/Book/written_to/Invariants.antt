use Rattle.std.proofs.Common.{◌≡◌, take}
use Rattle.qd_store.specs.Grown.{written_to}
use Rattle.qd_store.proofs.book.Book.written_to.Given as goal

abbrev pub invariant-loop-part : goal.invariant-loop-part
invariant-loop-part l = l.list.items ≡ written_to l.self.versions.versions (take l.part-index l.parts)
