-- The tables that transactions bring are those of a version, with more columns, and new ones behind.
use Rattle.std.proofs.Common.{List, [], ◌∷◌, map}
use Rattle.qd_base.specs.declared.op.Entry.{Entry}
use Rattle.qd_base.specs.Database.{StoredTable}
use Rattle.qd_manifest.specs.declared.shape.TableParts.{TableParts}
use Rattle.qd_manifest.specs.Spelling.{schemas_in}
use Rattle.qd_apply.specs.Arrivals.{arrivals, rest, without_rows}
use Rattle.qd_apply.specs.Plans.{with_batch}
use Rattle.qd_apply.proofs.ShapeLemmas.{AreGrown, FirstGrows}
use Rattle.qd_apply.proofs.VersionLemmas.{grown_entries, none_grown}

-- the same tables with their batches in place of the rows that wait
grown_batches : (shape : List TableParts) (ts : List StoredTable) → AreGrown shape ts → AreGrown shape (map with_batch ts)
grown_batches shape [] h = h
grown_batches shape (t ∷ ts) h = (first_batch shape h.0, grown_batches (rest shape) ts h.1)
  where
    first_batch : (l : List TableParts) → FirstGrows l t → FirstGrows l (with_batch t)
    first_batch [] h = tt
    first_batch (x ∷ xs) h = h

pub batches_grown : (shape : List TableParts) (es : List Entry) → AreGrown shape (map with_batch (arrivals (schemas_in shape) es))
batches_grown shape es = grown_batches shape (arrivals (schemas_in shape) es) (grown_entries shape (without_rows (schemas_in shape)) es (none_grown shape))
