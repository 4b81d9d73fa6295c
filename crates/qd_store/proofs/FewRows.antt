-- The first transactions of a lawful history leave few rows.
use Rattle.std.proofs.Common.{ℕ, ◌*◌, ◌≤◌, List, [], length, take, All, subst}
use Rattle.std.proofs.lemmas.List.{length-take-le}
use Rattle.qd_base.specs.declared.op.Entry.{Entry}
use Rattle.qd_base.specs.Database.{StoredTable}
use Rattle.qd_base.specs.Lawful.{Lawful}
use Rattle.qd_base.specs.Replay.{first}
use Rattle.qd_apply.specs.Laws.{RowsAreFew}
use Rattle.qd_manifest.specs.declared.shape.TheConstants.{BLOCKS_PER_TRANSACTION}
use Rattle.qd_store.proofs.Between.{lawful_front}

pub rows_few : RowsAreFew → (h : List Entry) (n : ℕ) → Lawful h → n ≤ length h → All (λ (t : StoredTable). length t.rows ≤ n * BLOCKS_PER_TRANSACTION) (first h n)
rows_few law h n lawful few =
    subst (λ (m : ℕ). All (λ (t : StoredTable). length t.rows ≤ m * BLOCKS_PER_TRANSACTION) (first h n)) (length-take-le n h few) (law (take n h) (lawful_front [] n h lawful))
