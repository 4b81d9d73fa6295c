-- LATEST ON. QuestDB documentation, "LATEST ON".
use Rattle.std.specs.Prelude.{ℕ, if◌then◌else◌, List, [], ◌∷◌}
use Rattle.std.specs.List.{list_any}
use Rattle.qd_base.specs.Rows.{Row, same_on}

-- the rows after which no row has the same keys, NULL being equal to NULL, in their order
abbrev pub latest : List ℕ → List Row → List Row
latest keys [] = []
latest keys (r ∷ rs) = if list_any (same_on keys r) rs then latest keys rs else r ∷ latest keys rs
