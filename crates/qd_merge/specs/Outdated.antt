-- Rows that later ones replace.
use Rattle.std.specs.Prelude.{ℕ, Bool, List, [], ◌∷◌}
use Rattle.std.specs.List.{list_any}
use Rattle.qd_base.specs.Rows.{Row, same_on}

-- for each row whether one behind it is equal to it on all of the keys
abbrev pub outdated : List ℕ → List Row → List Bool
outdated keys [] = []
outdated keys (row ∷ rows) = list_any (same_on keys row) rows ∷ outdated keys rows
