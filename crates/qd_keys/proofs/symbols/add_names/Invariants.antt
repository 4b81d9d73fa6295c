use Rattle.std.proofs.Common.{◌≡◌, ◌++◌, map, take}
use Rattle.std.specs.List.{flat_map}
use Rattle.qd_group.specs.Keys.{lent}
use Rattle.qd_keys.specs.Symbols.{names_at, AreStarts}
use Rattle.qd_keys.proofs.symbols.add_names.Given as goal

-- the texts of the blocks so far have been added
abbrev pub invariant-loop-b : goal.invariant-loop-b
invariant-loop-b g l =
    record {
      kept : map lent l.texts.items ≡ map lent l.fn.texts.items ++ flat_map (names_at l.at) (take l.b l.rows.blocks);
      starts : AreStarts l.b l.rows.blocks l.at (map lent l.texts.items) l.starts.items;
    }
