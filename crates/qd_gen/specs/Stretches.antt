-- Lines that follow each other, and which of them are taken.
use Rattle.std.specs.Prelude.{ℕ, Bool, true, not, List}
use Rattle.std.specs.List.{filter, flat_map, range_with_len}
use Rattle.qd_gen.specs.declared.stretch.Share.{Share}
use Rattle.qd_gen.specs.declared.stretch.Share.TheVariants as share
use Rattle.qd_gen.specs.Generated.{is_late, line}

-- whether a line is taken
abbrev pub takes : Share → ℕ → Bool
takes share.Late i = is_late i
takes share.InTime i = not (is_late i)
takes share.All i = true

-- the lines taken of n lines from the first on
abbrev pub taken : Share → (first n : ℕ) → List ℕ
taken s first n = filter (takes s) (range_with_len first n)

-- their text
abbrev pub taken_text : Share → (number first n : ℕ) → List ℕ
taken_text s number first n = flat_map (line number) (taken s first n)
