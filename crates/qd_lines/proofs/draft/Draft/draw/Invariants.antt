use Rattle.std.proofs.Common.{take}
use Rattle.qd_lines.specs.Drafts.{Draws}
use Rattle.qd_lines.proofs.draft.Draft.draw.Given as goal

-- the items so far are gone over
abbrev pub invariant-loop-at : goal.invariant-loop-at
invariant-loop-at l = Draws l.columns (take l.at l.row.items) l.self
