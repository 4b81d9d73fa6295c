use Rattle.std.proofs.Common.{◌≡◌, [], map, take}
use Rattle.qd_lines.specs.Drafts.{mark}
use Rattle.qd_lines.proofs.draft.Draft.begin.Given as goal

-- nothing is marked
abbrev pub invariant-loop : goal.invariant-loop
invariant-loop l = (l.self.added ≡ []) × (l.self.marks.items ≡ map (mark []) (take l.index l.columns.cols.now))
