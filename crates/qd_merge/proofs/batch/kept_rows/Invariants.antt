use Rattle.std.proofs.Common.{◌≡◌, take}
use Rattle.qd_merge.specs.Classes.{kept}
use Rattle.qd_merge.proofs.batch.kept_rows.Given as goal

-- the rows so far that aren't gone
abbrev pub invariant-loop-place : goal.invariant-loop-place
invariant-loop-place l = l.stay ≡ kept (take l.place l.gone) (take l.place l.rows)
