use Rattle.std.proofs.Common.{All, take}
use Rattle.qd_fields.specs.Spelling.{FitsColumn}
use Rattle.qd_prepare.proofs.fits.are_short.Given as goal

-- the names so far are short enough
abbrev pub invariant-loop-col : goal.invariant-loop-col
invariant-loop-col l = All FitsColumn (take l.col-index l.cols)
