use Rattle.std.proofs.Common.{◌<◌, ◌^◌, All, take}
use Rattle.qd_prepare.proofs.fits.are_low.Given as goal

-- the numbers so far are low enough
abbrev pub invariant-loop-key : goal.invariant-loop-key
invariant-loop-key l = All (λ k. k < 2 ^ 16) (take l.key-index l.keys)
