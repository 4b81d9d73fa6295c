use Rattle.std.proofs.Common.{◌≡◌, replicate, get_or}
use Rattle.qd_meaning.specs.declared.parts.Fill.TheVariants as fill
use Rattle.qd_sample.proofs.filling.each_fill.Given as goal

-- the fills so far
abbrev pub invariant-loop : goal.invariant-loop
invariant-loop l = l.each.items ≡ replicate l.counter (get_or l.fills 0 fill.Skip)
