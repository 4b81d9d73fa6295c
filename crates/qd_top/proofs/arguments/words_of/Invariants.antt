use Rattle.std.proofs.Common.{◌≡◌, ◌++◌, map}
use Rattle.std.specs.String.{string_bytes}
use Rattle.std.specs.Vec.Iter.{into_iter_items, into_iter_len}
use Rattle.qd_top.proofs.arguments.words_of.Given as goal

-- the words so far, and those of the arguments that are left, are all of them
abbrev pub invariant-loop-arg : goal.invariant-loop-arg
invariant-loop-arg l = l.words.items ++ map (λ s. string_bytes s) (into_iter_items l.args) ≡ map (λ s. string_bytes s) (into_iter_items l.initial.args)

abbrev pub decreases-loop-arg : goal.decreases-loop-arg
decreases-loop-arg l = into_iter_len l.args
