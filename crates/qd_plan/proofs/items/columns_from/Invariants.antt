use Rattle.std.proofs.Common.{◌++◌, List, take}
use Rattle.qd_meaning.specs.Items.{Shows}
use Rattle.qd_plan.specs.Listing.{plain_from}
use Rattle.qd_plan.specs.Showing.{Makes}
use Rattle.qd_plan.proofs.items.columns_from.Given as goal

-- the columns so far
abbrev pub invariant-loop-i : goal.invariant-loop-i
invariant-loop-i l = (before : List Shows) → Makes l.buckets before l.fn.made → Makes l.buckets (before ++ plain_from l.base (take l.i l.cols)) l.made
