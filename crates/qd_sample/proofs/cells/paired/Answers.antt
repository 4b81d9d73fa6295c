use Rattle.std.proofs.Common.{◌<◌, ℕ, List, All, length, subst, sym}
use Rattle.qd_group.specs.Grouping.{same_numbers}
use Rattle.qd_sample.proofs.Settings.{firsts_below}
use Rattle.qd_sample.proofs.cells.paired.Goals as goal

pub taken-requires : goal.taken-requires
taken-requires c = record {
  there = subst (λ (l : List ℕ). All (λ f. f < length c.args.buckets.now) l) (sym c.as_slice.ensures.value) (firsts_below (same_numbers c.args.buckets.now c.args.keys.now) (length c.args.buckets.now) c.in_ok-groups.groups.numbers.items c.in_ok-groups.groups.firsts.items c.in_ok-groups.ensures.groups);
}

pub taken-requires-2 : goal.taken-requires-2
taken-requires-2 c = record {
  there = subst (λ (l : List ℕ). All (λ f. f < length c.args.keys.now) l) (sym c.as_slice-2.ensures.value)
      (subst (λ (n : ℕ). All (λ f. f < n) c.in_ok-groups.groups.firsts.items) c.requires (firsts_below (same_numbers c.args.buckets.now c.args.keys.now) (length c.args.buckets.now) c.in_ok-groups.groups.numbers.items c.in_ok-groups.groups.firsts.items c.in_ok-groups.ensures.groups));
}
