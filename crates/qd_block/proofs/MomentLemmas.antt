-- Places that a stable sort by time keeps in order.
use Rattle.std.proofs.Common.{◌≡◌, ℕ, List, refl}
use Rattle.std.specs.List.Sorted.{IsStableByKey}
use Rattle.std.specs.Ordering.{nat_cmp}
use Rattle.qd_base.proofs.Sorted.{same_of_key}
use Rattle.qd_block.specs.Order.{at_moment}
use Rattle.qd_block.specs.declared.order.Placed.{Placed}

-- what a stable sort by time keeps
pub stable_moments : (xs ys : List Placed) → IsStableByKey (λ (p : Placed). p.time) nat_cmp xs ys → (t : ℕ) → at_moment t ys ≡ at_moment t xs
stable_moments = same_of_key (λ (p : Placed). p.time) (λ t. record { time = t; place = 0 }) (λ t. refl)
