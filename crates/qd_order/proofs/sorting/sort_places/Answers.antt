use Rattle.std.proofs.Common.{◌∙◌, ℕ, Bool, ap, map, is_lt, rules}
use Rattle.std.proofs.lemmas.Fn.{always_returns_same}
use Rattle.std.proofs.lemmas.List.Sorted.{ranks_by}
use Rattle.std.proofs.lemmas.Result.{on_ok_weaker}
use Rattle.qd_order.specs.Orders.{arranged, compared}
use Rattle.qd_order.specs.Seen.{seen}
use Rattle.qd_order.proofs.Rises.{sorted_arranged}
use Rattle.qd_order.proofs.Standing.{compared_total}
use Rattle.qd_order.proofs.sorting.sort_places.Goals as goal

pub returns : goal.returns
returns c =
    let ks = map seen c.args.columns.now in
    let lt : ℕ → ℕ → Bool = λ i j. is_lt (compared ks i j) in
    let old = c.args.places.now.items in
    let new = c.sort_by.new.self.items in
    let weak = ranks_by (compared_total ks) (λ (i : ℕ). i) in
    let stable = c.sort_by.ensures.stable lt weak (always_returns_same _ _ _ (λ a r f k. search rules)) in
    record {
      ok = on_ok_weaker c.sort_by.result
          (λ sorted. sorted_arranged lt weak old new (sorted lt weak (always_returns_same _ _ _ (λ a r f k. search rules))) stable ∙ ap (λ l. arranged l old) (λ i x y. c.requires x y i)) c.sort_by.ensures.sorted;
    }
