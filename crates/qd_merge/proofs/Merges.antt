-- A merge by runs is the fold of `put`.
use Rattle.std.proofs.Common.{◌≡◌, ℕ, ◌<◌, Bool, List, [], length, map, drop, sym, ap, ◌∙◌, All, subst, fold}
use Rattle.qd_base.specs.Rows.{Row, time_of, put}
use Rattle.qd_base.specs.Laws.{IsInOrder}
use Rattle.qd_base.proofs.Order.{in_order-fold}
use Rattle.qd_column.specs.declared.runs.Run.{Run}
use Rattle.qd_block.specs.Blocks.{Block, IsWhole}
use Rattle.qd_merge.specs.Laws.{IsBatch}
use Rattle.qd_merge.specs.Merged.{with_missing, rows_from, merged, laid_rows}
use Rattle.qd_merge.specs.Classes.{kept}
use Rattle.qd_merge.specs.Order.{IsMergeOrder}
use Rattle.qd_merge.specs.Replaced.{is_replaced, flags_of}
use Rattle.qd_merge.proofs.Replacing.{put_kept}
use Rattle.qd_merge.proofs.Lent.{timed_within}
use Rattle.qd_merge.proofs.Wide.{map-map, times_wide, wide_in_order}
use Rattle.qd_merge.proofs.Times.{in_order-drop, map-drop}

pub merged_by_runs : (keys : List ℕ) (old batch : Block) (skip : ℕ) (gone : List Bool) (old_times new_times : List ℕ) (runs : List Run) → IsWhole old → old.time_col ≡ batch.time_col → map (time_of batch.time_col) old.rows ≡ old_times → map (time_of batch.time_col) batch.rows ≡ new_times → IsBatch batch.time_col keys batch.rows
    → gone ≡ flags_of keys batch.kinds batch.rows old.rows → IsMergeOrder old_times skip gone new_times runs → laid_rows old batch runs ≡ (merged keys old skip batch).rows
merged_by_runs keys old batch skip gone old_times new_times runs whole same_col old_is new_is are gone_is order =
    let col : ℕ = batch.time_col in
    let wide : List Row = map (with_missing batch.kinds) old.rows in
    let here : All (λ r. col < length r) old.rows = subst (λ (c : ℕ). All (λ r. c < length r) old.rows) same_col (timed_within old whole) in
    let sorted : IsInOrder col old.rows = subst (λ (c : ℕ). IsInOrder c old.rows) same_col whole.order in
    let left : List Row = drop skip wide in
    let flags : drop skip gone ≡ map (is_replaced keys batch.rows) left = ap (drop skip) (gone_is ∙ sym (map-map (is_replaced keys batch.rows) (with_missing batch.kinds) old.rows)) ∙ sym (map-drop (is_replaced keys batch.rows) skip wide) in
    let in_order : IsInOrder col left = in_order-drop col skip wide (wide_in_order col batch.kinds old.rows here sorted) in
    order.order col wide batch.rows (times_wide col batch.kinds old.rows here ∙ old_is) new_is
    ∙ ap (λ f. fold (put col []) (kept f left) batch.rows) flags ∙ sym (put_kept col keys left batch.rows in_order are.distinct) ∙ ap (λ l. fold (put col keys) l batch.rows) (sym (map-drop (with_missing batch.kinds) skip old.rows))

-- and it is in order of time
pub merged_in_time : (keys : List ℕ) (old batch : Block) (skip : ℕ) → IsWhole old → old.time_col ≡ batch.time_col → IsInOrder batch.time_col (merged keys old skip batch).rows
merged_in_time keys old batch skip whole same_col =
    let col : ℕ = batch.time_col in
    let here : All (λ r. col < length r) old.rows = subst (λ (c : ℕ). All (λ r. c < length r) old.rows) same_col (timed_within old whole) in
    let sorted : IsInOrder col old.rows = subst (λ (c : ℕ). IsInOrder c old.rows) same_col whole.order in
    in_order-fold col keys (rows_from batch.kinds skip old) batch.rows (subst (IsInOrder col) (sym (map-drop (with_missing batch.kinds) skip old.rows)) (in_order-drop col skip (map (with_missing batch.kinds) old.rows) (wide_in_order col batch.kinds old.rows here sorted)))
