use Rattle.std.proofs.Common.{◌≡◌, ◌∙◌, ◌<◌, ap, sym, subst, length, map, arith, All, List, ℕ}
use Rattle.std.specs.List.Sorted.{IsNonDecreasing}
use Rattle.qd_base.specs.declared.schema.ColType.TheVariants as kind
use Rattle.qd_base.specs.Rows.{Row}
use Rattle.qd_column.specs.Cells.{CellsOf, cells_at}
use Rattle.qd_column.proofs.ListLemmas.{got}
use Rattle.qd_block.specs.Blocks.{Building, kinds_of, in_time_order}
use Rattle.qd_block.specs.declared.order.Placed.{Placed}
use Rattle.qd_block.proofs.RowLemmas.{kind_at, got_there}
use Rattle.qd_block.proofs.OrderLemmas.{AreTimes, ArePlaced, are_times, are_placed}
use Rattle.qd_block.proofs.BlockLemmas.{designated_there, nothing_open, block_as_is, block_gathered, places_within}
use Rattle.qd_block.proofs.builder.Builder.finish.Goals as goal

pub invariant_of-result : goal.invariant_of-result
invariant_of-result g c =
    let n = c.self.inside.rows in
    let t = c.self.inside.time_col in
    let columns = c.self.inside.columns.items in
    let d = c.index.result.now in
    let sizes = nothing_open n c.self.inside.filled t columns c.args.self c.self.invariant c.self.view_is c.requires.whole in
    let there : t < length columns = designated_there columns t c.self.invariant.designated in
    let are : AreTimes n t columns c.times.result.now = are_times n t columns c.times.result.now d there (sizes t d there) (ap (λ (x : CellsOf). x.cells) (sym c.index.ensures) ∙ c.times.ensures.cells) c.self.invariant.timed in
    let rising : IsNonDecreasing c.times.result.now = c.if-rises.ensures.rises in
    (block_as_is n c.self.inside.filled t columns c.times.result.now c.self.invariant sizes are rising).0

pub returns-then-rises : goal.returns-then-rises
returns-then-rises g c =
    let n = c.self.inside.rows in
    let t = c.self.inside.time_col in
    let columns = c.self.inside.columns.items in
    let d = c.index.result.now in
    let sizes = nothing_open n c.self.inside.filled t columns c.args.self c.self.invariant c.self.view_is c.requires.whole in
    let there : t < length columns = designated_there columns t c.self.invariant.designated in
    let are : AreTimes n t columns c.times.result.now = are_times n t columns c.times.result.now d there (sizes t d there) (ap (λ (x : CellsOf). x.cells) (sym c.index.ensures) ∙ c.times.ensures.cells) c.self.invariant.timed in
    let rising : IsNonDecreasing c.times.result.now = c.if-rises.ensures.rises in
    record { block = ap (λ (rows : List Row). record { kinds = kinds_of columns; time_col = t; rows = rows }) (block_as_is n c.self.inside.filled t columns c.times.result.now c.self.invariant sizes are rising).1 ∙ ap (λ (b : Building). record { kinds = b.kinds; time_col = b.time_col; rows = in_time_order b.time_col b.rows }) c.self.view_is }

pub index-requires-2 : goal.index-requires-2
index-requires-2 g c = omega (arith, designated_there c.self.inside.columns.items c.self.inside.time_col c.self.invariant.designated, c.self.inside.columns.ok.0)

pub times-requires-2 : goal.times-requires-2
times-requires-2 g c =
    let t = c.self.inside.time_col in
    let columns = c.self.inside.columns.items in
    let there : t < length columns = designated_there columns t c.self.invariant.designated in
    ap (λ (x : CellsOf). x.kind) c.index-2.ensures ∙ sym (kind_at columns t c.index-2.result.now kind.Long there) ∙ got (kinds_of columns) t kind.Long kind.Time (got_there (kinds_of columns) t kind.Time c.self.invariant.designated) c.self.invariant.designated

pub gathered_columns-requires : goal.gathered_columns-requires
gathered_columns-requires g c =
    let n = c.self.inside.rows in
    let t = c.self.inside.time_col in
    let columns = c.self.inside.columns.items in
    let d = c.index-2.result.now in
    let sizes = nothing_open n c.self.inside.filled t columns c.args.self c.self.invariant c.self.view_is c.requires.whole in
    let there : t < length columns = designated_there columns t c.self.invariant.designated in
    let are : AreTimes n t columns c.times-2.result.now = are_times n t columns c.times-2.result.now d there (sizes t d there) (ap (λ (x : CellsOf). x.cells) (sym c.index-2.ensures) ∙ c.times-2.ensures.cells) c.self.invariant.timed in
    let order = c.in_ok-places.ensures.order in
    let placed : ArePlaced n t columns (map (λ (p : Placed). p.place) order.0) = are_placed n t columns c.times-2.result.now order.0 are order.1 in
    let places : c.as_slice-2.result.now ≡ map (λ (p : Placed). p.place) order.0 = c.as_slice-2.ensures.value ∙ order.2 in
    subst (λ (xs : List CellsOf). All (λ (x : CellsOf). All (λ i. i < length x.cells) c.as_slice-2.result.now) xs) (sym c.as_slice.ensures.value) (subst (λ (ps : List ℕ). All (λ (x : CellsOf). All (λ i. i < length x.cells) ps) columns) (sym places) (places_within n columns (map (λ (p : Placed). p.place) order.0) sizes placed.within))

pub invariant_of-result-2 : goal.invariant_of-result-2
invariant_of-result-2 g c =
    let n = c.self.inside.rows in
    let t = c.self.inside.time_col in
    let columns = c.self.inside.columns.items in
    let d = c.index-2.result.now in
    let sizes = nothing_open n c.self.inside.filled t columns c.args.self c.self.invariant c.self.view_is c.requires.whole in
    let there : t < length columns = designated_there columns t c.self.invariant.designated in
    let are : AreTimes n t columns c.times-2.result.now = are_times n t columns c.times-2.result.now d there (sizes t d there) (ap (λ (x : CellsOf). x.cells) (sym c.index-2.ensures) ∙ c.times-2.ensures.cells) c.self.invariant.timed in
    let order = c.in_ok-places.ensures.order in
    let chosen = map (λ (p : Placed). p.place) order.0 in
    let placed : ArePlaced n t columns chosen = are_placed n t columns c.times-2.result.now order.0 are order.1 in
    let places : c.as_slice-2.result.now ≡ chosen = c.as_slice-2.ensures.value ∙ order.2 in
    let made : c.in_ok-columns.columns.items ≡ map (λ (x : CellsOf). cells_at x chosen) columns = c.in_ok-columns.ensures.columns ∙ ap (map (λ (x : CellsOf). cells_at x c.as_slice-2.result.now)) c.as_slice.ensures.value ∙ ap (λ (ps : List ℕ). map (λ (x : CellsOf). cells_at x ps) columns) places in
    (block_gathered n c.self.inside.filled t columns c.in_ok-columns.columns.items chosen c.self.invariant placed made).0

pub returns : goal.returns
returns g c =
    let n = c.self.inside.rows in
    let t = c.self.inside.time_col in
    let columns = c.self.inside.columns.items in
    let d = c.index-2.result.now in
    let sizes = nothing_open n c.self.inside.filled t columns c.args.self c.self.invariant c.self.view_is c.requires.whole in
    let there : t < length columns = designated_there columns t c.self.invariant.designated in
    let are : AreTimes n t columns c.times-2.result.now = are_times n t columns c.times-2.result.now d there (sizes t d there) (ap (λ (x : CellsOf). x.cells) (sym c.index-2.ensures) ∙ c.times-2.ensures.cells) c.self.invariant.timed in
    let order = c.in_ok-places.ensures.order in
    let chosen = map (λ (p : Placed). p.place) order.0 in
    let placed : ArePlaced n t columns chosen = are_placed n t columns c.times-2.result.now order.0 are order.1 in
    let places : c.as_slice-2.result.now ≡ chosen = c.as_slice-2.ensures.value ∙ order.2 in
    let made : c.in_ok-columns.columns.items ≡ map (λ (x : CellsOf). cells_at x chosen) columns = c.in_ok-columns.ensures.columns ∙ ap (map (λ (x : CellsOf). cells_at x c.as_slice-2.result.now)) c.as_slice.ensures.value ∙ ap (λ (ps : List ℕ). map (λ (x : CellsOf). cells_at x ps) columns) places in
    record { block = (block_gathered n c.self.inside.filled t columns c.in_ok-columns.columns.items chosen c.self.invariant placed made).1 ∙ ap (λ (b : Building). record { kinds = b.kinds; time_col = b.time_col; rows = in_time_order b.time_col b.rows }) c.self.view_is }
