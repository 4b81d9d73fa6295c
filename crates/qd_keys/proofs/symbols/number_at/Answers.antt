use Rattle.std.proofs.Common.{◌≡◌, ◌+◌, ◌<◌, ◌≤◌, ◌∙◌, ℕ, List, Some, ap, arith, get_or, length, map, refl, subst, sym}
use Rattle.std.specs.Arc.{arc_value}
use Rattle.std.proofs.lemmas.List.{get_or_default, length-map}
use Rattle.qd_block.specs.Blocks.{Block, column_in, IsWhole}
use Rattle.qd_column.specs.Cells.{CellsOf}
use Rattle.qd_column.specs.Symbols.{symbol_cell, texts_in, IsIdOf}
use Rattle.qd_group.specs.Keys.{lent}
use Rattle.qd_keys.proofs.SymbolRows.{id_low, kind_here, lacking_number, name_low, null_number, text_number}
use Rattle.qd_keys.proofs.symbols.number_at.Goals as goal

pub returns-then-at-cols : goal.returns-then-at-cols
returns-then-at-cols g c =
    let x : Block = arc_value c.block-block.result.now in
    let whole = subst IsWhole c.deref.ensures c.is_whole.ensures.whole in
    let names = map lent c.args.names.now.texts.items in
    let high : length x.kinds ≤ c.args.at = subst (λ (b : Block). length b.kinds ≤ c.args.at) c.deref-2.ensures (omega (arith, c.cols.ensures.count)) in
    let size : length c.args.names.now.groups.firsts.items ≡ c.len.result = omega arith in
    record { number = lacking_number c.args.rows.now c.args.i c.args.at c.places.result x c.places.ensures.places c.places.ensures.there c.block-block.ensures.block whole c.requires.symbols names c.args.names.now.groups.firsts.items high ∙ ap Some size }

pub symbols-requires : goal.symbols-requires
symbols-requires g c =
    let x : Block = arc_value c.block-block.result.now in
    let whole = subst IsWhole c.deref.ensures c.is_whole.ensures.whole in
    let low : c.args.at < length x.kinds = subst (λ (b : Block). c.args.at < length b.kinds) c.deref-2.ensures (omega (arith, c.cols.ensures.count)) in
    ap (λ (k : CellsOf). k.kind) (c.column.ensures.column ∙ ap (λ (b : Block). column_in b c.args.at) c.deref-3.ensures)
    ∙ kind_here c.args.rows.now c.args.i c.args.at c.places.result x c.places.ensures.places c.places.ensures.there c.block-block.ensures.block whole c.requires.symbols low

pub returns-then-id : goal.returns-then-id
returns-then-id g c =
    let x : Block = arc_value c.block-block.result.now in
    let whole = subst IsWhole c.deref.ensures c.is_whole.ensures.whole in
    let low : c.args.at < length x.kinds = subst (λ (b : Block). c.args.at < length b.kinds) c.deref-2.ensures (omega (arith, c.cols.ensures.count)) in
    let col = c.column.ensures.column ∙ ap (λ (b : Block). column_in b c.args.at) c.deref-3.ensures in
    let ids : List ℕ = c.symbols.result.now in
    let id : ℕ = get_or ids c.places.result.0.1 0 in
    let names = map lent c.args.names.now.texts.items in
    let fs = c.args.names.now.groups.firsts.items in
    let cells = subst (λ (k : CellsOf). k.cells ≡ map (symbol_cell (texts_in k.cells)) ids) col c.symbols.ensures.cells in
    let size : length c.args.names.now.groups.firsts.items ≡ c.len-then-id.result = omega arith in
    record { number = null_number c.args.rows.now c.args.i c.args.at c.places.result x c.places.ensures.places c.places.ensures.there c.block-block.ensures.block whole c.requires.symbols low ids id cells refl names fs c.if-id.true ∙ ap Some size }

pub overflow_add-starts : goal.overflow_add-starts
overflow_add-starts g c =
    let x : Block = arc_value c.block-block.result.now in
    let whole = subst IsWhole c.deref.ensures c.is_whole.ensures.whole in
    let low : c.args.at < length x.kinds = subst (λ (b : Block). c.args.at < length b.kinds) c.deref-2.ensures (omega (arith, c.cols.ensures.count)) in
    let col = c.column.ensures.column ∙ ap (λ (b : Block). column_in b c.args.at) c.deref-3.ensures in
    let ids : List ℕ = c.symbols.result.now in
    let id : ℕ = get_or ids c.places.result.0.1 0 in
    let names = map lent c.args.names.now.texts.items in
    let fs = c.args.names.now.groups.firsts.items in
    let cells = subst (λ (k : CellsOf). k.cells ≡ map (symbol_cell (texts_in k.cells)) ids) col c.symbols.ensures.cells in
    let there = id_low c.args.rows.now c.args.i c.args.at c.places.result x c.places.ensures.places c.places.ensures.there c.block-block.ensures.block whole c.requires.symbols low ids id cells refl in
    let known = subst (λ (k : CellsOf). IsIdOf (texts_in k.cells) id) col (c.symbols.ensures.each c.places.result.0.1 0 there) in
    let ns = c.args.names.now.groups.numbers.items in
    let n = length c.args.names.now.texts.items in
    let fits = name_low c.args.rows.now c.args.i c.args.at c.places.result x c.places.ensures.places c.places.ensures.there c.block-block.ensures.block whole c.requires.symbols low ids id cells refl names fs n ns c.args.starts.now c.if-id.false known c.requires.starts c.requires.told (length-map c.args.names.now.texts.items lent) in
    omega (arith, fits, c.requires.told.count)

pub index-requires : goal.index-requires
index-requires g c =
    let x : Block = arc_value c.block-block.result.now in
    let whole = subst IsWhole c.deref.ensures c.is_whole.ensures.whole in
    let low : c.args.at < length x.kinds = subst (λ (b : Block). c.args.at < length b.kinds) c.deref-2.ensures (omega (arith, c.cols.ensures.count)) in
    let col = c.column.ensures.column ∙ ap (λ (b : Block). column_in b c.args.at) c.deref-3.ensures in
    let ids : List ℕ = c.symbols.result.now in
    let id : ℕ = get_or ids c.places.result.0.1 0 in
    let names = map lent c.args.names.now.texts.items in
    let fs = c.args.names.now.groups.firsts.items in
    let cells = subst (λ (k : CellsOf). k.cells ≡ map (symbol_cell (texts_in k.cells)) ids) col c.symbols.ensures.cells in
    let there = id_low c.args.rows.now c.args.i c.args.at c.places.result x c.places.ensures.places c.places.ensures.there c.block-block.ensures.block whole c.requires.symbols low ids id cells refl in
    let known = subst (λ (k : CellsOf). IsIdOf (texts_in k.cells) id) col (c.symbols.ensures.each c.places.result.0.1 0 there) in
    let ns = c.args.names.now.groups.numbers.items in
    let n = length c.args.names.now.texts.items in
    let fits = name_low c.args.rows.now c.args.i c.args.at c.places.result x c.places.ensures.places c.places.ensures.there c.block-block.ensures.block whole c.requires.symbols low ids id cells refl names fs n ns c.args.starts.now c.if-id.false known c.requires.starts c.requires.told (length-map c.args.names.now.texts.items lent) in
    omega (arith, fits, c.requires.told.count)

pub returns : goal.returns
returns g c =
    let x : Block = arc_value c.block-block.result.now in
    let whole = subst IsWhole c.deref.ensures c.is_whole.ensures.whole in
    let low : c.args.at < length x.kinds = subst (λ (b : Block). c.args.at < length b.kinds) c.deref-2.ensures (omega (arith, c.cols.ensures.count)) in
    let col = c.column.ensures.column ∙ ap (λ (b : Block). column_in b c.args.at) c.deref-3.ensures in
    let ids : List ℕ = c.symbols.result.now in
    let id : ℕ = get_or ids c.places.result.0.1 0 in
    let names = map lent c.args.names.now.texts.items in
    let fs = c.args.names.now.groups.firsts.items in
    let cells = subst (λ (k : CellsOf). k.cells ≡ map (symbol_cell (texts_in k.cells)) ids) col c.symbols.ensures.cells in
    let there = id_low c.args.rows.now c.args.i c.args.at c.places.result x c.places.ensures.places c.places.ensures.there c.block-block.ensures.block whole c.requires.symbols low ids id cells refl in
    let known = subst (λ (k : CellsOf). IsIdOf (texts_in k.cells) id) col (c.symbols.ensures.each c.places.result.0.1 0 there) in
    let ns = c.args.names.now.groups.numbers.items in
    let n = length c.args.names.now.texts.items in
    let fits = name_low c.args.rows.now c.args.i c.args.at c.places.result x c.places.ensures.places c.places.ensures.there c.block-block.ensures.block whole c.requires.symbols low ids id cells refl names fs n ns c.args.starts.now c.if-id.false known c.requires.starts c.requires.told (length-map c.args.names.now.texts.items lent) in
    let k : ℕ = get_or c.args.starts.now c.places.result.0.0 0 + id in
    let same = c.index.ensures ∙ get_or_default ns k c.index.result.now 0 (omega (arith, fits, c.requires.told.count)) in
    record { number = text_number c.args.rows.now c.args.i c.args.at c.places.result x c.places.ensures.places c.places.ensures.there c.block-block.ensures.block whole c.requires.symbols low ids id cells refl names fs n ns c.args.starts.now c.if-id.false known c.requires.starts c.requires.told (length-map c.args.names.now.texts.items lent) ∙ ap Some (sym same) }
