use Rattle.std.proofs.Common.{◌≡◌, ◌∙◌, ℕ, ◌*◌, List, Some, ap, map, drop, take, subst, sym, arith}
use Rattle.qd_base.specs.declared.schema.ColType.{ColType}
use Rattle.qd_base.specs.declared.schema.ColType.TheVariants as kind
use Rattle.qd_column.specs.Symbols.{symbol_cell, texts_in}
use Rattle.qd_column_format.specs.declared.fault.LoadFault.{LoadFault}
use Rattle.qd_column_format.specs.Added.{column_of}
use Rattle.qd_column_format.specs.Fields.{named}
use Rattle.qd_column_format.specs.Reading.{AreUnspelled}
use Rattle.qd_column_format.specs.Rests.{HoldsRest, IsHeldRest}
use Rattle.qd_column_format.proofs.RestLemmas.{by_kind, first_begin, first_count, first_distinct, first_room, first_short, ids_read, numbers_room, symbols_kept, symbols_rest}
use Rattle.qd_column_format.proofs.rest.symbols_from.Goals as goal

pub returns-then-main-rows-clause-rest : goal.returns-then-main-rows-clause-rest
returns-then-main-rows-clause-rest g c skip start whole is size h =
    let also : HoldsRest skip start c.args.main.now c.args.aux.now (column_of kind.Symbol whole.cells) = subst (HoldsRest skip start c.args.main.now c.args.aux.now) (by_kind kind.Symbol whole is) h in
    absurd (omega (arith, numbers_room skip start c.args.rows c.args.main.now c.args.aux.now (column_of kind.Symbol whole.cells) size also, c.if-main-rows.true))

pub returns-then-aux-count-clause-rest : goal.returns-then-aux-count-clause-rest
returns-then-aux-count-clause-rest g c skip start whole is size h =
    let main = c.args.main.now in
    let aux = c.args.aux.now in
    let ids = c.in_ok-ids.ids.items in
    let also : HoldsRest skip start main aux (column_of kind.Symbol whole.cells) = subst (HoldsRest skip start main aux) (by_kind kind.Symbol whole is) h in
    let are = ids_read skip start c.args.rows main aux whole.cells size also ids (drop (8 * c.args.rows) main) c.in_ok-ids.ensures.bytes c.in_ok-ids.ensures.count c.in_ok-ids.ensures.fit in
    let count : c.named_by-count.result ≡ named ids = c.named_by-count.ensures.named ∙ ap named c.as_slice.ensures.value in
    absurd (omega (arith, first_room skip start c.args.rows main aux whole.cells size also ids are c.named_by-count.result count, c.if-aux-count.true))

pub returns-in-Ok-clause-held : goal.returns-in-Ok-clause-held
returns-in-Ok-clause-held g c start =
    let main = c.args.main.now in
    let aux = c.args.aux.now in
    let ids = c.in_ok-ids.ids.items in
    let texts = g.D.Dictionary.texts c.in-Ok.dictionary in
    let n = c.named_by-count.result in
    let count : n ≡ named ids = c.named_by-count.ensures.named ∙ ap named c.as_slice.ensures.value in
    let is : c.in_ok-symbols_by-in-Ok.field-0 ≡ column_of kind.Symbol (map (symbol_cell texts) ids) = c.in_ok-symbols_by-in-Ok.ensures.column ∙ ap (λ (l : List ℕ). column_of kind.Symbol (map (symbol_cell texts) l)) c.as_slice-in-Ok.ensures.value in
    subst (IsHeldRest start main aux) (sym is)
    (symbols_kept n ids count (omega arith) c.in_ok-ids.ensures.fit start main aux (drop (8 * c.args.rows) main) texts c.in-Ok.ensures.distinct c.in-Ok.ensures.short c.in-Ok.ensures.count c.in-Ok.ensures.texts (omega (arith, c.in_ok-ids.ensures.count, c.if-main-rows.false)) c.in_ok-ids.ensures.bytes)

pub returns-in-Ok-clause-rest : goal.returns-in-Ok-clause-rest
returns-in-Ok-clause-rest g c skip start whole is size h =
    let main = c.args.main.now in
    let aux = c.args.aux.now in
    let ids = c.in_ok-ids.ids.items in
    let texts = g.D.Dictionary.texts c.in-Ok.dictionary in
    let also : HoldsRest skip start main aux (column_of kind.Symbol whole.cells) = subst (HoldsRest skip start main aux) (by_kind kind.Symbol whole is) h in
    let are = ids_read skip start c.args.rows main aux whole.cells size also ids (drop (8 * c.args.rows) main) c.in_ok-ids.ensures.bytes c.in_ok-ids.ensures.count c.in_ok-ids.ensures.fit in
    let count : c.named_by-count.result ≡ named ids = c.named_by-count.ensures.named ∙ ap named c.as_slice.ensures.value in
    let cells : map (symbol_cell texts) ids ≡ drop skip whole.cells = symbols_rest skip start c.args.rows main aux whole.cells size also ids are c.named_by-count.result count c.one_dictionary_is_spelled.ensures texts c.in-Ok.ensures.count c.in-Ok.ensures.short c.in-Ok.ensures.texts in
    ap Some (c.in_ok-symbols_by-in-Ok.ensures.column ∙ ap (λ (l : List ℕ). column_of kind.Symbol (map (symbol_cell texts) l)) c.as_slice-in-Ok.ensures.value ∙ ap (column_of kind.Symbol) cells ∙ ap (λ (k : ColType). column_of k (drop skip whole.cells)) (sym is))

pub returns-in-Err-Damaged-clause-rest : goal.returns-in-Err-Damaged-clause-rest
returns-in-Err-Damaged-clause-rest g c skip start whole is size h =
    let main = c.args.main.now in
    let aux = c.args.aux.now in
    let ids = c.in_ok-ids.ids.items in
    let n = c.named_by-count.result in
    let also : HoldsRest skip start main aux (column_of kind.Symbol whole.cells) = subst (HoldsRest skip start main aux) (by_kind kind.Symbol whole is) h in
    let are = ids_read skip start c.args.rows main aux whole.cells size also ids (drop (8 * c.args.rows) main) c.in_ok-ids.ensures.bytes c.in_ok-ids.ensures.count c.in_ok-ids.ensures.fit in
    let count : n ≡ named ids = c.named_by-count.ensures.named ∙ ap named c.as_slice.ensures.value in
    let unspelled = subst (λ (e : LoadFault). AreUnspelled n aux e) c.in-Err-Damaged.field-0-is c.in-Err-Damaged.ensures.unspelled in
    absurd (unspelled (take n (texts_in whole.cells))
    (first_count skip start c.args.rows main aux whole.cells size also ids are n count)
    (first_distinct skip start c.args.rows main aux whole.cells size also ids are n count)
    (first_short skip start c.args.rows main aux whole.cells size also ids are n count)
    (first_begin skip start c.args.rows main aux whole.cells size also ids are n count))
