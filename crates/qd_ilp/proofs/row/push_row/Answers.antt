use Rattle.std.proofs.Common.{◌≡◌, ◌≢◌, ◌∙◌, sym, length, drop, arith}
use Rattle.std.proofs.lemmas.Result.{err_from_is_err_and}
use Rattle.qd_ilp.specs.declared.row.Head.{Head}
use Rattle.qd_ilp.proofs.Growing.{grows_twice}
use Rattle.qd_ilp.proofs.Kepts.{grow_span, puts_fits, puts_in}
use Rattle.qd_ilp.proofs.Rows.{row_unnamed, row_named, tags_fault, row_tagged, rest_fault, row_finished, row_empty, row_done, puts_twice, nothing_put, rest_of, fits_head, items_put}
use Rattle.qd_ilp.proofs.row.push_row.Goals as goal

pub returns-then-table-clause-row : goal.returns-then-table-clause-row
returns-then-table-clause-row c = row_unnamed (drop c.args.at c.args.text.now) c.args.bytes.now.items c.push_name.new.bytes.items c.in_ok-table.table c.in_ok-table.ensures.name c.if-table.true

pub returns-in_err-end-clause-row : goal.returns-in_err-end-clause-row
returns-in_err-end-clause-row c =
    let p = err_from_is_err_and c.from_residual-in_err-end.result c.from_residual-in_err-end.ensures.1 in
    let goes = row_named (drop c.args.at c.args.text.now) c.args.bytes.now.items c.push_name.new.bytes.items (drop c.in_ok-table.end c.args.text.now) c.in_ok-table.table c.in_ok-table.ensures.name c.in_ok-table.ensures.rest c.if-table.false in
    rw (p.1, p.2) (tags_fault (drop c.args.at c.args.text.now) _ (drop c.in_ok-table.end c.args.text.now) c.in_err-end.field-0.0 goes c.in_err-end.ensures.fault)

pub returns-in_err-tail-clause-row : goal.returns-in_err-tail-clause-row
returns-in_err-tail-clause-row c =
    let p = err_from_is_err_and c.from_residual-in_err-tail.result c.from_residual-in_err-tail.ensures.1 in
    let goes = row_named (drop c.args.at c.args.text.now) c.args.bytes.now.items c.push_name.new.bytes.items (drop c.in_ok-table.end c.args.text.now) c.in_ok-table.table c.in_ok-table.ensures.name c.in_ok-table.ensures.rest c.if-table.false in
    let tags = c.in_ok-end.ensures.tags in
    let tagged = row_tagged (drop c.args.at c.args.text.now) _ (drop c.in_ok-table.end c.args.text.now) (drop c.in_ok-end.end c.args.text.now) tags.0 goes tags.1 in
    rw (p.1, p.2) (rest_fault (drop c.args.at c.args.text.now) _ (drop c.in_ok-end.end c.args.text.now) tags.0 c.in_err-tail.field-0.0 tagged c.in_err-tail.ensures.fault)

pub returns-then-first-last-clause-row : goal.returns-then-first-last-clause-row
returns-then-first-last-clause-row c =
    let first : length c.args.pairs.now.items ≡ c.in_ok-first.first = omega (arith, c.in_ok-first.ensures.place, c.len.ensures, c.args.pairs.now.ok) in
    let end : length c.push_rest.new.pairs.items ≡ c.in_ok-last.last = omega (arith, c.in_ok-last.ensures.place, c.len-2.ensures, c.push_rest.new.pairs.ok) in
    let goes = row_named (drop c.args.at c.args.text.now) c.args.bytes.now.items c.push_name.new.bytes.items (drop c.in_ok-table.end c.args.text.now) c.in_ok-table.table c.in_ok-table.ensures.name c.in_ok-table.ensures.rest c.if-table.false in
    let tags = c.in_ok-end.ensures.tags in
    let rest = c.in_ok-tail.ensures.rest in
    let tagged = row_tagged (drop c.args.at c.args.text.now) _ (drop c.in_ok-table.end c.args.text.now) (drop c.in_ok-end.end c.args.text.now) tags.0 goes tags.1 in
    let finished = row_finished (drop c.args.at c.args.text.now) _ (drop c.in_ok-end.end c.args.text.now) tags.0 (rest_of rest.0 _ _) tagged rest.1 in
    let puts = puts_twice _ _ _ _ _ _ tags.0 rest.0 tags.2 rest.2 in
    let same : length c.args.pairs.now.items ≡ length c.push_rest.new.pairs.items = first ∙ c.if-first-last.true ∙ sym end in
    row_empty (drop c.args.at c.args.text.now) _ tags.0 _ finished ((nothing_put _ _ _ _ _ puts).0 same)

pub returns-clause-row : goal.returns-clause-row
returns-clause-row c =
    let first : length c.args.pairs.now.items ≡ c.in_ok-first.first = omega (arith, c.in_ok-first.ensures.place, c.len.ensures, c.args.pairs.now.ok) in
    let end : length c.push_rest.new.pairs.items ≡ c.in_ok-last.last = omega (arith, c.in_ok-last.ensures.place, c.len-2.ensures, c.push_rest.new.pairs.ok) in
    let goes = row_named (drop c.args.at c.args.text.now) c.args.bytes.now.items c.push_name.new.bytes.items (drop c.in_ok-table.end c.args.text.now) c.in_ok-table.table c.in_ok-table.ensures.name c.in_ok-table.ensures.rest c.if-table.false in
    let tags = c.in_ok-end.ensures.tags in
    let rest = c.in_ok-tail.ensures.rest in
    let tagged = row_tagged (drop c.args.at c.args.text.now) _ (drop c.in_ok-table.end c.args.text.now) (drop c.in_ok-end.end c.args.text.now) tags.0 goes tags.1 in
    let finished = row_finished (drop c.args.at c.args.text.now) _ (drop c.in_ok-end.end c.args.text.now) tags.0 (rest_of rest.0 _ _) tagged rest.1 in
    let puts = puts_twice _ _ _ _ _ _ tags.0 rest.0 tags.2 rest.2 in
    let differ : length c.args.pairs.now.items ≢ length c.push_rest.new.pairs.items = λ same. c.if-first-last.false (sym first ∙ same ∙ end) in
    let head : Head = record { table = c.in_ok-table.table; first = c.in_ok-first.first; end = c.in_ok-last.last; when = c.in_ok-tail.tail.when } in
    let grows = grows_twice _ _ _ c.in_ok-end.ensures.grows c.in_ok-tail.ensures.grows in
    let name = (grow_span c.push_name.new.bytes.items c.push_rest.new.bytes.items c.in_ok-table.table grows (puts_fits _ _ _ c.in_ok-table.table c.in_ok-table.ensures.name)).0 ∙ puts_in _ _ _ c.in_ok-table.table c.in_ok-table.ensures.name in
    row_done (drop c.args.at c.args.text.now) _ _ c.push_rest.new.bytes.items c.push_rest.new.pairs.items head tags.0 rest.0 finished ((nothing_put _ _ _ _ _ puts).1 differ) name (items_put _ _ _ _ _ head puts (sym first) (sym end))

pub returns-clause-fits : goal.returns-clause-fits
returns-clause-fits c =
    let first : length c.args.pairs.now.items ≡ c.in_ok-first.first = omega (arith, c.in_ok-first.ensures.place, c.len.ensures, c.args.pairs.now.ok) in
    let end : length c.push_rest.new.pairs.items ≡ c.in_ok-last.last = omega (arith, c.in_ok-last.ensures.place, c.len-2.ensures, c.push_rest.new.pairs.ok) in
    let tags = c.in_ok-end.ensures.tags in
    let rest = c.in_ok-tail.ensures.rest in
    let puts = puts_twice _ _ _ _ _ _ tags.0 rest.0 tags.2 rest.2 in
    let grows = grows_twice _ _ _ c.in_ok-end.ensures.grows c.in_ok-tail.ensures.grows in
    let table = (grow_span c.push_name.new.bytes.items c.push_rest.new.bytes.items c.in_ok-table.table grows (puts_fits _ _ _ c.in_ok-table.table c.in_ok-table.ensures.name)).1 in
    fits_head _ _ _ _ _ _ puts table (sym first) (sym end)
