use Rattle.std.proofs.Common.{◌≡◌, ◌∙◌, ◌<◌, length, get_or, Err, Ok, refl, arith}
use Rattle.std.proofs.lemmas.Result.{err_from_is_err_and}
use Rattle.qd_block.specs.Blocks.{column_in}
use Rattle.qd_column_format.specs.Tails.{Behind}
use Rattle.qd_io.specs.declared.fault.IoFault.{IoFault}
use Rattle.qd_column_files.proofs.GrowLemmas.{all_grown, any_got, more_grown, named_next, named_tail, none_grown, nothing, some_ungrown}
use Rattle.qd_column_files.proofs.growing.grow_columns.Goals as goal

pub loop-col-init : goal.loop-col-init
loop-col-init g c = record {
  told = none_grown _ c.args.block c.args.from c.args.tails.now c.args.rows.now;
  counted = refl;
  few = omega arith;
}

pub returns-in_err-grow_tail-clause-told : goal.returns-in_err-grow_tail-clause-told
returns-in_err-grow_tail-clause-told g c =
    let few = c.is_whole.ensures.whole.few in
    let rows = c.args.rows.now in
    let n = c.loop-col.col in
    let now = c.loop-col.tails in
    let there : n < length now = omega (arith, c.loop-col.auto.tails, c.requires.columns) in
    let was : Behind = get_or now n c.index-tails-col.result in
    let is : was ≡ get_or now n nothing = any_got now n c.index-tails-col.result nothing there in
    let p = err_from_is_err_and c.from_residual.result c.from_residual.ensures.1 in
    rw p.1
    (some_ungrown (Unit {0}) IoFault n c.args.block c.args.from c.args.tails.now now rows (omega arith) (omega arith) _ _ _ c.in_err-grow_tail.field-0.0 p.0 _ c.loop-col.invariant.told
    (named_tail (Unit {0}) IoFault _ _ (Err c.in_err-grow_tail.field-0.0) c.args.block n c.args.from was (get_or now n nothing) c.column.result.now (column_in rows n) is c.column.ensures.column c.in_err-grow_tail.ensures.told))

pub loop-col-preserved : goal.loop-col-preserved
loop-col-preserved g c =
    let few = c.is_whole.ensures.whole.few in
    let rows = c.args.rows.now in
    let n = c.loop-col.col in
    let now = c.loop-col.tails in
    let there : n < length now = omega (arith, c.loop-col.auto.tails, c.requires.columns) in
    let was : Behind = get_or now n c.index-tails-col.result in
    let is : was ≡ get_or now n nothing = any_got now n c.index-tails-col.result nothing there in
    record {
      told = more_grown (Unit {0}) IoFault n c.args.block c.args.from c.args.tails.now now rows (omega arith) (omega arith) _ _ _ c.in_ok-grow_tail.field-0 c.grow_tail.new.tail there c.loop-col.invariant.told
          (named_tail (Unit {0}) IoFault _ _ (Ok c.in_ok-grow_tail.field-0) c.args.block n c.args.from was (get_or now n nothing) c.column.result.now (column_in rows n) is c.column.ensures.column c.in_ok-grow_tail.ensures.told)
          (named_next c.args.from was (get_or now n nothing) c.grow_tail.new.tail c.column.result.now (column_in rows n) is c.column.ensures.column c.in_ok-grow_tail.ensures.tail);
      counted = c.in_ok-grow_tail.ensures.counted ∙ c.loop-col.invariant.counted;
      few = omega arith;
    }

pub returns-clause-told : goal.returns-clause-told
returns-clause-told g c = all_grown (Unit {0}) IoFault c.loop-col.col c.args.block c.args.from c.args.tails.now c.loop-col.tails c.args.rows.now _ _ tt (omega arith) (omega (arith, c.loop-col.auto.tails, c.requires.columns)) c.loop-col.invariant.told
