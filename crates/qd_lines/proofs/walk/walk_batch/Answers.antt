use Rattle.qd_base.specs.declared.op.Entry.{Entry}
use Rattle.std.proofs.Common.{refl, ◌≡◌, ◌+◌, ◌-◌, ◌∷◌, ℕ, List, Err, length, ap, subst, arith}
use Rattle.qd_ilp.specs.Line.{Line, Gives}
use Rattle.qd_ilp.specs.View.{behind_rows}
use Rattle.qd_ilp.specs.Transaction.{work_in}
use Rattle.qd_lines.specs.Walks.{Leads, SaysOf}
use Rattle.qd_lines.proofs.WalkLemmas.{passed_blanks, length_blanks, refused_here, passed_here, faulty_here, whole_here, left_over}
use Rattle.qd_lines.proofs.LawfulLemmas.{text-keeps}
use Rattle.qd_lines.proofs.walk.walk_batch.Goals as goal

pub overflow_sub-left : goal.overflow_sub-left
overflow_sub-left g c =
    let rest = behind_rows (c.loop-i.i + 1) c.args.batch.now.lines in
    omega (arith, c.loop-i.invariant.6, ap length c.row-blanks.ensures.row, length_blanks c.row-blanks.result.0 (Gives c.row-blanks.result.1 ∷ rest))

pub overflow_sub-left-in-Ok : goal.overflow_sub-left-in-Ok
overflow_sub-left-in-Ok g c =
    let rest = behind_rows (c.loop-i.i + 1) c.args.batch.now.lines in
    omega (arith, c.loop-i.invariant.6, ap length c.row-blanks.ensures.row, length_blanks c.row-blanks.result.0 (Gives c.row-blanks.result.1 ∷ rest))

pub overflow_sub-result : goal.overflow_sub-result
overflow_sub-result g c = omega (arith, c.loop-i.invariant.4, c.loop-i.invariant.5, c.lines-lines.ensures.count)

pub overflow_add-result : goal.overflow_add-result
overflow_add-result g c =
    let rest = behind_rows (c.loop-i.i + 1) c.args.batch.now.lines in
    omega (arith, c.loop-i.invariant.4, c.loop-i.invariant.5, c.loop-i.invariant.6, c.lines-lines.ensures.count, ap length c.row-blanks.ensures.row, length_blanks c.row-blanks.result.0 (Gives c.row-blanks.result.1 ∷ rest))

pub returns-in-Err-Code-clause-refused : goal.returns-in-Err-Code-clause-refused
returns-in-Err-Code-clause-refused g c =
    let work = c.loop-i.invariant.0 in
    let number = c.loop-i.invariant.1 in
    let row = c.row-blanks.result.1 in
    let n = c.row-blanks.result.0 in
    let rest = behind_rows (c.loop-i.i + 1) c.args.batch.now.lines in
    let leads = passed_blanks c.args.schemas.now c.args.now c.args.batch.now work n number (Gives row ∷ rest) (subst (λ (ls : List Line). Leads c.args.schemas.now c.args.now c.args.batch.now work number ls) c.row-blanks.ensures.row c.loop-i.invariant.7) in
    let least = c.in-Err-Code.ensures.err work c.loop-i.invariant.2 in
    let line : number + n ≡ c.lines-lines.result - (c.loop-i.left - n) + 1 = omega (arith, c.loop-i.invariant.4, c.loop-i.invariant.5, c.loop-i.invariant.6, c.lines-lines.ensures.count, ap length c.row-blanks.ensures.row, length_blanks n (Gives row ∷ rest)) in
    rw c.in-Err-Code.field-0-is (subst (λ (k : ℕ). SaysOf c.args.schemas.now c.args.now c.args.batch.now (Err (c.in-Err-Code.code, k))) line
    (refused_here c.args.schemas.now c.args.now c.args.batch.now work (number + n) row rest c.in-Err-Code.code leads (rw c.in-Err-Code.field-0-is at least)))

pub loop-i-preserved : goal.loop-i-preserved
loop-i-preserved g c =
    let work = c.loop-i.invariant.0 in
    let number = c.loop-i.invariant.1 in
    let row = c.row-blanks.result.1 in
    let n = c.row-blanks.result.0 in
    let rest = behind_rows (c.loop-i.i + 1) c.args.batch.now.lines in
    let leads = passed_blanks c.args.schemas.now c.args.now c.args.batch.now work n number (Gives row ∷ rest) (subst (λ (ls : List Line). Leads c.args.schemas.now c.args.now c.args.batch.now work number ls) c.row-blanks.ensures.row c.loop-i.invariant.7) in
    let taken = c.in-Ok.ensures.ok work c.loop-i.invariant.2 c.loop-i.invariant.3 in
    let counted = length_blanks n (Gives row ∷ rest) in
    let length_row = ap length c.row-blanks.ensures.row in (
      work_in c.args.now work (Gives row),
      number + n + 1,
      taken.1,
      taken.2,
      omega arith,
      omega (arith, c.loop-i.invariant.5, c.loop-i.invariant.6, counted, length_row),
      omega (arith, c.loop-i.invariant.6, counted, length_row),
      passed_here c.args.schemas.now c.args.now c.args.batch.now work (number + n) row rest leads taken.0,
    )

pub returns-in-Some-clause-refused : goal.returns-in-Some-clause-refused
returns-in-Some-clause-refused g c =
    let work = c.loop-i.invariant.0 in
    let number = c.loop-i.invariant.1 in
    let leads = left_over c.args.schemas.now c.args.now c.args.batch.now work number c.loop-i.i c.loop-i.left c.loop-i.invariant.7 (omega (arith, c.loop-i-test.false, c.rows-i-end.ensures.count)) c.loop-i.invariant.6 in
    faulty_here c.args.schemas.now c.args.now c.args.batch.now work (number + c.loop-i.left) c.in-Some.line leads c.loop-i.invariant.5 c.in-Some.ensures.line

pub returns-clause-taken : goal.returns-clause-taken
returns-clause-taken g c =
    let work = c.loop-i.invariant.0 in
    let number = c.loop-i.invariant.1 in
    let leads = left_over c.args.schemas.now c.args.now c.args.batch.now work number c.loop-i.i c.loop-i.left c.loop-i.invariant.7 (omega (arith, c.loop-i-test.false, c.rows-i-end.ensures.count)) c.loop-i.invariant.6 in
    let entry : Entry = record { ops = work.ops } in
    (entry, whole_here c.args.schemas.now c.args.now c.args.batch.now work (number + c.loop-i.left) entry leads refl c.in-None.ensures.line, c.loop-i.invariant.3)

pub returns-clause-lawful : goal.returns-clause-lawful
returns-clause-lawful g c entry says text bytes read = text-keeps c.args.now c.args.schemas.now 1 text c.args.batch.now entry c.requires.lawful bytes read says
