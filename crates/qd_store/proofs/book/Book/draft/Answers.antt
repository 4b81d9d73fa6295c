use Rattle.std.proofs.Common.{◌≡◌, ◌≤◌, ◌^◌, ℕ, List, Err, map, ap, ◌∙◌, subst, arith}
use Rattle.std.specs.Prelude.{Vec}
use Rattle.std.specs.declared.alloc.Global.{Global}
use Rattle.std.proofs.lemmas.Result.{err_from_is_err_and}
use Rattle.qd_durable.specs.declared.fault.LogFault.{LogFault}
use Rattle.qd_versions.specs.Stores as versions
use Rattle.qd_store.specs.Stores.{Book, IsBook}
use Rattle.qd_store.proofs.Drafted.{arrives_damaged, counts_parts, drafted_over, drafted_told, drafted_upto, planning, reads_damaged, undrafted_told}
use Rattle.qd_store.proofs.book.Book.draft.Goals as goal

abbrev items_of : Vec ℕ Global → List ℕ
items_of v = v.items

pub plan-requires-clause-counts : goal.plan-requires-clause-counts
plan-requires-clause-counts g c =
    counts_parts c.args.self.now c.args.upto c.in_ok-arrived.arrived c.in_ok-arrived.ensures.arrived (map items_of c.in_ok-written.written.items) c.in_ok-written.ensures.written

pub returns-in_err-arrived-clause-damaged : goal.returns-in_err-arrived-clause-damaged
returns-in_err-arrived-clause-damaged g c =
    let p = err_from_is_err_and c.from_residual.result c.from_residual.ensures.1 in
    arrives_damaged c.from_residual.result c.in_err-arrived.field-0.0 (subst (λ (f : LogFault). c.from_residual.result ≡ Err f) p.2 p.1) c.args.self.now c.args.upto _ c.in_err-arrived.ensures.read

pub returns-in_err-olds-clause-damaged : goal.returns-in_err-olds-clause-damaged
returns-in_err-olds-clause-damaged g c =
    let p = err_from_is_err_and c.from_residual-in_err-olds.result c.from_residual-in_err-olds.ensures.1 in
    reads_damaged c.from_residual-in_err-olds.result c.in_err-olds.field-0.0 (subst (λ (f : LogFault). c.from_residual-in_err-olds.result ≡ Err f) p.2 p.1) c.args.self.now c.args.upto
    (map items_of c.in_ok-written.written.items) c.in_ok-arrived.arrived c.in_ok-plan.plan (c.in_ok-plan.ensures.plan ∙ ap (λ (s : Book). planning c.in_ok-arrived.arrived (map items_of c.in_ok-written.written.items) s.limits.split_rows) c.self.view_is) c.in_ok-written.ensures.written
    _ _ c.in_ok-arrived.ensures.stays c.in_ok-arrived.ensures.read c.in_err-olds.ensures.files

pub returns-in_err-olds-clause-told : goal.returns-in_err-olds-clause-told
returns-in_err-olds-clause-told g c =
    let p = err_from_is_err_and c.from_residual-in_err-olds.result c.from_residual-in_err-olds.ensures.1 in
    let s : Book = c.args.self.now in
    let law : versions.IsStore s.versions = subst (λ (s : Book). versions.IsStore s.versions) c.self.view_is c.keeps_its_law.ensures.law in
    let book : IsBook s = subst IsBook c.self.view_is c.self.invariant in
    let few : c.args.upto ≤ 2 ^ 30 = omega (arith, c.requires.few, book.few) in
    rw (p.1, p.2) (undrafted_told c.one_block_is_held.ensures c.one_column_is_spelled.ensures s law c.rows_are_few.ensures.law c.args.upto few (map items_of c.in_ok-written.written.items) c.self.inside.limits.split_rows c.in_ok-arrived.arrived c.in_ok-plan.plan c.in_ok-plan.ensures.plan c.in_err-olds.field-0.0 _ _ c.in_ok-arrived.ensures.stays c.in_ok-arrived.ensures.told c.in_err-olds.ensures.files)

pub returns-clause-over : goal.returns-clause-over
returns-clause-over g c =
    let s : Book = c.args.self.now in
    let law : versions.IsStore s.versions = subst (λ (s : Book). versions.IsStore s.versions) c.self.view_is c.keeps_its_law.ensures.law in
    let book : IsBook s = subst IsBook c.self.view_is c.self.invariant in
    let few : c.args.upto ≤ 2 ^ 30 = omega (arith, c.requires.few, book.few) in
    drafted_over s.versions law (map items_of c.in_ok-written.written.items) c.self.inside.limits.split_rows c.args.upto c.in_ok-arrived.arrived c.in_ok-arrived.ensures.arrived c.in_ok-plan.plan c.in_ok-plan.ensures.plan few _ c.in_ok-written.ensures.written c.in_ok-olds.ensures.read

pub returns-clause-upto : goal.returns-clause-upto
returns-clause-upto g c =
    let s : Book = c.args.self.now in
    let law : versions.IsStore s.versions = subst (λ (s : Book). versions.IsStore s.versions) c.self.view_is c.keeps_its_law.ensures.law in
    drafted_upto s.versions law (map items_of c.in_ok-written.written.items) c.self.inside.limits.split_rows c.args.upto c.in_ok-arrived.arrived c.in_ok-arrived.ensures.arrived c.in_ok-plan.plan c.in_ok-plan.ensures.plan

pub invariant_of-result : goal.invariant_of-result
invariant_of-result g c =
    let s : Book = c.args.self.now in
    let law : versions.IsStore s.versions = subst (λ (s : Book). versions.IsStore s.versions) c.self.view_is c.keeps_its_law.ensures.law in
    let book : IsBook s = subst IsBook c.self.view_is c.self.invariant in
    let few : c.args.upto ≤ 2 ^ 30 = omega (arith, c.requires.few, book.few) in
    let over = drafted_over s.versions law (map items_of c.in_ok-written.written.items) c.self.inside.limits.split_rows c.args.upto c.in_ok-arrived.arrived c.in_ok-arrived.ensures.arrived c.in_ok-plan.plan c.in_ok-plan.ensures.plan few _ c.in_ok-written.ensures.written c.in_ok-olds.ensures.read in
    (s.versions.versions.next_block, over.0, over.2)

pub returns-clause-told : goal.returns-clause-told
returns-clause-told g c =
    let s : Book = c.args.self.now in
    let law : versions.IsStore s.versions = subst (λ (s : Book). versions.IsStore s.versions) c.self.view_is c.keeps_its_law.ensures.law in
    let book : IsBook s = subst IsBook c.self.view_is c.self.invariant in
    let few : c.args.upto ≤ 2 ^ 30 = omega (arith, c.requires.few, book.few) in
    drafted_told c.one_block_is_held.ensures c.one_column_is_spelled.ensures s law c.rows_are_few.ensures.law c.args.upto few (map items_of c.in_ok-written.written.items) c.self.inside.limits.split_rows c.in_ok-arrived.arrived c.in_ok-plan.plan c.in_ok-plan.ensures.plan c.in_ok-olds.olds _ _ c.in_ok-arrived.ensures.stays c.in_ok-arrived.ensures.told c.in_ok-olds.ensures.files
