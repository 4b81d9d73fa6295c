use Rattle.std.proofs.Common.{◌≡◌, ◌∙◌, ℕ, ◌-◌, ◌*◌, min, List, sym, ap, subst, IfSome}
use Rattle.qd_column_format.specs.Fields.{field_size}
use Rattle.qd_column_format.specs.Rests.{HoldsRest, IsHeldRest}
use Rattle.qd_column_files.specs.Columns.{kind_of}
use Rattle.qd_column_files.proofs.GivenLemmas.{rest_given}
use Rattle.qd_column_files.proofs.ReadLemmas.{kind_got}
use Rattle.qd_column_files.proofs.RestReads.{column_told, fit_by}
use Rattle.qd_column_files.proofs.rests.read_column_rest.Goals as goal

pub returns-clause-told : goal.returns-clause-told
returns-clause-told g c =
    let s = c.args.schema.now in
    let p = c.args.part in
    let skip = c.args.skip in
    let k = c.get.result.now.kind in
    let is : k ≡ kind_of s c.args.col = kind_got s.cols c.args.col c.get.result.now c.get.ensures.item in
    let from : c.saturating_mul-from.result ≡ min (skip * field_size k) 18446744073709551615 = c.saturating_mul-from.ensures ∙ ap (λ n. min (skip * n) 18446744073709551615) c.row_size-size.ensures.size in
    let most : c.saturating_mul-most.result ≡ min ((p.rows - skip) * field_size k) 18446744073709551615 = c.saturating_mul-most.ensures ∙ ap (λ n. min ((p.rows - skip) * n) 18446744073709551615) c.row_size-size.ensures.size in
    column_told s p skip c.args.col c.requires.skip k is c.in_ok-judge_rest.field-0 c.in_ok-main.main c.in_ok-aux.aux c.in_ok-start.start
    (λ whole same rows timely holds.
    c.in_ok-judge_rest.ensures.rest skip whole same rows timely
    (subst (λ (l : List ℕ). HoldsRest skip c.in_ok-start.start l c.as_slice-2.result.now whole) (sym c.as_slice.ensures.value)
    (subst (λ (l : List ℕ). HoldsRest skip c.in_ok-start.start c.in_ok-main.main.items l whole) (sym c.as_slice-2.ensures.value) holds)))
    c.saturating_mul-from.result c.saturating_mul-most.result c.column_file-file.result c.column_file.result _ _ _ from most c.in_ok-main.ensures.stays c.in_ok-start.ensures.stays c.column_file-file.ensures.number c.column_file.ensures.number
    c.in_ok-main.ensures.told c.in_ok-start.ensures.told c.in_ok-aux.ensures.told

pub returns-clause-fit : goal.returns-clause-fit
returns-clause-fit g c =
    let s = c.args.schema.now in
    fit_by s c.args.part c.args.skip c.args.col c.get.result.now.kind c.in_ok-judge_rest.field-0 c.requires.skip (kind_got s.cols c.args.col c.get.result.now c.get.ensures.item) c.in_ok-judge_rest.ensures.kind c.in_ok-judge_rest.ensures.rows c.in_ok-judge_rest.ensures.takes

pub returns-clause-given : goal.returns-clause-given
returns-clause-given g c =
    let skip = c.args.skip in
    let k = c.get.result.now.kind in
    let start = c.in_ok-start.start in
    let rest = c.in_ok-judge_rest.field-0 in
    let main = c.in_ok-main.main.items in
    let aux = c.in_ok-aux.aux.items in
    let from : c.saturating_mul-from.result ≡ min (skip * field_size k) 18446744073709551615 = c.saturating_mul-from.ensures ∙ ap (λ n. min (skip * n) 18446744073709551615) c.row_size-size.ensures.size in
    rest_given g.V.Volume.gives c.args.part.block c.args.col skip c.column_file-file.result c.column_file.result c.saturating_mul-from.result start (c.args.part.rows - skip) k main aux rest c.column_file-file.ensures.number c.column_file.ensures.number from
    c.in_ok-main.ensures.given c.in_ok-aux.ensures.given c.in_ok-judge_rest.ensures.kind c.in_ok-judge_rest.ensures.rows
    (λ some. subst (λ (l : List ℕ). IfSome rest (λ column. IsHeldRest start l aux column)) c.as_slice.ensures.value (subst (λ (l : List ℕ). IfSome rest (λ column. IsHeldRest start c.as_slice.result.now l column)) c.as_slice-2.ensures.value (c.in_ok-judge_rest.ensures.held some)))
