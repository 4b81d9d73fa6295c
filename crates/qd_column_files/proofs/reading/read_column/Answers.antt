use Rattle.std.proofs.Common.{◌≡◌, ◌∙◌, ℕ, ◌*◌, min, List, sym, ap, subst}
use Rattle.qd_durable.specs.Faults.{CountsVol}
use Rattle.qd_column_format.specs.Fields.{field_size}
use Rattle.qd_column_files.specs.Columns.{kind_of}
use Rattle.qd_column_files.specs.Reading.{IsColumnRead}
use Rattle.qd_column_files.proofs.GivenLemmas.{column_given}
use Rattle.qd_column_files.proofs.ReadLemmas.{kind_got, told_read}
use Rattle.qd_column_files.proofs.reading.read_column.Goals as goal

pub returns-clause-told : goal.returns-clause-told
returns-clause-told g c =
    let s = c.args.schema.now in
    let p = c.args.part in
    let col = c.args.col in
    let k = c.get.result.now.kind in
    let is : k ≡ kind_of s col = kind_got s.cols col c.get.result.now c.get.ensures.item in
    let limit : c.saturating_mul-most.result ≡ min (p.rows * field_size k) 18446744073709551615 = c.saturating_mul-most.ensures ∙ ap (λ n. min (p.rows * n) 18446744073709551615) c.row_size.ensures.size in
    let main : IsColumnRead c.judge.result s p col c.in_ok-main.main.items c.as_slice-2.result.now = subst (λ (l : List ℕ). IsColumnRead c.judge.result s p col l c.as_slice-2.result.now) c.as_slice.ensures.value c.judge.ensures.read in
    let both : IsColumnRead c.judge.result s p col c.in_ok-main.main.items c.in_ok-aux.aux.items = subst (λ (l : List ℕ). IsColumnRead c.judge.result s p col c.in_ok-main.main.items l) c.as_slice-2.ensures.value main in
    told_read s p col k c.judge.result c.in_ok-main.main c.in_ok-aux.aux is c.judge.ensures.fit both c.saturating_mul-most.result c.column_file.result c.column_file-2.result _ _ limit c.in_ok-main.ensures.stays c.column_file.ensures.number c.column_file-2.ensures.number c.in_ok-main.ensures.told c.in_ok-aux.ensures.told

pub returns-clause-counted : goal.returns-clause-counted
returns-clause-counted g c =
    let before = (g.V.Volume.storage c.args.volume.now).faults in
    let same : (g.V.Volume.storage c.read_aux.new.volume).faults ≡ before = c.in_ok-aux.ensures.counted ∙ c.in_ok-main.ensures.counted in
    subst (λ (now : ℕ). CountsVol before now c.judge.result) (sym same) (c.judge.ensures.counted before)

pub returns-clause-given : goal.returns-clause-given
returns-clause-given g c =
    let s = c.args.schema.now in
    let p = c.args.part in
    let col = c.args.col in
    let main : IsColumnRead c.judge.result s p col c.in_ok-main.main.items c.as_slice-2.result.now = subst (λ (l : List ℕ). IsColumnRead c.judge.result s p col l c.as_slice-2.result.now) c.as_slice.ensures.value c.judge.ensures.read in
    let both : IsColumnRead c.judge.result s p col c.in_ok-main.main.items c.in_ok-aux.aux.items = subst (λ (l : List ℕ). IsColumnRead c.judge.result s p col c.in_ok-main.main.items l) c.as_slice-2.ensures.value main in
    column_given g.V.Volume.gives s p col c.column_file.result c.column_file-2.result c.in_ok-main.main.items c.in_ok-aux.aux.items c.judge.result c.column_file.ensures.number c.column_file-2.ensures.number c.in_ok-main.ensures.given c.in_ok-aux.ensures.given both
