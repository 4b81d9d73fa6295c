use Rattle.std.proofs.Common.{◌≡◌, ◌∙◌, ℕ, ◌*◌, ◌<◌, Fits, w8, refl, sym, subst, arith, rules}
use Rattle.std.proofs.lemmas.List.{get_or_default}
use Rattle.qd_base.specs.declared.schema.ColType.{ColType}
use Rattle.qd_column_format.specs.Damage.{IsDamage}
use Rattle.qd_column_format.specs.Reading.{IsFault, IsUnspelled}
use Rattle.qd_column_format.specs.declared.fault.ColumnFault.{ColumnFault}
use Rattle.qd_column_format.specs.declared.fault.ColumnFault.TheVariants.{Damaged}
use Rattle.qd_column_files.specs.Columns.{kind_of}
use Rattle.qd_column_files.proofs.JudgeLemmas.{column_fits, lost_bytes, lost_time}
use Rattle.qd_column_files.proofs.ReadLemmas.{kind_got}
use Rattle.qd_column_files.proofs.TakeLemmas.{AreBytes}
use Rattle.qd_column_files.proofs.reading.judge.Goals as goal

byte_low : (n : ℕ) → Fits w8 n → n < 256
byte_low n f = first_of (omega arith, grind arith, search rules)

pub returns-in-Err-Damaged-clause-read : goal.returns-in-Err-Damaged-clause-read
returns-in-Err-Damaged-clause-read c =
    let s = c.args.schema.now in
    let main = c.args.main.now in
    let aux = c.args.aux.now in
    let is : c.get.result.now.kind ≡ kind_of s c.args.col = kind_got s.cols c.args.col c.get.result.now c.get.ensures.item in
    let k = c.get.result.now.kind in
    let fault : IsFault k c.args.part.rows main aux (Damaged c.in-Err-Damaged.half c.in-Err-Damaged.at) = subst (λ (e : ColumnFault). IsFault k c.args.part.rows main aux e) c.in-Err-Damaged.field-0-is c.in-Err-Damaged.ensures.damaged in
    let none : IsUnspelled k c.args.part.rows main aux (Damaged c.in-Err-Damaged.half c.in-Err-Damaged.at) = subst (λ (e : ColumnFault). IsUnspelled k c.args.part.rows main aux e) c.in-Err-Damaged.field-0-is c.in-Err-Damaged.ensures.unspelled in
    lost_bytes s c.args.part c.args.col main aux c.column_file.result c.in-Err-Damaged.half c.in-Err-Damaged.at c.column_file.ensures.number
    (subst (λ (m : ColType). IsDamage m c.args.part.rows main aux c.in-Err-Damaged.half c.in-Err-Damaged.at) is fault)
    (λ column kind rows spelled. none column (kind ∙ sym is) rows spelled)

pub mistimed_row-requires-clause-kind : goal.mistimed_row-requires-clause-kind
mistimed_row-requires-clause-kind c = c.in-Ok.ensures.kind ∙ kind_got c.args.schema.now.cols c.args.col c.get.result.now c.get.ensures.item

pub returns-in-Some-clause-read : goal.returns-in-Some-clause-read
returns-in-Some-clause-read c =
    let s = c.args.schema.now in
    let is : c.get.result.now.kind ≡ kind_of s c.args.col = kind_got s.cols c.args.col c.get.result.now c.get.ensures.item in
    lost_time s c.args.part c.args.col c.args.main.now c.args.aux.now c.one_column_is_spelled.ensures c.column_file-in-Some.result c.in-Some.row (8 * c.in-Some.row) c.in-Ok.column c.column_file-in-Some.ensures.number refl
    (c.in-Ok.ensures.kind ∙ is) c.in-Ok.ensures.rows c.in-Ok.ensures.spelled c.in-Some.ensures.mistimed

pub returns-in-None-clause-fit : goal.returns-in-None-clause-fit
returns-in-None-clause-fit c =
    let s = c.args.schema.now in
    let aux = c.args.aux.now in
    let is : c.get.result.now.kind ≡ kind_of s c.args.col = kind_got s.cols c.args.col c.get.result.now c.get.ensures.item in
    let known : AreBytes aux = λ k d lt. subst (λ (b : ℕ). b < 256) (get_or_default aux k 0 d lt) (byte_low _ (c.type_inv.aux k)) in
    column_fits s c.args.part c.args.col c.args.main.now aux c.in-Ok.column known (c.in-Ok.ensures.kind ∙ is) c.in-Ok.ensures.rows c.in-Ok.ensures.spelled c.in-None.ensures.timely c.in-None.ensures.ends
