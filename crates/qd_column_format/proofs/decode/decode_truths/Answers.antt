use Rattle.std.proofs.Common.{◌≡◌, ◌∙◌, ◌++◌, ◌<◌, ◌^◌, ℕ, Bool, refl, ap, sym, subst, length, map, take, drop, All, arith}
use Rattle.std.specs.List.{flat_map}
use Rattle.std.proofs.lemmas.List.{take_all, take-append-drop, length-take-le}
use Rattle.byteorder.specs.Endian.{little_bytes}
use Rattle.qd_base.specs.declared.cell.Cell.TheVariants as cell
use Rattle.qd_base.specs.declared.schema.ColType.TheVariants as kind
use Rattle.qd_column.specs.Cells.{CellsOf}
use Rattle.qd_column_format.specs.declared.fault.ColumnFault.{ColumnFault}
use Rattle.qd_column_format.specs.Fields.{truth_field}
use Rattle.qd_column_format.specs.Reading.{IsFault, IsReadColumn}
use Rattle.qd_column_format.specs.Added.{column_of}
use Rattle.qd_column_format.proofs.SpellingLemmas.{single_bytes}
use Rattle.qd_column_format.proofs.ColumnLemmas.{truth_column, truths_small, truths_one, column_read}
use Rattle.qd_column_format.proofs.DamageLemmas.{truth_damage, truth_cut}
use Rattle.qd_column_format.proofs.decode.decode_truths.Goals as goal

pub returns-then-byte-gt1-clause-err : goal.returns-then-byte-gt1-clause-err
returns-then-byte-gt1-clause-err g c = λ aux.
    let least = c.min-count.ensures in
    truth_damage c.args.rows c.args.main.now aux c.loop-at.at (λ i. omega (arith, c.type_inv.main i)) (omega arith) (omega arith) (subst (All (λ b. b < 2)) (sym c.loop-at.invariant) (truths_one c.loop-at.truths.items)) (λ small. absurd (omega arith))

pub returns-then-count-rows-clause-err : goal.returns-then-count-rows-clause-err
returns-then-count-rows-clause-err g c = λ aux.
    let least = c.min-count.ensures in
    let main = c.args.main.now in
    let whole : take c.loop-at.at main ≡ main = take_all c.loop-at.at main (omega arith) in
    let each : All (λ b. b < 2) main = subst (All (λ b. b < 2)) whole (subst (All (λ b. b < 2)) (sym c.loop-at.invariant) (truths_one c.loop-at.truths.items)) in
    subst (λ (e : ColumnFault). IsFault kind.Bool c.args.rows main aux e) (sym c.cut_main.ensures.damage) (truth_cut c.args.rows main aux (λ i. omega (arith, c.type_inv.main i)) each (omega arith))

pub returns-clause-ok : goal.returns-clause-ok
returns-clause-ok g c = λ aux.
    let least = c.min-count.ensures in
    let main = c.args.main.now in
    let rows = c.args.rows in
    let at = c.loop-at.at in
    let f : Bool → ℕ = λ b. truth_field (cell.Bool b) in
    let ts = c.loop-at.truths.items in
    let there : at ≡ rows = omega arith in
    let size : length (map f ts) ≡ rows = ap length (sym c.loop-at.invariant) ∙ length-take-le at main (omega arith) ∙ there in
    let bytes : flat_map (little_bytes 1) (map f ts) ≡ take at main = single_bytes (map f ts) (truths_small ts) ∙ sym c.loop-at.invariant in
    let begins : main ≡ flat_map (little_bytes 1) (map f ts) ++ drop at main = sym (ap (λ l. l ++ drop at main) bytes ∙ take-append-drop at main) in
    let few : rows < 2 ^ 63 = omega arith in
    subst (λ (column : CellsOf). IsReadColumn kind.Bool rows main aux column) (sym c.of_truths.ensures.column) (column_read (column_of kind.Bool (map (λ b. cell.Bool b) ts)) (map f ts) main aux rows (truth_column ts) size few (drop at main, begins) (aux, refl))
