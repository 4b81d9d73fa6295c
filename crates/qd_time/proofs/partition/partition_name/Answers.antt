use Rattle.std.proofs.Common.{◌≡◌, ◌∙◌, IfOk, sym, ap, take}
use Rattle.std.proofs.lemmas.Result.{IfOk-weaker}
use Rattle.qd_time.specs.Units.{unit_of, name_of}
use Rattle.qd_time.proofs.ParseLemmas.{text_to-apart}
use Rattle.qd_time.proofs.partition.partition_name.Goals as goal
use Rattle.qd_time.proofs.partition.partition_name.Goals.{in-Hour, in-Day, in-Month, in-Year}

-- the printed text's first bytes are the name
cut_is : (c : goal.After-from_bytes) → take c.match-unit.length c.print_time-text.result ≡ name_of c.args.unit c.args.ts
cut_is c =
    elim c.match-unit.branch [
      | in-Hour w ↦ ap (λ n. take n c.print_time-text.result) w.length-is ∙ ap (take 13) c.print_time-text.ensures ∙ ap (λ unit. name_of unit c.args.ts) (sym w.in-Hour.is)
      | in-Day w ↦ ap (λ n. take n c.print_time-text.result) w.length-is ∙ ap (take 10) c.print_time-text.ensures ∙ ap (λ unit. name_of unit c.args.ts) (sym w.in-Day.is)
      | in-Month w ↦ ap (λ n. take n c.print_time-text.result) w.length-is ∙ ap (take 7) c.print_time-text.ensures ∙ ap (λ unit. name_of unit c.args.ts) (sym w.in-Month.is)
      | in-Year w ↦ ap (λ n. take n c.print_time-text.result) w.length-is ∙ ap (take 4) c.print_time-text.ensures ∙ ap (λ unit. name_of unit c.args.ts) (sym w.in-Year.is)
    ]

pub returns-clause-apart : goal.returns-clause-apart
returns-clause-apart c =
    let named : IfOk c.from_bytes.result (λ name. name ≡ name_of c.args.unit c.args.ts) = IfOk-weaker c.from_bytes.result _ _ (λ name is. is ∙ cut_is c) c.from_bytes.ensures.same in
    IfOk-weaker c.from_bytes.result _ _ (λ name is other high same. text_to-apart (unit_of c.args.unit) other c.args.ts high c.requires (sym same ∙ is)) named
