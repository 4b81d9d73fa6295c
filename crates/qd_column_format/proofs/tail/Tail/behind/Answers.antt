use Rattle.std.proofs.Common.{◌≡◌, ◌∙◌, List, ap, sym, subst, length, IfOk}
use Rattle.std.specs.List.{flat_map}
use Rattle.qd_base.specs.declared.cell.Cell.{Cell}
use Rattle.qd_column_format.specs.Spelling.{text_bytes}
use Rattle.qd_column_format.specs.Tails.{Behind}
use Rattle.qd_column_format.proofs.TailLemmas.{behind_texts, texts_size}
use Rattle.qd_column_format.proofs.tail.Tail.behind.Goals as goal

pub returns-in-Varchar : goal.returns-in-Varchar
returns-in-Varchar g c =
    let column = c.args.column.now in
    let marks = c.marks_and_bytes.result.0.now in
    let bytes = c.marks_and_bytes.result.1.now in
    let size = texts_size bytes marks c.marks_and_bytes.ensures.tiled in
    let end : c.last_end.result ≡ length (flat_map text_bytes column.cells) = c.last_end.ensures.end ∙ sym size.1 ∙ sym (ap (λ (l : List Cell). length (flat_map text_bytes l)) c.marks_and_bytes.ensures.cells) in
    record { behind = subst (λ (b : Behind). IfOk c.of_end.result (λ t. t ≡ b)) (behind_texts column c.last_end.result (sym c.in-Varchar.ensures.kind) end) c.of_end.ensures.tail }
