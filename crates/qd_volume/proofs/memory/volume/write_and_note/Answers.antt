use Rattle.std.proofs.Common.{◌-◌, ◌∙◌, ap, List, take, vec_len, arith, ◌∷◌, [], length, length-append}
use Rattle.std.proofs.lemmas.List.{take_at}
use Rattle.qd_volume.specs.Disk.{Call}
use Rattle.qd_volume.specs.Files.{Wrote}
use Rattle.qd_volume.proofs.memory.volume.write_and_note.Goals as goal

pub returns-in-Err-clause-notes_err : goal.returns-in-Err-clause-notes_err
returns-in-Err-clause-notes_err c =
    let old = c.args.notes.now.items in
    let last : List Call = record { file = c.args.file; change = Wrote c.args.at c.in_ok-copy.copy.items } ∷ [] in
    let n = vec_len c.add.new.notes - 1 in
    let behind = c.in_ok-add.ensures.behind in
    c.pop.ensures.rest ∙ ap (λ (l : List Call). take n l) behind ∙ take_at old last n (omega (arith, ap length behind, length-append old last))
