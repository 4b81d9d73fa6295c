use Rattle.std.proofs.Common.{◌≡◌, ◌∙◌, ◌++◌, ◌-◌, ◌<◌, ℕ, List, Bool, false, eqb, ap, length, length-drop, get_or, map, take, drop, arith}
use Rattle.std.specs.List.{list_any}
use Rattle.std.proofs.lemmas.List.{take_all}
use Rattle.std.proofs.lemmas.Result.{IfOk-weaker}
use Rattle.qd_merge.proofs.Marks.{marks_tell}
use Rattle.qd_merge.proofs.taken.push_taken.Goals as goal

pub returns : goal.returns
returns c =
    let classes : List ℕ = c.args.classes.now in
    let count : ℕ = c.args.count in
    let marks : List Bool = c.in_ok-taken.taken.items in
    let rest : take (length classes - count) (drop count classes) ≡ drop count classes = take_all (length classes - count) (drop count classes) (omega (arith, length-drop count classes)) in
    let tell : (n : ℕ) → n < length classes → get_or marks n false ≡ list_any (λ m. eqb n m) (drop count classes) = λ n lt. c.in_ok-taken.ensures.marks n lt ∙ ap (list_any (λ m. eqb n m)) rest in
    let told : map (λ n. get_or c.as_slice.result.now n false) (take count classes) ≡ map (λ n. get_or marks n false) (take count classes) = ap (λ (ms : List Bool). map (λ n. get_or ms n false) (take count classes)) c.as_slice.ensures.value in
    record { added = IfOk-weaker c.push_marks.result _ _ (λ x h. h ∙ ap (λ l. c.args.gone.now.items ++ l) (told ∙ marks_tell count classes marks c.requires.below tell)) c.push_marks.ensures.added }
