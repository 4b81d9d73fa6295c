use Rattle.std.proofs.Common.{subst, sym, arith}
use Rattle.std.proofs.lemmas.List.{nil_from_length}
use Rattle.qd_frames.specs.Frames.{IsUnfinished}
use Rattle.qd_frames.specs.Heads.{ReadsHead}
use Rattle.qd_frames.proofs.HeadLemmas.{wrong_first, first_and_rest, short_nothing, line_end_of_apply, line_end_of_end}
use Rattle.qd_frames.proofs.head.read_head.Goals as goal

pub returns-in-empty : goal.returns-in-empty
returns-in-empty c = subst IsUnfinished (sym (nil_from_length c.args.bytes.now (omega arith))) short_nothing

pub returns-in-87 : goal.returns-in-87
returns-in-87 c = subst (λ xs. ReadsHead xs c.read_text.result) (first_and_rest c.args.bytes.now 87 (omega arith) (omega arith)) c.read_text.ensures

pub returns-in-81 : goal.returns-in-81
returns-in-81 c = subst (λ xs. ReadsHead xs c.read_text-in-81.result) (first_and_rest c.args.bytes.now 81 (omega arith) (omega arith)) c.read_text-in-81.ensures

pub returns-in-65 : goal.returns-in-65
returns-in-65 c =
    subst (λ xs. ReadsHead xs c.read_line_end.result) (first_and_rest c.args.bytes.now 65 (omega arith) (omega arith)) (line_end_of_apply _ c.read_line_end.result c.read_line_end.ensures)

pub returns-in-88 : goal.returns-in-88
returns-in-88 c =
    subst (λ xs. ReadsHead xs c.read_line_end-in-88.result) (first_and_rest c.args.bytes.now 88 (omega arith) (omega arith)) (line_end_of_end _ c.read_line_end-in-88.result c.read_line_end-in-88.ensures)

pub returns-in_default : goal.returns-in_default
returns-in_default c = wrong_first c.args.bytes.now (omega arith) (λ e. omega arith) (λ e. omega arith) (λ e. omega arith) (λ e. omega arith)
