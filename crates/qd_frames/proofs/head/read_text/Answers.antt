use Rattle.std.proofs.Common.{◌-◌, ◌∷◌, length, take, drop, subst, sym, arith}
use Rattle.std.proofs.lemmas.List.{nil_from_length}
use Rattle.qd_frames.specs.Frames.{IsUnfinished}
use Rattle.qd_frames.specs.Heads.{letter, ReadsNumber}
use Rattle.qd_frames.proofs.HeadLemmas.{short_letter, short_behind, wrong_behind, whole_behind, wrong_second, first_and_rest}
use Rattle.qd_frames.specs.declared.head.Number.TheVariants as number
use Rattle.qd_frames.proofs.head.read_text.Goals as goal

pub returns-in-empty : goal.returns-in-empty
returns-in-empty c =
    subst (λ xs. IsUnfinished (letter c.args.kind ∷ xs)) (sym (nil_from_length c.args.bytes.now (omega arith))) (short_letter c.args.kind)

pub returns-in-Short : goal.returns-in-Short
returns-in-Short c =
    short_behind c.args.kind c.args.bytes.now (take (length c.args.bytes.now - 1) (drop 1 c.args.bytes.now)) (first_and_rest c.args.bytes.now 32 (omega arith) (omega arith))
    (subst (λ m. ReadsNumber m (take (length c.args.bytes.now - 1) (drop 1 c.args.bytes.now)) number.Short) c.limit.ensures c.in-Short.ensures)

pub returns-in-Wrong : goal.returns-in-Wrong
returns-in-Wrong c =
    wrong_behind c.args.kind c.args.bytes.now (take (length c.args.bytes.now - 1) (drop 1 c.args.bytes.now)) (first_and_rest c.args.bytes.now 32 (omega arith) (omega arith))
    (subst (λ m. ReadsNumber m (take (length c.args.bytes.now - 1) (drop 1 c.args.bytes.now)) number.Wrong) c.limit.ensures c.in-Wrong.ensures)

pub returns-in-Whole : goal.returns-in-Whole
returns-in-Whole c =
    whole_behind c.args.kind c.args.bytes.now (take (length c.args.bytes.now - 1) (drop 1 c.args.bytes.now)) c.in-Whole.value c.in-Whole.taken (first_and_rest c.args.bytes.now 32 (omega arith) (omega arith))
    (subst (λ m. ReadsNumber m (take (length c.args.bytes.now - 1) (drop 1 c.args.bytes.now)) (number.Whole c.in-Whole.value c.in-Whole.taken)) c.limit.ensures c.in-Whole.ensures)

pub returns-in_default : goal.returns-in_default
returns-in_default c = wrong_second c.args.kind c.args.bytes.now (omega arith) (λ e. omega arith)
