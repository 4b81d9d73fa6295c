use Rattle.std.proofs.Common.{ℕ, List, length, take, refl, sym, ◌∙◌, ap, subst}
use Rattle.qd_durable.specs.declared.fault.LogFault.{LogFault}
use Rattle.qd_seq.specs.Reading.{IsBroken, IsOfBytes}
use Rattle.qd_seq.proofs.ReadLemmas.{alike, apart, cut_mark, other_mark}
use Rattle.qd_seq.proofs.reading.check_mark.Goals as goal

pub returns-then-ne : goal.returns-then-ne
returns-then-ne c =
    let bytes = c.args.bytes.now in
    let part = ap (λ (l : List ℕ). take (length bytes) l) c.mark_bytes.ensures.bytes in
    record {
      marked = λ whole is. subst (λ (f : LogFault). IsBroken whole f) (sym c.damaged.ensures.fault) (refl, other_mark bytes whole is (λ same. apart bytes (take (length bytes) c.mark_bytes.result) c.ne.result c.ne.ensures c.if-ne.true (same ∙ sym part)));
      bytes = subst (λ (f : LogFault). IsOfBytes f) (sym c.damaged.ensures.fault) tt;
    }

pub returns-then-bytes-lt-MARK : goal.returns-then-bytes-lt-MARK
returns-then-bytes-lt-MARK c =
    let bytes = c.args.bytes.now in
    let part = ap (λ (l : List ℕ). take (length bytes) l) c.mark_bytes.ensures.bytes in
    record {
      marked = λ whole is. subst (λ (f : LogFault). IsBroken whole f) (sym c.damaged-then-bytes-lt-MARK.ensures.fault) (refl, cut_mark bytes whole is (alike bytes (take (length bytes) c.mark_bytes.result) c.ne.result c.ne.ensures c.if-ne.false ∙ part) c.if-bytes-lt-MARK.true);
      bytes = subst (λ (f : LogFault). IsOfBytes f) (sym c.damaged-then-bytes-lt-MARK.ensures.fault) tt;
    }
