use Rattle.std.proofs.Common.{get_or, refl, sym, ap, ◌∙◌, arith, rules}
use denote.Enum.Bare.{same_true}
use Rattle.qd_http.specs.contracts.lines.Lines.{the_type}
use Rattle.qd_http.specs.Reading.{lines_after}
use Rattle.qd_http.proofs.LineLemmas.{done_at, lines_of-more}
use Rattle.qd_http.proofs.lines.Search.go_on.Goals as goal

pub returns-then-eq : goal.returns-then-eq
returns-then-eq c = done_at c.args.bytes.now c.loop-i.i c.loop-i.lines c.after-lines.result (omega arith) c.loop-i.invariant.state c.loop-i.invariant.open_ c.after-lines.ensures (same_true the_type (search rules) _ _ (sym c.if-eq.ensures))

pub loop-i-preserved : goal.loop-i-preserved
loop-i-preserved c = record {
  state = c.after-lines.ensures ∙ (ap (λ s. lines_after s (get_or c.args.bytes.now c.loop-i.i 0)) c.loop-i.invariant.state ∙ sym (lines_of-more c.args.bytes.now c.loop-i.i (get_or c.args.bytes.now c.loop-i.i 0) (omega arith) refl));
  open_ = λ e. absurd (search rules);
}
