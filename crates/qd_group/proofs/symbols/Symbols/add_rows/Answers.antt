use Rattle.std.proofs.Common.{◌≡◌, ◌∙◌, ℕ, ◌+◌, ◌-◌, ◌<◌, None, subst, ap, arith}
use Rattle.qd_expr.proofs.CellLemmas.{run_placed}
use Rattle.qd_rows.specs.Sets.{row_of_place}
use Rattle.qd_value.specs.Value.{value}
use Rattle.qd_group.specs.Numbering.{Stands}
use Rattle.qd_group.proofs.symbols.Symbols.add_rows.Goals as goal

pub scalar-requires : goal.scalar-requires
scalar-requires g c = run_placed c.args.rows.now c.args.run c.loop-i.i c.requires.there (omega arith) (omega arith)

pub loop-i-init : goal.loop-i-init
loop-i-init g c = λ texts cells n room at h.
    let e : n ≡ n + (c.args.run.from - c.args.run.from) = omega arith in
    subst (λ (k : ℕ). Stands texts cells k c.args.self.now) e h

pub loop-i-preserved : goal.loop-i-preserved
loop-i-preserved g c = λ texts cells n room at h.
    let r = c.args.run in
    let k : ℕ = c.loop-i.i - r.from in
    let low : c.loop-i.i - c.args.run.from < c.args.run.to - c.args.run.from = omega arith in
    let place : c.loop-i.i ≡ c.args.run.from + (c.loop-i.i - c.args.run.from) = omega arith in
    let next : n + (c.loop-i.i - c.args.run.from) + 1 ≡ n + (c.loop-i.i + 1 - c.args.run.from) = omega arith in
    subst (λ (m : ℕ). Stands texts cells m c.add.new.self) next
    (c.in_ok-add.ensures.next texts cells (n + k) (omega arith)
    (c.key_of.ensures.same ∙ c.scalar.ensures.value ∙ ap (λ (j : ℕ). value c.args.key.now (row_of_place c.args.rows.now ((r.block, j), None))) place ∙ at k low)
    (c.loop-i.invariant texts cells n room at h))

pub returns : goal.returns
returns g c = record {
  next = λ texts cells n room at h.
      let done : n + (c.loop-i.i - c.args.run.from) ≡ n + (c.args.run.to - c.args.run.from) = omega (arith, c.requires.there.some) in
      subst (λ (m : ℕ). Stands texts cells m c.loop-i.self) done (c.loop-i.invariant texts cells n room at h);
}
