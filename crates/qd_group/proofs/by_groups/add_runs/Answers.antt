use Rattle.std.proofs.Common.{◌≡◌, ◌∙◌, ◌+◌, ◌-◌, ◌<◌, ℕ, get_or, refl, sym, ap, subst, arith, length, map}
use Rattle.std.proofs.lemmas.List.{length-map, take_all}
use Rattle.qd_expr.specs.Passing.{row_in}
use Rattle.qd_rows.specs.Runs.{Spot, no_run, places_of_runs}
use Rattle.qd_rows.specs.Sets.{rows_in}
use Rattle.qd_rows.proofs.RunLemmas.{run_within}
use Rattle.qd_group.specs.Kept.{AreKept}
use Rattle.qd_group.proofs.RunLemmas.{before, before_more}
use Rattle.qd_group.proofs.GroupTallies.{before_is, run_row}
use Rattle.std.proofs.Common.{None}
use Rattle.qd_group.proofs.by_groups.add_runs.Goals as goal

pub loop-run-init : goal.loop-run-init
loop-run-init g c = c.requires.none

pub add_run-requires : goal.add_run-requires
add_run-requires g c =
    let s = c.args.rows.now in
    let runs = c.runs-run-items.result.now in
    let i : ℕ = c.loop-run.run-index in
    let low : c.loop-run.run-index < length c.runs-run-items.result.now = omega arith in
    let begins : (get_or c.runs-run-items.result.now c.loop-run.run-index no_run).before ≡ before c.runs-run-items.result.now c.loop-run.run-index = omega (arith, before_is 0 (length s.places) i runs c.runs-run-items.ensures.before low) in
    λ k. (
      (refl, tt),
      (
        c.runs-run-items.ensures.each i no_run low,
        (
          c.requires.column,
          (
            c.requires.count,
            (
              run_within 0 (length s.places) i runs c.runs-run-items.ensures.before low,
              (
                λ k inside. run_row s runs i no_run k (c.runs-run-items.ensures.rows c.requires.single) low inside ∙ ap (λ (n : ℕ). row_in s (n + k)) (sym begins),
                (
                  c.requires.below,
                  subst (λ (n : ℕ). AreKept c.args.agg.now c.args.groups.now.numbers.items (rows_in s) n (length c.args.groups.now.firsts.items) (map g.K.Keeping.state c.loop-run.tallies.items)) (sym begins) c.loop-run.invariant,
                ),
              ),
            ),
          ),
        ),
      ),
    )

pub loop-run-preserved : goal.loop-run-preserved
loop-run-preserved g c =
    let s = c.args.rows.now in
    let runs = c.runs-run-items.result.now in
    let i : ℕ = c.loop-run.run-index in
    let low : c.loop-run.run-index < length c.runs-run-items.result.now = omega arith in
    let begins : (get_or c.runs-run-items.result.now c.loop-run.run-index no_run).before ≡ before c.runs-run-items.result.now c.loop-run.run-index = omega (arith, before_is 0 (length s.places) i runs c.runs-run-items.ensures.before low) in
    subst (λ (n : ℕ). AreKept c.args.agg.now c.args.groups.now.numbers.items (rows_in s) n (length c.args.groups.now.firsts.items) (map g.K.Keeping.state c.add_run.new.tallies.items))
    (ap (λ (n : ℕ). n + ((get_or runs i no_run).to - (get_or runs i no_run).from)) begins ∙ sym (before_more runs i no_run low)) c.in_ok-add_run.ensures.kept

pub returns : goal.returns
returns g c =
    let s = c.args.rows.now in
    let runs = c.runs-run-items.result.now in
    record {
      kept = subst (λ (n : ℕ). AreKept c.args.agg.now c.args.groups.now.numbers.items (rows_in s) n (length c.args.groups.now.firsts.items) (map g.K.Keeping.state c.loop-run.tallies.items))
          (ap (λ l. length (places_of_runs l)) (take_all c.loop-run.run-index runs (omega arith)) ∙ sym (ap length (c.runs-run-items.ensures.rows c.requires.single) ∙ length-map (places_of_runs runs) (λ (p : Spot). (p, None))))
          c.loop-run.invariant;
    }
