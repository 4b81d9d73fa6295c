use Rattle.std.proofs.Common.{◌≡◌, ◌∙◌, refl, ap, ap₂, arith, length, map, replicate}
use Rattle.qd_rows.specs.Sets.{rows_in}
use Rattle.qd_group.proofs.Assembly.{length_rows}
use Rattle.qd_group.proofs.TallyLemmas.{kept_none, kept_all, map-replicate}
use Rattle.qd_group.proofs.by_groups.tallies_by_runs.Goals as goal

pub add_runs-requires : goal.add_runs-requires
add_runs-requires g c =
    let count : c.len.result ≡ length c.args.groups.now.firsts.items = omega arith in
    λ k. (
      (refl, tt),
      (
        c.requires.single,
        (
          c.requires.column,
          (
            c.requires.count,
            (
              c.requires.below,
              kept_none c.args.agg.now c.args.groups.now.numbers.items (rows_in c.args.rows.now) (length c.args.groups.now.firsts.items) (map g.K.Keeping.state c.in_ok-tallies.tallies.items) (ap (map g.K.Keeping.state) c.in_ok-tallies.ensures.items ∙ map-replicate g.K.Keeping.state c.len.result c.args.start ∙ ap₂ (λ n s. replicate n s) count c.requires.start),
            ),
          ),
        ),
      ),
    )

pub returns : goal.returns
returns g c = record {
  tallies = c.in_ok-add_runs.ensures.kept
      ∙ kept_all c.args.agg.now c.args.groups.now.numbers.items (rows_in c.args.rows.now) (length c.args.rows.now.places) (length c.args.groups.now.firsts.items) (omega (arith, c.requires.count)) (omega (arith, length_rows c.args.rows.now));
}
