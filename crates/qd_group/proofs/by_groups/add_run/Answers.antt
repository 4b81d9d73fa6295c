use Rattle.std.proofs.Common.{◌≡◌, ◌∙◌, ◌+◌, ◌-◌, ◌≤◌, ℕ, refl, sym, subst, arith, length, map}
use Rattle.std.proofs.lemmas.List.{length-map}
use Rattle.std.proofs.lemmas.Result.{on_ok_weaker}
use Rattle.qd_rows.specs.Sets.{rows_in}
use Rattle.qd_group.specs.Kept.{AreKept}
use Rattle.qd_group.proofs.Assembly.{length_rows}
use Rattle.qd_group.proofs.GroupTallies.{kept_size, longs_at, longs_size}
use Rattle.qd_group.proofs.by_groups.add_run.Goals as goal

pub add_longs-requires : goal.add_longs-requires
add_longs-requires g c =
    let size = longs_size c.args.rows.now c.args.at c.args.run c.in-Some.numbers.now c.in-Some.ensures.numbers in
    λ k. (
      (refl, tt),
      (
        omega (arith, size, c.requires.inside, c.requires.count),
        (
          c.requires.below,
          sym (length-map c.args.tallies.now.items g.K.Keeping.state) ∙ kept_size c.args.agg.now c.args.groups.now.numbers.items (rows_in c.args.rows.now) c.args.run.before (length c.args.groups.now.firsts.items) (map g.K.Keeping.state c.args.tallies.now.items) c.requires.before,
        ),
      ),
    )

pub add_rows-requires : goal.add_rows-requires
add_rows-requires g c =
    λ k. ((refl, tt), (c.requires.there, (c.requires.count, (c.requires.inside, (c.requires.rows, (c.requires.below, c.requires.before))))))

pub returns-in-Some : goal.returns-in-Some
returns-in-Some g c =
    let s = c.args.rows.now in
    let r = c.args.run in
    let size : length c.in-Some.numbers.now ≡ c.args.run.to - c.args.run.from = longs_size s c.args.at r c.in-Some.numbers.now c.in-Some.ensures.numbers in
    let room : c.args.run.before + length c.in-Some.numbers.now ≤ length (rows_in c.args.rows.now) = omega (arith, size, c.requires.inside, length_rows s) in
    record {
      kept = on_ok_weaker c.add_longs.result
          (λ h. subst (λ (n : ℕ). AreKept c.args.agg.now c.args.groups.now.numbers.items (rows_in s) (r.before + n) (length c.args.groups.now.firsts.items) (map g.K.Keeping.state c.add_longs.new.tallies.items)) size
          (h c.args.agg.now (rows_in s) room (longs_at c.args.agg.now s c.args.at r.before r c.in-Some.numbers.now c.requires.column c.in-Some.ensures.numbers c.requires.rows) c.requires.before))
          c.add_longs.ensures.kept;
    }
