use Rattle.std.proofs.Common.{◌≡◌, ◌∙◌, ◌≤◌, ℕ, refl, ap, sym, arith, length, map, replicate}
use Rattle.std.proofs.lemmas.Result.{IfOk-weaker}
use Rattle.std.specs.List.{range_with_len}
use Rattle.std.proofs.lemmas.List.{length-replicate}
use Rattle.qd_rows.specs.Sets.{rows_in}
use Rattle.qd_meaning.specs.declared.parts.Agg.{Agg}
use Rattle.qd_meaning.specs.declared.parts.Agg.TheVariants as agg
use Rattle.qd_group.specs.declared.keeping.Count.{Count}
use Rattle.qd_group.specs.Kept.{kept}
use Rattle.qd_group.specs.Tallies.{answer, counted, State}
use Rattle.qd_group.proofs.Assembly.{length_rows}
use Rattle.qd_group.proofs.TallyLemmas.{column_answers, kept_none, kept_all, map-replicate}
use Rattle.qd_group.proofs.by_groups.answers_of_counts.Goals as goal

abbrev state : Count → State
state k = counted k.rows

pub add_counts-requires : goal.add_counts-requires
add_counts-requires g c =
    let count : c.len.result ≡ length c.args.groups.now.firsts.items = omega arith in
    λ k. (
      (refl, tt),
      (
        c.requires.below,
        ap length c.in_ok-tallies.ensures.items ∙ length-replicate c.len.result c.new.result ∙ count,
      ),
    )

pub returns : goal.returns
returns g c =
    let ns = c.args.groups.now.numbers.items in
    let rows = rows_in c.args.rows.now in
    let groups : ℕ = length c.args.groups.now.firsts.items in
    let count : c.len.result ≡ length c.args.groups.now.firsts.items = omega arith in
    let low : length c.args.groups.now.numbers.items ≤ length (rows_in c.args.rows.now) = omega (arith, c.requires.count, length_rows c.args.rows.now) in
    let all : length (rows_in c.args.rows.now) ≤ length c.args.groups.now.numbers.items = omega (arith, c.requires.count, length_rows c.args.rows.now) in
    let none = kept_none agg.Count ns rows groups (map state c.in_ok-tallies.tallies.items)
    (ap (map state) c.in_ok-tallies.ensures.items ∙ map-replicate state c.len.result c.new.result ∙ ap (λ n. replicate n (state c.new.result)) count ∙ ap (λ z. replicate groups (counted z)) c.new.ensures.none) in
    let are = c.in_ok-add_counts.ensures.kept rows low none
    ∙ ap (λ (a : Agg). map (kept a ns rows (length ns)) (range_with_len 0 groups)) (sym c.requires.counts)
    ∙ kept_all c.args.agg.now ns rows (length ns) groups (omega arith) all in
    record {
      answers = IfOk-weaker c.outcomes.result _ _
          (λ v h. h ∙ ap (map (λ t. answer (state t))) c.as_slice.ensures.value ∙ column_answers state c.args.agg.now ns groups rows c.add_counts.new.tallies.items are)
          c.outcomes.ensures.answers;
    }
