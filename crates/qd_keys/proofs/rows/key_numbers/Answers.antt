use Rattle.std.proofs.Common.{◌≡◌, ◌+◌, ◌<◌, ◌≤◌, ℕ, List, IfOk, arith, get_or, length, subst, sym}
use Rattle.std.specs.Prelude.{min}
use Rattle.std.specs.List.{zip}
use Rattle.std.proofs.lemmas.List.{take_all}
use Rattle.std.proofs.lemmas.Slice.Zip.{length-zip}
use Rattle.qd_rows.specs.Sets.{rows_in}
use Rattle.qd_group.proofs.Assembly.{length_rows}
use Rattle.qd_keys.specs.Keys.{same_keys, Tells}
use Rattle.qd_keys.proofs.KeyLemmas.{next_key, no_pairs, one_key, pair_at}
use Rattle.qd_keys.proofs.rows.key_numbers.Goals as goal

pub returns-then-count-eq0 : goal.returns-then-count-eq0
returns-then-count-eq0 g c =
    let first = c.args.first.now in
    let second = c.args.second.now in
    let none : min (length c.args.first_keys.now) (length c.args.second_keys.now) ≡ 0 = omega arith in
    record {
      tell = subst (λ (ks : List (ℕ × ℕ)). IfOk c.alike.result (λ n. Tells (same_keys ks (rows_in first) (rows_in second)) (length first.places + length second.places) n.bound n.numbers.items))
          (sym (no_pairs c.args.first_keys.now c.args.second_keys.now none)) c.alike.ensures.tell;
    }

pub loop-k-init : goal.loop-k-init
loop-k-init g c =
    let first = c.args.first.now in
    let second = c.args.second.now in
    let fk = c.args.first_keys.now in
    let sk = c.args.second_keys.now in
    let some : 0 < length (zip c.args.first_keys.now c.args.second_keys.now) = omega (arith, length-zip c.args.first_keys.now c.args.second_keys.now) in
    one_key (rows_in first) (rows_in second) (length first.places) (length second.places) (length_rows first) (length_rows second) (zip fk sk) (get_or fk 0 0, get_or sk 0 0) c.in_ok-numbers.numbers.bound c.in_ok-numbers.numbers.numbers.items some
    (pair_at fk sk 0 (omega arith)) c.in_ok-numbers.ensures.tell

pub further_apart-requires : goal.further_apart-requires
further_apart-requires g c = omega (arith, c.loop-k.invariant.count, c.in_ok-further.ensures.tell.count)

pub loop-k-preserved : goal.loop-k-preserved
loop-k-preserved g c =
    let first = c.args.first.now in
    let second = c.args.second.now in
    let fk = c.args.first_keys.now in
    let sk = c.args.second_keys.now in
    let k : ℕ = c.loop-k.k in
    let low : c.loop-k.k < length (zip c.args.first_keys.now c.args.second_keys.now) = omega (arith, length-zip c.args.first_keys.now c.args.second_keys.now) in
    next_key (rows_in first) (rows_in second) (length first.places) (length second.places) (length_rows first) (length_rows second) (zip fk sk) k (get_or fk k 0, get_or sk k 0) c.loop-k.numbers.bound c.in_ok-further.further.bound c.in_ok-numbers-2.numbers.bound
    c.loop-k.numbers.numbers.items c.in_ok-further.further.numbers.items c.in_ok-numbers-2.numbers.numbers.items low (pair_at fk sk k (omega arith)) c.loop-k.invariant c.in_ok-further.ensures.tell c.in_ok-numbers-2.ensures.tell

pub returns : goal.returns
returns g c =
    let first = c.args.first.now in
    let second = c.args.second.now in
    let all : length (zip c.args.first_keys.now c.args.second_keys.now) ≤ c.loop-k.k = omega (arith, length-zip c.args.first_keys.now c.args.second_keys.now) in
    record {
      tell = subst (λ (ks : List (ℕ × ℕ)). Tells (same_keys ks (rows_in first) (rows_in second)) (length first.places + length second.places) c.loop-k.numbers.bound c.loop-k.numbers.numbers.items)
          (take_all c.loop-k.k (zip c.args.first_keys.now c.args.second_keys.now) all) c.loop-k.invariant;
    }
