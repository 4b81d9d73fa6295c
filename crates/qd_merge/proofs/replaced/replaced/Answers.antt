use Rattle.std.proofs.Common.{◌≡◌, ◌∙◌, ◌++◌, ◌-◌, ◌<◌, ℕ, Bool, List, false, ap, sym, subst, length, replicate, arith, All, Contains}
use Rattle.std.proofs.lemmas.Bool.{eqb-true, eqb-false}
use Rattle.std.proofs.lemmas.Result.{IfOk-weaker}
use Rattle.qd_merge.specs.Replaced.{FlagsSoFar}
use Rattle.qd_merge.proofs.Lent.{timed_within}
use Rattle.qd_merge.proofs.Groups.{all_flags, no_flags, no_flags_yet, keys_have}
use Rattle.qd_merge.proofs.replaced.replaced.Goals as goal

pub returns-then-is_empty : goal.returns-then-is_empty
returns-then-is_empty c =
    let none : length c.args.keys.now ≡ 0 = eqb-true (length c.args.keys.now) 0 (sym c.is_empty.ensures.empty ∙ c.if-is_empty.true) in
    record { flags = IfOk-weaker c.from_elem.result _ _ (λ v h. no_flags c.args.keys.now c.args.batch.now.kinds c.args.batch.now.rows c.args.old.now.rows v.items none (h (λ y e. e) ∙ ap (λ n. replicate n false) c.rows-rows.ensures.count)) c.from_elem.ensures.items_if_clones_equal }

pub loop-place-init : goal.loop-place-init
loop-place-init c =
    record {
      within = omega arith;
      so_far = no_flags_yet c.args.batch.now.time_col c.args.keys.now c.args.batch.now.kinds c.args.batch.now.rows c.args.old.now.rows c.in_ok-gone.gone.items c.in_ok-gone.ensures.items;
    }

pub push_group-requires-clause-keys : goal.push_group-requires-clause-keys
push_group-requires-clause-keys c =
    let some : length c.args.keys.now ≡ 0 → ⊥ = eqb-false (length c.args.keys.now) 0 (sym c.is_empty.ensures.empty ∙ c.if-is_empty.false) in
    keys_have c.args.batch.now.time_col c.args.keys.now c.requires.keys some

pub returns : goal.returns
returns c =
    let col : ℕ = c.args.batch.now.time_col in
    let keys = c.args.keys.now in
    let kinds = c.args.batch.now.kinds in
    let batch = c.args.batch.now.rows in
    let rows = c.args.old.now.rows in
    let flags : List Bool = c.loop-place.gone.items in
    let some : length keys ≡ 0 → ⊥ = eqb-false (length keys) 0 (sym c.is_empty.ensures.empty ∙ c.if-is_empty.false) in
    let there : Contains keys col = keys_have col keys c.requires.keys some in
    let wide : All (λ r. col < length r) rows = subst (λ (t : ℕ). All (λ r. t < length r) rows) c.requires.time_col (timed_within c.args.old.now c.is_whole.ensures.whole) in
    let all : c.loop-place.place ≡ length batch = omega (arith, c.loop-place.invariant.within, c.loop-place-test.false, c.rows-coming.ensures.count) in
    let so_far : FlagsSoFar col keys kinds batch rows (length batch) flags = subst (λ (n : ℕ). FlagsSoFar col keys kinds batch rows n flags) all c.loop-place.invariant.so_far in
    let count : c.rows-rows.result - c.len.result ≡ length rows - length flags = omega (arith, c.rows-rows.ensures.count, c.len.ensures, c.loop-place.gone.ok.0) in
    record { flags = all_flags col keys kinds batch rows flags c.push_false.new.gone.items there wide so_far (c.in_ok-push_false.ensures.added ∙ ap (λ n. flags ++ replicate n false) count) }
