use Rattle.std.proofs.Common.{◌≡◌, ◌+◌, ◌++◌, ◌∙◌, ℕ, List, ap, arith, length, map, subst, sym}
use Rattle.std.specs.List.{flat_map}
use Rattle.qd_base.specs.Rows.{Row, cell_at}
use Rattle.qd_rows.specs.Sets.{rows_in}
use Rattle.qd_group.specs.Keys.{lent}
use Rattle.qd_group.proofs.Assembly.{length_rows}
use Rattle.qd_keys.specs.Keys.{cells_of_both}
use Rattle.qd_keys.specs.Symbols.{names_at, AreNumbersOf, AreStarts}
use Rattle.qd_keys.proofs.KeyLemmas.{names_grouped}
use Rattle.qd_keys.proofs.SymbolLemmas.{numbers_append, numbers_tell}
use Rattle.qd_keys.proofs.SymbolRows.{starts_kept}
use Rattle.qd_keys.proofs.symbols.symbol_numbers.Goals as goal

pub numbers_of-requires-clause-starts : goal.numbers_of-requires-clause-starts
numbers_of-requires-clause-starts g c =
    let blocks = c.args.first.now.blocks in
    let names = map lent c.add_names-2.new.texts.items in
    subst (AreStarts (length blocks) blocks c.args.first_at names) (sym c.as_slice-2.ensures.value)
    (starts_kept (length blocks) blocks c.args.first_at (map lent c.add_names.new.texts.items) names (flat_map (names_at c.args.second_at) c.args.second.now.blocks) c.in_ok-first_starts.first_starts.items c.in_ok-second_starts.ensures.kept c.in_ok-first_starts.ensures.starts)

pub numbers_of-requires-clause-told : goal.numbers_of-requires-clause-told
numbers_of-requires-clause-told g c = names_grouped c.add_names-2.new.texts.items c.as_slice.result.now c.in_ok-groups.groups.numbers.items c.in_ok-groups.groups.firsts.items c.as_slice.ensures.value c.in_ok-groups.ensures.groups

pub numbers_of-requires-2-clause-told : goal.numbers_of-requires-2-clause-told
numbers_of-requires-2-clause-told g c = names_grouped c.add_names-2.new.texts.items c.as_slice.result.now c.in_ok-groups.groups.numbers.items c.in_ok-groups.groups.firsts.items c.as_slice.ensures.value c.in_ok-groups.ensures.groups

pub returns : goal.returns
returns g c =
    let names = map lent c.add_names-2.new.texts.items in
    let fs = c.in_ok-groups.groups.firsts.items in
    let first = c.args.first.now in
    let second = c.args.second.now in
    let size : c.len.result + 1 ≡ length c.in_ok-groups.groups.firsts.items + 1 = omega arith in
    let all = numbers_append names fs (map (λ (r : Row). cell_at r c.args.first_at) (rows_in first)) (map (λ (r : Row). cell_at r c.args.second_at) (rows_in second)) c.in_ok-numbers.numbers.items c.in_ok-more.more.items c.in_ok-numbers.ensures.numbers c.in_ok-more.ensures.numbers in
    let joined = c.in_ok-extend_from_slice.ensures.items ∙ ap (λ (l : List ℕ). c.in_ok-numbers.numbers.items ++ l) c.as_slice-4.ensures.value in
    record {
      tell = numbers_tell names fs (c.args.first_at, c.args.second_at) (rows_in first) (rows_in second) (length first.places) (length second.places) (c.len.result + 1) c.extend_from_slice.new.self.items (length_rows first) (length_rows second) size
          (subst (AreNumbersOf names fs (cells_of_both (c.args.first_at, c.args.second_at) (rows_in first) (rows_in second))) (sym joined) all);
    }
