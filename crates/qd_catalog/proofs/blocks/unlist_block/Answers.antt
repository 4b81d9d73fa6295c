use Rattle.std.proofs.Common.{◌≡◌, ◌+◌, ◌<◌, ◌∙◌, ◌++◌, ◌∷◌, [], ℕ, Bool, true, false, cond, not, nat_eq, length, Option, Some, is_some, is_ok, sym, ap, arith}
use Rattle.std.specs.List.{list_any}
use Rattle.std.specs.VecDeque.{deque_len, deque_capacity}
use Rattle.indexmap.specs.IndexMap.{get, index_map_len}
use Rattle.std.proofs.lemmas.Bool.{and_from, not_from_false, cond-true}
use Rattle.std.proofs.lemmas.Option.{none-some}
use Rattle.qd_catalog.specs.declared.blocks.Kept.{Kept}
use Rattle.qd_catalog.specs.Tracked.{listed_by, kept_in, but_row, goes}
use Rattle.qd_catalog.proofs.UnlistLemmas.{listed_is_kept, unlists_unlisted, unlists_one, queue_gets}
use Rattle.qd_catalog.proofs.blocks.unlist_block.Goals as goal

pub returns-then-not-found-row-clause-unlisted : goal.returns-then-not-found-row-clause-unlisted
returns-then-not-found-row-clause-unlisted c = unlists_unlisted (get nat_eq c.args.kept.now) c.args.row c.args.block c.args.retired.now.items (ap (λ (k : Kept). listed_by k c.args.row) (sym c.kept_of-found.ensures.kept) ∙ c.if-not-found-row.true)

pub put_kept-requires : goal.put_kept-requires
put_kept-requires c =
    let old = get nat_eq c.args.kept.now c.args.block in
    let is = listed_is_kept old c.args.row c.requires.row (ap (λ (k : Kept). listed_by k c.args.row) (sym c.kept_of-found.ensures.kept) ∙ c.if-not-found-row.false) in
    record { room = λ none. absurd (none-some (kept_in old) (sym none ∙ is)) }

-- what was found is kept
is_kept : (old : Option Kept) (found : Kept) (row : ℕ) → row < 64 → found ≡ kept_in old → listed_by found row ≡ true → old ≡ Some found
is_kept old found row low e listed = listed_is_kept old row low (ap (λ (k : Kept). listed_by k row) (sym e) ∙ listed) ∙ ap (λ (k : Kept). Some k) (sym e)

goes_now : (old : Option Kept) (found : Kept) (row : ℕ) → old ≡ Some found → listed_by found row ≡ true → list_any (λ r. r) (but_row row found).rows ≡ false → goes old row ≡ true
goes_now old found row is listed none = ap (λ (o : Option Kept). goes o row) is ∙ and_from (listed_by found row) (not (list_any (λ r. r) (but_row row found).rows)) listed (not_from_false (list_any (λ r. r) (but_row row found).rows) none)

same_len : (old : Option Kept) (found : Kept) (m n : ℕ) → old ≡ Some found → m ≡ n + cond (is_some old) 0 1 → m ≡ n
same_len old found m n is e = let h : n + cond (is_some old) 0 1 ≡ n + 0 = ap (λ (o : Option Kept). n + cond (is_some o) 0 1) is in omega arith

pub returns-then-not-any_row-clause-unlisted : goal.returns-then-not-any_row-clause-unlisted
returns-then-not-any_row-clause-unlisted c =
    let old = get nat_eq c.args.kept.now c.args.block in
    let found = c.kept_of-found.result in
    let is = is_kept old found c.args.row c.requires.row c.kept_of-found.ensures.kept c.if-not-found-row.false in
    let none : list_any (λ r. r) (but_row c.args.row found).rows ≡ false = sym c.any_row.ensures.any ∙ c.if-not-any_row.true in
    let room = c.requires.room (goes_now old found c.args.row is c.if-not-found-row.false none) in
    let within : deque_len c.args.retired.now < deque_capacity c.args.retired.now = omega arith in
    unlists_one (get nat_eq c.args.kept.now) c.args.row c.args.block found is c.if-not-found-row.false (get nat_eq c.put_kept.new.kept) c.args.retired.now.items c.push_back-queued.new.self.items c.put_kept.ensures.put
    (queue_gets (is_ok c.push_back-queued.result) (list_any (λ r. r) (but_row c.args.row found).rows) c.push_back-queued.new.self.items c.args.retired.now.items c.args.block c.push_back-queued.ensures.items (c.push_back-queued.ensures.succeeds within) none)

pub returns-then-not-any_row-clause-capacity : goal.returns-then-not-any_row-clause-capacity
returns-then-not-any_row-clause-capacity c =
    let old = get nat_eq c.args.kept.now c.args.block in
    let found = c.kept_of-found.result in
    let is = is_kept old found c.args.row c.requires.row c.kept_of-found.ensures.kept c.if-not-found-row.false in
    let none : list_any (λ r. r) (but_row c.args.row found).rows ≡ false = sym c.any_row.ensures.any ∙ c.if-not-any_row.true in
    let room = c.requires.room (goes_now old found c.args.row is c.if-not-found-row.false none) in
    c.push_back-queued.ensures.in_place (omega arith)

pub returns-then-not-any_row-clause-len : goal.returns-then-not-any_row-clause-len
returns-then-not-any_row-clause-len c = same_len (get nat_eq c.args.kept.now c.args.block) c.kept_of-found.result (index_map_len c.put_kept.new.kept) (index_map_len c.args.kept.now) (is_kept (get nat_eq c.args.kept.now c.args.block) c.kept_of-found.result c.args.row c.requires.row c.kept_of-found.ensures.kept c.if-not-found-row.false) c.put_kept.ensures.len

pub returns-else-not-any_row-clause-unlisted : goal.returns-else-not-any_row-clause-unlisted
returns-else-not-any_row-clause-unlisted c =
    let old = get nat_eq c.args.kept.now c.args.block in
    let found = c.kept_of-found.result in
    let before = c.args.retired.now.items in
    let is = is_kept old found c.args.row c.requires.row c.kept_of-found.ensures.kept c.if-not-found-row.false in
    let some : list_any (λ r. r) (but_row c.args.row found).rows ≡ true = sym c.any_row.ensures.any ∙ c.if-not-any_row.false in
    unlists_one (get nat_eq c.args.kept.now) c.args.row c.args.block found is c.if-not-found-row.false (get nat_eq c.put_kept.new.kept) before before c.put_kept.ensures.put
    (sym (cond-true (list_any (λ r. r) (but_row c.args.row found).rows) before (before ++ c.args.block ∷ []) some))

pub returns-else-not-any_row-clause-len : goal.returns-else-not-any_row-clause-len
returns-else-not-any_row-clause-len c = same_len (get nat_eq c.args.kept.now c.args.block) c.kept_of-found.result (index_map_len c.put_kept.new.kept) (index_map_len c.args.kept.now) (is_kept (get nat_eq c.args.kept.now c.args.block) c.kept_of-found.result c.args.row c.requires.row c.kept_of-found.ensures.kept c.if-not-found-row.false) c.put_kept.ensures.len
