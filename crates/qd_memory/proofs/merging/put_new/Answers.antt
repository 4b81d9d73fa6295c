use Rattle.std.proofs.Common.{◌≡◌, ◌∙◌, ◌<◌, ◌≤◌, ◌++◌, ◌∷◌, List, [], length, get_or, take, drop, ap, sym, subst, arith, All}
use Rattle.std.proofs.lemmas.List.Elements.{All-nil}
use Rattle.std.specs.List.{AllByRecursion}
use Rattle.qd_base.specs.Lawful.{HasKinds}
use Rattle.qd_base.specs.Rows.{Row}
use Rattle.qd_block.specs.Blocks.{Block, in_time_order, IsTimed}
use Rattle.qd_memory.specs.declared.slots.Slot.{Slot}
use Rattle.qd_memory.specs.Kept.{partition_of, HasPut}
use Rattle.qd_memory.proofs.MergingLemmas.{block_timed, piece_start, time_few}
use Rattle.qd_memory.proofs.PassLemmas.{put_new_pass, starts_last}
use Rattle.qd_memory.proofs.SlotLemmas.{none_old}
use Rattle.qd_memory.proofs.TableLemmas.{timed}
use Rattle.qd_memory.proofs.merging.put_new.Goals as goal

pub from_rows-requires-clause-designated : goal.from_rows-requires-clause-designated
from_rows-requires-clause-designated c = timed c.args.schema.now c.requires.schema

pub from_rows-requires-clause-fit : goal.from_rows-requires-clause-fit
from_rows-requires-clause-fit c = subst (All (HasKinds c.args.schema.now.cols)) (sym c.new.ensures.empty) (All-nil (HasKinds c.args.schema.now.cols))

pub from_rows-requires-clause-timed : goal.from_rows-requires-clause-timed
from_rows-requires-clause-timed c = subst (All (IsTimed c.args.schema.now.time_col)) (sym c.new.ensures.empty) (All-nil (IsTimed c.args.schema.now.time_col))

pub time-requires : goal.time-requires
time-requires c = c.requires.piece.full.some

pub floor_unit-start-requires : goal.floor_unit-start-requires
floor_unit-start-requires c =
    let s = c.args.schema.now in
    let b = c.args.piece.now in
    let full = c.requires.piece.full in
    time_few s b 0 c.time.result (block_timed s b full.whole full.kinds full.time_col) full.fit full.time_col full.some c.time.ensures.time

pub grown-requires-clause-start : goal.grown-requires-clause-start
grown-requires-clause-start c = piece_start c.args.schema.now c.args.piece.now c.time.result c.floor_unit-start.result c.requires.piece c.time.ensures.time c.floor_unit-start.ensures.start

pub grown-requires-clause-old : goal.grown-requires-clause-old
grown-requires-clause-old c =
    let s = c.args.schema.now in
    let is = c.in_ok-none.ensures.block in
    none_old s c.floor_unit-start.result c.in_ok-none.none (ap (λ (b : Block). b.kinds) is) (ap (λ (b : Block). b.time_col) is) (ap (λ (b : Block). b.rows) is ∙ ap (in_time_order s.time_col) c.new.ensures.empty)

pub returns : goal.returns
returns c =
    let s = c.args.schema.now in
    let done = c.args.slots.now.items in
    let later = c.args.later.now in
    let y : Slot = c.in_ok-slot.slot in
    let start = c.in_ok-slot.ensures.start ∙ piece_start s c.args.piece.now c.time.result c.floor_unit-start.result c.requires.piece c.time.ensures.time c.floor_unit-start.ensures.start in
    let none = ap (λ (b : Block). b.rows) c.in_ok-none.ensures.block ∙ ap (in_time_order s.time_col) c.new.ensures.empty in
    let made : c.push.new.self.items ≡ (done ++ take c.args.at later) ++ y ∷ [] = c.in_ok-push.ensures.items ∙ ap (λ (l : List Slot). l ++ y ∷ []) c.in_ok-share_slots.ensures.more in
    record {
      put = subst (λ (l : List Slot). HasPut s (done ++ later) c.args.piece.now.rows (l ++ drop c.args.at later)) (sym made)
          (put_new_pass s c.args.at done later y c.in_ok-none.none c.args.piece.now c.requires.schema c.requires.slots c.requires.piece c.in_ok-slot.ensures.slot start c.requires.place c.requires.none c.requires.before none c.in_ok-slot.ensures.rows);
      last = subst (AllByRecursion (λ (z : Slot). z.start ≤ partition_of s (get_or c.args.piece.now.rows 0 []))) (sym made)
          (starts_last (partition_of s (get_or c.args.piece.now.rows 0 [])) c.args.at done later y c.requires.before c.requires.place start);
    }
