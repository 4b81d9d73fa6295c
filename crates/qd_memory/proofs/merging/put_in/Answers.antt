use Rattle.std.proofs.Common.{◌≡◌, ◌∙◌, ◌<◌, ◌≤◌, ◌++◌, ◌∷◌, ◌+◌, [], List, length, get_or, fold, take, drop, ap, sym, subst, arith, All}
use Rattle.std.proofs.lemmas.List.Elements.{All-from_recursion}
use Rattle.std.specs.List.{AllByRecursion}
use Rattle.qd_base.specs.Rows.{put}
use Rattle.qd_block.specs.Blocks.{Block}
use Rattle.qd_scan.specs.Sources.{table_rows}
use Rattle.qd_memory.specs.declared.slots.Slot.{Slot}
use Rattle.qd_memory.specs.Kept.{partition_of, HasPut, IsOldOf, IsSlot}
use Rattle.qd_memory.proofs.PassLemmas.{later_slots, put_in_pass, starts_last}
use Rattle.qd_memory.proofs.SlotLemmas.{slot_old}
use Rattle.qd_memory.proofs.merging.put_in.Goals as goal

pub grown-requires-clause-old : goal.grown-requires-clause-old
grown-requires-clause-old c =
    let s = c.args.schema.now in
    let later = c.args.later.now in
    let x : Slot = c.index-later-at.result in
    let is : IsSlot s x = subst (IsSlot s) (sym c.index-later-at.is) (All-from_recursion (IsSlot s) later (later_slots s c.args.slots.now.items later c.requires.slots).each c.args.at x c.requires.there) in
    subst (IsOldOf s x.start) (sym c.get.ensures.block) (slot_old s x is)

pub grown-requires-clause-start : goal.grown-requires-clause-start
grown-requires-clause-start c = ap (λ (x : Slot). x.start) c.index-later-at.is ∙ c.requires.start c.index-later-at.result

pub returns : goal.returns
returns c =
    let s = c.args.schema.now in
    let done = c.args.slots.now.items in
    let later = c.args.later.now in
    let x : Slot = c.index-later-at.result in
    let y : Slot = c.in_ok-slot.slot in
    let first = ap (λ (x : Slot). x.start) c.index-later-at.is ∙ c.requires.start c.index-later-at.result in
    let rows = c.in_ok-slot.ensures.rows ∙ ap (λ (b : Block). fold (put s.time_col s.keys) (table_rows s.cols b) c.args.piece.now.rows) c.get.ensures.block in
    let made : c.push.new.self.items ≡ (done ++ take c.args.at later) ++ y ∷ [] = c.in_ok-push.ensures.items ∙ ap (λ (l : List Slot). l ++ y ∷ []) c.in_ok-share_slots.ensures.more in
    record {
      put = subst (λ (l : List Slot). HasPut s (done ++ later) c.args.piece.now.rows (l ++ drop (c.args.at + 1) later)) (sym made)
          (put_in_pass s c.args.at done later x y c.args.piece.now c.requires.schema c.requires.slots c.requires.piece c.in_ok-slot.ensures.slot c.requires.there c.index-later-at.is first c.in_ok-slot.ensures.start c.requires.place c.requires.before rows);
      last = subst (AllByRecursion (λ (z : Slot). z.start ≤ partition_of s (get_or c.args.piece.now.rows 0 []))) (sym made)
          (starts_last (partition_of s (get_or c.args.piece.now.rows 0 [])) c.args.at done later y c.requires.before c.requires.place (c.in_ok-slot.ensures.start ∙ first));
    }
