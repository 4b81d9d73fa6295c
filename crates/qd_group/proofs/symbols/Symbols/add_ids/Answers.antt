use Rattle.std.proofs.Common.{◌≡◌, ◌∙◌, ℕ, ◌+◌, ◌-◌, ◌<◌, List, length, get_or, sym, subst, ap, arith, refl}
use Rattle.std.proofs.lemmas.List.{get_or-map, length-map}
use Rattle.qd_base.specs.declared.cell.Cell.{Cell}
use Rattle.qd_base.specs.declared.cell.Cell.TheVariants as cell
use Rattle.qd_column.specs.Symbols.{symbol_cell, texts_in, IsIdOf}
use Rattle.qd_group.specs.Numbering.{Stands}
use Rattle.qd_group.proofs.symbols.Symbols.add_ids.Goals as goal

pub add_id-requires : goal.add_id-requires
add_id-requires g c =
    let i : ℕ = c.loop-i.i in
    let size : length c.args.column.now.cells ≡ length c.symbols-ids.result.now = ap length c.symbols-ids.ensures.cells ∙ length-map c.symbols-ids.result.now (symbol_cell (texts_in c.args.column.now.cells)) in
    let low : c.loop-i.i < length c.symbols-ids.result.now = omega (arith, size, c.requires.within) in
    record {
      id = subst (λ (ts : List (List ℕ)). IsIdOf ts (get_or c.symbols-ids.result.now i 0)) (sym c.dictionary-dictionary.ensures.texts) (c.symbols-ids.ensures.each i 0 low);
      room = omega (arith, ap length c.dictionary-dictionary.ensures.texts, c.requires.room, c.loop-i.invariant.room);
    }

pub loop-i-init : goal.loop-i-init
loop-i-init g c = record {
  next = λ texts same cells n room at h.
      let e : n ≡ n + (c.args.from - c.args.from) = omega arith in
      subst (λ (k : ℕ). Stands texts cells k c.args.self.now) e h;
  room = refl;
}

pub loop-i-preserved : goal.loop-i-preserved
loop-i-preserved g c =
    let i : ℕ = c.loop-i.i in
    let k : ℕ = c.loop-i.i - c.args.from in
    let ids = c.symbols-ids.result.now in
    let texts_of = texts_in c.args.column.now.cells in
    let size : length c.args.column.now.cells ≡ length c.symbols-ids.result.now = ap length c.symbols-ids.ensures.cells ∙ length-map c.symbols-ids.result.now (symbol_cell (texts_in c.args.column.now.cells)) in
    let low : c.loop-i.i < length c.symbols-ids.result.now = omega (arith, size, c.requires.within) in
    let inside : c.loop-i.i - c.args.from < c.args.to - c.args.from = omega arith in
    let place : c.loop-i.i ≡ c.args.from + (c.loop-i.i - c.args.from) = omega arith in
    record {
      next = λ texts same cells n room at h.
          let next : n + (c.loop-i.i - c.args.from) + 1 ≡ n + (c.loop-i.i + 1 - c.args.from) = omega arith in
          subst (λ (m : ℕ). Stands texts cells m c.add_id.new.self) next
          (c.in_ok-add_id.ensures.next texts (same ∙ sym c.dictionary-dictionary.ensures.texts) cells (n + k) (omega arith)
          (ap (λ (ts : List (List ℕ)). symbol_cell ts (get_or ids i 0)) c.dictionary-dictionary.ensures.texts
          ∙ sym (get_or-map (symbol_cell texts_of) ids i 0 cell.Null low)
          ∙ ap (λ (l : List Cell). get_or l i cell.Null) (sym c.symbols-ids.ensures.cells)
          ∙ ap (λ (j : ℕ). get_or c.args.column.now.cells j cell.Null) place
          ∙ at k inside)
          (c.loop-i.invariant.next texts same cells n room at h));
      room = c.in_ok-add_id.ensures.table ∙ c.loop-i.invariant.room;
    }

pub returns : goal.returns
returns g c = record {
  next = λ texts same cells n room at h.
      let done : n + (c.loop-i.i - c.args.from) ≡ n + (c.args.to - c.args.from) = omega (arith, c.requires.ordered) in
      subst (λ (m : ℕ). Stands texts cells m c.loop-i.self) done (c.loop-i.invariant.next texts same cells n room at h);
}
