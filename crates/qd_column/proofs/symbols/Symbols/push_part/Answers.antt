use Rattle.std.proofs.Common.{◌≡◌, ◌∙◌, ◌<◌, ◌≤◌, ◌-◌, ◌++◌, ◌∷◌, [], ap, sym, subst, append_assoc, arith, ℕ, List, length, map, take, drop, get_or, slice_range}
use Rattle.std.proofs.lemmas.List.{take_all, map_more}
use Rattle.qd_base.specs.declared.cell.Cell.{Cell}
use Rattle.qd_column.specs.Symbols.{texts_in, symbol_cell, LeadsTo}
use Rattle.qd_column.proofs.ListLemmas.{map-part}
use Rattle.qd_column.proofs.symbols.Symbols.push_part.Given as given
use Rattle.qd_column.proofs.symbols.Symbols.push_part.Goals as goal

pub loop-id-preserved : goal.loop-id-preserved
loop-id-preserved g c =
    let known = g.D.Dictionary.texts c.other.inside.dictionary in
    let same : known ≡ texts_in c.args.other.now = sym c.other.invariant.appeared ∙ ap texts_in c.other.view_is in
    let ids = slice_range c.deref.result.now c.args.from c.args.to in
    let i = c.loop-id.id-index in
    let cell : ℕ → Cell = symbol_cell (texts_in c.args.other.now) in
    let pushed = c.in_ok-push_from.ensures.ok ∙ ap (λ (t : List (List ℕ)). c.loop-id.self ++ symbol_cell t (get_or ids i 0) ∷ []) same in
    record {
      cells = pushed ∙ ap (λ l. l ++ cell (get_or ids i 0) ∷ []) c.loop-id.invariant.cells ∙ append_assoc c.args.self.now (map cell (take i ids)) (cell (get_or ids i 0) ∷ []) ∙ ap (λ l. c.args.self.now ++ l) (sym (map_more cell ids i 0 c.loop-id-test.true));
      size = c.in_ok-push_from.ensures.size ∙ c.loop-id.invariant.size;
      leads = subst (λ (t : List (List ℕ)). LeadsTo t (texts_in c.push_from.new.self) c.push_from.new.table.items) same c.in_ok-push_from.ensures.leads;
    }

pub returns-clause-ok : goal.returns-clause-ok
returns-clause-ok g c =
    let cell : ℕ → Cell = symbol_cell (texts_in c.args.other.now) in
    let same : g.D.Dictionary.texts c.other.inside.dictionary ≡ texts_in c.args.other.now = sym c.other.invariant.appeared ∙ ap texts_in c.other.view_is in
    let ids = slice_range c.deref.result.now c.args.from c.args.to in
    let all : take c.loop-id.id-index ids ≡ ids = take_all c.loop-id.id-index ids c.loop-id-test.false in
    c.loop-id.invariant.cells ∙ ap (λ l. c.args.self.now ++ map cell l) all ∙ ap (λ xs. c.args.self.now ++ map cell (slice_range xs c.args.from c.args.to)) c.deref.ensures.value
    ∙ ap (λ l. c.args.self.now ++ l) (map-part cell c.other.inside.ids.items c.args.from c.args.to ∙ ap (λ t. slice_range (map (symbol_cell t) c.other.inside.ids.items) c.args.from c.args.to) (sym same) ∙ ap (λ xs. slice_range xs c.args.from c.args.to) c.other.view_is)
