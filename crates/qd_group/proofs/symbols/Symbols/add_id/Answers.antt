use Rattle.std.proofs.Common.{◌≡◌, ◌∙◌, ◌<◌, ℕ, None, List, ap, sym, subst, arith, get_or, length, refl}
use Rattle.std.proofs.lemmas.List.{get_or_default}
use Rattle.qd_base.specs.declared.cell.Cell.{Cell}
use Rattle.qd_column.specs.Symbols.{symbol_cell}
use Rattle.qd_group.specs.Numbering.{slot, IsKnown}
use Rattle.qd_group.proofs.SymbolLemmas.{met, slot_within, stands_again}
use Rattle.qd_group.proofs.symbols.Symbols.add_id.Goals as goal

pub returns-in_ok-push-in-Some : goal.returns-in_ok-push-in-Some
returns-in_ok-push-in-Some g c =
    let entries = c.args.self.now.table.items in
    let low : slot c.args.id < length c.args.self.now.table.items = slot_within (g.D.Dictionary.texts c.args.dictionary.now) c.args.id (length c.args.self.now.table.items) c.requires.id c.requires.room in
    let there : c.slot_of.result < length c.args.self.now.table.items = omega (arith, low, c.slot_of.ensures) in
    let at : get_or c.args.self.now.table.items (slot c.args.id) None ≡ c.index.result.now = ap (λ (k : ℕ). get_or entries k None) (sym c.slot_of.ensures) ∙ sym (c.index.ensures ∙ get_or_default entries c.slot_of.result c.index.result.now None there) in
    record {
      next = λ texts same cells n room is stands.
          stands_again texts cells n c.args.self.now _ c.in-Some.number
          (subst (λ (x : Cell). IsKnown c.args.self.now.numbers x c.in-Some.number) (ap (λ (ts : List (List ℕ)). symbol_cell ts c.args.id) same ∙ is)
          (met texts c.args.self.now.numbers entries c.args.id c.args.block c.in-Some.number c.index.result.now low at c.in-Some.ensures stands.table))
          stands refl c.in_ok-push-in-Some.ensures.numbers c.in_ok-push-in-Some.ensures.firsts refl;
      table = refl;
    }
