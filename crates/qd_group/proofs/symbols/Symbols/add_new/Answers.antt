use Rattle.std.proofs.Common.{◌∙◌, ◌<◌, ℕ, List, Some, ap, sym, subst, arith, length, set}
use Rattle.std.proofs.lemmas.List.{length-set}
use Rattle.qd_column.specs.Symbols.{symbol_cell}
use Rattle.qd_group.specs.Numbering.{slot, IsTable}
use Rattle.qd_group.proofs.SymbolLemmas.{slot_within, table_set}
use Rattle.qd_group.proofs.symbols.Symbols.add_new.Goals as goal

pub returns : goal.returns
returns g c =
    let within : slot c.args.id < length c.args.self.now.table.items = slot_within (g.D.Dictionary.texts c.args.dictionary.now) c.args.id (length c.args.self.now.table.items) c.requires.id c.requires.room in
    let low : slot c.args.id < length c.add.new.self.table.items = omega (arith, within, ap length c.in_ok-number.ensures.table) in
    record {
      next = λ texts same cells n room is stands.
          let more = c.in_ok-number.ensures.next texts cells n room (c.key_of_id.ensures ∙ is) stands in
          record {
            groups = more.groups;
            knows = more.knows;
            table = subst (λ (k : ℕ). IsTable texts c.add.new.self.numbers (set c.add.new.self.table.items k (Some (c.args.block, c.in_ok-number.number)))) (sym c.slot_of.ensures)
                (table_set texts c.add.new.self.numbers c.add.new.self.table.items c.args.id c.args.block c.in_ok-number.number low
                (record { key = c.key_of_id.result; is = c.key_of_id.ensures ∙ ap (λ (ts : List (List ℕ)). symbol_cell ts c.args.id) (sym same); at = c.in_ok-number.ensures.known }) more.table);
          };
      table = length-set c.add.new.self.table.items c.slot_of.result (Some (c.args.block, c.in_ok-number.number)) ∙ ap length c.in_ok-number.ensures.table;
    }
