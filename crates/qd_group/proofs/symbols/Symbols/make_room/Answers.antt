use Rattle.std.proofs.Common.{ℕ, List, Option, sym, subst}
use Rattle.qd_group.specs.Numbering.{IsTable}
use Rattle.qd_group.proofs.SymbolLemmas.{table_longer}
use Rattle.qd_group.proofs.symbols.Symbols.make_room.Goals as goal

pub loop-self-init : goal.loop-self-init
loop-self-init g c = λ texts cells n h. h

pub loop-self-preserved : goal.loop-self-preserved
loop-self-preserved g c = λ texts cells n h.
    let st = c.loop-self.invariant texts cells n h in
    record {
      groups = st.groups;
      knows = st.knows;
      table = subst (λ (l : List (Option (ℕ × ℕ))). IsTable texts c.loop-self.self.numbers l) (sym c.in_ok-push.ensures.items) (table_longer texts c.loop-self.self.numbers c.loop-self.self.table.items st.table);
    }
