use Rattle.std.proofs.Common.{◌≡◌, ◌∙◌, ◌++◌, ◌∷◌, [], List, Option, None, IfSome, ap, sym, subst}
use Rattle.qd_base.specs.declared.schema.Col.{Col}
use Rattle.qd_base.specs.declared.schema.Schema.{Schema}
use Rattle.qd_base.specs.Database.{StoredTable, widened}
use Rattle.qd_base.specs.Lawful.{IsSchema}
use Rattle.qd_base.specs.Schemas.{with_column}
use Rattle.qd_block.specs.Blocks.{Building}
use Rattle.qd_memory.specs.Kept.{stored, waiting_in, IsKept, IsSettled, IsWaiting, Kept}
use Rattle.qd_memory.proofs.TableLemmas.{kept_widened, stored_widened}
use Rattle.qd_memory.proofs.WaitLemmas.{idle_begun, none_begun}
use Rattle.qd_memory.proofs.table.Table.widen.Goals as goal

pub invariant_of-self-2 : goal.invariant_of-self-2
invariant_of-self-2 c =
    let i = c.self.inside in
    let t : Kept = record { schema = i.schema; slots = i.slots.items; parts = i.parts; waiting = waiting_in i.waiting } in
    let more : Col = c.in_ok-col.col in
    let none : waiting_in i.waiting ≡ [] = ap (λ (x : Kept). x.waiting) c.self.view_is ∙ c.in_ok-settle.ensures.none in
    let same : i.schema ≡ c.args.self.now.schema = ap (λ (x : Kept). x.schema) c.self.view_is ∙ ap (λ (x : StoredTable). x.schema) c.in_ok-settle.ensures.same in
    let sound : IsSchema (with_column more i.schema) = subst (λ (s : Schema). IsSchema (with_column more s)) (sym same) (subst (λ (k : Col). IsSchema (with_column k c.args.self.now.schema)) (sym c.in_ok-col.ensures.same) c.requires.sound) in
    let idle : i.waiting ≡ None = none_begun i.schema i.slots.items i.parts i.waiting c.self.invariant none in
    record {
      kept = subst (λ (cs : List Col). IsKept (record { schema = record i.schema { cols = cs }; slots = i.slots.items; parts = i.parts; waiting = waiting_in i.waiting })) (sym c.in_ok-push.ensures.ok) (kept_widened t more c.self.invariant.kept none sound);
      begun = idle_begun _ i.waiting idle;
    }

pub returns : goal.returns
returns c =
    let i = c.self.inside in
    let t : Kept = record { schema = i.schema; slots = i.slots.items; parts = i.parts; waiting = waiting_in i.waiting } in
    let more : Col = c.in_ok-col.col in
    let none : waiting_in i.waiting ≡ [] = ap (λ (x : Kept). x.waiting) c.self.view_is ∙ c.in_ok-settle.ensures.none in
    record {
      ok = ap (λ (cs : List Col). stored (record { schema = record i.schema { cols = cs }; slots = i.slots.items; parts = i.parts; waiting = waiting_in i.waiting })) c.in_ok-push.ensures.ok
          ∙ stored_widened t more c.self.invariant.kept none
          ∙ ap (λ (k : Col). widened k (stored t)) c.in_ok-col.ensures.same
          ∙ ap (λ (x : Kept). widened c.args.col.now (stored x)) c.self.view_is
          ∙ ap (widened c.args.col.now) c.in_ok-settle.ensures.same;
    }
