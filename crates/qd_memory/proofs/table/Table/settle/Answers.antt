use Rattle.std.proofs.Common.{◌≡◌, ◌∙◌, ◌<◌, ◌^◌, [], List, Option, Some, IfSome, length, map, ap, sym, subst, refl, arith}
use Rattle.qd_base.specs.declared.part.Part.{Part}
use Rattle.qd_base.specs.Rows.{Row}
use Rattle.qd_block.specs.Blocks.{Building}
use Rattle.qd_merge.specs.Batch.{batch}
use Rattle.qd_memory.specs.declared.slots.Slot.{Slot}
use Rattle.qd_memory.specs.Kept.{stored, waiting_in, AreSlots, HasPut, IsKept, IsTable, IsWaiting, Kept}
use Rattle.qd_memory.proofs.ChangeLemmas.{kept_settled, stored_settled}
use Rattle.qd_memory.proofs.WaitLemmas.{table_idle, waits_in}
use Rattle.qd_memory.proofs.table.Table.settle.Goals as goal

pub batch_of-requires-clause-schema : goal.batch_of-requires-clause-schema
batch_of-requires-clause-schema c = c.self.invariant.kept.schema

pub batch_of-requires-clause-begun : goal.batch_of-requires-clause-begun
batch_of-requires-clause-begun c = let i = c.self.inside in (waits_in i.schema i.slots.items i.parts i.waiting c.in-Some.waiting c.self.invariant (sym c.take.ensures.value ∙ c.in-Some.is)).0

pub batch_of-requires-clause-fit : goal.batch_of-requires-clause-fit
batch_of-requires-clause-fit c = let i = c.self.inside in (waits_in i.schema i.slots.items i.parts i.waiting c.in-Some.waiting c.self.invariant (sym c.take.ensures.value ∙ c.in-Some.is)).1

pub with_batch-requires-clause-schema : goal.with_batch-requires-clause-schema
with_batch-requires-clause-schema c = c.self.invariant.kept.schema

pub with_batch-requires-clause-slots : goal.with_batch-requires-clause-slots
with_batch-requires-clause-slots c = subst (AreSlots c.self.inside.schema) (sym c.as_slice.ensures.value) c.self.invariant.kept.slots

pub invariant_of-self : goal.invariant_of-self
invariant_of-self c = let i = c.self.inside in subst (IsTable i.schema i.slots.items i.parts) (sym c.take.ensures.after) (table_idle i.schema i.slots.items i.parts i.waiting c.self.invariant)

pub invariant_of-self-in_err-slots-in-Some : goal.invariant_of-self-in_err-slots-in-Some
invariant_of-self-in_err-slots-in-Some c = let i = c.self.inside in subst (IsTable i.schema i.slots.items i.parts) (sym c.take.ensures.after) (table_idle i.schema i.slots.items i.parts i.waiting c.self.invariant)

pub invariant_of-self-in_err-self-inside-in-Some : goal.invariant_of-self-in_err-self-inside-in-Some
invariant_of-self-in_err-self-inside-in-Some c = let i = c.self.inside in subst (IsTable i.schema i.slots.items i.parts) (sym c.take.ensures.after) (table_idle i.schema i.slots.items i.parts i.waiting c.self.invariant)

pub invariant_of-self-in-None : goal.invariant_of-self-in-None
invariant_of-self-in-None c = let i = c.self.inside in subst (IsTable i.schema i.slots.items i.parts) (sym c.take.ensures.after) (table_idle i.schema i.slots.items i.parts i.waiting c.self.invariant)

pub invariant_of-self-in-Some : goal.invariant_of-self-in-Some
invariant_of-self-in-Some c =
    let i = c.self.inside in
    let t : Kept = record { schema = i.schema; slots = i.slots.items; parts = i.parts; waiting = waiting_in i.waiting } in
    let put : HasPut i.schema i.slots.items c.in_ok-batch-in-Some.batch.rows c.in_ok-slots-in-Some.slots.items = subst (λ (xs : List Slot). HasPut i.schema xs c.in_ok-batch-in-Some.batch.rows c.in_ok-slots-in-Some.slots.items) c.as_slice.ensures.value c.in_ok-slots-in-Some.ensures.put in
    record {
      kept = kept_settled t c.in_ok-slots-in-Some.slots.items c.in_ok-self-inside-in-Some.field-0 c.in_ok-batch-in-Some.batch.rows (waiting_in c.take.new.self) c.self.invariant.kept put (omega arith) (c.in_ok-self-inside-in-Some.ensures.parts ∙ ap (λ (xs : List Slot). map (λ (x : Slot). x.part) xs) c.as_slice-in-Some.ensures.value) (ap waiting_in c.take.ensures.after);
      begun = subst (λ (o : Option Building). IfSome o (IsWaiting i.schema)) (sym c.take.ensures.after) tt;
    }

pub returns-in_ok-self-inside-in-Some-clause-same : goal.returns-in_ok-self-inside-in-Some-clause-same
returns-in_ok-self-inside-in-Some-clause-same c =
    let i = c.self.inside in
    let t : Kept = record { schema = i.schema; slots = i.slots.items; parts = i.parts; waiting = waiting_in i.waiting } in
    let put : HasPut i.schema i.slots.items c.in_ok-batch-in-Some.batch.rows c.in_ok-slots-in-Some.slots.items = subst (λ (xs : List Slot). HasPut i.schema xs c.in_ok-batch-in-Some.batch.rows c.in_ok-slots-in-Some.slots.items) c.as_slice.ensures.value c.in_ok-slots-in-Some.ensures.put in
    let w = (waits_in i.schema i.slots.items i.parts i.waiting c.in-Some.waiting c.self.invariant (sym c.take.ensures.value ∙ c.in-Some.is)) in
    let rows = c.in_ok-batch-in-Some.ensures.rows ∙ ap (λ (o : Option Building). batch i.schema.time_col i.schema.keys (waiting_in o)) (sym c.in-Some.is ∙ c.take.ensures.value) in
    stored_settled t c.in_ok-slots-in-Some.slots.items c.in_ok-self-inside-in-Some.field-0 c.in_ok-batch-in-Some.batch.rows (waiting_in c.take.new.self) c.self.invariant.kept rows put (ap waiting_in c.take.ensures.after)
    ∙ ap (λ (x : Kept). stored x) c.self.view_is
