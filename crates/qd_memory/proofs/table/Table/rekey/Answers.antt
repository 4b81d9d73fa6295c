use Rattle.std.proofs.Common.{◌≡◌, ◌∙◌, [], ℕ, List, Option, None, ap, sym, subst}
use Rattle.qd_base.specs.declared.schema.Schema.{Schema}
use Rattle.qd_base.specs.Database.{StoredTable, rekeyed}
use Rattle.qd_base.specs.Lawful.{IsSchema}
use Rattle.qd_base.specs.Schemas.{with_keys}
use Rattle.qd_memory.specs.Kept.{stored, waiting_in, Kept}
use Rattle.qd_memory.proofs.TableLemmas.{kept_rekeyed, stored_rekeyed}
use Rattle.qd_memory.proofs.WaitLemmas.{idle_begun, none_begun}
use Rattle.qd_memory.proofs.table.Table.rekey.Goals as goal

pub invariant_of-self : goal.invariant_of-self
invariant_of-self c =
    let i = c.self.inside in
    let t : Kept = record { schema = i.schema; slots = i.slots.items; parts = i.parts; waiting = waiting_in i.waiting } in
    let given : List ℕ = c.in_ok-self-inside.field-0 in
    let none : waiting_in i.waiting ≡ [] = ap (λ (x : Kept). x.waiting) c.self.view_is ∙ c.in_ok-settle.ensures.none in
    let same : i.schema ≡ c.args.self.now.schema = ap (λ (x : Kept). x.schema) c.self.view_is ∙ ap (λ (x : StoredTable). x.schema) c.in_ok-settle.ensures.same in
    let sound : IsSchema (with_keys given i.schema) = subst (λ (s : Schema). IsSchema (with_keys given s)) (sym same) (subst (λ (k : List ℕ). IsSchema (with_keys k c.args.self.now.schema)) (sym c.in_ok-self-inside.ensures.same) c.requires.sound) in
    let idle : i.waiting ≡ None = none_begun i.schema i.slots.items i.parts i.waiting c.self.invariant none in
    record { kept = kept_rekeyed t given c.self.invariant.kept none sound; begun = idle_begun _ i.waiting idle }

pub returns : goal.returns
returns c =
    let i = c.self.inside in
    let t : Kept = record { schema = i.schema; slots = i.slots.items; parts = i.parts; waiting = waiting_in i.waiting } in
    let given : List ℕ = c.in_ok-self-inside.field-0 in
    let none : waiting_in i.waiting ≡ [] = ap (λ (x : Kept). x.waiting) c.self.view_is ∙ c.in_ok-settle.ensures.none in
    record {
      ok = stored_rekeyed t given none
          ∙ ap (λ (k : List ℕ). rekeyed k (stored t)) c.in_ok-self-inside.ensures.same
          ∙ ap (λ (x : Kept). rekeyed c.args.keys.now (stored x)) c.self.view_is
          ∙ ap (rekeyed c.args.keys.now) c.in_ok-settle.ensures.same;
    }
