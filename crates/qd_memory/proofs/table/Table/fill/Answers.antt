use Rattle.std.proofs.Common.{◌≡◌, ◌∙◌, ◌++◌, ◌<◌, [], List, Option, IfSome, length, ap, sym, subst, All, arith}
use Rattle.std.proofs.lemmas.Bool.{eqb-false, eqb-true}
use Rattle.std.proofs.lemmas.List.{nil_from_length}
use Rattle.qd_base.specs.Database.{filled}
use Rattle.qd_base.specs.Lawful.{IsRowOf}
use Rattle.qd_base.specs.Rows.{Row}
use Rattle.qd_block.specs.Blocks.{Building}
use Rattle.qd_memory.specs.Kept.{stored, waiting_in, IsTable, IsWaiting, Kept}
use Rattle.qd_memory.proofs.TableLemmas.{stored_filled}
use Rattle.qd_memory.proofs.WaitLemmas.{rows_fit, rows_more, rows_timely, some_there, table_filled, table_idle}
use Rattle.qd_memory.proofs.table.Table.fill.Goals as goal

pub returns-then-is_empty : goal.returns-then-is_empty
returns-then-is_empty c =
    let none : c.args.rows.now ≡ [] = nil_from_length c.args.rows.now (eqb-true (length c.args.rows.now) 0 (sym c.is_empty.ensures.empty ∙ c.if-is_empty.true)) in
    record { ok = sym (ap (λ (l : List Row). filled l (stored c.args.self.now)) none) }

pub begun-requires-clause-schema : goal.begun-requires-clause-schema
begun-requires-clause-schema c = c.self.invariant.kept.schema

pub begun-requires-clause-waiting : goal.begun-requires-clause-waiting
begun-requires-clause-waiting c = subst (λ (o : Option Building). IfSome o (IsWaiting c.self.inside.schema)) (sym c.take.ensures.value) c.self.invariant.begun

pub push_rows-requires-clause-begun : goal.push_rows-requires-clause-begun
push_rows-requires-clause-begun c = c.in_ok-waiting.ensures.begun.whole

pub push_rows-requires-clause-fit : goal.push_rows-requires-clause-fit
push_rows-requires-clause-fit c =
    let i = c.self.inside in
    let fit : All (IsRowOf i.schema) c.args.rows.now = subst (λ (x : Kept). All (IsRowOf x.schema) c.args.rows.now) (sym c.self.view_is) c.requires.fit in
    rows_fit i.schema c.in_ok-waiting.waiting.kinds c.as_slice.result.now c.in_ok-waiting.ensures.begun.kinds (subst (All (IsRowOf i.schema)) (sym c.as_slice.ensures.items) fit)

pub push_rows-requires-clause-timed : goal.push_rows-requires-clause-timed
push_rows-requires-clause-timed c =
    let i = c.self.inside in
    let fit : All (IsRowOf i.schema) c.args.rows.now = subst (λ (x : Kept). All (IsRowOf x.schema) c.args.rows.now) (sym c.self.view_is) c.requires.fit in
    rows_timely i.schema c.in_ok-waiting.waiting.time_col c.as_slice.result.now c.in_ok-waiting.ensures.begun.time_col (subst (All (IsRowOf i.schema)) (sym c.as_slice.ensures.items) fit)

pub invariant_of-self : goal.invariant_of-self
invariant_of-self c = let i = c.self.inside in subst (IsTable i.schema i.slots.items i.parts) (sym c.take.ensures.after) (table_idle i.schema i.slots.items i.parts i.waiting c.self.invariant)

pub invariant_of-self-2 : goal.invariant_of-self-2
invariant_of-self-2 c =
    let i = c.self.inside in
    let fit : All (IsRowOf i.schema) c.args.rows.now = subst (λ (x : Kept). All (IsRowOf x.schema) c.args.rows.now) (sym c.self.view_is) c.requires.fit in
    let same = c.in_ok-waiting.ensures.rows ∙ ap waiting_in c.take.ensures.value in
    let more = c.in_ok-push_rows.ensures.ok ∙ ap (λ (l : List Row). record c.in_ok-waiting.waiting { rows = c.in_ok-waiting.waiting.rows ++ l }) c.as_slice.ensures.items in
    table_filled i.schema i.slots.items i.parts i.waiting c.in_ok-waiting.waiting c.push_rows.new.waiting c.args.rows.now c.self.invariant c.in_ok-waiting.ensures.begun same more fit (some_there (length c.args.rows.now) (eqb-false (length c.args.rows.now) 0 (sym c.is_empty.ensures.empty ∙ c.if-is_empty.false)))

pub returns : goal.returns
returns c =
    let i = c.self.inside in
    let t : Kept = record { schema = i.schema; slots = i.slots.items; parts = i.parts; waiting = waiting_in i.waiting } in
    let same = c.in_ok-waiting.ensures.rows ∙ ap waiting_in c.take.ensures.value in
    let more = c.in_ok-push_rows.ensures.ok ∙ ap (λ (l : List Row). record c.in_ok-waiting.waiting { rows = c.in_ok-waiting.waiting.rows ++ l }) c.as_slice.ensures.items in
    record {
      ok = ap (λ (w : List Row). stored (record { schema = i.schema; slots = i.slots.items; parts = i.parts; waiting = w })) (rows_more c.in_ok-waiting.waiting c.push_rows.new.waiting i.waiting c.args.rows.now same more)
          ∙ stored_filled t c.args.rows.now
          ∙ ap (λ (x : Kept). filled c.args.rows.now (stored x)) c.self.view_is;
    }
