use Rattle.std.proofs.Common.{◌∙◌, ◌++◌, List, All, ap, sym, subst}
use Rattle.qd_base.specs.Database.{StoredTable}
use Rattle.qd_base.specs.Lawful.{IsRowOf}
use Rattle.qd_base.specs.Rows.{Row}
use Rattle.qd_apply.specs.Waiting.{begun_rows, IsWaiting}
use Rattle.qd_apply.proofs.WaitLemmas.{rows_fit, waits_idle, waits_more}
use Rattle.qd_apply.proofs.waiting.Waiting.fill.Goals as goal

pub invariant_of-self : goal.invariant_of-self
invariant_of-self c = let i = c.self.inside in subst (IsWaiting i.schema i.stages.items) (sym c.take.ensures.after) (waits_idle i.schema i.stages.items i.current c.self.invariant)

pub invariant_of-self-in_err-push_rows : goal.invariant_of-self-in_err-push_rows
invariant_of-self-in_err-push_rows c = let i = c.self.inside in subst (IsWaiting i.schema i.stages.items) (sym c.take.ensures.after) (waits_idle i.schema i.stages.items i.current c.self.invariant)

pub push_rows-requires-clause-fit : goal.push_rows-requires-clause-fit
push_rows-requires-clause-fit c =
    let i = c.self.inside in
    let fit : All (IsRowOf i.schema) c.args.rows.now = subst (λ (x : StoredTable). All (IsRowOf x.schema) c.args.rows.now) (sym c.self.view_is) c.requires.fit in
    rows_fit i.schema c.in_ok-current.current.kinds c.as_slice.result.now c.in_ok-current.ensures.begun.kinds (subst (All (IsRowOf i.schema)) (sym c.as_slice.ensures.items) fit)

pub invariant_of-self-2 : goal.invariant_of-self-2
invariant_of-self-2 c =
    let i = c.self.inside in
    let fit : All (IsRowOf i.schema) c.args.rows.now = subst (λ (x : StoredTable). All (IsRowOf x.schema) c.args.rows.now) (sym c.self.view_is) c.requires.fit in
    let same = c.in_ok-current.ensures.rows ∙ ap begun_rows c.take.ensures.value in
    let more = c.in_ok-push_rows.ensures.ok ∙ ap (λ (l : List Row). record c.in_ok-current.current { rows = c.in_ok-current.current.rows ++ l }) c.as_slice.ensures.items in
    waits_more i.schema i.stages.items i.current c.in_ok-current.current c.push_rows.new.current c.args.rows.now c.self.invariant c.in_ok-current.ensures.begun same more fit
