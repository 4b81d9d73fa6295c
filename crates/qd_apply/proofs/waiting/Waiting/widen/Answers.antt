use Rattle.std.proofs.Common.{◌∙◌, List, ap, sym, subst}
use Rattle.qd_base.specs.Database.{widened, StoredTable}
use Rattle.qd_base.specs.declared.schema.Col.{Col}
use Rattle.qd_block.specs.Blocks.{Building}
use Rattle.qd_apply.specs.Waiting.{waiting, IsWaiting}
use Rattle.qd_apply.proofs.WaitLemmas.{sound_here, waits_idle, waits_kept, widen_none, widen_some}
use Rattle.qd_apply.proofs.waiting.Waiting.widen.Goals as goal

pub invariant_of-self : goal.invariant_of-self
invariant_of-self c =
    let i = c.self.inside in
    subst (λ (l : List Building). IsWaiting i.schema l c.take.new.self) (sym c.in_err-push-in-Some.ensures.items)
    (subst (IsWaiting i.schema i.stages.items) (sym c.take.ensures.after) (waits_idle i.schema i.stages.items i.current c.self.invariant))

pub invariant_of-self-in_err-push-in-Some-2 : goal.invariant_of-self-in_err-push-in-Some-2
invariant_of-self-in_err-push-in-Some-2 c =
    let i = c.self.inside in
    waits_kept i.schema i.stages.items c.push.new.self.items i.current c.take.new.self c.in-Some.stage c.push-in-Some.new.self c.self.invariant (sym c.take.ensures.value ∙ c.in-Some.is) c.in_ok-push-in-Some.ensures.items c.take.ensures.after c.in_err-push-in-Some-2.ensures.err

pub invariant_of-self-in-Some : goal.invariant_of-self-in-Some
invariant_of-self-in-Some c =
    let i = c.self.inside in
    (widen_some i.schema i.stages.items c.push.new.self.items i.current c.take.new.self c.in-Some.stage c.in_ok-col.col c.push-in-Some.new.self c.self.invariant (sym c.take.ensures.value ∙ c.in-Some.is) c.in_ok-push-in-Some.ensures.items c.take.ensures.after c.in_ok-push-in-Some-2.ensures.ok
    (sound_here i.schema c.args.self.now.schema c.in_ok-col.col c.args.col.now (ap (λ (x : StoredTable). x.schema) c.self.view_is) c.in_ok-col.ensures.same c.requires.sound)).0

pub invariant_of-self-in-None : goal.invariant_of-self-in-None
invariant_of-self-in-None c =
    let i = c.self.inside in
    (widen_none i.schema i.stages.items i.current c.take.new.self c.in_ok-col.col c.push-in-None.new.self c.self.invariant (sym c.take.ensures.value ∙ c.in-None.is) c.take.ensures.after c.in_ok-push-in-None.ensures.ok
    (sound_here i.schema c.args.self.now.schema c.in_ok-col.col c.args.col.now (ap (λ (x : StoredTable). x.schema) c.self.view_is) c.in_ok-col.ensures.same c.requires.sound)).0

pub returns-in_ok-push-in-Some-2 : goal.returns-in_ok-push-in-Some-2
returns-in_ok-push-in-Some-2 c =
    let i = c.self.inside in
    record {
      ok = (widen_some i.schema i.stages.items c.push.new.self.items i.current c.take.new.self c.in-Some.stage c.in_ok-col.col c.push-in-Some.new.self c.self.invariant (sym c.take.ensures.value ∙ c.in-Some.is) c.in_ok-push-in-Some.ensures.items c.take.ensures.after c.in_ok-push-in-Some-2.ensures.ok
          (sound_here i.schema c.args.self.now.schema c.in_ok-col.col c.args.col.now (ap (λ (x : StoredTable). x.schema) c.self.view_is) c.in_ok-col.ensures.same c.requires.sound)).1
          ∙ ap (λ (k : Col). widened k (waiting i.schema i.stages.items i.current)) c.in_ok-col.ensures.same
          ∙ ap (widened c.args.col.now) c.self.view_is;
    }

pub returns-in_ok-push-in-None : goal.returns-in_ok-push-in-None
returns-in_ok-push-in-None c =
    let i = c.self.inside in
    record {
      ok = (widen_none i.schema i.stages.items i.current c.take.new.self c.in_ok-col.col c.push-in-None.new.self c.self.invariant (sym c.take.ensures.value ∙ c.in-None.is) c.take.ensures.after c.in_ok-push-in-None.ensures.ok
          (sound_here i.schema c.args.self.now.schema c.in_ok-col.col c.args.col.now (ap (λ (x : StoredTable). x.schema) c.self.view_is) c.in_ok-col.ensures.same c.requires.sound)).1
          ∙ ap (λ (k : Col). widened k (waiting i.schema i.stages.items i.current)) c.in_ok-col.ensures.same
          ∙ ap (widened c.args.col.now) c.self.view_is;
    }
