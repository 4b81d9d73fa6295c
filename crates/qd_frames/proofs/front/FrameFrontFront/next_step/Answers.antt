use Rattle.std.proofs.Common.{IfOk, subst}
use Rattle.qd_base.specs.declared.request.Step.{Step}
use Rattle.qd_frames.specs.Frames.{Frames, TakesFrame}
use Rattle.qd_frames.specs.Buffer.{frames_of}
use Rattle.qd_frames.proofs.StepLemmas.{takes_if_ok, only_whole, only_unfinished, only_none, total_kept}
use Rattle.qd_frames.proofs.front.FrameFrontFront.next_step.Goals as goal

exact : (c : goal.After-next_step) → IfOk c.next_step.result (λ (s : Step). TakesFrame c.args.self.now (frames_of c.next_step.new.self) s)
exact c = subst (λ (f : Frames). IfOk c.next_step.result (λ (s : Step). TakesFrame f (frames_of c.next_step.new.self) s)) c.self.view_is c.next_step.ensures.exact

pub returns-clause-step : goal.returns-clause-step
returns-clause-step c = takes_if_ok c.args.self.now (frames_of c.next_step.new.self) c.next_step.result (exact c)

pub returns-clause-whole : goal.returns-clause-whole
returns-clause-whole c = only_whole c.args.self.now (frames_of c.next_step.new.self) c.next_step.result (exact c)

pub returns-clause-unfinished : goal.returns-clause-unfinished
returns-clause-unfinished c = only_unfinished c.args.self.now (frames_of c.next_step.new.self) c.next_step.result (exact c)

pub returns-clause-none : goal.returns-clause-none
returns-clause-none c = only_none c.args.self.now (frames_of c.next_step.new.self) c.next_step.result (exact c)

pub returns-clause-total : goal.returns-clause-total
returns-clause-total c = total_kept c.args.self.now (frames_of c.next_step.new.self) c.next_step.result (exact c)
