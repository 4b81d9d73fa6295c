-- What reading the clock and asking the backend come to.
use Rattle.std.proofs.Common.{◌≡◌, ℕ, ◌≤◌, inl, inr, List, [], ◌∷◌, ◌++◌, Bool, true, false, Option, Some, None, Ok, Err, Result, refl, sym, ◌∙◌, ap, subst, arith, append-nil}
use Rattle.qd_base.specs.declared.request.Request.{Request}
use Rattle.qd_base.specs.declared.request.Request.TheVariants as request
use Rattle.qd_base.specs.declared.request.Reply.{Reply}
use Rattle.qd_base.specs.declared.request.Reply.TheVariants as reply
use Rattle.qd_ilp.specs.Whole.{IsReading, Reading, lacks_time}
use Rattle.qd_io.specs.Clocks.{Timeline}
use Rattle.qd_io.specs.Ends.{HasRisen}
use Rattle.qd_io.specs.declared.fault.IoFault.{IoFault}
use Rattle.qd_io.specs.declared.fault.IoFault.TheVariants as fault
use Rattle.qd_session.specs.Looks.{Grows, IsStill, Shown, look_at}
use Rattle.qd_session.specs.Legal.{Answers, EndsByBye, MayLackClock, MayWantMemory, Rule}
use Rattle.qd_session.specs.Timing.{IsTimed, LacksTime, ReadsClock, TimesBatch, clock_refusal, want_of_memory}
use Rattle.qd_session.specs.Turns.{IsHandled}
use Rattle.qd_session.proofs.RunLemmas.{extends-here}

-- however a batch is timed, the count of faults doesn't fall
times_rise : (lacks : Bool) (old new : Timeline) (result : Result ℕ IoFault) → TimesBatch lacks old new result → old.faults ≤ new.faults
times_rise false old new result h = omega (arith, ap (λ (c : Timeline). c.faults) h.0)
times_rise true old new (Ok time) h = omega (arith, h.counted)
times_rise true old new (Err fault.Failed) h = h.counted.0
times_rise true old new (Err fault.Memory) h = omega (arith, h.counted)

pub faults_rise : (old new : Timeline) (time : ℕ) (asked : Request) (given : Reply) → ReadsClock old new time asked given → old.faults ≤ new.faults
faults_rise old new time (request.Write text) given (inl (is, same)) = omega (arith, ap (λ (c : Timeline). c.faults) same)
faults_rise old new time (request.Write text) given (inr r) = times_rise (lacks_time r.0) old new r.2 r.3
faults_rise old new time (request.Sql text) given r = omega (arith, ap (λ (c : Timeline). c.faults) r.0)
faults_rise old new time request.Apply given r = omega (arith, ap (λ (c : Timeline). c.faults) r.0)
faults_rise old new time request.End given r = omega (arith, ap (λ (c : Timeline). c.faults) r.0)

module _ (rule : Rule) (old new : Shown) (clock clock' : Timeline) where
  -- what the backend answered, once the clock was read as it is to be
  pub handled_by : (time : ℕ) (asked : Request) (given : Reply) → ReadsClock clock clock' time asked given → Answers rule old new time asked given → IsHandled rule old new clock clock' asked given
  handled_by time asked given read a = record {
    time = time;
    read = read;
    grows = a.grows;
    allowed = a.allowed clock clock' (faults_rise clock clock' time asked given read);
    own = a.own;
  }

grows-here : (s : Shown) → Grows s s
grows-here s = record { history = extends-here s.history; sequenced = omega arith; known = omega arith; faults = omega arith }

still-here : (s : Shown) (clock clock' : Timeline) → clock.faults ≤ clock'.faults → IsStill (look_at clock s) (look_at clock' s)
still-here s clock clock' rise = record { sequenced = refl; known = refl; clock_faults = rise; volume_faults = refl; pinned = refl; pending = refl }

module _ (rule : Rule) (s : Shown) (clock clock' : Timeline) (text : List ℕ) where
  -- no memory was found to read a batch
  pub handled_unread : MayWantMemory rule → clock' ≡ clock → IsHandled rule s s clock clock' (request.Write text) want_of_memory
  handled_unread wants same = record {
    time = 0;
    read = inl (refl, same);
    grows = grows-here s;
    allowed = wants s.history (look_at clock s) (look_at clock' s) 0 (request.Write text) tt (still-here s clock clock' (omega (arith, ap (λ (c : Timeline). c.faults) same)));
    own = sym (append-nil s.own);
  }

  -- the clock failed for a batch
  pub handled_failed : (reading : Reading) → IsReading text reading → MayLackClock rule → (lacks : Bool) → lacks_time reading ≡ lacks → TimesBatch lacks clock clock' (Err fault.Failed) → IsHandled rule s s clock clock' (request.Write text) clock_refusal
  handled_failed reading reads may false is h = absurd (cc (h.1))
  handled_failed reading reads may true is h = record {
    time = 0;
    read = inr (reading, reads, Err fault.Failed, subst (λ (b : Bool). TimesBatch b clock clock' (Err fault.Failed)) (sym is) h, refl);
    grows = grows-here s;
    allowed = may s.history (look_at clock s) (look_at clock' s) 0 text (reading, reads, is) (still-here s clock clock' h.counted.0) h.counted.1;
    own = sym (append-nil s.own);
  }

  -- no memory was found to read the clock
  pub handled_no_memory : (reading : Reading) → IsReading text reading → MayWantMemory rule → TimesBatch (lacks_time reading) clock clock' (Err fault.Memory) → IsHandled rule s s clock clock' (request.Write text) want_of_memory
  handled_no_memory reading reads wants h = record {
    time = 0;
    read = inr (reading, reads, Err fault.Memory, h, refl);
    grows = grows-here s;
    allowed = wants s.history (look_at clock s) (look_at clock' s) 0 (request.Write text) tt (still-here s clock clock' (times_rise (lacks_time reading) clock clock' (Err fault.Memory) h));
    own = sym (append-nil s.own);
  }

-- the request for the end
pub handled_end : (rule : Rule) (s : Shown) (clock : Timeline) → EndsByBye rule → IsHandled rule s s clock clock request.End reply.Bye
handled_end rule s clock ends = record {
  time = 0;
  read = (refl, refl);
  grows = grows-here s;
  allowed = ends.bye s.history (look_at clock s) (look_at clock s) 0 (still-here s clock clock (omega arith));
  own = sym (append-nil s.own);
}

-- the same request, with the same reply
pub handled_as : (rule : Rule) (old new : Shown) (clock clock' : Timeline) (asked asked' : Request) (given given' : Reply) → asked ≡ asked' → given ≡ given' → IsHandled rule old new clock clock' asked' given' → IsHandled rule old new clock clock' asked given
handled_as rule old new clock clock' asked asked' given given' q r h =
    subst (λ (x : Request). IsHandled rule old new clock clock' x given) (sym q) (subst (λ (x : Reply). IsHandled rule old new clock clock' asked' x) (sym r) h)
