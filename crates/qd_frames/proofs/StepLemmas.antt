-- A step of a front of frames is a step of a front.
use Rattle.std.proofs.Common.{◌≡◌, ℕ, ◌+◌, ◌<◌, List, [], ◌∷◌, ◌++◌, length, refl, sym, ap, ◌∙◌, subst, arith, append_assoc, length-append, Result, Ok, Err, IfOk, OnOk}
use Rattle.std.proofs.lemmas.List.{append-nil}
use Rattle.qd_base.specs.declared.request.Request.{Request}
use Rattle.qd_base.specs.declared.request.Request.TheVariants as request
use Rattle.qd_base.specs.declared.request.Step.{Step}
use Rattle.qd_base.specs.declared.request.Step.TheVariants as step
use Rattle.qd_base.specs.Script.{Asks, Ending, TakesBytes, TakesRequest, TakesStep}
use Rattle.qd_frames.specs.Frames.{Frames, frame, IsFramed, IsUnfinished, BeginsNone, Steps, frames_protocol, frames_spell, TakesFrame}
use Rattle.qd_print.specs.Printed.{reply_bytes}
use Rattle.qd_frames.proofs.FrameLemmas.{one_frame, whole_not_unfinished, whole_not_none, unfinished_not_none}

-- a frame has at least one byte
pub frame_some : (r : Request) → 0 < length (frame r)
frame_some (request.Write text) = omega arith
frame_some (request.Sql text) = omega arith
frame_some request.Apply = omega arith
frame_some request.End = omega arith

-- the frame that goes, as bytes that go
pub takes_bytes : (old new : Frames) (r : Request) → old.waiting ≡ frame r ++ new.waiting → new.start ≡ old.start + length (frame r) → TakesBytes (frames_protocol old) (frames_protocol new)
takes_bytes old new r front offset = record { taken = frame r; some = frame_some r; front = front; offset = offset }

-- the bytes behind a frame
behind : (old new : Frames) (r : Request) (more : List ℕ) → old.waiting ≡ frame r ++ new.waiting → old.waiting ++ more ≡ frame r ++ (new.waiting ++ more)
behind old new r more front = ap (λ xs. xs ++ more) front ∙ append_assoc (frame r) new.waiting more

from_there : (old new : Frames) (r : Request) (more : List ℕ) (rs : List Request) (e : Ending) → new.start ≡ old.start + length (frame r) → Steps new.start (new.waiting ++ more) rs e → Steps (old.start + length (frame r)) (new.waiting ++ more) rs e
from_there old new r more rs e offset steps = subst (λ at. Steps at (new.waiting ++ more) rs e) offset steps

takes_asked : (old new : Frames) (r : Request) → IsFramed r → old.waiting ≡ frame r ++ new.waiting → new.start ≡ old.start + length (frame r)
    → TakesRequest (frames_protocol old) (frames_protocol new) r
takes_asked old new (request.Write text) fits front offset =
    let r = request.Write text in
    (takes_bytes old new r front offset, λ more s h. (r ∷ h.0, ap (λ ts. Asks r reply_bytes ∷ ts) h.1, (new.waiting ++ more, fits, behind old new r more front, from_there old new r more h.0 s.ending offset h.2)))
takes_asked old new (request.Sql text) fits front offset =
    let r = request.Sql text in
    (fits, takes_bytes old new r front offset, λ more s h. (r ∷ h.0, ap (λ ts. Asks r reply_bytes ∷ ts) h.1, (new.waiting ++ more, fits, behind old new r more front, from_there old new r more h.0 s.ending offset h.2)))
takes_asked old new request.Apply fits front offset =
    let r = request.Apply in
    (takes_bytes old new r front offset, λ more s h. (r ∷ h.0, ap (λ ts. Asks r reply_bytes ∷ ts) h.1, (new.waiting ++ more, fits, behind old new r more front, from_there old new r more h.0 s.ending offset h.2)))
takes_asked old new request.End fits front offset =
    λ more. (request.End ∷ [], refl, (new.waiting ++ more, behind old new request.End more front, refl, refl))

-- bytes that begin no request begin none with more behind them
pub none_with_more : (bytes more : List ℕ) → BeginsNone bytes → BeginsNone (bytes ++ more)
none_with_more bytes more none r others tail fits e = none r (more ++ others) tail fits (sym (append_assoc bytes more others) ∙ e)

pub takes_step : (old new : Frames) (s : Step) → TakesFrame old new s → TakesStep (frames_protocol old) (frames_protocol new) s
takes_step old new (step.Ask r) h = takes_asked old new r h.0 h.1 h.2
takes_step old new (step.Say bytes) h = absurd h
takes_step old new step.More h = (
  ([], refl, (sym (append-nil old.waiting), refl, refl, subst IsUnfinished (sym (append-nil old.waiting)) h.0)),
  record { waiting = ap (λ (f : Frames). f.waiting) h.1; start = ap (λ (f : Frames). f.start) h.1; spelled = λ more s k. subst (λ f. frames_spell f more s) h.1 k },
)
takes_step old new step.Clean h = absurd h
takes_step old new (step.Bad place) h = λ more. ([], refl, (h.1, refl, none_with_more old.waiting more h.0))

pub takes_if_ok : {E : Type 0} (old new : Frames) (r : Result Step E) → IfOk r (λ s. TakesFrame old new s) → IfOk r (λ s. TakesStep (frames_protocol old) (frames_protocol new) s)
takes_if_ok old new (Ok s) h = takes_step old new s h
takes_if_ok old new (Err e) h = h

-- a request whose frame the bytes begin with is the step
pub only_whole : {E : Type 0} (old new : Frames) (r : Result Step E) → IfOk r (λ s. TakesFrame old new s) → IfOk r (λ s. (asked : Request) (rest : List ℕ) → IsFramed asked → old.waiting ≡ frame asked ++ rest → s ≡ step.Ask asked)
only_whole old new (Ok (step.Ask q)) h = λ r rest fits e. ap step.Ask (one_frame q r new.waiting rest h.0 fits (sym h.1 ∙ e)).0
only_whole old new (Ok (step.Say bytes)) h = λ r rest fits e. absurd h
only_whole old new (Ok step.More) h = λ r rest fits e. absurd (whole_not_unfinished r rest old.waiting fits e h.0)
only_whole old new (Ok step.Clean) h = λ r rest fits e. absurd h
only_whole old new (Ok (step.Bad place)) h = λ r rest fits e. absurd (whole_not_none r rest old.waiting fits e h.0)
only_whole old new (Err e) h = h

-- where a prefix of a frame waits, more is wanted
pub only_unfinished : {E : Type 0} (old new : Frames) (r : Result Step E) → IfOk r (λ s. TakesFrame old new s) → IfOk r (λ s. IsUnfinished old.waiting → s ≡ step.More)
only_unfinished old new (Ok (step.Ask q)) h = λ u. absurd (whole_not_unfinished q new.waiting old.waiting h.0 h.1 u)
only_unfinished old new (Ok (step.Say bytes)) h = λ u. absurd h
only_unfinished old new (Ok step.More) h = λ u. refl
only_unfinished old new (Ok step.Clean) h = λ u. absurd h
only_unfinished old new (Ok (step.Bad place)) h = λ u. absurd (unfinished_not_none old.waiting u h.0)
only_unfinished old new (Err e) h = h

-- where what waits begins no frame, it is refused
pub only_none : {E : Type 0} (old new : Frames) (r : Result Step E) → IfOk r (λ s. TakesFrame old new s) → IfOk r (λ s. BeginsNone old.waiting → s ≡ step.Bad old.start)
only_none old new (Ok (step.Ask q)) h = λ n. absurd (whole_not_none q new.waiting old.waiting h.0 h.1 n)
only_none old new (Ok (step.Say bytes)) h = λ n. absurd h
only_none old new (Ok step.More) h = λ n. absurd (unfinished_not_none old.waiting h.0 n)
only_none old new (Ok step.Clean) h = λ n. absurd h
only_none old new (Ok (step.Bad place)) h = λ n. ap step.Bad h.1
only_none old new (Err e) h = h

-- no byte is lost: what waits no more is behind the offset
pub total_kept : {E : Type 0} (old new : Frames) (r : Result Step E) → IfOk r (λ s. TakesFrame old new s) → OnOk r (new.start + length new.waiting ≡ old.start + length old.waiting)
total_kept old new (Ok (step.Ask q)) h =
    let len : length old.waiting ≡ length (frame q) + length new.waiting = ap length h.1 ∙ length-append (frame q) new.waiting in
    let offset : new.start ≡ old.start + length (frame q) = h.2 in
    omega arith
total_kept old new (Ok (step.Say bytes)) h = absurd h
total_kept old new (Ok step.More) h = ap (λ (f : Frames). f.start + length f.waiting) h.1
total_kept old new (Ok step.Clean) h = absurd h
total_kept old new (Ok (step.Bad place)) h = ap (λ (f : Frames). f.start + length f.waiting) h.2
total_kept old new (Err e) h = h
