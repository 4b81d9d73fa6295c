use Rattle.std.proofs.Common.{◌≡◌, ◌≢◌, ℕ, min, length, take, refl, sym, ap, ◌∙◌, subst, List, IfOk}
use Rattle.qd_http.specs.declared.head.Head.TheVariants as read
use Rattle.qd_http.specs.declared.lines.Found.TheVariants as found
use Rattle.qd_http.specs.declared.lines.Lines.TheVariants as lines
use Rattle.qd_http.specs.declared.reader.Taken.{Taken}
use Rattle.qd_http.specs.declared.reader.Stage.TheVariants as stage
use Rattle.qd_http.specs.declared.limits.TheConstants.{MAX_HEAD_BYTES}
use Rattle.qd_http.specs.Steps.{BeginsNone, Https, TakesHttp}
use Rattle.qd_http.specs.Reading.{EndsWithHead, Finds, HasOrder, IsAt, IsOverfull, IsSearch, ReadsHead, https_of, is_closing, lines_of}
use Rattle.qd_http.proofs.ReaderLemmas.{front_of, open_ends, open_waits, overfull_at, overfull_ends, overfull_waits, seen_all, whole_at, window, wrong_ends}
use Rattle.qd_http.proofs.TakenLemmas.{bad_step, waiting_step}
use Rattle.qd_http.proofs.reader.Reader.next_head.Goals as goal

-- the bytes that are looked at
looked : (queue waiting : List ℕ) (n : ℕ) → waiting ≡ queue → n ≡ min (length waiting) MAX_HEAD_BYTES → take n waiting ≡ take MAX_HEAD_BYTES queue
looked queue waiting n is count = window waiting n count ∙ ap (take MAX_HEAD_BYTES) is

-- the end that was found
ends_at : (bytes : List ℕ) (n : ℕ) → Finds bytes (found.End n) → EndsWithHead (take n bytes)
ends_at bytes n h = record { before = h.0; last = h.1; is = h.2; open_ = h.4; done = ap lines_of h.2 ∙ h.5 }

pub go_on-requires : goal.go_on-requires
go_on-requires c =
    let queue = c.args.self.now.queue in
    let same = looked queue c.as_slice-waiting.result.now c.min.result c.as_slice-waiting.ensures.bytes c.min.ensures in
    subst (IsSearch c.args.search) (sym same) (subst (λ s. IsAt s queue) c.requires.stage c.requires.sound.at)

pub returns-in-Open-clause-sound : goal.returns-in-Open-clause-sound
returns-in-Open-clause-sound c =
    let queue = c.args.self.now.queue in
    let same = looked queue c.as_slice-waiting.result.now c.min.result c.as_slice-waiting.ensures.bytes c.min.ensures in
    record { room = c.requires.sound.room; at = subst (IsSearch c.in-Open.search) same c.in-Open.ensures.0 }

pub returns-in-Open-clause-exact : goal.returns-in-Open-clause-exact
returns-in-Open-clause-exact c before =
    let reader = c.args.self.now in
    let queue = reader.queue in
    let same = looked queue c.as_slice-waiting.result.now c.min.result c.as_slice-waiting.ensures.bytes c.min.ensures in
    let open_ : lines_of (take MAX_HEAD_BYTES queue) ≢ lines.Done =
    subst (λ w. lines_of w ≢ lines.Done) same (seen_all c.in-Open.search _ c.in-Open.ensures.0 c.in-Open.ensures.1) in
    waiting_step reader (record { queue = queue; start = reader.start; stage = stage.Head c.in-Open.search }) before c.wait.result (ap is_closing c.requires.stage) refl refl refl
    c.wait.ensures.more c.wait.ensures.bad (open_waits queue open_) (open_ends queue open_)

pub returns-in-Wrong-clause-exact : goal.returns-in-Wrong-clause-exact
returns-in-Wrong-clause-exact c before =
    let reader = c.args.self.now in
    let queue = reader.queue in
    let w : List ℕ = take c.min.result c.as_slice-waiting.result.now in
    let same = looked queue c.as_slice-waiting.result.now c.min.result c.as_slice-waiting.ensures.bytes c.min.ensures in
    let front = front_of queue w c.in-End.end same in
    let what : ReadsHead (take c.in-End.end w) read.Wrong = subst (ReadsHead (take c.in-End.end w)) c.in-Wrong.is c.in_ok-read_head-in-End.ensures in
    let none : BeginsNone queue = subst BeginsNone (sym front.1) (wrong_ends (take c.in-End.end w) front.0 (ends_at w c.in-End.end c.in-End.ensures) front.2 what) in
    bad_step reader reader before c.bad.result (ap is_closing c.requires.stage) refl refl (ap is_closing c.requires.stage) c.bad.ensures none

pub returns-in-Overfull-clause-sound : goal.returns-in-Overfull-clause-sound
returns-in-Overfull-clause-sound c =
    let queue = c.args.self.now.queue in
    let w : List ℕ = take c.min.result c.as_slice-waiting.result.now in
    let same = looked queue c.as_slice-waiting.result.now c.min.result c.as_slice-waiting.ensures.bytes c.min.ensures in
    let front = front_of queue w c.in-End.end same in
    let what : ReadsHead (take c.in-End.end w) read.Overfull = subst (ReadsHead (take c.in-End.end w)) c.in-Overfull.is c.in_ok-read_head-in-End.ensures in
    record { room = c.requires.sound.room; at = subst IsOverfull (sym front.1) (overfull_at (take c.in-End.end w) front.0 what) }

pub returns-in-Overfull-clause-exact : goal.returns-in-Overfull-clause-exact
returns-in-Overfull-clause-exact c before =
    let reader = c.args.self.now in
    let queue = reader.queue in
    let w : List ℕ = take c.min.result c.as_slice-waiting.result.now in
    let same = looked queue c.as_slice-waiting.result.now c.min.result c.as_slice-waiting.ensures.bytes c.min.ensures in
    let front = front_of queue w c.in-End.end same in
    let what : ReadsHead (take c.in-End.end w) read.Overfull = subst (ReadsHead (take c.in-End.end w)) c.in-Overfull.is c.in_ok-read_head-in-End.ensures in
    let full : IsOverfull queue = subst IsOverfull (sym front.1) (overfull_at (take c.in-End.end w) front.0 what) in
    waiting_step reader (record { queue = queue; start = reader.start; stage = stage.Overfull }) before c.wait-in-Overfull.result (ap is_closing c.requires.stage) refl refl refl
    c.wait-in-Overfull.ensures.more c.wait-in-Overfull.ensures.bad (overfull_waits queue full) (overfull_ends queue full)

pub next_body-requires-clause-sound : goal.next_body-requires-clause-sound
next_body-requires-clause-sound c =
    let queue = c.args.self.now.queue in
    let w : List ℕ = take c.min.result c.as_slice-waiting.result.now in
    let same = looked queue c.as_slice-waiting.result.now c.min.result c.as_slice-waiting.ensures.bytes c.min.ensures in
    let front = front_of queue w c.in-End.end same in
    let order = c.in-Whole.order in
    let what : ReadsHead (take c.in-End.end w) (read.Whole order) = subst (ReadsHead (take c.in-End.end w)) c.in-Whole.is c.in_ok-read_head-in-End.ensures in
    record { room = c.requires.sound.room; at = subst (HasOrder order) (sym front.1) (whole_at (take c.in-End.end w) front.0 order front.2 what) }

pub returns-in-Whole-clause-exact : goal.returns-in-Whole-clause-exact
returns-in-Whole-clause-exact c before =
    let reader = c.args.self.now in
    let same : https_of (record { queue = reader.queue; start = reader.start; stage = stage.Body c.in-Whole.order }) before ≡ https_of reader before =
    ap (λ b. record { waiting = reader.queue; start = reader.start; closing = b; asked = before }) (sym (ap is_closing c.requires.stage)) in
    subst (λ (h : Https). IfOk c.next_body.result (λ (t : Taken). TakesHttp h (https_of c.next_body.new.self t.asked) t.step)) same (c.next_body.ensures.exact before)
