use Rattle.std.proofs.Common.{◌≡◌, ◌++◌, ap, subst, sym, ◌∙◌, Some, IfOk}
use Rattle.qd_frames.specs.Frames.{Frames, TakesFrame}
use Rattle.qd_frames.specs.Buffer.{bytes_of, frames_of, IsGathered}
use Rattle.qd_frames.proofs.BufferLemmas.{header_waits}
use Rattle.qd_frames.proofs.buffer.FrameBuffer.next_frame.Goals as goal

pub returns-in-Text-clause-exact : goal.returns-in-Text-clause-exact
returns-in-Text-clause-exact c =
    let p = c.args.self.now.payload.items in
    let r = c.args.self.now.rest in
    let t = c.in-Text.text in
    let i = c.in-Text.ensures in
    let empty = subst (λ o. IsGathered o p) c.requires.none c.requires.sound.gathered in
    let waits = header_waits t p r i.0 c.skip.new.self t.head empty (sym c.as_slice.ensures.bytes ∙ i.2) i.3 c.skip.ensures.rest in
    let all : bytes_of (Some t) p ++ c.skip.new.self ≡ bytes_of c.args.self.now.current p ++ r = subst (λ o. bytes_of (Some t) p ++ c.skip.new.self ≡ bytes_of o p ++ r) (sym c.requires.none) waits in
    let same = ap (λ w. let f : Frames = record { waiting = w; start = c.args.self.now.start } in f) all in
    subst (λ (f : Frames). IfOk c.next_text.result (λ step. TakesFrame f (frames_of c.next_text.new.self) step)) same c.next_text.ensures.exact
